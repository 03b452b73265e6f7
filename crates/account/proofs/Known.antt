-- What is known of the outcomes, with one event more: its guard in every outcome is what the range tells, and where it holds the range goes on with the list; the number doubles at an
-- undecided one. Of any rule that a range answers for.
-- Assumes nothing.
use Prim.Native.Nat.{ℕ, ◌+◌, ◌*◌, ◌^◌, ◌≤◌}
use mathlib.Core.Path.{◌≡◌, refl, sym, ◌∙◌, ap}
use mathlib.Core.Bool.{Bool, true, false, ◌&&◌, false≢true, true≢false}
use mathlib.Core.List.{List, [], ◌∷◌, ◌++◌, map}
use native.Mathlib.Omega.{arith}
use lib.ListN.{length, length-append, length-map}
use lib.Pow.{pow_mono}
use Rattle.rule.specs.Rule as rule
use Rattle.rule.specs.Lists.{every}
use Rattle.rule.specs.Outcome.{undecided_of, outcomes}
use Rattle.rule.specs.InOrder.{guarded}
use Rattle.rule.proofs.Lists.{and_left, and_right}
use Rattle.rule.proofs.Outcomes.{outcomes-length}
use Rattle.events.specs.declared.Event.{Event}
use Rattle.events.specs.declared.State.{State}
use Rattle.events.specs.declared.Range.{Range}
use Rattle.events.specs.Range.{range_of, range_of_one, every_in, range_after, range_perhaps}
use Rattle.events.proofs.States.{formed, range-one}
use Rattle.events.proofs.Newest.{outcomes-past, outcomes-more, first_past, first_more, guarded-more}
use Rattle.events.proofs.Answers.{outcomes-every, outcomes-after, outcomes-perhaps}
use Rattle.account.specs.declared.outcomes.Outcomes.{Outcomes}
use Rattle.filing.specs.declared.Decision.{Decision}
use Rattle.filing.specs.declared.Decision.TheVariants.{Undecided, Committed}
use Rattle.filing.specs.declared.Filed.{Filed}
use Rattle.filing.specs.declared.Slot.{Slot}
use Rattle.filing.specs.Slots.{RuleSlot, is_undecided, decision_of}
use Rattle.account.specs.Places.{used}
use Rattle.account.specs.inside.Known.{KnowsBy}
use Rattle.account.proofs.Ranged.{Ranged}

abbrev known : Range → ℕ → State → Bool → Outcomes
known range number first guarded = record { range = range; number = number; first = first; guarded = guarded }

-- a decision as the rule has it
undecided-is : (d : Decision) → is_undecided d ≡ true → rule.undecided ≡ decision_of d
undecided-is Undecided h = refl
undecided-is Committed h = absurd (false≢true h)

committed-is : (d : Decision) → is_undecided d ≡ false → rule.committed ≡ decision_of d
committed-is Undecided h = absurd (true≢false h)
committed-is Committed h = refl

-- no more events are undecided than there are, so that of fewer than 8 there are at most 128 outcomes
undecided-few : (xs : List RuleSlot) → undecided_of xs ≤ length xs
undecided-few [] = omega arith
undecided-few (rule.slot t g e rule.undecided ∷ xs) = omega (arith, undecided-few xs)
undecided-few (rule.slot t g e rule.committed ∷ xs) = omega (arith, undecided-few xs)

module _ (R : rule.Rule State Event ℕ) where
  pub knows-none : (s : State) (x : Range) → x ≡ range_of_one s → KnowsBy R s [] (known x 1 s true)
  unfolding outcomes
  knows-none s x h = record { number = refl; first = refl; guards = refl; range = λ _. h ∙ sym (range-one s) }

  -- one event more, the newest
  module _ (ranged : Ranged R) (s : State) (xs : List RuleSlot) (o : Outcomes) (k : KnowsBy R s xs o) (t : ℕ) (g : Filed) (e : Event) where
    -- its guard is asked where those of the others hold
    guards-next : (d : rule.Decision) → (o.guarded && every_in e o.range) ≡ guarded R s [] (xs ++ (rule.slot t g e d ∷ []))
    guards-next d = go o.guarded refl ∙ sym (guarded-more R s [] xs t g e d)
      where
        go : (b : Bool) → o.guarded ≡ b → (b && every_in e o.range) ≡ (guarded R s [] xs && every (rule.guard R e) (outcomes R xs s))
        go true h = rw (sym k.guards ∙ h, k.range h) (outcomes-every R ranged.tells s xs e)
        go false h = rw (sym k.guards ∙ h)

    module _ (h : (o.guarded && every_in e o.range) ≡ true) where
      known-range : o.range ≡ range_of (outcomes R xs s)
      known-range = k.range (and_left o.guarded (every_in e o.range) h)

      pub ordered : o.range.lowest ≤ o.range.highest
      ordered = rw known-range (formed (outcomes R xs s)).ordered

      holds-all : every (rule.guard R e) (outcomes R xs s) ≡ true
      holds-all = sym (outcomes-every R ranged.tells s xs e) ∙ ap (every_in e) (sym known-range) ∙ and_right o.guarded (every_in e o.range) h

    module _ (d : Decision) (x : Range) (first : State) (all : Bool) (tells : all ≡ every_in e o.range) where
      -- decided: in every outcome it is applied,
      pub knows_after : is_undecided d ≡ false → first ≡ R.effect e o.first → (o.range.lowest ≤ o.range.highest → every_in e o.range ≡ true → x ≡ range_after e o.range)
          → KnowsBy R s (xs ++ (rule.slot t g e (decision_of d) ∷ [])) (known x o.number first (o.guarded && all))
      knows_after u q f =
          rw (← committed-is d u, tells)
          (record {
            number = k.number ∙ sym (ap length (outcomes-past R t g e xs s) ∙ length-map (outcomes R xs s) (R.effect e));
            first = q ∙ ap (R.effect e) k.first ∙ sym (first_past R t g e xs s);
            guards = guards-next rule.committed;
            range = λ h.
                f (ordered h) (and_right o.guarded (every_in e o.range) h) ∙ ap (range_after e) (known-range h)
                ∙ outcomes-after R ranged.tells s xs t g e (holds-all h);
          })

      -- undecided: in one half of them
      pub knows-perhaps : is_undecided d ≡ true → first ≡ o.first → (o.range.lowest ≤ o.range.highest → every_in e o.range ≡ true → x ≡ range_perhaps e o.range)
          → KnowsBy R s (xs ++ (rule.slot t g e (decision_of d) ∷ [])) (known x (2 * o.number) first (o.guarded && all))
      knows-perhaps u q f =
          let again = map (R.effect e) (outcomes R xs s) in
          let two : 2 * o.number ≡ length (outcomes R xs s) + length again = omega (arith, k.number, length-map (outcomes R xs s) (R.effect e)) in
          rw (← undecided-is d u, tells)
          (record {
            number = two ∙ sym (ap length (outcomes-more R t g e xs s) ∙ length-append (outcomes R xs s) again);
            first = q ∙ k.first ∙ sym (first_more R t g e xs s);
            guards = guards-next rule.undecided;
            range = λ h.
                f (ordered h) (and_right o.guarded (every_in e o.range) h) ∙ ap (range_perhaps e) (known-range h)
                ∙ outcomes-perhaps R ranged.tells s xs t g e (holds-all h);
          })

  pub knows-few : (s : State) (xs : List RuleSlot) (o : Outcomes) → KnowsBy R s xs o → length xs ≤ 7 → o.number ≤ 128
  knows-few s xs o k h =
      let most : 2 ^ undecided_of xs ≤ 2 ^ 7 = pow_mono {j = 7} (omega (arith, undecided-few xs)) in
      omega (arith, k.number, outcomes-length R xs s)

  -- at the last place, all of them
  pub knows-end : (s : State) (row : List Slot) (o : Outcomes) (at count : ℕ) → at ≡ count → KnowsBy R s (used row at) o → KnowsBy R s (used row count) o
  knows-end s row o at count e k = rw e at k
