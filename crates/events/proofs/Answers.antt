-- A range kept through the events in progress is that of all outcomes: each event finds its guard true however the older ones end, so each step of the range is a step of the list.
-- Assumes nothing.
use Prim.Native.Nat.{ℕ}
use mathlib.Core.Path.{◌≡◌, sym, ◌∙◌, ap}
use mathlib.Core.Bool.{true}
use mathlib.Core.List.{List, [], ◌∷◌, ◌++◌, map, append_assoc, append-nil}
use Rattle.rule.specs.Lists.{every, some_of}
use Rattle.rule.specs.Rule.{Rule, guard, Slot, slot, undecided, committed}
use Rattle.rule.specs.Outcome.{outcomes}
use Rattle.rule.specs.InOrder.{guarded}
use Rattle.rule.proofs.Lists.{and_left, and_right}
use Rattle.events.specs.declared.Event.{Event}
use Rattle.events.specs.declared.State.{State}
use Rattle.events.specs.Events.{guard_of}
use Rattle.events.specs.Panel.{first_panel}
use Rattle.events.specs.Range.{range_of, every_in, some_in, range_after, range_perhaps, range_through}
use Rattle.events.specs.Glance.{TellsOf, AnswersOf, RangeTells, RangeAnswers}
use Rattle.events.proofs.States.{range-every, range-some, range-after, range-perhaps}
use Rattle.events.proofs.Newest.{outcomes-past, outcomes-more, outcomes-first}

pub range-tells : RangeTells
unfolding guard guard_of
range-tells progress_limit held_limit s ss e =
    record { all = range-every e s ss; any = range-some e (s ∷ ss); after = λ h. range-after e s ss h; perhaps = λ h. range-perhaps e s ss h }

-- any rule that a range answers for
module _ (R : Rule State Event ℕ) (tells : TellsOf R) where
  module _ {G : Type 0} (s : State) (xs : List (Slot G Event)) where
    -- of the outcomes there is a first, so what a range tells of states it tells of them
    pub outcomes-every : (e : Event) → every_in e (range_of (outcomes R xs s)) ≡ every (guard R e) (outcomes R xs s)
    outcomes-every e = let r = outcomes-first R xs s in rw r.2 (tells r.0 r.1 e).all

    pub outcomes-some : (e : Event) → some_in e (range_of (outcomes R xs s)) ≡ some_of (guard R e) (outcomes R xs s)
    outcomes-some e = let r = outcomes-first R xs s in rw r.2 (tells r.0 r.1 e).any

    module _ (t : ℕ) (g : G) (e : Event) (h : every (guard R e) (outcomes R xs s) ≡ true) where
      pub outcomes-after : range_after e (range_of (outcomes R xs s)) ≡ range_of (outcomes R (xs ++ (slot t g e committed ∷ [])) s)
      outcomes-after =
          let r = outcomes-first R xs s in
          let moved : range_after e (range_of (outcomes R xs s)) ≡ range_of (map (R.effect e) (outcomes R xs s)) = rw r.2 ((tells r.0 r.1 e).after (rw r.2 at h)) in
          moved ∙ ap range_of (sym (outcomes-past R t g e xs s))

      pub outcomes-perhaps : range_perhaps e (range_of (outcomes R xs s)) ≡ range_of (outcomes R (xs ++ (slot t g e undecided ∷ [])) s)
      outcomes-perhaps =
          let r = outcomes-first R xs s in
          let both : range_perhaps e (range_of (outcomes R xs s)) ≡ range_of (outcomes R xs s ++ map (R.effect e) (outcomes R xs s)) = rw r.2 ((tells r.0 r.1 e).perhaps (rw r.2 at h)) in
          both ∙ ap range_of (sym (outcomes-more R t g e xs s))

  through : {G : Type 0} (s : State) (before xs : List (Slot G Event)) → guarded R s before xs ≡ true → range_through xs (range_of (outcomes R before s)) ≡ range_of (outcomes R (before ++ xs) s)
  through s before [] h = rw (append-nil before)
  through s before (slot t g e undecided ∷ xs) h =
      let all = every (guard R e) (outcomes R before s) in
      let rest = guarded R s (before ++ (slot t g e undecided ∷ [])) xs in
      ap (range_through xs) (outcomes-perhaps s before t g e (and_left all rest h))
      ∙ through s (before ++ (slot t g e undecided ∷ [])) xs (and_right all rest h)
      ∙ ap (λ l. range_of (outcomes R l s)) (append_assoc before (slot t g e undecided ∷ []) xs)
  through s before (slot t g e committed ∷ xs) h =
      let all = every (guard R e) (outcomes R before s) in
      let rest = guarded R s (before ++ (slot t g e committed ∷ [])) xs in
      ap (range_through xs) (outcomes-after s before t g e (and_left all rest h))
      ∙ through s (before ++ (slot t g e committed ∷ [])) xs (and_right all rest h)
      ∙ ap (λ l. range_of (outcomes R l s)) (append_assoc before (slot t g e committed ∷ []) xs)

  pub outcomes-answered : AnswersOf R
  unfolding outcomes
  outcomes-answered G s xs h =
      let range : range_through xs (range_of (s ∷ [])) ≡ range_of (outcomes R xs s) = through s [] xs h in
      record {
        range = range;
        all = λ e. ap (every_in e) range ∙ outcomes-every s xs e;
        any = λ e. ap (some_in e) range ∙ outcomes-some s xs e;
      }

pub range-answers : RangeAnswers
range-answers progress_limit held_limit = outcomes-answered (first_panel progress_limit held_limit) (range-tells progress_limit held_limit)
