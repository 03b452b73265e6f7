-- What a range is, in plain words: a test of the lives holds of some state exactly if the list parts at one; a state parts the list, and so the range; lowest and highest are those of one of
-- the states, by induction on them.
-- Assumes nothing.
use Prim.Native.Nat.{ℕ, ◌≤◌}
use mathlib.Core.Path.{◌≡◌, refl, ◌∙◌, ap}
use mathlib.Core.Logic.{◌⊎◌, inl, inr, ◌↔◌, ⊎_elim}
use mathlib.Core.Bool.{Bool, true, false, false≢true}
use mathlib.Core.List.{List, [], ◌∷◌, ◌++◌}
use native.Mathlib.Omega.{arith}
use Rattle.rule.specs.Lists.{some_of}
use Rattle.rule.proofs.Lists.{either, some-parts, parts-some}
use Rattle.events.specs.declared.Life.{Life}
use Rattle.events.specs.declared.Life.TheVariants.{New, Opened, Closed}
use Rattle.events.specs.declared.State.{State}
use Rattle.events.specs.declared.Range.{Range}
use Rattle.events.specs.Events.{is_new, is_opened, is_closed}
use Rattle.events.specs.Range.{range_of, range_of_one, joined}
use Rattle.events.specs.Glance.{Among, Occurs, GlanceHolds}
use Rattle.events.proofs.Ranges.{range_cons}
use Rattle.events.proofs.States.{formed, range-append}

-- a life that a test tells occurs exactly if the test holds of some state
occurring : (p : Life → Bool) (l : Life) → ((m : Life) → p m ≡ true → m ≡ l) → p l ≡ true → (states : List State)
    → (some_of (λ (s : State). p s.life) states ≡ true) ↔ Occurs states l
occurring p l tells holds states = (
  λ h. let r = some-parts (λ (s : State). p s.life) states h in (r.0, r.1, r.2, r.3, tells r.1.life r.4),
  λ o. rw o.3 (parts-some (λ (s : State). p s.life) o.0 o.1 o.2 (ap p o.4 ∙ holds)),
)

-- an opened state is between the lowest and the highest
stands : (s : State) → s.life ≡ Opened → (x z : Range) → ((joined x (joined (range_of_one s) z)).lowest ≤ s.balance) × (s.balance ≤ (joined x (joined (range_of_one s) z)).highest)
stands s o x z = (grind arith, grind arith)

between : (before behind : List State) (s : State) → s.life ≡ Opened
    → ((range_of (before ++ (s ∷ behind))).lowest ≤ s.balance) × (s.balance ≤ (range_of (before ++ (s ∷ behind))).highest)
between before behind s o = rw (range-append before (s ∷ behind), range_cons s behind) (stands s o (range_of before) (range_of behind))

-- an end of the range: of one state more it is that state's balance, or what it was
abbrev End : (Range → ℕ) → Type 0
End end = (s : State) (ss : List State) → (range_of (s ∷ ss)).opened ≡ true
    → ((s.life ≡ Opened) × (s.balance ≡ end (range_of (s ∷ ss)))) ⊎ (((range_of ss).opened ≡ true) × (end (range_of ss) ≡ end (range_of (s ∷ ss))))

attained : (end : Range → ℕ) → End end → (ss : List State) → (range_of ss).opened ≡ true → Among ss (λ (s : State). (s.life ≡ Opened) × (s.balance ≡ end (range_of ss)))
unfolding range_of
attained end step [] h = absurd (false≢true h)
attained end step (s ∷ ss) h = go (step s ss h) (λ o. attained end step ss o)
  where
    go :
        ((s.life ≡ Opened) × (s.balance ≡ end (range_of (s ∷ ss)))) ⊎ (((range_of ss).opened ≡ true) × (end (range_of ss) ≡ end (range_of (s ∷ ss))))
        → ((range_of ss).opened ≡ true → Among ss (λ (s' : State). (s'.life ≡ Opened) × (s'.balance ≡ end (range_of ss))))
        → Among (s ∷ ss) (λ (s' : State). (s'.life ≡ Opened) × (s'.balance ≡ end (range_of (s ∷ ss))))
    go (inl here) f = ([], s, ss, refl, here)
    go (inr there) f = let r = f there.0 in (s ∷ r.0, r.1, r.2, ap (λ (l : List State). s ∷ l) r.3, (r.4.0, r.4.1 ∙ there.1))

-- a state joined with others has the ends that are asked for
module _ (s : State) (x : Range) (opened : (joined (range_of_one s) x).opened ≡ true) where
  lowest_by : ((s.life ≡ Opened) × (s.balance ≡ (joined (range_of_one s) x).lowest)) ⊎ ((x.opened ≡ true) × (x.lowest ≡ (joined (range_of_one s) x).lowest))
  lowest_by = grind arith

  highest-by : (x.opened ≡ false → x.highest ≡ 0)
      → ((s.life ≡ Opened) × (s.balance ≡ (joined (range_of_one s) x).highest)) ⊎ ((x.opened ≡ true) × (x.highest ≡ (joined (range_of_one s) x).highest))
  highest-by none = grind arith

lowest-end : End (λ (x : Range). x.lowest)
lowest-end s ss = rw (range_cons s ss) (lowest_by s (range_of ss))

highest-end : End (λ (x : Range). x.highest)
highest-end s ss = rw (range_cons s ss) (λ opened. highest-by s (range_of ss) opened (formed ss).none)

pub glance-holds : GlanceHolds
unfolding range_of
glance-holds states =
    let opened = occurring is_opened Opened (λ l h. grind arith) refl states in
    record {
      new = occurring is_new New (λ l h. grind arith) refl states;
      opened = opened;
      closed = occurring is_closed Closed (λ l h. grind arith) refl states;
      between = λ before behind s e o. rw e (between before behind s o);
      lowest = λ o. attained (λ (x : Range). x.lowest) lowest-end states (opened.1 o);
      highest = λ o. attained (λ (x : Range). x.highest) highest-end states (opened.1 o);
      none =
          λ h.
          ⊎_elim (λ k. absurd (h (opened.0 k)))
          (λ k. let f = formed states in (omega (arith, f.ordered, f.none k), f.none k)) (either (range_of states).opened);
    }
