-- The rows against the table: a row holds in a state exactly if the event's guard does; where it does, the effect is the table's and its balance is within bounds.
-- Assumes nothing.
use Prim.Native.Nat.{ℕ, ◌≤◌}
use mathlib.Core.Path.{◌≡◌, refl, sym, ◌∙◌, ap}
use mathlib.Core.Logic.{◌⊎◌}
use mathlib.Core.Bool.{Bool, true, false, ◌&&◌, ◌||◌, false≢true}
use lib.Dec.{leb, eqb}
use native.Mathlib.Omega.{arith}
use Rattle.std.proofs.lemmas.Bool.Decides.{nat_tests}
use Rattle.events.specs.declared.Event.{Event}
use Rattle.events.specs.declared.Life.{Life}
use Rattle.events.specs.declared.Life.TheVariants.{New, Opened, Closed}
use Rattle.events.specs.declared.State.{State}
use Rattle.events.specs.declared.Range.{Range}
use Rattle.events.specs.declared.condition.Condition.{Condition}
use Rattle.events.specs.Events.{limit, is_new, is_opened, is_closed, state_fits, guard_of, table_effect, effect_of}
use Rattle.events.specs.Condition.{most, condition_of, takes, holds}
use Rattle.events.specs.Range.{every_in, joined, moved, range_after, range_perhaps, stored_effect, stored_after, stored_perhaps}
use Rattle.events.proofs.Against.{guard-table}

-- two tests that follow from each other
pub alike : (p q : Bool) → (p ≡ true → q ≡ true) → (q ≡ true → p ≡ true) → p ≡ q
alike true true f g = refl
alike true false f g = absurd (false≢true (f refl))
alike false true f g = absurd (false≢true (g refl))
alike false false f g = refl

pub new-life : (l : Life) → is_new l ≡ true → l ≡ New
new-life New h = refl
new-life Opened h = absurd (false≢true h)
new-life Closed h = absurd (false≢true h)

pub opened-life : (l : Life) → is_opened l ≡ true → l ≡ Opened
opened-life New h = absurd (false≢true h)
opened-life Opened h = refl
opened-life Closed h = absurd (false≢true h)

pub closed-life : (l : Life) → is_closed l ≡ true → l ≡ Closed
closed-life New h = absurd (false≢true h)
closed-life Opened h = absurd (false≢true h)
closed-life Closed h = refl

pub guard-holds : (e : Event) (s : State) → holds (condition_of e) s ≡ guard_of e s
guard-holds e s = rw (guard-table e s) (grind (arith, nat_tests))

-- a row asks for an opened account, or for no balance in particular
abbrev pub Plain : Condition → Type 0
Plain c = (c.life ≡ Opened) ⊎ ((lowest highest : ℕ) → takes c lowest highest ≡ true)

pub plain : (e : Event) → Plain (condition_of e)
plain e = grind (arith, nat_tests)

-- where the guard holds the effect is the table's,
pub effect-table : (e : Event) (s : State) → guard_of e s ≡ true → effect_of e s ≡ table_effect e s
unfolding effect_of
effect-table e s h = rw h

-- and the balance after it fits in four bytes
pub effect-fits : (e : Event) (s : State) → s.balance ≤ most → guard_of e s ≡ true → (table_effect e s).balance ≤ most
effect-fits e s h g = let g' = rw (guard-table e s) at g in grind (arith, nat_tests)

-- a state fits that is opened, or has balance 0
pub fits-same : (s : State) → (leb s.balance limit && (is_opened s.life || eqb s.balance 0)) ≡ state_fits s
fits-same s = grind (arith, nat_tests)

-- what an event whose guard holds in all states of a range does to the lowest and to the highest balance fits in four bytes
pub moved-fits : (e : Event) (x : Range) → x.lowest ≤ x.highest → x.highest ≤ most → every_in e x ≡ true
    → ((moved e x.lowest).balance ≤ most) × ((moved e x.highest).balance ≤ most)
moved-fits e x h k all = grind (arith, nat_tests)

-- what fits is stored by the table,
pub stored-table : (e : Event) (s : State) → (table_effect e s).balance ≤ most → stored_effect e s ≡ table_effect e s
stored-table e s h = grind (arith, nat_tests)

-- so the effect is, where the guard holds,
pub effect_stored : (e : Event) (s : State) → s.balance ≤ most → guard_of e s ≡ true → stored_effect e s ≡ effect_of e s
effect_stored e s h g = stored-table e s (effect-fits e s h g) ∙ sym (effect-table e s g)

-- and so is a range in which the guard holds everywhere
module _ (e : Event) (x : Range) (h : x.lowest ≤ x.highest) (k : x.highest ≤ most) (all : every_in e x ≡ true) where
  pub stored-after : stored_after e x ≡ range_after e x
  stored-after =
      let fits = moved-fits e x h k all in
      let low : State = record { life = Opened; balance = x.lowest } in
      let high : State = record { life = Opened; balance = x.highest } in
      rw (stored-table e low fits.0, stored-table e high fits.1)

  pub stored-perhaps : stored_perhaps e x ≡ range_perhaps e x
  stored-perhaps = ap (joined x) stored-after
