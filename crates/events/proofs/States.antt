-- The range of a list of states, by induction on the states: of two lists it is that of both joined; it tells of an event's guard in every state and in some; and an event whose guard
-- holds in every state moves the range as it moves the states.
-- Assumes nothing.
use mathlib.Core.Path.{◌≡◌, refl, sym, ◌∙◌, ap, ap₂}
use mathlib.Core.Bool.{true, false, ◌&&◌, ◌||◌}
use mathlib.Core.List.{List, [], ◌∷◌, ◌++◌, map}
use native.Mathlib.Omega.{arith}
use Rattle.std.proofs.Math.Bool.{and-true}
use Rattle.rule.specs.Lists.{every, some_of}
use Rattle.rule.proofs.Lists.{and_left, and_right}
use Rattle.events.specs.declared.Event.{Event}
use Rattle.events.specs.declared.State.{State}
use Rattle.events.specs.declared.Range.{Range}
use Rattle.events.specs.declared.condition.Condition.{Condition}
use Rattle.events.specs.Events.{guard_of, effect_of}
use Rattle.events.specs.Condition.{condition_of, holds}
use Rattle.events.specs.Range.{range_of, range_of_one, joined, every_in, some_in, range_after, range_perhaps}
use Rattle.events.proofs.Guards.{guard-holds, Plain, plain}
use Rattle.events.proofs.Ranges.{all_of, any_of, Formed, Some, all-joined, any-joined, one-any, one-all, one-formed, one-some, joined-formed, some-joined, joined-first, joined-last, joined-assoc, after-joined, after_one, range_cons}

pub formed : (ss : List State) → Formed (range_of ss)
unfolding range_of
formed [] = record { ordered = omega arith; none = λ h. refl }
formed (s ∷ ss) = rw (range_cons s ss) (joined-formed (range_of_one s) (range_of ss) (one-formed s) (formed ss))

some-there : (s : State) (ss : List State) → Some (range_of (s ∷ ss))
some-there s ss = rw (range_cons s ss) (some-joined (range_of_one s) (range_of ss) (one-some s))

pub range-append : (ss ts : List State) → range_of (ss ++ ts) ≡ joined (range_of ss) (range_of ts)
range-append [] ts = sym (joined-first (range_of ts))
range-append (s ∷ ss) ts =
    range_cons s (ss ++ ts) ∙ ap (joined (range_of_one s)) (range-append ss ts) ∙ sym (joined-assoc (range_of_one s) (range_of ss) (range_of ts))
    ∙ ap (λ (x : Range). joined x (range_of ts)) (sym (range_cons s ss))

pub range-one : (s : State) → range_of (s ∷ []) ≡ range_of_one s
range-one s = range_cons s [] ∙ joined-last (range_of_one s) (one-formed s)

-- a condition in no state
none-any : (c : Condition) → any_of c (range_of []) ≡ false
unfolding range_of
none-any c = grind arith

-- a condition in every state, and in some
module _ (c : Condition) (row : Plain c) where
  every-range : (s : State) (ss : List State) → all_of c (range_of (s ∷ ss)) ≡ every (holds c) (s ∷ ss)
  every-range s [] = ap (all_of c) (range-one s) ∙ one-all c row s ∙ sym (and-true (holds c s))
  every-range s (t ∷ ss) =
      ap (all_of c) (range_cons s (t ∷ ss)) ∙ all-joined c row (range_of_one s) (range_of (t ∷ ss)) (one-some s) (some-there t ss)
      ∙ ap₂ ◌&&◌ (one-all c row s) (every-range t ss)

  some-range : (ss : List State) → any_of c (range_of ss) ≡ some_of (holds c) ss
  unfolding range_of
  some-range [] = none-any c
  some-range (s ∷ ss) =
      ap (any_of c) (range_cons s ss) ∙ any-joined c row (range_of_one s) (range_of ss) (one-formed s) (formed ss) ∙ ap₂ ◌||◌ (one-any c row s) (some-range ss)

-- so of an event's guard
module _ (e : Event) where
  every_holds : (ss : List State) → every (holds (condition_of e)) ss ≡ every (guard_of e) ss
  every_holds [] = refl
  every_holds (s ∷ ss) = ap₂ ◌&&◌ (guard-holds e s) (every_holds ss)

  some_holds : (ss : List State) → some_of (holds (condition_of e)) ss ≡ some_of (guard_of e) ss
  some_holds [] = refl
  some_holds (s ∷ ss) = ap₂ ◌||◌ (guard-holds e s) (some_holds ss)

  pub range-every : (s : State) (ss : List State) → every_in e (range_of (s ∷ ss)) ≡ every (guard_of e) (s ∷ ss)
  range-every s ss = every-range (condition_of e) (plain e) s ss ∙ every_holds (s ∷ ss)

  pub range-some : (ss : List State) → some_in e (range_of ss) ≡ some_of (guard_of e) ss
  range-some ss = some-range (condition_of e) (plain e) ss ∙ some_holds ss

module _ (e : Event) where
  pub range-after : (s : State) (ss : List State) → every (guard_of e) (s ∷ ss) ≡ true → range_after e (range_of (s ∷ ss)) ≡ range_of (map (effect_of e) (s ∷ ss))
  range-after s [] h = ap (range_after e) (range-one s) ∙ after_one e s (and_left (guard_of e s) true h) ∙ sym (range-one (effect_of e s))
  range-after s (t ∷ ss) h =
      let first = and_left (guard_of e s) (every (guard_of e) (t ∷ ss)) h in
      let others = and_right (guard_of e s) (every (guard_of e) (t ∷ ss)) h in
      ap (range_after e) (range_cons s (t ∷ ss))
      ∙ after-joined (range_of_one s) (range_of (t ∷ ss)) (one-some s) (some-there t ss) e (ap (every_in e) (sym (range-one s)) ∙ range-every e s [] ∙ rw first) (range-every e t ss ∙ others)
      ∙ ap₂ joined (after_one e s first) (range-after t ss others) ∙ sym (range_cons (effect_of e s) (map (effect_of e) (t ∷ ss)))

  pub range-perhaps : (s : State) (ss : List State) → every (guard_of e) (s ∷ ss) ≡ true
      → range_perhaps e (range_of (s ∷ ss)) ≡ range_of ((s ∷ ss) ++ map (effect_of e) (s ∷ ss))
  range-perhaps s ss h = ap (joined (range_of (s ∷ ss))) (range-after s ss h) ∙ sym (range-append (s ∷ ss) (map (effect_of e) (s ∷ ss)))
