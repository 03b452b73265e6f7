-- A place and its slot are each other's, a weighing and the rule's too; and what passes for the blank is the blank.
-- Assumes nothing.
use Prim.Native.Nat.{ℕ}
use native.Mathlib.Omega.{arith}
use mathlib.Core.Path.{◌≡◌, refl}
use mathlib.Core.Bool.{true, false≢true}
use mathlib.Core.List.{List, [], ◌∷◌, map}
use mathlib.Core.Option.{Option, some}
use Rattle.std.proofs.lemmas.Bool.Decides.{nat_tests}
use Rattle.rule.specs.Rule as rule
use Rattle.events.specs.Events.{reason_byte, reason_from}
use Rattle.filing.specs.declared.Filed.{Filed}
use Rattle.filing.specs.declared.Decision.{Decision}
use Rattle.filing.specs.declared.Decision.TheVariants.{Undecided, Committed}
use Rattle.filing.specs.declared.Slot.{Slot}
use Rattle.filing.specs.declared.Weighing.{Weighing}
use Rattle.filing.specs.Slots.{RuleSlot, is_undecided, slot_of, place_of, blank_filed, is_blank_filed, blank, is_blank}
use Rattle.filing.specs.Entries.{weighing_of, weighing_in}

pub slot-place : (x : RuleSlot) → slot_of (place_of x) ≡ x
slot-place x = grind arith

pub place-slot : (x : Slot) → place_of (slot_of x) ≡ x
place-slot x = grind arith

pub slots-places : (xs : List RuleSlot) → map slot_of (map place_of xs) ≡ xs
slots-places [] = refl
slots-places (x ∷ xs) = rw (slot-place x, slots-places xs)

pub places-slots : (xs : List Slot) → map place_of (map slot_of xs) ≡ xs
places-slots [] = refl
places-slots (x ∷ xs) = rw (place-slot x, places-slots xs)

-- a reason and its number
pub reason-forth : (o : Option ℕ) → (o ≡ some 0 → ⊥) → reason_from (reason_byte o) ≡ o
reason-forth o h = grind (arith, nat_tests)

pub weighing-back : (w : Weighing) → weighing_in (weighing_of w) ≡ w
weighing-back w = grind (arith, nat_tests)

pub weighing-forth : (w : rule.Weighing) → (w.reason ≡ some 0 → ⊥) → weighing_of (weighing_in w) ≡ w
weighing-forth w h = grind (arith, nat_tests)

-- a decision that passes for undecided
pub undecided-is : (d : Decision) → is_undecided d ≡ true → d ≡ Undecided
undecided-is Undecided h = refl
undecided-is Committed h = absurd (false≢true h)

pub blank-filed : (g : Filed) → is_blank_filed g ≡ true → g ≡ blank_filed
blank-filed g h = grind (arith, nat_tests)

pub blank-place : (x : Slot) → is_blank x ≡ true → x ≡ blank
blank-place x h = grind (arith, nat_tests)
