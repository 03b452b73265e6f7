-- An event that is committed where it stands is marked by its transaction, since no other has it.
-- Assumes nothing.
use Prim.Native.Nat.{ℕ, suc, ◌<◌, ◌≤◌}
use mathlib.Core.Path.{◌≡◌, refl, sym, ap, ap₂, ◌∙◌}
use mathlib.Core.Bool.{true, false}
use mathlib.Core.List.{List, [], ◌∷◌, ◌++◌, map}
use native.Mathlib.Omega.{arith}
use lib.ListN.{length, get_or, take, drop, set}
use lib.Seq.{split_at, set_split, take-set-lt, length-take-le, get_or-take}
use borrow.Author.Tests.{eq-eqb}
use Rattle.rule.specs.Lists.{some_of}
use Rattle.rule.specs.Rule as rule
use Rattle.rule.specs.Step.{named, mark_one, mark}
use Rattle.rule.specs.InOrder.{apart}
use Rattle.rule.proofs.Lists.{or_left, or_right, map-append}
use Rattle.rule.proofs.Apart.{apart-at}
use Rattle.filing.specs.declared.Slot.{Slot}
use Rattle.filing.specs.Slots.{RuleSlot, slot_of, decision_of, committed_slot, blank}
use Rattle.account.specs.Places.{used}

-- the events in progress with the one at that place committed
abbrev pub marked_at : ℕ → List Slot → List Slot
marked_at at slots = set slots at (committed_slot (get_or slots at blank))

mark-none : (t : ℕ) (xs : List RuleSlot) → some_of (named t) xs ≡ false → mark t xs ≡ xs
mark-none t [] h = refl
mark-none t (rule.slot u g e d ∷ xs) h =
    rw (or_left (named t (rule.slot u g e d)) (some_of (named t) xs) h)
    (ap (λ (l : List RuleSlot). rule.slot u g e d ∷ l) (mark-none t xs (or_right (named t (rule.slot u g e d)) (some_of (named t) xs) h)))

module _ (t : ℕ) (row : List Slot) (count at : ℕ) (below : at < count) (within : count ≤ length row) (is : (get_or row at blank).transaction ≡ t) (far : apart (used row count) ≡ true) where
  abbrev here : Slot
  here = get_or row at blank

  abbrev before : List RuleSlot
  before = map slot_of (take at (take count row))

  abbrev behind : List RuleSlot
  behind = map slot_of (drop (suc at) (take count row))

  inside : at < length (take count row)
  inside = omega (arith, length-take-le count row within)

  parts : used row count ≡ before ++ (slot_of here ∷ behind)
  parts =
      ap (map slot_of) (split_at (take count row) at blank inside)
      ∙ map-append slot_of (take at (take count row)) (get_or (take count row) at blank ∷ drop (suc at) (take count row))
      ∙ ap (λ (x : Slot). before ++ (slot_of x ∷ behind)) (get_or-take count row at blank below)

  marked-parts : used (marked_at at row) count ≡ before ++ (slot_of (committed_slot here) ∷ behind)
  marked-parts =
      ap (map slot_of) (take-set-lt count row at (committed_slot here) below ∙ set_split (take count row) at (committed_slot here) inside)
      ∙ map-append slot_of (take at (take count row)) (committed_slot here ∷ drop (suc at) (take count row))

  others : (some_of (named t) before ≡ false) × (some_of (named t) behind ≡ false)
  others = rw is at (apart-at before here.transaction here.filed here.event (decision_of here.decision) behind (rw parts at far))

  pub marked-used : used (marked_at at row) count ≡ mark t (used row count)
  marked-used =
      marked-parts
      ∙ sym
      (ap (mark t) parts
      ∙ map-append (mark_one t) before (slot_of here ∷ behind)
      ∙ ap₂ (λ (xs ys : List RuleSlot). xs ++ ys) (mark-none t before others.0)
      (ap₂ (λ (x : RuleSlot) (ys : List RuleSlot). x ∷ ys) (rw (eq-eqb t here.transaction (sym is))) (mark-none t behind others.1)))
