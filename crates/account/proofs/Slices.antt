-- The used places from a place on: the place itself and the places after it, none at the end; and one more at the end.
-- Assumes nothing.
use Prim.Native.Nat.{ℕ, ◌+◌, ◌-◌, ◌<◌, ◌≤◌}
use mathlib.Core.Path.{◌≡◌, ap, ◌∙◌}
use mathlib.Core.List.{List, [], ◌∷◌, ◌++◌, map}
use native.Mathlib.Omega.{arith}
use native.Mathlib.Numerals.{add-one}
use lib.ListN.{length, get_or, take, drop, length-map, length-take, drop_of_length-le}
use lib.Seq.{slice, slice-cons, length-slice, take-suc, drop-append-le}
use Rattle.rule.proofs.Lists.{map-append}
use Rattle.filing.specs.declared.Slot.{Slot}
use Rattle.filing.specs.Slots.{RuleSlot, slot_of, blank}

-- the used places from `first` on, as the rule has them
abbrev pub used_from : ℕ → ℕ → List Slot → List RuleSlot
used_from first count row = map slot_of (slice first count row)

module _ (first count : ℕ) (row : List Slot) where
  pub used-end : count ≤ first → used_from first count row ≡ []
  used-end h = ap (map slot_of) (drop_of_length-le (take count row) {i = first} (omega (arith, length-take count row)))

  pub used-next : first < count → count ≤ length row → used_from first count row ≡ slot_of (get_or row first blank) ∷ used_from (first + 1) count row
  used-next h k = rw (add-one, slice-cons first count row blank)

  pub used-length : count ≤ length row → length (used_from first count row) ≡ count - first
  used-length k = length-map (slice first count row) slot_of ∙ length-slice first count row k

  pub from_more : count < length row → first ≤ count → used_from first (count + 1) row ≡ used_from first count row ++ (slot_of (get_or row count blank) ∷ [])
  from_more h o =
      rw (add-one, take-suc row count blank h, drop-append-le first (take count row) (get_or row count blank ∷ []) (simp length-take (omega arith)))
      (map-append slot_of (drop first (take count row)) (get_or row count blank ∷ []))
