-- The places of a row: the first ones with one more, how many there are, all of them.
-- Assumes nothing.
use Prim.Native.Nat.{ℕ, ◌+◌, ◌<◌, ◌≤◌}
use mathlib.Core.Path.{◌≡◌, ap, ◌∙◌}
use mathlib.Core.List.{List, [], ◌∷◌, ◌++◌, map}
use native.Mathlib.Numerals.{add-one}
use lib.ListN.{length, get_or, take, length-map}
use lib.Seq.{take-suc, length-take-le}
use Rattle.rule.proofs.Lists.{map-append}
use Rattle.filing.specs.declared.Slot.{Slot}
use Rattle.filing.specs.Slots.{slot_of}
use Rattle.std.proofs.lemmas.List.{take_all}
use Rattle.account.specs.Places.{used}

module _ (row : List Slot) where
  module _ (at : ℕ) where
    pub take_more : (d : Slot) → at < length row → take (at + 1) row ≡ take at row ++ (get_or row at d ∷ [])
    take_more d h = rw (add-one, take-suc row at d)

    pub used-more : (d : Slot) → at < length row → used row (at + 1) ≡ used row at ++ (slot_of (get_or row at d) ∷ [])
    used-more d h = ap (map slot_of) (take_more d h) ∙ map-append slot_of (take at row) (get_or row at d ∷ [])

    pub count-used : at ≤ length row → length (used row at) ≡ at
    count-used h = length-map (take at row) slot_of ∙ length-take-le at row h

-- all of a row
pub used-all : (row : List Slot) (at : ℕ) → length row ≤ at → used row at ≡ map slot_of row
used-all row at h = ap (map slot_of) (take_all at row h)
