-- The oldest of a row are gone and the younger ones move up, a place at a time: settling and draining leave a row so.
-- Assumes nothing.
use Prim.Native.Nat.{ℕ, ◌+◌, ◌-◌, ◌≤◌, ◌<◌}
use mathlib.Core.Path.{◌≡◌, refl, sym, ap, ◌∙◌}
use mathlib.Core.List.{List, []}
use native.Mathlib.Omega.{arith}
use lib.ListN.{length, get_or, set, drop, replicate}
use Rattle.filing.specs.declared.Slot.{Slot}
use Rattle.filing.specs.Slots.{RuleSlot, places, blank}
use Rattle.account.specs.Places.{padded}
use Rattle.account.proofs.Slices.{used_from, used-end, used-length, from_more}
use Rattle.account.proofs.Moved.{moved, moved_here, moved-gone, moved-kept, moved_all}

-- the row then: of the places gone through the first `gone` are gone
abbrev pub MovedUp : (row now : List Slot) (gone at : ℕ) → Type 0
MovedUp row now gone at = now ≡ moved (used_from gone at row) at row

pub up_none : (row : List Slot) → MovedUp row row 0 0
up_none row = refl

module _ (row now : List Slot) (gone at : ℕ) (so_far : MovedUp row now gone at) (below : at < length row) (older : gone ≤ at) where
  few : length (used_from gone at row) ≤ at
  few = omega (arith, used-length gone at row (omega arith))

  pub up-here : get_or now at blank ≡ get_or row at blank
  up-here = rw so_far (moved_here (used_from gone at row) at row few below)

  -- it is gone too, where all before it are,
  pub up-gone : at ≡ gone → MovedUp row (set now at blank) (gone + 1) (at + 1)
  up-gone e =
      let none : used_from gone at row ≡ [] = used-end gone at row (omega arith) in
      let still-none : used_from (gone + 1) (at + 1) row ≡ [] = used-end (gone + 1) (at + 1) row (omega arith) in
      ap (λ (l : List Slot). set l at blank) so_far
      ∙ moved-gone (used_from gone at row) at row few below
      ∙ ap (λ (l : List RuleSlot). moved l (at + 1) row) (none ∙ sym still-none)

  -- or moves up
  pub up_kept : MovedUp row (set (set now at blank) (at - gone) (get_or now at blank)) gone (at + 1)
  up_kept =
      rw (up-here, ← used-length gone at row (omega arith), so_far)
      (moved-kept (used_from gone at row) at row few (get_or row at blank) below
      ∙ ap (λ (l : List RuleSlot). moved l (at + 1) row) (sym (from_more gone at row below older)))

-- past the last used place the row is that of those left
pub up-all : (row now : List Slot) (gone count : ℕ) → MovedUp row now gone count → count ≤ length row → count ≤ places → drop count row ≡ replicate (places - count) blank
    → now ≡ padded places (used_from gone count row)
up-all row now gone count done within fits blanks =
    done ∙ moved_all (used_from gone count row) count row (omega (arith, used-length gone count row within)) places fits blanks
