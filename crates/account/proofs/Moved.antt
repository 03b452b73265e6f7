-- A row of places gone through once, from the first on: those that stay are put one after the other from the first place on, behind them stand blanks as far as the way has come, then the places not reached yet.
-- Taking a transaction out, settling and draining all go through a row so.
-- Assumes nothing.
use Prim.Native.Nat.{ℕ, suc, ◌+◌, ◌-◌, ◌≤◌, ◌<◌}
use mathlib.Core.Path.{◌≡◌, sym, ap, ◌∙◌}
use mathlib.Core.List.{List, [], ◌∷◌, ◌++◌, map, append_assoc}
use native.Mathlib.Numerals.{add-one}
use native.Mathlib.Omega.{arith}
use lib.ListN.{length, get_or, set, drop, replicate, replicate-append-replicate}
use lib.Seq.{drop-cons, get_or_at, set_at, set-append_left}
use Rattle.filing.specs.declared.Slot.{Slot}
use Rattle.filing.specs.Slots.{RuleSlot, slot_of, place_of, blank}
use Rattle.filing.proofs.Slots.{place-slot}
use Rattle.filing.proofs.Filled.{length-filled, fill-next}
use Rattle.account.specs.Places.{padded}

abbrev pub moved : List RuleSlot → ℕ → List Slot → List Slot
moved xs at row = padded at xs ++ drop at row

padded-more : (at : ℕ) (xs : List RuleSlot) → length xs ≤ at → padded at xs ++ (blank ∷ []) ≡ padded (at + 1) xs
padded-more at xs h =
    let e : at + 1 - length xs ≡ at - length xs + 1 = omega arith in
    rw (append_assoc, e) (ap (λ (l : List Slot). map place_of xs ++ l) (replicate-append-replicate (at - length xs) 1 blank))

module _ (xs : List RuleSlot) (at : ℕ) (row : List Slot) (few : length xs ≤ at) where
  -- the place that is reached is as it was
  pub moved_here : at < length row → get_or (moved xs at row) at blank ≡ get_or row at blank
  moved_here h = rw (drop-cons row at blank h) (get_or_at (padded at xs) (get_or row at blank) (drop (suc at) row) blank at (length-filled place_of blank at xs few))

  -- it is left blank,
  pub moved-gone : at < length row → set (moved xs at row) at blank ≡ moved xs (at + 1) row
  moved-gone h =
      rw (drop-cons row at blank h, add-one at)
      (set_at (padded at xs) (get_or row at blank) (drop (suc at) row) blank at (length-filled place_of blank at xs few)
      ∙ sym (append_assoc (padded at xs) (blank ∷ []) (drop (suc at) row))
      ∙ ap (λ (l : List Slot). l ++ drop (suc at) row) (rw add-one at (padded-more at xs few)))

  -- or put behind those that stay
  pub moved-kept : (x : Slot) → at < length row → set (set (moved xs at row) at blank) (length xs) x ≡ moved (xs ++ (slot_of x ∷ [])) (at + 1) row
  moved-kept x h =
      let k : length xs < length (padded (at + 1) xs) = omega (arith, length-filled place_of blank (at + 1) xs (omega arith)) in
      rw (moved-gone h, set-append_left (padded (at + 1) xs) (drop (at + 1) row) (length xs) x k)
      (ap (λ (l : List Slot). l ++ drop (at + 1) row)
      (ap (set (padded (at + 1) xs) (length xs)) (sym (place-slot x)) ∙ fill-next place_of blank (at + 1) xs (slot_of x) (omega arith)))

  -- past the last used place it is the list's
  pub moved_all : (size : ℕ) → at ≤ size → drop at row ≡ replicate (size - at) blank → moved xs at row ≡ padded size xs
  moved_all size h e =
      let k : size - length xs ≡ at - length xs + (size - at) = omega arith in
      rw (e, append_assoc, k) (ap (λ (l : List Slot). map place_of xs ++ l) (replicate-append-replicate (at - length xs) (size - at) blank))
