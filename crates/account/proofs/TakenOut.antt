-- A transaction taken out of a row, a place at a time: of the places gone through those of other transactions stay.
-- Assumes nothing.
use Prim.Native.Nat.{ℕ, ◌+◌, ◌≤◌, ◌<◌}
use mathlib.Core.Path.{◌≡◌, refl, sym, ap, ◌∙◌}
use mathlib.Core.Bool.{not}
use mathlib.Core.List.{List, [], ◌∷◌, ◌++◌, append-nil}
use native.Mathlib.Omega.{arith}
use lib.ListN.{length, get_or, set, length-append}
use borrow.Author.Tests.{eq-eqb, ne_eqb}
use Rattle.rule.specs.Step.{named, without}
use Rattle.rule.proofs.Lists.{keep_append}
use Rattle.rule.proofs.Apart.{length-keep}
use Rattle.filing.specs.declared.Slot.{Slot}
use Rattle.filing.specs.Slots.{RuleSlot, slot_of, blank}
use Rattle.account.specs.Places.{used}
use Rattle.account.proofs.Places.{used-more, count-used}
use Rattle.account.proofs.Moved.{moved, moved_here, moved-gone, moved-kept}

-- the row then, of which so many places stay
pub record TakingOut (t : ℕ) (row now : List Slot) (left at : ℕ) : Type 0 where
  pub count : left ≡ length (without t (used row at))
  pub now' : now ≡ moved (without t (used row at)) at row
  pub few : left ≤ at

module _ (t : ℕ) (row : List Slot) where
  pub out_none : TakingOut t row row 0 0
  out_none = record { count = refl; now' = refl; few = omega arith }

  few-left : (at : ℕ) → at ≤ length row → length (without t (used row at)) ≤ at
  few-left at h = omega (arith, length-keep (λ (x : RuleSlot). not (named t x)) (used row at), count-used row at h)

  module _ (at : ℕ) (below : at < length row) where
    without-same : t ≡ (get_or row at blank).transaction → without t (used row (at + 1)) ≡ without t (used row at)
    without-same e =
        rw (used-more row at blank below, keep_append (λ (x : RuleSlot). not (named t x)) (used row at) (slot_of (get_or row at blank) ∷ []), eq-eqb _ _ e)
        (append-nil (without t (used row at)))

    without_more : (t ≡ (get_or row at blank).transaction → ⊥) → without t (used row (at + 1)) ≡ without t (used row at) ++ (slot_of (get_or row at blank) ∷ [])
    without_more e =
        rw (used-more row at blank below, keep_append (λ (x : RuleSlot). not (named t x)) (used row at) (slot_of (get_or row at blank) ∷ []), ne_eqb _ _ e)

    module _ (now : List Slot) (left : ℕ) (so_far : TakingOut t row now left at) where
      here : get_or now at blank ≡ get_or row at blank
      here = rw so_far.now' (moved_here (without t (used row at)) at row (few-left at (omega arith)) below)

      pub out-gone : t ≡ (get_or now at blank).transaction → TakingOut t row (set now at blank) left (at + 1)
      out-gone e =
          let same = without-same (rw here at e) in
          record {
            count = so_far.count ∙ ap length (sym same);
            now' =
                ap (λ (l : List Slot). set l at blank) so_far.now'
                ∙ moved-gone (without t (used row at)) at row (few-left at (omega arith)) below
                ∙ ap (λ (l : List RuleSlot). moved l (at + 1) row) (sym same);
            few = omega (arith, so_far.few);
          }

      pub out-kept : (t ≡ (get_or now at blank).transaction → ⊥) → TakingOut t row (set (set now at blank) left (get_or now at blank)) (left + 1) (at + 1)
      out-kept e =
          let more = without_more (rw here at e) in
          let x = get_or row at blank in
          record {
            count = rw (more, length-append (without t (used row at)) (slot_of x ∷ [])) (ap (λ (n : ℕ). n + 1) so_far.count);
            now' =
                rw (here, more, so_far.now', so_far.count)
                (moved-kept (without t (used row at)) at row (few-left at (omega arith)) x below);
            few = omega (arith, so_far.few);
          }
