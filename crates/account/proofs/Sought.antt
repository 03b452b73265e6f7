-- Where a transaction stands in a row, and that the slot found there is the only one of its transaction where the transactions are apart.
-- Assumes nothing.
use Prim.Native.Nat.{ℕ, suc, ◌+◌, ◌<◌}
use mathlib.Core.Path.{◌≡◌, refl, sym, ap, ◌∙◌}
use mathlib.Core.Bool.{Bool, true, false, cond}
use mathlib.Core.List.{List, [], ◌∷◌, ◌++◌, map, append_assoc}
use lib.Dec.{eqb}
use lib.ListN.{length, get_or, take, drop}
use lib.Seq.{split_at}
use borrow.Author.Tests.{eq-eqb, eqb-true, ltb-true}
use Rattle.std.specs.Prelude.{Option, None, Some}
use Rattle.std.specs.List.{position, position_from}
use Rattle.std.proofs.lemmas.Option.{cond_some, none-some}
use Rattle.std.proofs.lemmas.List.Sums.{passes_at_first}
use Rattle.std.proofs.lemmas.Iterator.Adapters.{position_from-zero}
use Rattle.rule.specs.Lists.{some_of, keep}
use Rattle.rule.specs.InOrder.{apart}
use Rattle.rule.specs.Step.{named}
use Rattle.rule.proofs.Lists.{or_left, or_right, map-append, some-append, keep_append, keep-none, parts-some}
use Rattle.rule.proofs.Apart.{apart-at}
use Rattle.filing.specs.declared.Slot.{Slot}
use Rattle.filing.specs.Slots.{RuleSlot, slot_of, decision_of, blank}

-- where there is no place, it is none
pub no-place : (o : Option ℕ) → ((at : ℕ) → o ≡ Some at → ⊥) → o ≡ None
no-place None h = refl
no-place (Some at) h = absurd (h at refl)

-- the place at which a transaction was found in a row, and that it stands nowhere in one where it was not
module _ (t : ℕ) where
  abbrev pub place_of : List Slot → Option ℕ
  place_of row = position (λ (x : Slot). eqb t x.transaction) row

  pub found-there : (row : List Slot) (at : ℕ) → place_of row ≡ Some at → (at < length row) × ((get_or row at blank).transaction ≡ t)
  found-there row at e =
      let first = cond_some _ _ _ e in
      let below = ltb-true _ _ first.0 in
      let stands = sym (eqb-true _ _ (passes_at_first (λ (x : Slot). eqb t x.transaction) row blank below)) in
      (rw first.1 at below, rw first.1 at stands)

  neither : (b : Bool) (i : ℕ) (o : Option ℕ) → cond b (Some i) o ≡ None → (b ≡ false) × (o ≡ None)
  neither true i o e = absurd (none-some i (sym e))
  neither false i o e = (refl, e)

  nowhere_from : (i : ℕ) (row : List Slot) → position_from (λ (x : Slot). eqb t x.transaction) i row ≡ None → some_of (named t) (map slot_of row) ≡ false
  nowhere_from i [] e = refl
  nowhere_from i (x ∷ xs) e = let both = neither (eqb t x.transaction) i _ e in rw both.0 (nowhere_from (i + 1) xs both.1)

  pub found-nowhere : (row : List Slot) → place_of row ≡ None → some_of (named t) (map slot_of row) ≡ false
  found-nowhere row e = nowhere_from 0 row (sym (position_from-zero _ row) ∙ e)

-- the slots before a place, the one at it, those behind it
pub slot-parts : (row : List Slot) (at : ℕ) (x : Slot) → at < length row → get_or row at blank ≡ x → map slot_of row ≡ map slot_of (take at row) ++ (slot_of x ∷ map slot_of (drop (suc at) row))
slot-parts row at x h e =
    ap (map slot_of) (split_at row at blank h)
    ∙ map-append slot_of (take at row) (get_or row at blank ∷ drop (suc at) row)
    ∙ ap (λ (y : Slot). map slot_of (take at row) ++ (slot_of y ∷ map slot_of (drop (suc at) row))) e

module _ (t : ℕ) (before : List RuleSlot) (x : Slot) (behind : List RuleSlot) (is : x.transaction ≡ t) where
  stands-there : some_of (named t) (before ++ (slot_of x ∷ behind)) ≡ true
  stands-there = parts-some (named t) before (slot_of x) behind (eq-eqb t x.transaction (sym is))

  module _ (far : apart (before ++ (slot_of x ∷ behind)) ≡ true) where
    pub others : (some_of (named t) before ≡ false) × (some_of (named t) behind ≡ false)
    others = rw is at (apart-at before x.transaction x.filed x.event (decision_of x.decision) behind far)

    only-one : keep (named t) (before ++ (slot_of x ∷ behind)) ≡ slot_of x ∷ []
    only-one =
        rw (keep_append (named t) before (slot_of x ∷ behind), keep-none (named t) before others.0, eq-eqb t x.transaction (sym is))
        (ap (λ (l : List RuleSlot). slot_of x ∷ l) (keep-none (named t) behind others.1))

module _ (t : ℕ) (events requests : List Slot) where
  -- a slot, in progress or held, that is the only one of the transaction
  pub record TheOnly (x : Slot) (in_progress held : Bool) : Type 0 where
    pub stands : some_of (named t) (map slot_of events) ≡ in_progress
    pub waits : some_of (named t) (map slot_of requests) ≡ held
    pub only : keep (named t) (map slot_of events) ++ keep (named t) (map slot_of requests) ≡ slot_of x ∷ []

  module _ (far : apart (map slot_of events ++ map slot_of requests) ≡ true) (at : ℕ) (x : Slot) (is : x.transaction ≡ t) where
    pub only-event : at < length events → get_or events at blank ≡ x → TheOnly x true false
    only-event h e =
        let before = map slot_of (take at events) in
        let behind = map slot_of (drop (suc at) events) in
        let ys = map slot_of requests in
        let parts = slot-parts events at x h e in
        let whole : map slot_of events ++ ys ≡ before ++ (slot_of x ∷ (behind ++ ys)) = ap (λ (l : List RuleSlot). l ++ ys) parts ∙ append_assoc before (slot_of x ∷ behind) ys in
        let far' = rw whole at far in
        let none = sym (some-append (named t) behind ys) ∙ (others t before x (behind ++ ys) is far').1 in
        record {
          stands = ap (some_of (named t)) parts ∙ stands-there t before x behind is;
          waits = or_right (some_of (named t) behind) (some_of (named t) ys) none;
          only = sym (keep_append (named t) (map slot_of events) ys) ∙ ap (keep (named t)) whole ∙ only-one t before x (behind ++ ys) is far';
        }

    pub only-request : at < length requests → get_or requests at blank ≡ x → TheOnly x false true
    only-request h e =
        let before = map slot_of (take at requests) in
        let behind = map slot_of (drop (suc at) requests) in
        let xs = map slot_of events in
        let parts = slot-parts requests at x h e in
        let whole : xs ++ map slot_of requests ≡ (xs ++ before) ++ (slot_of x ∷ behind) = ap (λ (l : List RuleSlot). xs ++ l) parts ∙ sym (append_assoc xs before (slot_of x ∷ behind)) in
        let far' = rw whole at far in
        let none = sym (some-append (named t) xs before) ∙ (others t (xs ++ before) x behind is far').0 in
        record {
          stands = or_left (some_of (named t) xs) (some_of (named t) before) none;
          waits = ap (some_of (named t)) parts ∙ stands-there t before x behind is;
          only = sym (keep_append (named t) xs (map slot_of requests)) ∙ ap (keep (named t)) whole ∙ only-one t (xs ++ before) x behind is far';
        }
