-- An account in order is the account of its lists, since its blanks are blank; its transactions are apart, its requests held have no decision, and each event in progress finds its guard.
-- Assumes nothing.
use Prim.Native.Nat.{ℕ, ◌-◌, ◌≤◌}
use mathlib.Core.Path.{◌≡◌, refl, sym, ap, ap₂, ◌∙◌}
use mathlib.Core.Bool.{true, false}
use mathlib.Core.List.{List, [], ◌∷◌, ◌++◌}
use native.Mathlib.Omega.{arith}
use lib.ListN.{length, take, drop, replicate, take-append-drop, length-drop}
use Rattle.rule.specs.Lists.{every, some_of}
use Rattle.rule.specs.Rule.{Rule}
use Rattle.rule.specs.Step.{mark, without}
use Rattle.rule.specs.Call.{named_committed}
use Rattle.rule.specs.InOrder.{apart, without_decision, guarded}
use Rattle.rule.proofs.Lists.{and_left, and_right}
use Rattle.rule.proofs.Safe.{Safe, safe-mark, safe-without, safe-guarded, guarded-safe}
use Rattle.events.specs.declared.Event.{Event}
use Rattle.events.specs.declared.State.{State}
use Rattle.filing.specs.declared.Slot.{Slot}
use Rattle.filing.specs.Slots.{RuleSlot, is_blank, blank, places}
use Rattle.filing.proofs.Slots.{places-slots, blank-place}
use Rattle.account.specs.declared.Account.{Account}
use Rattle.account.specs.Places.{used, padded, lists_of, account_of}
use Rattle.account.specs.InOrder.{in_order_by}
use Rattle.account.proofs.Places.{count-used}
use Rattle.account.proofs.Clauses.{clauses, rule-clauses}
use Rattle.account.proofs.Ranged.{Ranged}

blank-places : (xs : List Slot) → every is_blank xs ≡ true → xs ≡ replicate (length xs) blank
blank-places [] h = refl
blank-places (x ∷ xs) h =
    ap₂ (λ (y : Slot) (ys : List Slot). y ∷ ys) (blank-place x (and_left (is_blank x) (every is_blank xs) h)) (blank-places xs (and_right (is_blank x) (every is_blank xs) h))

-- a row whose blanks are blank is padded
pub padded-row : (row : List Slot) (count : ℕ) → length row ≡ places → count ≤ places → every is_blank (drop count row) ≡ true → row ≡ padded places (used row count)
padded-row row count many few blanks =
    let number : length (used row count) ≡ count = count-used row count (omega arith) in
    let left : length (drop count row) ≡ places - count = length-drop count row ∙ ap (λ (k : ℕ). k - count) many in
    sym (take-append-drop count row)
    ∙ ap₂ (λ (l r : List Slot). l ++ r)
    (sym (places-slots (take count row)))
    (blank-places (drop count row) blanks ∙ ap (λ (k : ℕ). replicate k blank) (left ∙ ap (λ (k : ℕ). places - k) (sym number)))

module _ (R : Rule State Event ℕ) (a : Account) where
  pub record Ordered : Type 0 where
    pub progressing : a.progressing ≤ places
    pub holding : a.holding ≤ places
    pub blanks : every is_blank (drop a.progressing a.progress) ≡ true
    pub lists : a ≡ account_of (lists_of a)
    pub transactions : apart ((lists_of a).progress ++ (lists_of a).held) ≡ true
    pub decisions : every without_decision (lists_of a).held ≡ true
    pub guards : guarded R (lists_of a).state [] (lists_of a).progress ≡ true

  pub ordered : Ranged R → length a.progress ≡ places → length a.held ≡ places → in_order_by R a ≡ true → Ordered
  unfolding account_of lists_of
  ordered ranged many many_held h =
      let own = clauses R a h in
      let rule-own = rule-clauses R a h in
      let p : a.progressing ≤ places = omega (arith, own.progressing, ranged.few) in
      let q : a.holding ≤ places = omega (arith, own.holding, ranged.few_held) in
      record {
        progressing = p;
        holding = q;
        blanks = own.blanks;
        lists =
            λ i.
            record {
              state = a.state;
              progress = padded-row a.progress a.progressing many p own.blanks i;
              progressing = sym (count-used a.progress a.progressing (omega arith)) i;
              held = padded-row a.held a.holding many_held q own.blanks_held i;
              holding = sym (count-used a.held a.holding (omega arith)) i;
            };
        transactions = rule-own.transactions;
        decisions = rule-own.decisions;
        guards = rule-own.guards;
      }

-- a commit marks an event, an abort takes one out that is not committed: each event still finds its guard
module _ (R : Rule State Event ℕ) (s : State) (events : List RuleSlot) (guards : guarded R s [] events ≡ true) (t : ℕ) where
  safe : Safe R events s
  safe = guarded-safe R s [] events tt guards

  pub marked-guarded : guarded R s [] (mark t events) ≡ true
  marked-guarded = safe-guarded R s [] (mark t events) (safe-mark R t events s safe)

  pub without-guarded : some_of (named_committed t) events ≡ false → guarded R s [] (without t events) ≡ true
  without-guarded k = safe-guarded R s [] (without t events) (safe-without R t events s k safe)
