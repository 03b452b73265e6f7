-- From a fresh register every account stays in order: what a call comes to leaves the account that it names in order, and changes no other. So the test of refusal 5 never holds.
-- Assumes nothing.
use Prim.Native.Nat.{ℕ, zero, suc}
use mathlib.Core.Path.{◌≡◌, refl, sym, ◌∙◌, ap}
use mathlib.Core.Bool.{Bool, true, false, cond, ◌&&◌, not, true≢false}
use mathlib.Core.List.{List, [], ◌∷◌}
use mathlib.Core.Option.{Option, none, some}
use native.Mathlib.Omega.{arith}
use lib.Dec.{eqb}
use lib.ListN.{get_or, set, replicate}
use borrow.Author.Tests.{eq-eqb, le-leb}
use Rattle.rule.specs.Lists.{every}
use Rattle.rule.specs.Rule as rule
use Rattle.rule.specs.Tests.{Test, first_of}
use Rattle.rule.specs.Call as Rule-Call
use Rattle.rule.specs.InOrder as rule-order
use Rattle.rule.proofs.Lists.{and_left, and_right}
use Rattle.rule.proofs.InOrder.{rest-order, clauses-order, call-order}
use Rattle.rule.proofs.Reached.{new-rest}
use Rattle.events.specs.declared.Event.{Event}
use Rattle.events.specs.declared.State.{State}
use Rattle.filing.specs.declared.Filed.{Filed}
use Rattle.account.specs.declared.Account.{Account}
use Rattle.account.specs.Places.{lists_of, account_of}
use Rattle.account.specs.InOrder.{in_order_by}
use Rattle.account.specs.Steps.{Shown, shown_by}
use Rattle.account.proofs.Kept.{order-account, order-lists}
use Rattle.message.specs.declared.Message.{Message}
use Rattle.message.specs.Bytes.{heading_of}
use Rattle.register.specs.declared.Register.{Register}
use Rattle.register.specs.Register.{nowhere, account_at, rule_message, fresh_by, asked_by}
use Rattle.register.specs.Call.{Called, refusal_of, called_by}
use Rattle.register.specs.Refusals.{account_in, call_tests, outlook_tests, answered_as}
use Rattle.register.specs.Sequence.{Input, after}
use Rattle.register.proofs.Suits.{Suits}
use Rattle.register.proofs.Refusals.{call-refuses, outlook-tells}
use Rattle.register.proofs.Sending.{lists, taking, Free}
use Rattle.register.proofs.Calling.{Calling, refused, taken, calling}

-- a number is not given where no test of that number holds
never : (n : ℕ) (tests : List Test) → every (λ (t : Test). not (eqb t.number n && t.holds)) tests ≡ true → first_of tests ≡ some n → ⊥
never n [] h e = cc
never n (t ∷ tests) h e = go t.holds refl e (λ k. never n tests (and_right (not (eqb t.number n && t.holds)) (every (λ (t : Test). not (eqb t.number n && t.holds)) tests) h) k)
  where
    go : (b : Bool) → t.holds ≡ b → cond b (some t.number) (first_of tests) ≡ some n → (first_of tests ≡ some n → ⊥) → ⊥
    go true p e k =
        let z : t.number ≡ n = cc in
        let not-this = and_left (not (eqb t.number n && t.holds)) (every (λ (t : Test). not (eqb t.number n && t.holds)) tests) h in
        true≢false (sym (rw (eq-eqb t.number n z, p) at not-this))
    go false p e k = k e

answered-refusal : (o : Option ℕ) (s : State) (n : ℕ) → (answered_as o s n).refusal ≡ o
answered-refusal none s n = refl
answered-refusal (some k) s n = refl

module _ (R : rule.Rule State Event ℕ) (k : Suits R) where
  -- the account that follows a message that is taken is in order
  pub taken-order : (r : Register) (m : Message) → Free R r m → rule-order.is_in_order R (taking R r m).account ≡ true
  unfolding Rule-Call.call
  taken-order r m free = rw free.unrefused at (call-order R k.ordered (lists R r m) (rule_message m) (order-lists R (account_at r (heading_of m).account) free.in_order))

  -- every account is in order, and so is what stands past the last
  abbrev InOrder : Register → Type 0
  InOrder r = (i : ℕ) → in_order_by R (account_at r i) ≡ true

  set-order : (accounts : List Account) (i : ℕ) (a : Account) → in_order_by R a ≡ true → ((j : ℕ) → in_order_by R (get_or accounts j nowhere) ≡ true)
      → (j : ℕ) → in_order_by R (get_or (set accounts i a) j nowhere) ≡ true
  set-order [] i a h all j = all j
  set-order (x ∷ accounts) zero a h all zero = h
  set-order (x ∷ accounts) zero a h all (suc j) = all (suc j)
  set-order (x ∷ accounts) (suc i) a h all zero = all zero
  set-order (x ∷ accounts) (suc i) a h all (suc j) = set-order accounts i a h (λ n. all (suc n)) j

  call_kept : {bytes buffer : List ℕ} {x : Called} (r : Register) → Calling R r bytes buffer x → InOrder r → InOrder x.register
  call_kept {bytes = bytes} {buffer = buffer} {x = x} r c all = by r x c all
    where
      by : (r : Register) (x : Called) → Calling R r bytes buffer x → InOrder r → InOrder x.register
      by r x (refused n why) all = all
      by r x (taken m consumed t) all =
          set-order r.accounts (heading_of m).account (account_of (taking R r m).account) (order-account R (taking R r m).account (taken-order r m t.free)) all

  calls-kept : (inputs : List Input) (r : Register) → InOrder r → InOrder (after R r inputs)
  calls-kept [] r all = all
  calls-kept (x ∷ inputs) r all =
      calls-kept inputs (called_by R r x.message x.buffer).register (call_kept r (calling R r x.message x.buffer) all)

  -- a new account, and what stands past the last
  pub new-order : rule-order.is_in_order R (rule.new_account R Filed) ≡ true
  new-order = clauses-order R (rule.new_account R Filed) (rest-order R k.ordered (rule.new_account R Filed) [] (new-rest R))

  nowhere-order : in_order_by R nowhere ≡ true
  unfolding in_order_by lists_of
  nowhere-order = rw (le-leb 0 R.progress_limit (omega arith), le-leb 0 R.held_limit (omega arith), ← k.new) new-order

  replicate-order : (n : ℕ) (a : Account) → in_order_by R a ≡ true → (i : ℕ) → in_order_by R (get_or (replicate n a) i nowhere) ≡ true
  replicate-order zero a h i = nowhere-order
  replicate-order (suc n) a h zero = h
  replicate-order (suc n) a h (suc i) = replicate-order n a h i

  pub always-in-order : (inputs : List Input) (i : ℕ) → in_order_by R (account_at (after R (fresh_by R) inputs) i) ≡ true
  unfolding fresh_by
  always-in-order inputs i =
      calls-kept inputs (fresh_by R) (replicate-order 16 (account_of (rule.new_account R Filed)) (order-account R (rule.new_account R Filed) new-order)) i

  pub never_five : (inputs : List Input) (bytes buffer : List ℕ) → refusal_of (called_by R (after R (fresh_by R) inputs) bytes buffer).reply ≡ some 5 → ⊥
  never_five inputs bytes buffer h =
      let r = after R (fresh_by R) inputs in
      never 5 (call_tests R r bytes buffer) (rw (always-in-order inputs (account_in bytes))) (sym (call-refuses R r bytes buffer) ∙ h)

  pub never_asked_five : (inputs : List Input) (i n : ℕ) → (shown_by (asked_by R (after R (fresh_by R) inputs) i n)).refusal ≡ some 5 → ⊥
  never_asked_five inputs i n h =
      let r = after R (fresh_by R) inputs in
      never 5 (outlook_tests R r i n) (rw (always-in-order inputs i))
      (sym (answered-refusal (first_of (outlook_tests R r i n)) _ _) ∙ sym (ap (λ (t : Shown). t.refusal) (outlook-tells R r i n)) ∙ h)
