-- The refusals 6 to 11 in their order, and the call (docs/REGISTER.md, 10.1).
-- Assumes nothing.
use Rattle.std.specs.Prelude.{ℕ, Bool, false, cond, ◌||◌, not, List, [], ◌∷◌, eqb, leb, length}
use Rattle.std.proofs.Math.Option.{Option, none, some}
use Rattle.rule.specs.Lists.{some_of}
use Rattle.rule.specs.Rule.{Rule, undecided, committed, Slot, slot, Account, Message, request, commit, abort, Entry}
use Rattle.rule.specs.Step.{Step, named, step}

-- whether the slot is that transaction's, and committed
abbrev pub named_committed : {G E : Type 0} → ℕ → Slot G E → Bool
named_committed u (slot t g e undecided) = false
named_committed u (slot t g e committed) = eqb u t

module _ {G S E B : Type 0} (R : Rule S E B) where
  -- a request: 6 where the account has its transaction already, then 7 where no place to hold is left;
  -- a commit or an abort: 8 where the account does not have its transaction; then a commit 9 if that is held and 10 if it is committed, an abort 11 if it is committed
  abbrev pub refusal : Account G S E → Message G E → Option ℕ
  refusal a (request t g e) =
      cond (some_of (named t) a.progress || some_of (named t) a.held) (some 6)
      (cond (leb R.held_limit (length a.held)) (some 7) none)
  refusal a (commit t g) =
      cond (not (some_of (named t) a.progress || some_of (named t) a.held)) (some 8)
      (cond (some_of (named t) a.held) (some 9)
      (cond (some_of (named_committed t) a.progress) (some 10) none))
  refusal a (abort t g) =
      cond (not (some_of (named t) a.progress || some_of (named t) a.held)) (some 8)
      (cond (some_of (named_committed t) a.progress) (some 11) none)

-- what a call answers: the number of its refusal, or the entries that it wrote
pub data Answer (G E B : Type 0) : Type 0 where
  refused : ℕ → Answer G E B
  taken : List (Entry G E B) → Answer G E B

-- the entries that an answer brings: a refusal brings none
abbrev pub written : {G E B : Type 0} → Answer G E B → List (Entry G E B)
written (refused n) = []
written (taken xs) = xs

-- what a call gives: the account that follows, and the answer
pub record Called (G S E B : Type 0) : Type 0 where
  pub account : Account G S E
  pub answer : Answer G E B

-- a refusal leaves the account as it is and writes nothing; else the step is taken
abbrev pub call_by : {G S E B : Type 0} → Option ℕ → Account G S E → Step G S E B → Called G S E B
call_by (some n) a taking = record { account = a; answer = refused n }
call_by none a taking = record { account = taking.account; answer = taken taking.entries }

module _ {G S E B : Type 0} (R : Rule S E B) where
  unfoldable pub call : Account G S E → Message G E → Called G S E B
  call a m = call_by (refusal R a m) a (step R a m)

  -- the account after a list of messages, taken or refused
  abbrev pub reached : Account G S E → List (Message G E) → Account G S E
  reached a [] = a
  reached a (m ∷ ms) = reached (call a m).account ms
