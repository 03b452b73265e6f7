-- What is asked is refused, by what judging found of an account in order, exactly as by the rule: the slot that was found is the only one of its transaction, and it is committed
-- exactly if one of that transaction is in progress and committed. By any rule of the events.
-- Assumes nothing.
use Prim.Native.Nat.{ℕ, ◌≤◌, ◌<◌}
use mathlib.Core.Path.{◌≡◌, refl, sym, ap, ◌∙◌}
use mathlib.Core.Bool.{Bool, true, false, cond, ◌||◌, not, false≢true}
use mathlib.Core.List.{List, [], ◌∷◌, ◌++◌, map}
use mathlib.Core.Option.{Option, none, some}
use lib.Dec.{eqb, leb}
use native.Mathlib.Omega.{arith}
use lib.ListN.{length, take, get_or, length-take}
use lib.Seq.{get_or-take}
use Rattle.std.specs.Prelude.{None, Some, Result, Ok, Err}
use Rattle.std.specs.Prelude as std
use Rattle.rule.specs.Lists.{every, some_of, keep}
use Rattle.rule.specs.Rule as rule
use Rattle.rule.specs.InOrder.{apart, without_decision}
use Rattle.rule.specs.Step.{named}
use Rattle.rule.specs.Call as Rule-Call
use Rattle.rule.proofs.Lists.{some-append, keep_append, keep-none}
use Rattle.events.specs.declared.Event.{Event}
use Rattle.events.specs.declared.State.{State}
use Rattle.filing.specs.declared.Decision.{Decision}
use Rattle.filing.specs.declared.Decision.TheVariants.{Undecided, Committed}
use Rattle.filing.specs.declared.Filed.{Filed}
use Rattle.filing.specs.declared.Slot.{Slot}
use Rattle.filing.specs.Slots.{RuleSlot, is_undecided, decision_of, slot_of, blank}
use Rattle.refusal.specs.declared.Refusal.{Refusal}
use Rattle.refusal.specs.declared.Refusal.TheVariants.{AllHeld, UnknownTransaction, HeldTransaction, CommittedAlready, CommittedBefore}
use Rattle.refusal.specs.Numbers.{number_of}
use Rattle.account.specs.declared.Account.{Account}
use Rattle.account.specs.declared.judging.Found.{Found}
use Rattle.account.specs.declared.judging.Found.TheVariants.{InProgress, OnHold}
use Rattle.account.specs.Places.{lists_of}
use Rattle.account.specs.InOrder.{in_order_by}
use Rattle.account.specs.inside.Judged.{Finds, request_answer_by, commit_answer, abort_answer}
use Rattle.account.proofs.Places.{count-used}
use Rattle.account.proofs.Sought.{TheOnly, only-event, only-request}
use Rattle.account.proofs.Clauses.{rule-clauses}

-- the number of a refusal, where it is one
abbrev pub number_in : {T : Type 0} → Result T Refusal → Option ℕ
number_in (Ok x) = none
number_in (Err r) = some (number_of r)

-- a slot of the transaction is committed exactly if one of those kept is
is_committed : RuleSlot → Bool
is_committed (rule.slot t g e rule.undecided) = false
is_committed (rule.slot t g e rule.committed) = true

module _ (t : ℕ) where
  committed-one : (u : ℕ) (g : Filed) (e : Event) (d : rule.Decision) (rest kept : Bool) → rest ≡ kept → (l : List RuleSlot) → some_of is_committed l ≡ kept
      → (Rule-Call.named_committed t (rule.slot u g e d) || rest) ≡ some_of is_committed (cond (eqb t u) (rule.slot u g e d ∷ l) l)
  unfolding is_committed
  committed-one u g e rule.undecided rest kept h l k = h ∙ sym k ∙ go (eqb t u)
    where
      go : (b : Bool) → some_of is_committed l ≡ some_of is_committed (cond b (rule.slot u g e rule.undecided ∷ l) l)
      go true = refl
      go false = refl
  committed-one u g e rule.committed rest kept h l k = go (eqb t u)
    where
      go : (b : Bool) → (b || rest) ≡ some_of is_committed (cond b (rule.slot u g e rule.committed ∷ l) l)
      go true = refl
      go false = h ∙ sym k

  committed-kept : (xs : List RuleSlot) → some_of (Rule-Call.named_committed t) xs ≡ some_of is_committed (keep (named t) xs)
  committed-kept [] = refl
  committed-kept (rule.slot u g e d ∷ xs) =
      committed-one u g e d (some_of (Rule-Call.named_committed t) xs) (some_of is_committed (keep (named t) xs)) (committed-kept xs) (keep (named t) xs) refl

  -- of those without a decision none is committed
  none-committed : (xs : List RuleSlot) → every without_decision xs ≡ true → some_of (Rule-Call.named_committed t) xs ≡ false
  none-committed [] h = refl
  none-committed (rule.slot u g e rule.undecided ∷ xs) h = none-committed xs h
  none-committed (rule.slot u g e rule.committed ∷ xs) h = absurd (false≢true h)

one-committed : (d : Decision) (t : ℕ) (g : Filed) (e : Event) → some_of is_committed (rule.slot t g e (decision_of d) ∷ []) ≡ not (is_undecided d)
unfolding is_committed
one-committed Undecided t g e = refl
one-committed Committed t g e = refl

or-none : (b c : Bool) → c ≡ false → (b || c) ≡ b
or-none true c h = refl
or-none false c h = h

-- the slot that was found says whether the transaction is committed in progress
committed-found : (t : ℕ) (progress held : List RuleSlot) (x : Slot) → every without_decision held ≡ true → keep (named t) progress ++ keep (named t) held ≡ slot_of x ∷ []
    → not (is_undecided x.decision) ≡ some_of (Rule-Call.named_committed t) progress
committed-found t progress held x h k =
    sym (one-committed x.decision x.transaction x.filed x.event)
    ∙ ap (some_of is_committed) (sym k ∙ sym (keep_append (named t) progress held))
    ∙ sym (committed-kept t (progress ++ held))
    ∙ some-append (Rule-Call.named_committed t) progress held
    ∙ or-none (some_of (Rule-Call.named_committed t) progress) (some_of (Rule-Call.named_committed t) held) (none-committed t held h)

held-number : (full : Bool) → number_in {T = Unit {0}} (cond full (Err AllHeld) (Ok tt)) ≡ cond full (some 7) none
held-number true = refl
held-number false = refl

decided-number : {T : Type 0} (x : T) (r : Refusal) (undecided : Bool) → number_in (cond undecided (Ok x) (Err r)) ≡ cond (not undecided) (some (number_of r)) none
decided-number x r true = refl
decided-number x r false = refl

-- what no slot of a list is, is not committed
unnamed : (t : ℕ) (xs : List RuleSlot) → some_of (named t) xs ≡ false → some_of (Rule-Call.named_committed t) xs ≡ false
unnamed t xs h = committed-kept t xs ∙ ap (some_of is_committed) (keep-none (named t) xs h)

module _ (R : rule.Rule State Event ℕ) (a : Account) (room : a.holding ≤ length a.held) (t : ℕ) (g : Filed) (h : in_order_by R a ≡ true) where
  abbrev events : List Slot
  events = take a.progressing a.progress

  abbrev requests : List Slot
  requests = take a.holding a.held

  far : apart (map slot_of events ++ map slot_of requests) ≡ true
  unfolding lists_of
  far = (rule-clauses R a h).transactions

  decisions : every without_decision (map slot_of requests) ≡ true
  unfolding lists_of
  decisions = (rule-clauses R a h).decisions

  committed : (x : Slot) (p q : Bool) → TheOnly t events requests x p q → not (is_undecided x.decision) ≡ some_of (Rule-Call.named_committed t) (map slot_of events)
  committed x p q k = committed-found t (map slot_of events) (map slot_of requests) x decisions k.only

  pub request-refusal : (e : Event) (found : std.Option Found) → Finds t events requests found → number_in (request_answer_by R found a.holding) ≡ Rule-Call.refusal R (lists_of a) (rule.request t g e)
  unfolding lists_of
  request-refusal e None (p, q) =
      rw (p, q) (held-number (leb R.held_limit a.holding) ∙ ap (λ (n : ℕ). cond (leb R.held_limit n) (some 7) none) (sym (count-used a.held a.holding room)))
  request-refusal e (Some (InProgress at x)) (below, there, is) = rw (only-event t events requests far at x is below there).stands refl
  request-refusal e (Some (OnHold x)) (at, below, there, is) =
      let k = only-request t events requests far at x is below there in
      rw (k.stands, k.waits) refl

  pub commit-refusal : (found : std.Option Found) → Finds t events requests found → number_in (commit_answer found) ≡ Rule-Call.refusal R (lists_of a) (rule.commit t g)
  unfolding lists_of
  commit-refusal None (p, q) = rw (p, q) refl
  commit-refusal (Some (InProgress at x)) (below, there, is) =
      let k = only-event t events requests far at x is below there in
      rw (k.stands, k.waits, ← committed x true false k) (decided-number at CommittedAlready (is_undecided x.decision))
  commit-refusal (Some (OnHold x)) (at, below, there, is) =
      let k = only-request t events requests far at x is below there in
      rw (k.stands, k.waits) refl

  pub abort-refusal : (found : std.Option Found) → Finds t events requests found → number_in (abort_answer found) ≡ Rule-Call.refusal R (lists_of a) (rule.abort t g)
  unfolding lists_of
  abort-refusal None (p, q) = rw (p, q) refl
  abort-refusal (Some (InProgress at x)) (below, there, is) =
      let k = only-event t events requests far at x is below there in
      rw (k.stands, ← committed x true false k) (decided-number x CommittedBefore (is_undecided x.decision))
  abort-refusal (Some (OnHold x)) (at, below, there, is) =
      let k = only-request t events requests far at x is below there in
      rw (k.stands, k.waits, unnamed t (map slot_of events) k.stands) refl

  -- the slot that an abort drops is the only one of its transaction
  pub dropped-only : (found : std.Option Found) → Finds t events requests found → (x : Slot) → abort_answer found ≡ Ok x
      → keep (named t) (map slot_of events) ++ keep (named t) (map slot_of requests) ≡ slot_of x ∷ []
  dropped-only None f x e = let z : ◌≡◌ {A = Result Slot Refusal} (Err UnknownTransaction) (Ok x) = e in cc
  dropped-only (Some (InProgress at y)) (below, there, is) x e = by (is_undecided y.decision) e
    where
      by : (b : Bool) → cond b (Ok y) (Err CommittedBefore) ≡ Ok x → keep (named t) (map slot_of events) ++ keep (named t) (map slot_of requests) ≡ slot_of x ∷ []
      by true k = let z : y ≡ x = cc in rw (← z) (only-event t events requests far at y is below there).only
      by false k = cc
  dropped-only (Some (OnHold y)) (at, below, there, is) x e = let z : y ≡ x = cc in rw (← z) (only-request t events requests far at y is below there).only

  -- and the event that a commit marks stands at its place
  pub marked-there : (found : std.Option Found) → Finds t events requests found → (at : ℕ) → commit_answer found ≡ Ok at → (at < a.progressing) × ((get_or a.progress at blank).transaction ≡ t)
  marked-there None f at e = let z : ◌≡◌ {A = Result ℕ Refusal} (Err UnknownTransaction) (Ok at) = e in cc
  marked-there (Some (OnHold x)) f at e = let z : ◌≡◌ {A = Result ℕ Refusal} (Err HeldTransaction) (Ok at) = e in cc
  marked-there (Some (InProgress place x)) (below, there, is) at e = by (is_undecided x.decision) e
    where
      by : (b : Bool) → cond b (Ok place) (Err CommittedAlready) ≡ Ok at → (at < a.progressing) × ((get_or a.progress at blank).transaction ≡ t)
      by true k =
          let z : place ≡ at = cc in
          let within : place < a.progressing = omega (arith, length-take a.progressing a.progress) in
          rw (← z, ← get_or-take a.progressing a.progress place blank within, there) (within, is)
      by false k = cc
