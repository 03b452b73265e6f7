-- What one call writes has its shape: applications and drained votes by induction on the slots; an abort of an account whose transactions are apart drops one.
-- Assumes nothing.
use Prim.Native.Nat.{ℕ, suc, ◌+◌, ◌≤◌, ◌<◌}
use mathlib.Core.Path.{◌≡◌, refl, sym, ◌∙◌, ap}
use mathlib.Core.Logic.{◌⊎◌, inl, inr, ⊎_elim}
use mathlib.Core.Bool.{Bool, true, false, cond, not, true≢false}
use mathlib.Core.List.{List, [], ◌∷◌, ◌++◌, map}
use mathlib.Core.Option.{none}
use native.Mathlib.Omega.{arith}
use lib.ListN.{length, length-map}
use Rattle.rule.specs.Lists.{some_of, keep}
use Rattle.rule.specs.Rule.{Rule, undecided, committed, Slot, slot, Account, Message, request, commit, abort, Verdict, accept, reject, hold, Weighing, Entry, dropped}
use Rattle.rule.specs.Weigh.{decide, decide_behind}
use Rattle.rule.specs.Step.{named, mark_one, mark, without, dropping, settled_state, applications, unsettled, drain_by, drain, settle, asked, committing, aborting, step}
use Rattle.rule.specs.Call.{named_committed, refusal}
use Rattle.rule.specs.InOrder.{apart}
use Rattle.rule.specs.Written.{OnlyApplied, OnlyDecided, Following, Shape}
use Rattle.rule.proofs.Lists.{either, keep-none}
use Rattle.rule.proofs.Apart.{length-keep, apart-left, apart-right, apart_other, only_one}
use Rattle.rule.proofs.Taken.{free-abort}

module _ {A : Type 0} (p : A → Bool) where
  -- those taken out and those left are all
  length-parts : (xs : List A) → length (keep p xs) + length (keep (λ (x : A). not (p x)) xs) ≡ length xs
  length-parts [] = refl
  length-parts (x ∷ xs) = go (p x) (length-parts xs)
    where
      go : (b : Bool) → length (keep p xs) + length (keep (λ (x : A). not (p x)) xs) ≡ length xs
          → length (cond b (x ∷ keep p xs) (keep p xs)) + length (cond (not b) (x ∷ keep (λ (x : A). not (p x)) xs) (keep (λ (x : A). not (p x)) xs)) ≡ suc (length xs)
      go true h = omega arith
      go false h = omega arith

-- a verdict of yes or no is none of holding
accept≢hold : accept ≡ hold → ⊥
accept≢hold q = let z : ◌≡◌ {A = ℕ} 0 1 = cc in omega arith

reject≢hold : reject ≡ hold → ⊥
reject≢hold q = let z : ◌≡◌ {A = ℕ} 0 1 = cc in omega arith

module _ {G S E B : Type 0} (R : Rule S E B) where
  applications-only : (xs : List (Slot G E)) (s : S) → OnlyApplied (applications R s xs)
  applications-only [] s = tt
  applications-only (slot t g e undecided ∷ xs) s = tt
  applications-only (slot t g e committed ∷ xs) s = applications-only xs (R.effect e s)

  applications-few : (xs : List (Slot G E)) (s : S) → length (applications R s xs) ≤ length xs
  applications-few [] s = omega arith
  applications-few (slot t g e undecided ∷ xs) s = omega arith
  applications-few (slot t g e committed ∷ xs) s = omega (arith, applications-few xs (R.effect e s))

  drained-votes : (held progress : List (Slot G E)) (s : S) → OnlyDecided (drain R s progress held).entries × (length (drain R s progress held).entries ≤ length held)
  drained-votes [] progress s = (tt, omega arith)
  drained-votes (slot t g e d ∷ held) progress s = by (decide R e s progress).verdict refl (λ progress'. drained-votes held progress' s)
    where
      w : Weighing
      w = decide R e s progress

      by : (v : Verdict) → w.verdict ≡ v
          → ((progress' : List (Slot G E)) → OnlyDecided (drain R s progress' held).entries × (length (drain R s progress' held).entries ≤ length held))
          → OnlyDecided (drain_by v w (slot t g e d) s progress held (λ (progress' : List (Slot G E)). drain R s progress' held)).entries
          × (length (drain_by v w (slot t g e d) s progress held (λ (progress' : List (Slot G E)). drain R s progress' held)).entries ≤ suc (length held))
      by accept v rest = let r = rest (progress ++ (slot t g e undecided ∷ [])) in ((λ held. accept≢hold (sym v ∙ held), r.0), omega (arith, r.1))
      by reject v rest = let r = rest progress in ((λ held. reject≢hold (sym v ∙ held), r.0), omega (arith, r.1))
      by hold v rest = (tt, omega arith)

  settled-following : (progress held : List (Slot G E)) (s : S) → Following (length progress) (length held) (settle R s progress held).entries
  unfolding settle
  settled-following progress held s =
      let votes = drained-votes held (unsettled progress) (settled_state R s progress) in
      record {
        applications = applications R s progress;
        decisions = (drain R (settled_state R s progress) (unsettled progress) held).entries;
        split = refl;
        only_applied = applications-only progress s;
        only_decided = votes.0;
        few = applications-few progress s;
        few_decided = votes.1;
      }

  -- the shape of an abort, from its one dropped entry and the slot that is gone
  rest-shape : (a : Account G S E) (t : ℕ) (g g' : G) (e : E) (own : List (Entry G E B)) → own ≡ dropped t g' e ∷ []
      → length (without t a.progress) + length (without t a.held) < length a.progress + length a.held
      → Shape a (abort t g) (own ++ (settle R a.state (without t a.progress) (without t a.held)).entries)
  rest-shape a t g g' e own q less = (
    g',
    e,
    (settle R a.state (without t a.progress) (without t a.held)).entries,
    length (without t a.progress),
    length (without t a.held),
    rw q,
    settled-following (without t a.progress) (without t a.held) a.state,
    length-keep (λ (x : Slot G E). not (named t x)) a.progress,
    length-keep (λ (x : Slot G E). not (named t x)) a.held,
    less,
  )

  -- an abort drops the one slot of its transaction, in progress or held
  aborted-shape : (a : Account G S E) (t : ℕ) (g : G) → apart (a.progress ++ a.held) ≡ true
      → (some_of (named t) a.progress ≡ true) ⊎ (some_of (named t) a.held ≡ true) → Shape a (abort t g) (aborting R a t).entries
  unfolding aborting
  aborted-shape a t g h (inl p) =
      let one = only_one t a.progress (apart-left a.progress a.held h) p in
      let others = keep-none (named t) a.held (apart_other t a.progress a.held h p) in
      rest-shape a t g one.0 one.1 (map dropping (keep (named t) a.progress ++ keep (named t) a.held)) (rw (one.3, others))
      (omega (arith, length-parts (named t) a.progress, ap length one.3, length-keep (λ (x : Slot G E). not (named t x)) a.held))
  aborted-shape a t g h (inr p) =
      let one = only_one t a.held (apart-right a.progress a.held h) p in
      let others =
      keep-none (named t) a.progress
      (⊎_elim (λ k. absurd (true≢false (sym p ∙ apart_other t a.progress a.held h k))) (λ k. k) (either (some_of (named t) a.progress)))
      in
      rest-shape a t g one.0 one.1 (map dropping (keep (named t) a.progress ++ keep (named t) a.held)) (rw (one.3, others))
      (omega (arith, length-parts (named t) a.held, ap length one.3, length-keep (λ (x : Slot G E). not (named t x)) a.progress))

  -- the entries of any message that is not refused, on any account whose transactions are apart
  pub step-shape : (a : Account G S E) (m : Message G E) → apart (a.progress ++ a.held) ≡ true → refusal R a m ≡ none → Shape a m (step R a m).entries
  unfolding asked committing
  step-shape a (request t g e) h free =
      (decide_behind R a.held e a.state a.progress, refl)
  step-shape a (commit t g) h free =
      ((settle R a.state (mark t a.progress) a.held).entries, refl, rw (← length-map a.progress (mark_one t)) (settled-following (mark t a.progress) a.held a.state))
  step-shape a (abort t g) h free =
      aborted-shape a t g h (free-abort (some_of (named t) a.progress) (some_of (named t) a.held) (some_of (named_committed t) a.progress) free).0
