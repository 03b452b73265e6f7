-- What is filed with an event never matters: every definition goes through the slots without looking at it, by induction on the slots.
-- Assumes nothing.
use Prim.Native.Nat.{ℕ, suc, ◌/◌, ◌%◌, ◌^◌}
use mathlib.Core.Path.{◌≡◌, refl, sym, ◌∙◌, ap, ap₂, fun_ext}
use mathlib.Core.Bool.{Bool, true, false, cond, not, ◌||◌}
use mathlib.Core.List.{List, [], ◌∷◌, ◌++◌, map}
use mathlib.Core.Option.{Option, none, some}
use lib.Dec.{eqb}
use lib.ListN.{length-map}
use Rattle.rule.specs.Lists.{some_of, keep, numbers}
use Rattle.rule.specs.Rule.{Rule, undecided, committed, Slot, slot, Account, Message, request, commit, abort, Verdict, accept, reject, hold, Weighing, Entry, voted, applied, dropped, new_account}
use Rattle.rule.specs.Outcome.{undecided_of, outcome, outcomes}
use Rattle.rule.specs.Weigh.{decide, decide_behind}
use Rattle.rule.specs.Step.{Step, named, mark, without, dropping, after, settled_state, applications, unsettled, drain_by, asked_by, drain, settle, asked, committing, aborting, step}
use Rattle.rule.specs.Call.{named_committed, refusal, Called, call_by, call, reached}
use Rattle.rule.specs.History.{Seen, history}
use Rattle.rule.specs.Filed.{slot_through, message_through, entry_through, answer_through, seen_through, account_through, NeverLooked, NeverSeen}
use Rattle.rule.proofs.Lists.{map-append}

module _ {G H E : Type 0} (f : G → H) where
  undecided-through : (xs : List (Slot G E)) → undecided_of (map (slot_through f) xs) ≡ undecided_of xs
  undecided-through [] = refl
  undecided-through (slot t g e undecided ∷ xs) = ap suc (undecided-through xs)
  undecided-through (slot t g e committed ∷ xs) = undecided-through xs

  some-through : (p : Slot H E → Bool) (q : Slot G E → Bool) → ((x : Slot G E) → p (slot_through f x) ≡ q x) → (xs : List (Slot G E)) → some_of p (map (slot_through f) xs) ≡ some_of q xs
  some-through p q same [] = refl
  some-through p q same (x ∷ xs) = ap₂ (λ (a b : Bool). a || b) (same x) (some-through p q same xs)

  keep-through : (p : Slot H E → Bool) (q : Slot G E → Bool) → ((x : Slot G E) → p (slot_through f x) ≡ q x) → (xs : List (Slot G E)) → keep p (map (slot_through f) xs) ≡ map (slot_through f) (keep q xs)
  keep-through p q same [] = refl
  keep-through p q same (x ∷ xs) = rw (same x) (go (q x) (keep-through p q same xs))
    where
      go : (b : Bool) → keep p (map (slot_through f) xs) ≡ map (slot_through f) (keep q xs)
          → cond b (slot_through f x ∷ keep p (map (slot_through f) xs)) (keep p (map (slot_through f) xs)) ≡ map (slot_through f) (cond b (x ∷ keep q xs) (keep q xs))
      go true h = ap (λ (l : List (Slot H E)). slot_through f x ∷ l) h
      go false h = h

  named-through : (u : ℕ) (x : Slot G E) → named u (slot_through f x) ≡ named u x
  named-through u (slot t g e d) = refl

  committed-through : (u : ℕ) (x : Slot G E) → named_committed u (slot_through f x) ≡ named_committed u x
  committed-through u (slot t g e undecided) = refl
  committed-through u (slot t g e committed) = refl

  mark-through : (u : ℕ) (xs : List (Slot G E)) → mark u (map (slot_through f) xs) ≡ map (slot_through f) (mark u xs)
  mark-through u [] = refl
  mark-through u (slot t g e d ∷ xs) = ap (λ (l : List (Slot H E)). slot t (f g) e (cond (eqb u t) committed d) ∷ l) (mark-through u xs)

  without-through : (u : ℕ) (xs : List (Slot G E)) → without u (map (slot_through f) xs) ≡ map (slot_through f) (without u xs)
  without-through u xs = keep-through (λ (x : Slot H E). not (named u x)) (λ (x : Slot G E). not (named u x)) (λ x. ap not (named-through u x)) xs

  unsettled-through : (xs : List (Slot G E)) → unsettled (map (slot_through f) xs) ≡ map (slot_through f) (unsettled xs)
  unsettled-through [] = refl
  unsettled-through (slot t g e undecided ∷ xs) = refl
  unsettled-through (slot t g e committed ∷ xs) = unsettled-through xs

dropping-through : {G H E : Type 0} (B : Type 0) (f : G → H) (xs : List (Slot G E)) → map (dropping {B = B}) (map (slot_through f) xs) ≡ map (entry_through f) (map dropping xs)
dropping-through B f [] = refl
dropping-through {H = H} {E = E} B f (slot t g e d ∷ xs) = ap (λ (l : List (Entry H E B)). dropped t (f g) e ∷ l) (dropping-through B f xs)

module _ {G H S E B : Type 0} (f : G → H) where
  abbrev step_through : Step G S E B → Step H S E B
  step_through r = record { account = account_through f r.account; entries = map (entry_through f) r.entries }

  after-through : (xs : List (Entry G E B)) (r : Step G S E B) → step_through (after xs r) ≡ after (map (entry_through f) xs) (step_through r)
  after-through xs r =
      ap (λ (l : List (Entry H E B)). let q : Step H S E B = record { account = account_through f r.account; entries = l } in q)
      (map-append (entry_through f) xs r.entries)

module _ {G H S E B : Type 0} (R : Rule S E B) (f : G → H) where
  outcome-through : (xs : List (Slot G E)) (n : ℕ) (s : S) → outcome R (map (slot_through f) xs) n s ≡ outcome R xs n s
  outcome-through [] n s = refl
  outcome-through (slot t g e undecided ∷ xs) n s = outcome-through xs (n / 2) (cond (eqb (n % 2) 1) (R.effect e s) s)
  outcome-through (slot t g e committed ∷ xs) n s = outcome-through xs n (R.effect e s)

  outcomes-through : (xs : List (Slot G E)) (s : S) → outcomes R (map (slot_through f) xs) s ≡ outcomes R xs s
  unfolding outcomes
  outcomes-through xs s =
      ap₂ (λ (o : ℕ → S) (u : ℕ). map o (numbers 0 (2 ^ u))) (fun_ext (λ n. outcome-through xs n s)) (undecided-through f xs)

  decide-through : (e : E) (s : S) (xs : List (Slot G E)) → decide R e s (map (slot_through f) xs) ≡ decide R e s xs
  unfolding decide
  decide-through e s xs =
      rw (length-map xs (slot_through f), outcomes-through xs s, outcome-through xs 0 s)

  behind-through : (e : E) (s : S) (held xs : List (Slot G E)) → decide_behind R (map (slot_through f) held) e s (map (slot_through f) xs) ≡ decide_behind R held e s xs
  behind-through e s [] xs = decide-through e s xs
  behind-through e s (x ∷ held) xs = refl

  state-through : (xs : List (Slot G E)) (s : S) → settled_state R s (map (slot_through f) xs) ≡ settled_state R s xs
  state-through [] s = refl
  state-through (slot t g e undecided ∷ xs) s = refl
  state-through (slot t g e committed ∷ xs) s = state-through xs (R.effect e s)

  applications-through : (xs : List (Slot G E)) (s : S) → applications R s (map (slot_through f) xs) ≡ map (entry_through f) (applications R s xs)
  applications-through [] s = refl
  applications-through (slot t g e undecided ∷ xs) s = refl
  applications-through (slot t g e committed ∷ xs) s =
      ap (λ (l : List (Entry H E B)). applied t (f g) e (R.shown (R.effect e s)) ∷ l) (applications-through xs (R.effect e s))

  drain-through : (s : S) (held xs : List (Slot G E)) → drain R s (map (slot_through f) xs) (map (slot_through f) held) ≡ step_through f (drain R s xs held)
  drain-through s [] xs = refl
  drain-through s (slot t g e d ∷ held) xs = rw (decide-through e s xs) (by (decide R e s xs).verdict (decide R e s xs) (λ ys. drain-through s held ys))
    where
      by : (v : Verdict) (w : Weighing) → ((ys : List (Slot G E)) → drain R s (map (slot_through f) ys) (map (slot_through f) held) ≡ step_through f (drain R s ys held))
          → drain_by v w (slot t (f g) e d) s (map (slot_through f) xs) (map (slot_through f) held) (λ (ys : List (Slot H E)). drain R s ys (map (slot_through f) held))
          ≡ step_through f (drain_by v w (slot t g e d) s xs held (λ (ys : List (Slot G E)). drain R s ys held))
      by accept w rest =
          ap (after (voted t (f g) e w ∷ []))
          (ap (λ (l : List (Slot H E)). drain R s l (map (slot_through f) held)) (sym (map-append (slot_through f) xs (slot t g e undecided ∷ []))) ∙ rest (xs ++ (slot t g e undecided ∷ [])))
      by reject w rest = ap (after (voted t (f g) e w ∷ [])) (rest xs)
      by hold w rest = refl

  settle-through : (s : S) (xs held : List (Slot G E)) → settle R s (map (slot_through f) xs) (map (slot_through f) held) ≡ step_through f (settle R s xs held)
  unfolding settle
  settle-through s xs held =
      rw (applications-through xs s, state-through xs s, unsettled-through f xs, drain-through (settled_state R s xs) held (unsettled xs))
      (sym (after-through f (applications R s xs) (drain R (settled_state R s xs) (unsettled xs) held)))

  asked_by_lem : (v : Verdict) (a : Account G S E) (t : ℕ) (g : G) (e : E)
      → asked_by v a.state (map (slot_through f) a.progress) (map (slot_through f) a.held) (slot t (f g) e undecided)
      ≡ account_through f (asked_by v a.state a.progress a.held (slot t g e undecided))
  asked_by_lem accept a t g e = rw (map-append (slot_through f) a.progress (slot t g e undecided ∷ []))
  asked_by_lem reject a t g e = refl
  asked_by_lem hold a t g e = rw (map-append (slot_through f) a.held (slot t g e undecided ∷ []))

  step_through_lem : (a : Account G S E) (m : Message G E) → step R (account_through f a) (message_through f m) ≡ step_through f (step R a m)
  unfolding asked committing aborting
  step_through_lem a (request t g e) =
      rw (behind-through e a.state a.held a.progress) (rw (asked_by_lem (decide_behind R a.held e a.state a.progress).verdict a t g e))
  step_through_lem a (commit t g) = rw (mark-through f t a.progress, settle-through a.state (mark t a.progress) a.held)
  step_through_lem a (abort t g) =
      rw (
        keep-through f (named t) (named t) (named-through f t) a.progress,
        keep-through f (named t) (named t) (named-through f t) a.held,
        ← map-append (slot_through f) (keep (named t) a.progress) (keep (named t) a.held),
        dropping-through B f (keep (named t) a.progress ++ keep (named t) a.held),
        without-through f t a.progress,
        without-through f t a.held,
        settle-through a.state (without t a.progress) (without t a.held),
      )
      (sym (after-through f (map dropping (keep (named t) a.progress ++ keep (named t) a.held)) (settle R a.state (without t a.progress) (without t a.held))))

  refusal-through : (a : Account G S E) (m : Message G E) → refusal R (account_through f a) (message_through f m) ≡ refusal R a m
  refusal-through a (request t g e) =
      rw (some-through f (named t) (named t) (named-through f t) a.progress, some-through f (named t) (named t) (named-through f t) a.held, length-map a.held (slot_through f))
  refusal-through a (commit t g) =
      rw (
        some-through f (named t) (named t) (named-through f t) a.progress,
        some-through f (named t) (named t) (named-through f t) a.held,
        some-through f (named_committed t) (named_committed t) (committed-through f t) a.progress,
      )
  refusal-through a (abort t g) =
      rw (
        some-through f (named t) (named t) (named-through f t) a.progress,
        some-through f (named t) (named t) (named-through f t) a.held,
        some-through f (named_committed t) (named_committed t) (committed-through f t) a.progress,
      )

  called_through : Called G S E B → Called H S E B
  called_through r = record { account = account_through f r.account; answer = answer_through f r.answer }

  by-through : (o : Option ℕ) (a : Account G S E) (r : Step G S E B) → call_by o (account_through f a) (step_through f r) ≡ called_through (call_by o a r)
  unfolding called_through
  by-through (some n) a r = refl
  by-through none a r = refl

  call-through : (a : Account G S E) (m : Message G E) → call R (account_through f a) (message_through f m) ≡ called_through (call R a m)
  unfolding call
  call-through a m = rw (refusal-through a m, step_through_lem a m) (by-through (refusal R a m) a (step R a m))

  -- one call, on any account
  pub never-looked : (a : Account G S E) (m : Message G E) → NeverLooked R f a m
  unfolding called_through
  never-looked a m =
      record {
        account = ap (λ (r : Called H S E B). r.account) (call-through a m);
        answer = ap (λ (r : Called H S E B). r.answer) (call-through a m);
      }

  reached-through : (ms : List (Message G E)) (a : Account G S E) → reached R (account_through f a) (map (message_through f) ms) ≡ account_through f (reached R a ms)
  reached-through [] a = refl
  reached-through (m ∷ ms) a =
      ap (λ (b : Account H S E). reached R b (map (message_through f) ms)) (never-looked a m).account ∙ reached-through ms (call R a m).account

  history-through : (ms : List (Message G E)) (a : Account G S E) → history R (account_through f a) (map (message_through f) ms) ≡ map (seen_through f) (history R a ms)
  history-through [] a = refl
  history-through (m ∷ ms) a =
      rw ((never-looked a m).account, (never-looked a m).answer)
      (ap (λ (l : List (Seen H E B)). record { message = message_through f m; answer = answer_through f (call R a m).answer } ∷ l) (history-through ms (call R a m).account))

  -- all that is seen of a list of messages to a new account
  pub never-seen : (ms : List (Message G E)) → NeverSeen R f ms
  never-seen ms = record { account = reached-through ms (new_account R G); history' = history-through ms (new_account R G) }
