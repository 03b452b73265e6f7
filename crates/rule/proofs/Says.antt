-- A call brings nothing into an account or an entry that the account and the message did not say: by induction on the slots.
-- Assumes nothing.
use Prim.Native.Nat.{ℕ, ◌≤◌}
use mathlib.Core.Path.{◌≡◌, refl, sym}
use mathlib.Core.Bool.{Bool, true, false, cond, not}
use mathlib.Core.List.{List, [], ◌∷◌, ◌++◌, map}
use mathlib.Core.Option.{Option, none, some, some-ne-none}
use native.Mathlib.Omega.{arith}
use native.Mathlib.Nat.{le_trans, le_of_eq}
use lib.Dec.{leb}
use lib.Pow.{pow_mono}
use lib.ListN.{length}
use borrow.Author.Tests.{leb-false}
use Rattle.rule.specs.Lists.{keep}
use Rattle.rule.specs.Rule.{Rule, undecided, committed, Slot, slot, Account, Message, request, commit, abort, Verdict, accept, reject, hold, Weighing, Entry}
use Rattle.rule.specs.Outcome.{undecided_of, outcome, outcomes}
use Rattle.rule.specs.Weigh.{unweighed, reason_by, weigh, weighing, decide, decide_behind}
use Rattle.rule.specs.Step.{Step, named, mark, without, dropping, settled_state, applications, unsettled, drain_by, asked_by, drain, settle, asked, committing, aborting, step}
use Rattle.rule.specs.Call.{written, refusal, call_by, call}
use Rattle.rule.specs.Says.{SlotsSay, MessageSays, WeighingSays, AccountSays, EntriesSay}
use Rattle.rule.proofs.Outcomes.{outcomes-length}
use Rattle.rule.proofs.Exact.{reason-alone}

undecided-few : {G E : Type 0} (xs : List (Slot G E)) → undecided_of xs ≤ length xs
undecided-few [] = omega arith
undecided-few (slot t g e undecided ∷ xs) = omega (arith, undecided-few xs)
undecided-few (slot t g e committed ∷ xs) = omega (arith, undecided-few xs)

module _ {S E B : Type 0} (R : Rule S E B) (e : E) where
  -- a reason that a verdict takes over is the one in the state
  taken-over : (v : Verdict) (s' : S) (n : ℕ) → reason_by v (R.reason e s') ≡ some n → R.reason e s' ≡ some n
  taken-over accept s' n h = absurd (some-ne-none n (sym h))
  taken-over reject s' n h = h
  taken-over hold s' n h = absurd (some-ne-none n (sym h))

  unweighed-says : WeighingSays R e unweighed
  unweighed-says = record { few = omega arith; given = λ n h. absurd (some-ne-none n (sym h)); alone = λ h. refl }

module _ {G S E B : Type 0} (R : Rule S E B) (e : E) (s : S) where
  decide-says : (xs : List (Slot G E)) → WeighingSays R e (decide R e s xs)
  unfolding decide
  decide-says xs = go (leb R.progress_limit (length xs)) refl
    where
      go : (b : Bool) → leb R.progress_limit (length xs) ≡ b → WeighingSays R e (cond b unweighed (weighing R e s xs))
      go true q = unweighed-says R e
      go false q =
          record {
            few = le_trans (le_of_eq (outcomes-length R xs s)) (pow_mono (omega (arith, undecided-few xs, leb-false R.progress_limit (length xs) q)));
            given = λ n h. (outcome R xs 0 s, taken-over R e (weigh R e (outcomes R xs s)) (outcome R xs 0 s) n h);
            alone = reason-alone (weigh R e (outcomes R xs s)) (R.reason e (outcome R xs 0 s));
          }

  behind-says : (held xs : List (Slot G E)) → WeighingSays R e (decide_behind R held e s xs)
  behind-says [] xs = decide-says xs
  behind-says (x ∷ held) xs = unweighed-says R e

module _ {G E : Type 0} (P : ℕ → G → E → Type 0) where
  say-append : (xs ys : List (Slot G E)) → SlotsSay P xs → SlotsSay P ys → SlotsSay P (xs ++ ys)
  say-append [] ys h k = k
  say-append (slot t g e d ∷ xs) ys h k = (h.0, say-append xs ys h.1 k)

  say-mark : (u : ℕ) (xs : List (Slot G E)) → SlotsSay P xs → SlotsSay P (mark u xs)
  say-mark u [] h = tt
  say-mark u (slot t g e d ∷ xs) h = (h.0, say-mark u xs h.1)

  say-keep : (p : Slot G E → Bool) (xs : List (Slot G E)) → SlotsSay P xs → SlotsSay P (keep p xs)
  say-keep p [] h = tt
  say-keep p (slot t g e d ∷ xs) h = go (p (slot t g e d)) (say-keep p xs h.1)
    where
      go : (b : Bool) → SlotsSay P (keep p xs) → SlotsSay P (cond b (slot t g e d ∷ keep p xs) (keep p xs))
      go true r = (h.0, r)
      go false r = r

  say-unsettled : (xs : List (Slot G E)) → SlotsSay P xs → SlotsSay P (unsettled xs)
  say-unsettled [] h = tt
  say-unsettled (slot t g e undecided ∷ xs) h = h
  say-unsettled (slot t g e committed ∷ xs) h = say-unsettled xs h.1

module _ {G S E B : Type 0} (R : Rule S E B) (P : ℕ → G → E → Type 0) (Q : ℕ → G → Type 0) (K : S → Type 0) (W : B → Type 0)
    (K-kept : (e : E) (s : S) → K s → K (R.effect e s)) (K-shown : (s : S) → K s → W (R.shown s)) where
  -- a step that says no more
  Says : Step G S E B → Type 0
  Says r = AccountSays R P Q K W r.account × EntriesSay R P Q K W r.entries

  entries-append : (xs ys : List (Entry G E B)) → EntriesSay R P Q K W xs → EntriesSay R P Q K W ys → EntriesSay R P Q K W (xs ++ ys)
  entries-append [] ys h k = k
  entries-append (x ∷ xs) ys h k = (h.0, entries-append xs ys h.1 k)

  state-says : (xs : List (Slot G E)) (s : S) → K s → K (settled_state R s xs)
  state-says [] s h = h
  state-says (slot t g e undecided ∷ xs) s h = h
  state-says (slot t g e committed ∷ xs) s h = state-says xs (R.effect e s) (K-kept e s h)

  applications-say : (xs : List (Slot G E)) (s : S) → K s → SlotsSay P xs → EntriesSay R P Q K W (applications R s xs)
  applications-say [] s h k = tt
  applications-say (slot t g e undecided ∷ xs) s h k = tt
  applications-say (slot t g e committed ∷ xs) s h k =
      ((k.0, K-shown (R.effect e s) (K-kept e s h)), applications-say xs (R.effect e s) (K-kept e s h) k.1)

  dropped-say : (xs : List (Slot G E)) → SlotsSay P xs → EntriesSay R P Q K W (map dropping xs)
  dropped-say [] h = tt
  dropped-say (slot t g e d ∷ xs) h = (h.0, dropped-say xs h.1)

  drain-says : (s : S) (held progress : List (Slot G E)) → K s → SlotsSay P progress → SlotsSay P held → Says (drain R s progress held)
  unfolding Says
  drain-says s [] progress h k l = (record { state = h; progress = k; held = tt }, tt)
  drain-says s (slot t g e d ∷ held) progress h k l =
      by (decide R e s progress).verdict (decide R e s progress) (decide-says R e s progress) (λ progress' k'. drain-says s held progress' h k' l.1)
    where
      by : (v : Verdict) (w : Weighing) → WeighingSays R e w → ((progress' : List (Slot G E)) → SlotsSay P progress' → Says (drain R s progress' held))
          → Says (drain_by v w (slot t g e d) s progress held (λ (progress' : List (Slot G E)). drain R s progress' held))
      by accept w says rest =
          let r = rest (progress ++ (slot t g e undecided ∷ [])) (say-append P progress (slot t g e undecided ∷ []) k (l.0, tt)) in
          (r.0, ((l.0, says), r.1))
      by reject w says rest = let r = rest progress k in (r.0, ((l.0, says), r.1))
      by hold w says rest = (record { state = h; progress = k; held = l }, tt)

  settle-says : (s : S) (progress held : List (Slot G E)) → K s → SlotsSay P progress → SlotsSay P held → Says (settle R s progress held)
  unfolding Says settle
  settle-says s progress held h k l =
      let r = drain-says (settled_state R s progress) held (unsettled progress) (state-says progress s h) (say-unsettled P progress k) l in
      (r.0, entries-append (applications R s progress) (drain R (settled_state R s progress) (unsettled progress) held).entries (applications-say progress s h k) r.1)

  step-says : (a : Account G S E) (m : Message G E) → AccountSays R P Q K W a → MessageSays P Q m → Says (step R a m)
  unfolding Says asked committing aborting
  step-says a (request t g e) h k = (by (decide_behind R a.held e a.state a.progress).verdict, ((k, behind-says R e a.state a.held a.progress), tt))
    where
      by : (v : Verdict) → AccountSays R P Q K W (asked_by v a.state a.progress a.held (slot t g e undecided))
      by accept = record { state = h.state; progress = say-append P a.progress (slot t g e undecided ∷ []) h.progress (k, tt); held = h.held }
      by reject = h
      by hold = record { state = h.state; progress = h.progress; held = say-append P a.held (slot t g e undecided ∷ []) h.held (k, tt) }
  step-says a (commit t g) h k =
      let r = settle-says a.state (mark t a.progress) a.held h.state (say-mark P t a.progress h.progress) h.held in
      (r.0, (k, r.1))
  step-says a (abort t g) h k =
      let out : Slot G E → Bool = λ x. not (named t x) in
      let r = settle-says a.state (without t a.progress) (without t a.held) h.state (say-keep P out a.progress h.progress) (say-keep P out a.held h.held) in (
        r.0,
        entries-append (map dropping (keep (named t) a.progress ++ keep (named t) a.held)) (settle R a.state (without t a.progress) (without t a.held)).entries
            (dropped-say (keep (named t) a.progress ++ keep (named t) a.held)
            (say-append P (keep (named t) a.progress) (keep (named t) a.held) (say-keep P (named t) a.progress h.progress) (say-keep P (named t) a.held h.held)))
            r.1,
      )

  -- a call says no more than the account and the message said
  pub call-says : (a : Account G S E) (m : Message G E) → AccountSays R P Q K W a → MessageSays P Q m
      → AccountSays R P Q K W (call R a m).account × EntriesSay R P Q K W (written (call R a m).answer)
  unfolding Says call
  call-says a m h k = by (refusal R a m) (step-says a m h k)
    where
      by : (o : Option ℕ) → Says (step R a m) → AccountSays R P Q K W (call_by o a (step R a m)).account × EntriesSay R P Q K W (written (call_by o a (step R a m)).answer)
      by (some n) r = (h, tt)
      by none r = r
