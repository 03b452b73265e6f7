-- In order, exactly: each clause's test against its plain form, by induction on the lists; the guards through the walk down the events, the oldest held request through its verdict.
-- Assumes nothing.
use Prim.Native.Nat.{ℕ, ◌≤◌, ◌<◌, ◌^◌}
use mathlib.Core.Path.{◌≡◌, refl, sym, ◌∙◌, ap}
use mathlib.Core.Logic.{◌⊎◌, inl, inr}
use mathlib.Core.Bool.{Bool, true, false, not, true≢false, false≢true}
use mathlib.Core.List.{List, [], ◌∷◌, ◌++◌, append-nil, append_assoc}
use native.Mathlib.Omega.{arith}
use lib.Dec.{leb}
use lib.ListN.{length}
use borrow.Author.Tests.{le-leb, leb-true, leb-false, eq-eqb, eqb-true}
use Rattle.rule.specs.Lists.{every, some_of, numbers}
use Rattle.rule.specs.Rule.{Rule, guard, Decision, undecided, committed, Slot, slot, Account, Message, new_account, Verdict, accept, reject, hold}
use Rattle.rule.specs.Outcome.{undecided_of, bit, outcome, outcomes}
use Rattle.rule.specs.Weigh.{decide}
use Rattle.rule.specs.Step.{named}
use Rattle.rule.specs.Call.{call, reached}
use Rattle.rule.specs.Exact.{chosen_state}
use Rattle.rule.specs.InOrder.{apart, oldest_undecided, without_decision, stays_held, guarded, oldest_stays_held, is_in_order}
use Rattle.rule.specs.InOrderExactly.{Ordered, InOrderExactly, ReachedInOrder, CallsKeepOrder}
use Rattle.rule.proofs.Lists.{and_left, and_right, and_both, some-parts, parts-some, every-parts, parts-every, every_map, every-number, number-every}
use Rattle.rule.proofs.Exact.{outcome-bits}
use Rattle.rule.proofs.Vote.{vote}
use Rattle.rule.proofs.Apart.{apart-at}
use Rattle.rule.proofs.Safe.{safe-every, guarded-safe}
use Rattle.rule.proofs.InOrder.{order-clauses, clauses-order, reached-order, call-order}

-- a test that is not true is false
refuted : (b : Bool) → (b ≡ true → ⊥) → b ≡ false
refuted true h = absurd (h refl)
refuted false h = refl

pub held-verdict : (v : Verdict) → stays_held v ≡ true → v ≡ hold
held-verdict accept h = absurd (false≢true h)
held-verdict reject h = absurd (false≢true h)
held-verdict hold h = refl

module _ {G E : Type 0} where
  -- transactions apart: those at any two places differ,
  apart-differ : (xs before between behind : List (Slot G E)) (t t' : ℕ) (g g' : G) (e e' : E) (d d' : Decision) → apart xs ≡ true
      → xs ≡ before ++ (slot t g e d ∷ (between ++ (slot t' g' e' d' ∷ behind))) → t ≡ t' → ⊥
  apart-differ xs before between behind t t' g g' e e' d d' h q same =
      let far = (apart-at before t g e d (between ++ (slot t' g' e' d' ∷ behind)) (rw q at h)).1 in
      true≢false (sym (parts-some (named t) between (slot t' g' e' d') behind (eq-eqb t t' same)) ∙ far)

  differ-apart : (xs : List (Slot G E))
      → ((before between behind : List (Slot G E)) (t t' : ℕ) (g g' : G) (e e' : E) (d d' : Decision)
      → xs ≡ before ++ (slot t g e d ∷ (between ++ (slot t' g' e' d' ∷ behind))) → t ≡ t' → ⊥)
      → apart xs ≡ true
  differ-apart [] h = refl
  differ-apart (slot t g e d ∷ xs) h =
      and_both (not (some_of (named t) xs)) (apart xs)
      (rw (refuted (some_of (named t) xs) (λ q. let r = some-parts (named t) xs q in meets r.0 r.1 r.2 r.3 r.4)))
      (differ-apart xs (λ before between behind t₁ t₂ g₁ g₂ e₁ e₂ d₁ d₂ q. h (slot t g e d ∷ before) between behind t₁ t₂ g₁ g₂ e₁ e₂ d₁ d₂ (ap (λ (l : List (Slot G E)). slot t g e d ∷ l) q)))
    where
      meets : (before : List (Slot G E)) (x : Slot G E) (behind : List (Slot G E)) → xs ≡ before ++ (x ∷ behind) → named t x ≡ true → ⊥
      meets before (slot t' g' e' d') behind q k = h [] before behind t t' g g' e e' d d' (ap (λ (l : List (Slot G E)). slot t g e d ∷ l) q) (eqb-true t t' k)

  -- no decision
  without-undecided : (t : ℕ) (g : G) (e : E) (d : Decision) → without_decision (slot t g e d) ≡ true → d ≡ undecided
  without-undecided t g e undecided h = refl
  without-undecided t g e committed h = absurd (false≢true h)

  undecided-without : (t : ℕ) (g : G) (e : E) (d : Decision) → d ≡ undecided → without_decision (slot t g e d) ≡ true
  undecided-without t g e d h = rw h

  parts-undecided : (xs : List (Slot G E))
      → ((before behind : List (Slot G E)) (t : ℕ) (g : G) (e : E) (d : Decision) → xs ≡ before ++ (slot t g e d ∷ behind) → d ≡ undecided)
      → every without_decision xs ≡ true
  parts-undecided xs h = parts-every without_decision xs at
    where
      at : (before : List (Slot G E)) (x : Slot G E) (behind : List (Slot G E)) → xs ≡ before ++ (x ∷ behind) → without_decision x ≡ true
      at before (slot t g e d) behind q = undecided-without t g e d (h before behind t g e d q)

  -- the oldest event
  pub oldest-undecided : (xs behind : List (Slot G E)) (t : ℕ) (g : G) (e : E) (d : Decision) → oldest_undecided xs ≡ true → xs ≡ slot t g e d ∷ behind → d ≡ undecided
  oldest-undecided xs behind t g e undecided h q = refl
  oldest-undecided xs behind t g e committed h q = absurd (false≢true (rw q at h))

  undecided-oldest : (xs : List (Slot G E))
      → ((behind : List (Slot G E)) (t : ℕ) (g : G) (e : E) (d : Decision) → xs ≡ slot t g e d ∷ behind → d ≡ undecided) → oldest_undecided xs ≡ true
  undecided-oldest [] h = refl
  undecided-oldest (slot t g e d ∷ xs) h = rw (h xs t g e d refl)

module _ {G S E B : Type 0} (R : Rule S E B) where
  -- a test in every outcome, by the outcomes' numbers
  pub every-outcome : (p : S → Bool) (xs : List (Slot G E)) (s : S) → every p (outcomes R xs s) ≡ true
      → (n : ℕ) → n < 2 ^ undecided_of xs → p (chosen_state R xs (bit n) s) ≡ true
  unfolding outcomes
  every-outcome p xs s h n l =
      ap p (sym (outcome-bits R xs n s))
      ∙ every-number (λ (k : ℕ). p (outcome R xs k s)) 0 (2 ^ undecided_of xs)
      (sym (every_map p (λ (k : ℕ). outcome R xs k s) (numbers 0 (2 ^ undecided_of xs))) ∙ h) n (omega arith) (omega arith)

  outcome-every : (p : S → Bool) (xs : List (Slot G E)) (s : S) → ((n : ℕ) → n < 2 ^ undecided_of xs → p (chosen_state R xs (bit n) s) ≡ true)
      → every p (outcomes R xs s) ≡ true
  unfolding outcomes
  outcome-every p xs s h =
      every_map p (λ (k : ℕ). outcome R xs k s) (numbers 0 (2 ^ undecided_of xs))
      ∙ number-every (λ (k : ℕ). p (outcome R xs k s)) 0 (2 ^ undecided_of xs) (λ n l u. ap p (outcome-bits R xs n s) ∙ h n (omega arith))

  parts-guarded : (s : S) (before rest : List (Slot G E))
      → ((between behind : List (Slot G E)) (t : ℕ) (g : G) (e : E) (d : Decision) → rest ≡ between ++ (slot t g e d ∷ behind)
      → every (guard R e) (outcomes R (before ++ between) s) ≡ true)
      → guarded R s before rest ≡ true
  parts-guarded s before [] h = refl
  parts-guarded s before (slot t g e d ∷ rest) h =
      and_both (every (guard R e) (outcomes R before s)) (guarded R s (before ++ (slot t g e d ∷ [])) rest)
      (rw (append-nil before) at (h [] rest t g e d refl))
      (parts-guarded s (before ++ (slot t g e d ∷ [])) rest
      (λ between behind t' g' e' d' q.
      rw (append_assoc before (slot t g e d ∷ []) between) (h (slot t g e d ∷ between) behind t' g' e' d' (ap (λ (l : List (Slot G E)). slot t g e d ∷ l) q))))

  -- the oldest held request stays held: no place is free, or it is weighed so
  abbrev Stays : S → List (Slot G E) → E → Type 0
  Stays s progress e =
      (R.progress_limit ≤ length progress)
      ⊎ (((n : ℕ) × (n < 2 ^ undecided_of progress) × (guard R e (chosen_state R progress (bit n) s) ≡ true))
      × ((n : ℕ) × (n < 2 ^ undecided_of progress) × (guard R e (chosen_state R progress (bit n) s) ≡ false)))

  verdict-stays : (s : S) (progress : List (Slot G E)) (e : E) → stays_held (decide R e s progress).verdict ≡ true → Stays s progress e
  verdict-stays s progress e h = by (leb R.progress_limit (length progress)) refl
    where
      by : (b : Bool) → leb R.progress_limit (length progress) ≡ b → Stays s progress e
      by true q = inl (leb-true R.progress_limit (length progress) q)
      by false q = inr (((vote R e s progress []).held refl (leb-false R.progress_limit (length progress) q)).0 (held-verdict (decide R e s progress).verdict h))

  stays-verdict : (s : S) (progress : List (Slot G E)) (e : E) → Stays s progress e → stays_held (decide R e s progress).verdict ≡ true
  stays-verdict s progress e (inl l) = ap stays_held ((vote R e s progress []).full l).0
  stays-verdict s progress e (inr h) = ap stays_held (by (leb R.progress_limit (length progress)) refl)
    where
      by : (b : Bool) → leb R.progress_limit (length progress) ≡ b → (decide R e s progress).verdict ≡ hold
      by true q = ((vote R e s progress []).full (leb-true R.progress_limit (length progress) q)).0
      by false q = ((vote R e s progress []).held refl (leb-false R.progress_limit (length progress) q)).1 h

  stays-first : (s : S) (progress held behind : List (Slot G E)) (t : ℕ) (g : G) (e : E) (d : Decision)
      → oldest_stays_held R s progress held ≡ true → held ≡ slot t g e d ∷ behind → Stays s progress e
  stays-first s progress held behind t g e d h q = verdict-stays s progress e (rw q at h)

  first-stays : (s : S) (progress held : List (Slot G E))
      → ((behind : List (Slot G E)) (t : ℕ) (g : G) (e : E) (d : Decision) → held ≡ slot t g e d ∷ behind → Stays s progress e)
      → oldest_stays_held R s progress held ≡ true
  first-stays s progress [] h = refl
  first-stays s progress (slot t g e d ∷ held) h = stays-verdict s progress e (h held t g e d refl)

  order-ordered : (a : Account G S E) → is_in_order R a ≡ true → Ordered R a
  order-ordered a h =
      let k = order-clauses R a h in
      let within = leb (length a.progress) R.progress_limit in
      let within' = leb (length a.held) R.held_limit in
      record {
        few = leb-true (length a.progress) R.progress_limit (and_left within within' k.counts);
        few_held = leb-true (length a.held) R.held_limit (and_right within within' k.counts);
        state = k.state;
        differ = λ before between behind t t' g g' e e' d d'. apart-differ (a.progress ++ a.held) before between behind t t' g g' e e' d d' k.transactions;
        undecided_held = λ before behind t g e d q. without-undecided t g e d (every-parts without_decision before (slot t g e d) behind (rw q at k.decisions));
        guards =
            λ before behind t g e d q.
            every-outcome (guard R e) before a.state
            (safe-every R before t g e d behind a.state (rw q at (guarded-safe R a.state [] a.progress tt k.guards)));
        oldest = λ behind t g e d. oldest-undecided a.progress behind t g e d k.oldest;
        stays = λ behind t g e d. stays-first a.state a.progress a.held behind t g e d k.stays;
      }

  ordered-order : (a : Account G S E) → Ordered R a → is_in_order R a ≡ true
  ordered-order a h =
      clauses-order R a
      (record {
        counts =
            and_both (leb (length a.progress) R.progress_limit) (leb (length a.held) R.held_limit)
            (le-leb (length a.progress) R.progress_limit h.few) (le-leb (length a.held) R.held_limit h.few_held);
        state = h.state;
        transactions = differ-apart (a.progress ++ a.held) h.differ;
        decisions = parts-undecided a.held h.undecided_held;
        guards = parts-guarded a.state [] a.progress (λ before behind t g e d q. outcome-every (guard R e) before a.state (h.guards before behind t g e d q));
        oldest = undecided-oldest a.progress h.oldest;
        stays = first-stays a.state a.progress a.held h.stays;
      })

  pub in-order-exactly : (a : Account G S E) → InOrderExactly R a
  in-order-exactly a = (order-ordered a, ordered-order a)

  pub reached-in-order : (ms : List (Message G E)) → ReachedInOrder R ms
  reached-in-order ms sound = order-ordered (reached R (new_account R G) ms) (reached-order R sound ms)

  pub calls-keep-order : (a : Account G S E) (m : Message G E) → CallsKeepOrder R a m
  calls-keep-order a m sound h = order-ordered (call R a m).account (call-order R sound a m (ordered-order a h))
