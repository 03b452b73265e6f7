-- What a request is decided to be is its vote: from the laws on how it is decided and on weighing, each outcome's state by its bits.
-- Assumes nothing.
use Prim.Native.Nat.{ℕ, ◌<◌}
use mathlib.Core.Path.{◌≡◌, refl, sym, ◌∙◌, ap, ap₂}
use mathlib.Core.Logic.{◌⊎◌, inl, inr}
use mathlib.Core.Bool.{Bool, true, false}
use mathlib.Core.List.{List, [], ◌∷◌, cons≢nil}
use mathlib.Core.Option.{Option, none, some, some-ne-none}
use native.Mathlib.Omega.{arith}
use lib.Dec.{leb}
use lib.ListN.{length}
use borrow.Author.Tests.{leb-true, leb-false}
use Rattle.rule.specs.Rule.{Rule, guard, Slot, Verdict, accept, reject, hold, Weighing}
use Rattle.rule.specs.Outcome.{bit, outcome, outcomes}
use Rattle.rule.specs.Weigh.{unweighed, weigh, decide, decide_behind}
use Rattle.rule.specs.Exact.{chosen_state}
use Rattle.rule.specs.Vote.{Vote, VoteExactly}
use Rattle.rule.proofs.Exact.{outcome-bits, outcome-none, exact, decided}

-- a weighing by its parts
one : (w w' : Weighing) → w.verdict ≡ w'.verdict → w.weighed ≡ w'.weighed → w.reason ≡ w'.reason → w ≡ w'
one w w' p q r =
    ap₂ (λ (x : Verdict) (y : ℕ). record { verdict = x; weighed = y; reason = w.reason }) p q
    ∙ ap (λ (o : Option ℕ). record { verdict = w'.verdict; weighed = w'.weighed; reason = o }) r

-- verdicts differ
reject≢hold : reject ≡ hold → ⊥
reject≢hold h = let z : ◌≡◌ {A = ℕ} 0 1 = cc in omega arith

accept≢reject : accept ≡ reject → ⊥
accept≢reject h = let z : ◌≡◌ {A = ℕ} 0 1 = cc in omega arith

-- a reason is found or there is none
either : (o : Option ℕ) → (o ≡ none) ⊎ ((n : ℕ) × (o ≡ some n))
either none = inl refl
either (some n) = inr (n, refl)

module _ {G S E B : Type 0} (R : Rule S E B) (e : E) (s : S) (progress : List (Slot G E)) where
  -- the guard in an outcome, by the outcome's bits
  pub guard-bits : (n : ℕ) → guard R e (outcome R progress n s) ≡ guard R e (chosen_state R progress (bit n) s)
  guard-bits n = ap (guard R e) (outcome-bits R progress n s)

  pub vote : (ahead : List (Slot G E)) → Vote R ahead progress s e (decide_behind R ahead e s progress)
  vote [] =
      let free : length progress < R.progress_limit → (decide R e s progress).verdict ≡ weigh R e (outcomes R progress s) = (decided R e s progress []).free refl in
      let k = exact R e progress s in
      record {
        behind = λ h. absurd (h refl);
        full = λ l. let q = (decided R e s progress []).full refl l in (ap (λ (w : Weighing). w.verdict) q, ap (λ (w : Weighing). w.weighed) q);
        accepted = λ h l. (
          λ q n u. sym (guard-bits n) ∙ k.accepted.0 (sym (free l) ∙ q) n u,
          λ q. free l ∙ k.accepted.1 (λ n u. guard-bits n ∙ q n u),
        );
        rejected = λ h l. (
          λ q n u. sym (guard-bits n) ∙ k.rejected.0 (sym (free l) ∙ q) n u,
          λ q. free l ∙ k.rejected.1 (λ n u. guard-bits n ∙ q n u),
        );
        held = λ h l. (
          λ q.
              let r = k.held.0 (sym (free l) ∙ q) in
              ((r.0.0, r.0.1, sym (guard-bits r.0.0) ∙ r.0.2), (r.1.0, r.1.1, sym (guard-bits r.1.0) ∙ r.1.2)),
          λ q. free l ∙ k.held.1 ((q.0.0, q.0.1, guard-bits q.0.0 ∙ q.0.2), (q.1.0, q.1.1, guard-bits q.1.0 ∙ q.1.2)),
        );
        weighed = λ h l. (decided R e s progress []).count refl l;
        reasoned = λ v. let why = rejected v in (why.0, why.1);
        reason = λ n. (
          λ q. let v = reasoned n q in let why = rejected v in (v, why.2 ∙ sym why.1 ∙ q),
          λ q. let why = rejected q.0 in why.1 ∙ sym why.2 ∙ q.1,
        );
      }
    where
      w : Weighing
      w = decide R e s progress

      -- a rejection is weighed, and has outcome 0's reason
      rejected : w.verdict ≡ reject → (n : ℕ) × (w.reason ≡ some n) × (R.reason e (chosen_state R progress (λ (i : ℕ). false) s) ≡ some n)
      rejected v = by (leb R.progress_limit (length progress)) refl
        where
          by : (b : Bool) → leb R.progress_limit (length progress) ≡ b → (n : ℕ) × (w.reason ≡ some n) × (R.reason e (chosen_state R progress (λ (i : ℕ). false) s) ≡ some n)
          by true q =
              let full = (decided R e s progress []).full refl (leb-true R.progress_limit (length progress) q) in
              absurd (reject≢hold (sym v ∙ ap (λ (x : Weighing). x.verdict) full))
          by false q =
              let l = leb-false R.progress_limit (length progress) q in
              let why = (decided R e s progress []).rejected refl l (sym ((decided R e s progress []).free refl l) ∙ v) in
              (why.0, why.1, ap (R.reason e) (sym (outcome-none R progress s)) ∙ why.2)

      -- what has a reason is a rejection
      reasoned : (n : ℕ) → w.reason ≡ some n → w.verdict ≡ reject
      reasoned n q = by w.verdict refl
        where
          not_so : (w.verdict ≡ reject → ⊥) → ⊥
          not_so h = some-ne-none n (sym q ∙ (decided R e s progress []).other h)

          by : (v : Verdict) → w.verdict ≡ v → v ≡ reject
          by accept k = absurd (not_so (λ r. accept≢reject (sym k ∙ r)))
          by reject k = refl
          by hold k = absurd (not_so (λ r. reject≢hold (sym r ∙ k)))
  vote (x ∷ ahead) =
      record {
        behind = λ h. (refl, refl);
        full = λ l. (refl, refl);
        accepted = λ h l. absurd (cons≢nil h);
        rejected = λ h l. absurd (cons≢nil h);
        held = λ h l. absurd (cons≢nil h);
        weighed = λ h l. absurd (cons≢nil h);
        reasoned = λ v. absurd (reject≢hold (sym v));
        reason = λ n. (λ q. absurd (some-ne-none n (sym q)), λ q. absurd (reject≢hold (sym q.0)));
      }

  -- with its weighing named
  pub vote-is : (ahead : List (Slot G E)) (w : Weighing) → decide_behind R ahead e s progress ≡ w → Vote R ahead progress s e w
  vote-is ahead w q = rw q at (vote ahead)

  -- Two votes of one verdict have one reason, or none,
  same-reason : (ahead : List (Slot G E)) (w w' : Weighing) → Vote R ahead progress s e w → Vote R ahead progress s e w' → w.verdict ≡ w'.verdict → w.reason ≡ w'.reason
  same-reason ahead w w' h h' k = by (either w.reason) (either w'.reason)
    where
      by : (w.reason ≡ none) ⊎ ((n : ℕ) × (w.reason ≡ some n)) → (w'.reason ≡ none) ⊎ ((n : ℕ) × (w'.reason ≡ some n)) → w.reason ≡ w'.reason
      by (inr (n, q)) other = let r = (h.reason n).0 q in q ∙ sym ((h'.reason n).1 (sym k ∙ r.0, r.1))
      by (inl q) (inr (n, q')) = let r = (h'.reason n).0 q' in (h.reason n).1 (k ∙ r.0, r.1) ∙ sym q'
      by (inl q) (inl q') = q ∙ sym q'

  -- and no other vote fits: behind a held request and with no place free there is one, else the outcomes tell verdict, count and reason.
  is-vote : (ahead : List (Slot G E)) (w' : Weighing) → Vote R ahead progress s e w' → decide_behind R ahead e s progress ≡ w'
  is-vote (x ∷ ahead) w' h = let k = h.behind (λ q. cons≢nil q) in one unweighed w' (sym k.0) (sym k.1) (same-reason (x ∷ ahead) unweighed w' (vote (x ∷ ahead)) h (sym k.0))
  is-vote [] w' h = by (leb R.progress_limit (length progress)) refl
    where
      w : Weighing
      w = decide R e s progress

      by : (b : Bool) → leb R.progress_limit (length progress) ≡ b → w ≡ w'
      by true q =
          let l = leb-true R.progress_limit (length progress) q in
          let k = ((vote []).full l).0 ∙ sym (h.full l).0 in
          one w w' k (((vote []).full l).1 ∙ sym (h.full l).1) (same-reason [] w w' (vote []) h k)
      by false q =
          let k = same w.verdict refl in
          one w w' k ((vote []).weighed refl l ∙ sym (h.weighed refl l)) (same-reason [] w w' (vote []) h k)
        where
          l : length progress < R.progress_limit
          l = leb-false R.progress_limit (length progress) q

          same : (v : Verdict) → w.verdict ≡ v → w.verdict ≡ w'.verdict
          same accept k = k ∙ sym ((h.accepted refl l).1 (((vote []).accepted refl l).0 k))
          same reject k = k ∙ sym ((h.rejected refl l).1 (((vote []).rejected refl l).0 k))
          same hold k = k ∙ sym ((h.held refl l).1 (((vote []).held refl l).0 k))

  pub vote-exactly : (ahead : List (Slot G E)) (w : Weighing) → VoteExactly R ahead progress s e w
  vote-exactly ahead w = (vote-is ahead w, is-vote ahead w)
