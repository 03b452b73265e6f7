-- Weighing is exact, and what the numbers of outcomes say: from the laws of numbers in a row, by cases on the two tests of `weigh`.
-- Assumes nothing.
use Prim.Native.Nat.{ℕ, zero, suc, ◌+◌, ◌*◌, ◌/◌, ◌%◌, ◌^◌, ◌<◌, ◌≤◌}
use mathlib.Core.Path.{◌≡◌, refl, sym, ◌∙◌, ap, ap₂, fun_ext}
use mathlib.Core.Logic.{⊎_elim}
use mathlib.Core.Bool.{Bool, true, false, cond, ◌&&◌, ◌||◌, true≢false}
use mathlib.Core.List.{List, [], ◌∷◌, ◌++◌, map, cons≢nil}
use mathlib.Core.Option.{Option, none, some}
use native.Mathlib.Omega.{arith}
use lib.Dec.{eqb, leb}
use lib.Pow.{pow_pos, shr-shr}
use lib.Count.{ones, ones_step}
use lib.ListN.{length, get_or}
use borrow.Author.Tests.{lt-leb, le-leb}
use Rattle.rule.specs.Lists.{every, some_of, numbers}
use Rattle.rule.specs.Rule.{Rule, absent, guard, Slot, slot, undecided, committed, Verdict, accept, reject, hold}
use Rattle.rule.specs.Outcome.{undecided_of, applied_in, bit, outcome, outcomes}
use Rattle.rule.specs.Weigh.{unweighed, reason_by, weigh, weighing, decide}
use Rattle.rule.specs.Exact.{number_of, Choices, chosen_state, guard_in, Numbered, Exact, Decided}
use Rattle.rule.proofs.Lists.{either, every_map, some-map, every-number, number-every, some_number, no_number, number-none, fails-number}
use Rattle.rule.proofs.Outcomes.{twice, outcomes-length}

pub bit-zero : (n : ℕ) → bit n 0 ≡ eqb (n % 2) 1
bit-zero n = let e : n / 1 ≡ n = omega arith in rw e

pub bit-suc : (n i : ℕ) → bit n (suc i) ≡ bit (n / 2) i
bit-suc n i =
    let e : 1 + i ≡ suc i = omega arith in
    ap (λ (k : ℕ). eqb (k % 2) 1) (ap (λ (k : ℕ). n / 2 ^ k) (sym e) ∙ sym (shr-shr n 1 i))

-- Numbers and choices: the lowest bit first.
choice-below : (u : ℕ) (chosen : ℕ → Bool) → number_of u chosen < 2 ^ u
choice-below zero chosen = omega arith
choice-below (suc u) chosen = go (chosen 0) (choice-below u (λ (i : ℕ). chosen (suc i)))
  where
    go : (b : Bool) → number_of u (λ (i : ℕ). chosen (suc i)) < 2 ^ u → cond b 1 0 + 2 * number_of u (λ (i : ℕ). chosen (suc i)) < 2 ^ suc u
    go true h = omega (arith, twice u)
    go false h = omega (arith, twice u)

lowest : (b : Bool) (n : ℕ) → (eqb ((cond b 1 0 + 2 * n) % 2) 1 ≡ b) × ((cond b 1 0 + 2 * n) / 2 ≡ n)
lowest true n = let z : (1 + 2 * n) % 2 ≡ 1 = omega arith in (rw z, omega arith)
lowest false n = let z : (0 + 2 * n) % 2 ≡ 0 = omega arith in (rw z, omega arith)

choice-bits : (u : ℕ) (chosen : ℕ → Bool) (i : ℕ) → i < u → bit (number_of u chosen) i ≡ chosen i
choice-bits zero chosen i l = absurd (omega arith)
choice-bits (suc u) chosen zero l = bit-zero (number_of (suc u) chosen) ∙ (lowest (chosen 0) (number_of u (λ (i : ℕ). chosen (suc i)))).0
choice-bits (suc u) chosen (suc i) l =
    bit-suc (number_of (suc u) chosen) i ∙ ap (λ (n : ℕ). bit n i) (lowest (chosen 0) (number_of u (λ (j : ℕ). chosen (suc j)))).1
    ∙ choice-bits u (λ (j : ℕ). chosen (suc j)) i (omega arith)

rest-bit : (n : ℕ) → cond (eqb (n % 2) 1) 1 0 ≡ n % 2
rest-bit n = go (n % 2) (omega arith)
  where
    go : (k : ℕ) → k < 2 → cond (eqb k 1) 1 0 ≡ k
    go zero l = refl
    go (suc zero) l = refl
    go (suc (suc k)) l = absurd (omega arith)

bits-whole : (u n : ℕ) → n < 2 ^ u → number_of u (bit n) ≡ n
bits-whole zero n l = omega arith
bits-whole (suc u) n l =
    let rest = ap (number_of u) (fun_ext (bit-suc n)) ∙ bits-whole u (n / 2) (omega (arith, twice u)) in
    let low = ap (λ (b : Bool). cond b 1 0) (bit-zero n) ∙ rest-bit n in
    omega (arith, rest, low)

pub choices : (u : ℕ) → Choices u
choices u = record { below = choice-below u; chooses = choice-bits u; whole = bits-whole u }

-- the n-th of a row
number_at : {A : Type 0} (f : ℕ → A) (k m n : ℕ) (other : A) → n < m → get_or (map f (numbers k m)) n other ≡ f (k + n)
number_at f k zero n other l = absurd (omega arith)
number_at f k (suc m) zero other l = ap f (let z : k ≡ k + 0 = omega arith in z)
number_at f k (suc m) (suc n) other l = number_at f (suc k) m n other (omega arith) ∙ ap f (let z : suc k + n ≡ k + suc n = omega arith in z)

module _ {G S E B : Type 0} (R : Rule S E B) where
  pub outcome-bits : (xs : List (Slot G E)) (n : ℕ) (s : S) → outcome R xs n s ≡ chosen_state R xs (bit n) s
  outcome-bits [] n s = refl
  outcome-bits (slot t g e committed ∷ xs) n s = outcome-bits xs n (R.effect e s)
  outcome-bits (slot t g e undecided ∷ xs) n s =
      outcome-bits xs (n / 2) (cond (eqb (n % 2) 1) (R.effect e s) s)
      ∙ ap₂ (λ (c : ℕ → Bool) (b : Bool). chosen_state R xs c (cond b (R.effect e s) s)) (fun_ext (λ i. sym (bit-suc n i))) (sym (bit-zero n))

  -- outcome 0 applies none of the undecided events
  pub outcome-none : (xs : List (Slot G E)) (s : S) → outcome R xs 0 s ≡ chosen_state R xs (λ (i : ℕ). false) s
  outcome-none [] s = refl
  outcome-none (slot t g e committed ∷ xs) s = outcome-none xs (R.effect e s)
  outcome-none (slot t g e undecided ∷ xs) s = outcome-none xs s

-- the count of ones is the number of undecided events applied
pub applied-ones : {G E : Type 0} (xs : List (Slot G E)) (n : ℕ) → n < 2 ^ undecided_of xs → applied_in xs n ≡ ones n
unfolding ones
applied-ones [] n h = let e : n ≡ 0 = omega arith in rw e
applied-ones (slot t g e committed ∷ xs) n h = applied-ones xs n h
applied-ones (slot t g e undecided ∷ xs) n h =
    ap (λ (k : ℕ). n % 2 + k) (applied-ones xs (n / 2) (omega (arith, twice (undecided_of xs)))) ∙ sym (ones_step n)

module _ {G S E B : Type 0} (R : Rule S E B) where
  -- the state of a choice, parted anywhere: what is chosen behind is counted on from those before
  chosen-append : (before behind : List (Slot G E)) (chosen : ℕ → Bool) (s : S)
      → chosen_state R (before ++ behind) chosen s ≡ chosen_state R behind (λ (i : ℕ). chosen (undecided_of before + i)) (chosen_state R before chosen s)
  chosen-append [] behind chosen s = ap (λ (c : ℕ → Bool). chosen_state R behind c s) (fun_ext (λ i. ap chosen (let z : i ≡ 0 + i = omega arith in z)))
  chosen-append (slot t g e committed ∷ before) behind chosen s = chosen-append before behind chosen (R.effect e s)
  chosen-append (slot t g e undecided ∷ before) behind chosen s =
      chosen-append before behind (λ (i : ℕ). chosen (suc i)) (cond (chosen 0) (R.effect e s) s)
      ∙ ap (λ (c : ℕ → Bool). chosen_state R behind c (chosen_state R before (λ (i : ℕ). chosen (suc i)) (cond (chosen 0) (R.effect e s) s)))
      (fun_ext (λ i. ap chosen (let z : suc (undecided_of before + i) ≡ suc (undecided_of before) + i = omega arith in z)))

  pub numbered : (xs : List (Slot G E)) (s : S) → Numbered R xs s
  unfolding outcomes
  numbered xs s =
      record {
        count = outcomes-length R xs s;
        bits = λ n. outcome-bits R xs n s;
        listed = λ n other l. number_at (λ (k : ℕ). outcome R xs k s) 0 (2 ^ undecided_of xs) n other l ∙ ap (λ (k : ℕ). outcome R xs k s) (let z : 0 + n ≡ n = omega arith in z);
        undecided_one =
            λ before behind t g e chosen q.
            let u = undecided_of before in
            let next : (i : ℕ) → u + suc i ≡ suc u + i = λ i. omega arith in
            let here : u + 0 ≡ u = omega arith in
            rw q
            (chosen-append before (slot t g e undecided ∷ behind) chosen s
            ∙ ap₂ (λ (c : ℕ → Bool) (b : Bool). chosen_state R behind c (cond b (R.effect e (chosen_state R before chosen s)) (chosen_state R before chosen s)))
            (fun_ext (λ i. ap chosen (next i))) (ap chosen here));
        committed_one = λ before behind t g e chosen q. rw q (chosen-append before (slot t g e committed ∷ behind) chosen s);
        applied = applied-ones xs;
      }

-- the two tests of a weighing, from its verdict and back
verdict : Bool → Bool → Verdict
verdict every_one some_one = cond every_one accept (cond some_one hold reject)

module _ where
  every-of-accept : (a b : Bool) → verdict a b ≡ accept → a ≡ true
  unfolding verdict
  every-of-accept true b h = refl
  every-of-accept false true h = let z : ◌≡◌ {A = ℕ} 0 1 = cc in absurd (omega arith)
  every-of-accept false false h = let z : ◌≡◌ {A = ℕ} 0 1 = cc in absurd (omega arith)

  some-of-reject : (a b : Bool) → verdict a b ≡ reject → b ≡ false
  unfolding verdict
  some-of-reject true b h = let z : ◌≡◌ {A = ℕ} 0 1 = cc in absurd (omega arith)
  some-of-reject false true h = let z : ◌≡◌ {A = ℕ} 0 1 = cc in absurd (omega arith)
  some-of-reject false false h = refl

  both-of-hold : (a b : Bool) → verdict a b ≡ hold → (a ≡ false) × (b ≡ true)
  unfolding verdict
  both-of-hold true b h = let z : ◌≡◌ {A = ℕ} 0 1 = cc in absurd (omega arith)
  both-of-hold false true h = (refl, refl)
  both-of-hold false false h = let z : ◌≡◌ {A = ℕ} 0 1 = cc in absurd (omega arith)

  accept-of-every : (a b : Bool) → a ≡ true → verdict a b ≡ accept
  unfolding verdict
  accept-of-every a b h = rw h

  reject-of-none : (a b : Bool) → a ≡ false → b ≡ false → verdict a b ≡ reject
  unfolding verdict
  reject-of-none a b h k = rw (h, k)

  hold-of-both : (a b : Bool) → a ≡ false → b ≡ true → verdict a b ≡ hold
  unfolding verdict
  hold-of-both a b h k = rw (h, k)

-- what one number has not, not every number has; what one has, some has
not-every : (q : ℕ → Bool) (m n : ℕ) → n < m → q n ≡ false → every q (numbers 0 m) ≡ false
not-every q m n u h = ⊎_elim (λ e. absurd (true≢false (sym (every-number q 0 m e n (omega arith) (omega arith)) ∙ h))) (λ e. e) (either (every q (numbers 0 m)))

is_some : (q : ℕ → Bool) (m n : ℕ) → n < m → q n ≡ true → some_of q (numbers 0 m) ≡ true
is_some q m n u h = ⊎_elim (λ e. e) (λ e. absurd (true≢false (sym h ∙ no_number q 0 m e n (omega arith) (omega arith)))) (either (some_of q (numbers 0 m)))

module _ {G S E B : Type 0} (R : Rule S E B) (e : E) (xs : List (Slot G E)) (s : S) where
  tests : weigh R e (outcomes R xs s) ≡ verdict (every (guard_in R e s xs) (numbers 0 (2 ^ undecided_of xs))) (some_of (guard_in R e s xs) (numbers 0 (2 ^ undecided_of xs)))
  unfolding weigh outcomes verdict
  tests =
      ap₂ (λ (a b : Bool). cond a accept (cond b hold reject))
      (every_map (guard R e) (λ (n : ℕ). outcome R xs n s) (numbers 0 (2 ^ undecided_of xs)))
      (some-map (guard R e) (λ (n : ℕ). outcome R xs n s) (numbers 0 (2 ^ undecided_of xs)))

  pub exact : Exact R e xs s
  exact =
      let q = guard_in R e s xs in
      let m = 2 ^ undecided_of xs in
      let pos : 0 < m = pow_pos (undecided_of xs) in
      record {
        accepted = (
          λ v n u. every-number q 0 m (every-of-accept (every q (numbers 0 m)) (some_of q (numbers 0 m)) (sym tests ∙ v)) n (omega arith) (omega arith),
          λ h. tests ∙ accept-of-every (every q (numbers 0 m)) (some_of q (numbers 0 m)) (number-every q 0 m (λ n l u. h n (omega arith))),
        );
        rejected = (
          λ v n u. no_number q 0 m (some-of-reject (every q (numbers 0 m)) (some_of q (numbers 0 m)) (sym tests ∙ v)) n (omega arith) (omega arith),
          λ h. tests ∙ reject-of-none (every q (numbers 0 m)) (some_of q (numbers 0 m)) (not-every q m 0 pos (h 0 pos)) (number-none q 0 m (λ n l u. h n (omega arith))),
        );
        held = (
          λ v.
              let k = both-of-hold (every q (numbers 0 m)) (some_of q (numbers 0 m)) (sym tests ∙ v) in
              let yes' = some_number q 0 m k.1 in
              let no' = fails-number q 0 m k.0 in
              ((yes'.0, omega (arith, yes'.2), yes'.3), (no'.0, omega (arith, no'.2), no'.3)),
          λ h. tests ∙ hold-of-both (every q (numbers 0 m)) (some_of q (numbers 0 m)) (not-every q m h.1.0 h.1.1 h.1.2) (is_some q m h.0.0 h.0.1 h.0.2),
        );
      }

-- No verdict but a rejection takes a reason over.
pub reason-alone : (v : Verdict) (reason : Option ℕ) → (v ≡ reject → ⊥) → reason_by v reason ≡ none
reason-alone accept reason h = refl
reason-alone reject reason h = absurd (h refl)
reason-alone hold reason h = refl

-- Where the guard does not hold there is a reason.
pub against : {S E B : Type 0} (R : Rule S E B) (e : E) (s : S) → guard R e s ≡ false → (n : ℕ) × (R.reason e s ≡ some n)
unfolding guard
against R e s h = by (R.reason e s) h
  where
    by : (o : Option ℕ) → absent o ≡ false → (n : ℕ) × (o ≡ some n)
    by none k = absurd (true≢false k)
    by (some n) k = (n, refl)

-- With one outcome the guard holds in all or in none.
one-outcome : (b : Bool) → cond (b && true) accept (cond (b || false) hold reject) ≡ hold → ⊥
one-outcome true h = let z : ◌≡◌ {A = ℕ} 0 1 = cc in omega arith
one-outcome false h = let z : ◌≡◌ {A = ℕ} 0 1 = cc in omega arith

pub idle-decide : (G : Type 0) {S E B : Type 0} (R : Rule S E B) (e : E) (s : S) → 1 ≤ R.progress_limit → (decide {G = G} R e s []).verdict ≡ hold → ⊥
unfolding decide weigh outcomes
idle-decide G R e s roomy h = one-outcome (guard R e s) (rw (lt-leb R.progress_limit 0 roomy) at h)

module _ {G S E B : Type 0} (R : Rule S E B) (e : E) (s : S) where
  pub decided : (progress held : List (Slot G E)) → Decided R e s progress held
  unfolding decide
  decided progress [] =
      record {
        behind = λ h. absurd (h refl);
        full = λ h l. rw (le-leb R.progress_limit (length progress) l);
        free = λ h l. rw (lt-leb R.progress_limit (length progress) l);
        count = λ h l. rw (lt-leb R.progress_limit (length progress) l, outcomes-length R progress s);
        rejected = λ h l v.
            let no = (exact R e progress s).rejected.0 v 0 (pow_pos (undecided_of progress)) in
            let why = against R e (outcome R progress 0 s) no in
            (why.0, rw (lt-leb R.progress_limit (length progress) l, v, why.1), why.1);
        other = by (leb R.progress_limit (length progress));
        idle = λ h roomy empty v. idle-decide G R e s roomy (rw empty at v);
      }
    where
      by : (b : Bool) → ((cond b unweighed (weighing R e s progress)).verdict ≡ reject → ⊥) → (cond b unweighed (weighing R e s progress)).reason ≡ none
      by true h = refl
      by false h = reason-alone (weigh R e (outcomes R progress s)) (R.reason e (outcome R progress 0 s)) h
  decided progress (x ∷ held) =
      record {
        behind = λ h. refl;
        full = λ h l. refl;
        free = λ h l. absurd (cons≢nil h);
        count = λ h l. absurd (cons≢nil h);
        rejected = λ h l v. absurd (cons≢nil h);
        other = λ h. refl;
        idle = λ h roomy empty v. let z : ◌≡◌ {A = ℕ} 0 1 = cc in omega arith;
      }
