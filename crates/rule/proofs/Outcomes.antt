-- The numbered list of outcomes against the walk down the events, once for every measure of a state: the votes yes, the votes no and the count are three measures.
-- At an undecided event the numbers below twice 2 to the power u are the even ones, which leave the event out, and the odd ones, which apply it.
-- Assumes nothing.
use Prim.Native.Nat.{ℕ, zero, suc, ◌+◌, ◌/◌, ◌%◌, ◌^◌}
use mathlib.Core.Path.{◌≡◌, refl, ◌∙◌, ap, ap₂}
use mathlib.Core.Bool.{Bool, true, false, cond, ◌&&◌, ◌||◌, true≢false, false≢true}
use mathlib.Core.List.{List, [], ◌∷◌, map}
use native.Mathlib.Omega.{arith}
use native.Mathlib.Nat.{pow-suc, add-zero}
use lib.Dec.{eqb}
use lib.ListN.{length, length-map}
use Rattle.rule.specs.Lists.{every, some_of, keep, numbers}
use Rattle.rule.specs.Rule.{Rule, Slot, slot, undecided, committed}
use Rattle.rule.specs.Outcome.{undecided_of, outcome, outcomes}
use Rattle.rule.proofs.Lists.{length-numbers}

-- a measure added up over a list
abbrev pub total : {A : Type 0} → (A → ℕ) → List A → ℕ
total f [] = 0
total f (x ∷ xs) = f x + total f xs

-- added up over a row of numbers
sum : (ℕ → ℕ) → ℕ → ℕ → ℕ
sum f k zero = 0
sum f k (suc m) = f k + sum f (suc k) m

total-sum : {A : Type 0} (f : A → ℕ) (g : ℕ → A) (k m : ℕ) → total f (map g (numbers k m)) ≡ sum (λ (n : ℕ). f (g n)) k m
unfolding sum
total-sum f g k zero = refl
total-sum f g k (suc m) = ap (λ (x : ℕ). f (g k) + x) (total-sum f g (suc k) m)

sum_same : (f h : ℕ → ℕ) → ((n : ℕ) → f n ≡ h n) → (k m : ℕ) → sum f k m ≡ sum h k m
unfolding sum
sum_same f h e k zero = refl
sum_same f h e k (suc m) = ap₂ (λ (x y : ℕ). x + y) (e k) (sum_same f h e (suc k) m)

sum-add : (f h : ℕ → ℕ) (k m : ℕ) → sum (λ (n : ℕ). f n + h n) k m ≡ sum f k m + sum h k m
unfolding sum
sum-add f h k zero = refl
sum-add f h k (suc m) = omega (arith, sum-add f h (suc k) m)

-- a row of twice as many numbers, in pairs
sum-pairs : (f : ℕ → ℕ) (k m : ℕ) → sum f (k + k) (m + m) ≡ sum (λ (j : ℕ). f (j + j) + f (suc (j + j))) k m
unfolding sum
sum-pairs f k zero = refl
sum-pairs f k (suc m) =
    let two : suc m + suc m ≡ suc (suc (m + m)) = omega arith in
    let next : suc (suc (k + k)) ≡ suc k + suc k = omega arith in
    rw two (rw next (rw (sum-pairs f (suc k) m) (omega arith)))

pub twice : (u : ℕ) → 2 ^ suc u ≡ 2 ^ u + 2 ^ u
twice u = omega (arith, pow-suc 2 u)

even-half : (j : ℕ) → (j + j) / 2 ≡ j
even-half j = omega arith

even-rest : (j : ℕ) → (j + j) % 2 ≡ 0
even-rest j = omega arith

odd-half : (j : ℕ) → suc (j + j) / 2 ≡ j
odd-half j = omega arith

odd-rest : (j : ℕ) → suc (j + j) % 2 ≡ 1
odd-rest j = omega arith

module _ {G S E B : Type 0} (R : Rule S E B) where
  -- the measure added up on a walk down the events: at an undecided one both ways
  abbrev pub tally : (S → ℕ) → List (Slot G E) → S → ℕ
  tally f [] s = f s
  tally f (slot t g e undecided ∷ xs) s = tally f xs s + tally f xs (R.effect e s)
  tally f (slot t g e committed ∷ xs) s = tally f xs (R.effect e s)

  even-outcome : (xs : List (Slot G E)) (e : E) (s : S) (j : ℕ)
      → outcome R xs ((j + j) / 2) (cond (eqb ((j + j) % 2) 1) (R.effect e s) s) ≡ outcome R xs j s
  even-outcome xs e s j = rw (even-half, even-rest)

  odd-outcome : (xs : List (Slot G E)) (e : E) (s : S) (j : ℕ)
      → outcome R xs (suc (j + j) / 2) (cond (eqb (suc (j + j) % 2) 1) (R.effect e s) s) ≡ outcome R xs j (R.effect e s)
  odd-outcome xs e s j = rw (odd-half, odd-rest)

  sum-tally : (f : S → ℕ) (xs : List (Slot G E)) (s : S) → sum (λ (n : ℕ). f (outcome R xs n s)) 0 (2 ^ undecided_of xs) ≡ tally f xs s
  unfolding sum
  sum-tally f [] s = add-zero (f s)
  sum-tally f (slot t g e committed ∷ xs) s = sum-tally f xs (R.effect e s)
  sum-tally f (slot t g e undecided ∷ xs) s =
      rw (twice (undecided_of xs))
      (sum-pairs (λ (n : ℕ). f (outcome R xs (n / 2) (cond (eqb (n % 2) 1) (R.effect e s) s))) 0 (2 ^ undecided_of xs)
      ∙ sum_same _ (λ (j : ℕ). f (outcome R xs j s) + f (outcome R xs j (R.effect e s)))
      (λ j. ap₂ (λ (a b : S). f a + f b) (even-outcome xs e s j) (odd-outcome xs e s j)) 0 (2 ^ undecided_of xs)
      ∙ sum-add (λ (j : ℕ). f (outcome R xs j s)) (λ (j : ℕ). f (outcome R xs j (R.effect e s))) 0 (2 ^ undecided_of xs)
      ∙ ap₂ (λ (a b : ℕ). a + b) (sum-tally f xs s) (sum-tally f xs (R.effect e s)))

  -- THE LAW: a measure added up over the numbered list is the measure added up on the walk
  pub total-tally : (f : S → ℕ) (xs : List (Slot G E)) (s : S) → total f (outcomes R xs s) ≡ tally f xs s
  unfolding outcomes
  total-tally f xs s = total-sum f (λ (n : ℕ). outcome R xs n s) 0 (2 ^ undecided_of xs) ∙ sum-tally f xs s

  -- there are 2^u outcomes
  pub outcomes-length : (xs : List (Slot G E)) (s : S) → length (outcomes R xs s) ≡ 2 ^ undecided_of xs
  unfolding outcomes
  outcomes-length xs s = length-map (numbers 0 (2 ^ undecided_of xs)) (λ (n : ℕ). outcome R xs n s) ∙ length-numbers 0 (2 ^ undecided_of xs)

-- a vote of a test as a measure: yes counts where it holds, no where it does not
abbrev pub yes_of : {A : Type 0} → (A → Bool) → A → ℕ
yes_of p x = cond (p x) 1 0

abbrev pub no_of : {A : Type 0} → (A → Bool) → A → ℕ
no_of p x = cond (p x) 0 1

module _ {A : Type 0} (p : A → Bool) where
  pub every-no : (xs : List A) → every p xs ≡ true → total (no_of p) xs ≡ 0
  every-no [] h = refl
  every-no (x ∷ xs) h = go (p x) h (λ h'. every-no xs h')
    where
      go : (b : Bool) → (b && every p xs) ≡ true → (every p xs ≡ true → total (no_of p) xs ≡ 0) → cond b 0 1 + total (no_of p) xs ≡ 0
      go true h' f = omega (arith, f h')
      go false h' f = absurd (false≢true h')

  pub no-every : (xs : List A) → total (no_of p) xs ≡ 0 → every p xs ≡ true
  no-every [] h = refl
  no-every (x ∷ xs) h = go (p x) h (λ h'. no-every xs h')
    where
      go : (b : Bool) → cond b 0 1 + total (no_of p) xs ≡ 0 → (total (no_of p) xs ≡ 0 → every p xs ≡ true) → (b && every p xs) ≡ true
      go true h' f = f (omega arith)
      go false h' f = absurd (omega arith)

  pub some-yes : (xs : List A) → some_of p xs ≡ false → total (yes_of p) xs ≡ 0
  some-yes [] h = refl
  some-yes (x ∷ xs) h = go (p x) h (λ h'. some-yes xs h')
    where
      go : (b : Bool) → (b || some_of p xs) ≡ false → (some_of p xs ≡ false → total (yes_of p) xs ≡ 0) → cond b 1 0 + total (yes_of p) xs ≡ 0
      go true h' f = absurd (true≢false h')
      go false h' f = omega (arith, f h')

  pub yes-some : (xs : List A) → total (yes_of p) xs ≡ 0 → some_of p xs ≡ false
  yes-some [] h = refl
  yes-some (x ∷ xs) h = go (p x) h (λ h'. yes-some xs h')
    where
      go : (b : Bool) → cond b 1 0 + total (yes_of p) xs ≡ 0 → (total (yes_of p) xs ≡ 0 → some_of p xs ≡ false) → (b || some_of p xs) ≡ false
      go true h' f = absurd (omega arith)
      go false h' f = f (omega arith)

  -- those kept are the yes
  pub length-yes : (xs : List A) → length (keep p xs) ≡ total (yes_of p) xs
  length-yes [] = refl
  length-yes (x ∷ xs) = go (p x) (length-yes xs)
    where
      go : (b : Bool) → length (keep p xs) ≡ total (yes_of p) xs → length (cond b (x ∷ keep p xs) (keep p xs)) ≡ cond b 1 0 + total (yes_of p) xs
      go true h = omega arith
      go false h = omega arith

  -- each element is a yes or a no
  pub yes-no : (xs : List A) → total (yes_of p) xs + total (no_of p) xs ≡ length xs
  yes-no [] = refl
  yes-no (x ∷ xs) = go (p x) (yes-no xs)
    where
      go : (b : Bool) → total (yes_of p) xs + total (no_of p) xs ≡ length xs → (cond b 1 0 + total (yes_of p) xs) + (cond b 0 1 + total (no_of p) xs) ≡ suc (length xs)
      go true h = omega arith
      go false h = omega arith
