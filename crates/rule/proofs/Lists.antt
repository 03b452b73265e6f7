-- Laws of the small words on lists, by induction on the list; and of numbers in a row, by induction on how many they are.
-- Assumes nothing.
use Prim.Native.Nat.{ℕ, zero, suc, ◌+◌, ◌≤◌, ◌<◌}
use mathlib.Core.Path.{◌≡◌, refl, ap}
use mathlib.Core.Logic.{◌⊎◌, inl, inr, ⊎_elim}
use mathlib.Core.Bool.{Bool, true, false, cond, ◌&&◌, ◌||◌, not, true≢false, false≢true}
use mathlib.Core.List.{List, [], ◌∷◌, ◌++◌, map}
use native.Mathlib.Omega.{arith}
use native.Mathlib.Nat.{eq-or-lt_of_le}
use lib.ListN.{length}
use Rattle.rule.specs.Lists.{every, some_of, keep, numbers}

-- a Bool is true or false, with the equation
pub either : (b : Bool) → (b ≡ true) ⊎ (b ≡ false)
either true = inl refl
either false = inr refl

pub and_left : (a b : Bool) → (a && b) ≡ true → a ≡ true
and_left true b h = refl
and_left false b h = absurd (false≢true h)

pub and_right : (a b : Bool) → (a && b) ≡ true → b ≡ true
and_right true b h = h
and_right false b h = absurd (false≢true h)

pub and_both : (a b : Bool) → a ≡ true → b ≡ true → (a && b) ≡ true
and_both true b h k = k
and_both false b h k = absurd (false≢true h)

pub or_left : (a b : Bool) → (a || b) ≡ false → a ≡ false
or_left true b h = absurd (true≢false h)
or_left false b h = refl

pub or_right : (a b : Bool) → (a || b) ≡ false → b ≡ false
or_right true b h = absurd (true≢false h)
or_right false b h = h

pub or-neither : (a b : Bool) → a ≡ false → b ≡ false → (a || b) ≡ false
or-neither true b h k = absurd (true≢false h)
or-neither false b h k = k

pub or_cases : (a b : Bool) → (a || b) ≡ true → (a ≡ true) ⊎ (b ≡ true)
or_cases true b h = inl refl
or_cases false b h = inr h

module _ {A B : Type 0} where
  pub map-append : (f : A → B) (xs ys : List A) → map f (xs ++ ys) ≡ map f xs ++ map f ys
  map-append f [] ys = refl
  map-append f (x ∷ xs) ys = ap (λ (l : List B). f x ∷ l) (map-append f xs ys)

  pub every_map : (p : B → Bool) (f : A → B) (xs : List A) → every p (map f xs) ≡ every (λ (x : A). p (f x)) xs
  every_map p f [] = refl
  every_map p f (x ∷ xs) = ap (λ (b : Bool). p (f x) && b) (every_map p f xs)

  pub some-map : (p : B → Bool) (f : A → B) (xs : List A) → some_of p (map f xs) ≡ some_of (λ (x : A). p (f x)) xs
  some-map p f [] = refl
  some-map p f (x ∷ xs) = ap (λ (b : Bool). p (f x) || b) (some-map p f xs)

module _ {A : Type 0} (p : A → Bool) where
  pub some-append : (xs ys : List A) → some_of p (xs ++ ys) ≡ (some_of p xs || some_of p ys)
  some-append [] ys = refl
  some-append (x ∷ xs) ys = go (p x) (some-append xs ys)
    where
      go : (b : Bool) → some_of p (xs ++ ys) ≡ (some_of p xs || some_of p ys) → (b || some_of p (xs ++ ys)) ≡ ((b || some_of p xs) || some_of p ys)
      go true h = refl
      go false h = h

  pub keep_append : (xs ys : List A) → keep p (xs ++ ys) ≡ keep p xs ++ keep p ys
  keep_append [] ys = refl
  keep_append (x ∷ xs) ys = go (p x) (keep_append xs ys)
    where
      go : (b : Bool) → keep p (xs ++ ys) ≡ keep p xs ++ keep p ys → cond b (x ∷ keep p (xs ++ ys)) (keep p (xs ++ ys)) ≡ cond b (x ∷ keep p xs) (keep p xs) ++ keep p ys
      go true h = ap (λ (l : List A). x ∷ l) h
      go false h = h

  -- where the test holds of none, none is kept
  pub keep-none : (xs : List A) → some_of p xs ≡ false → keep p xs ≡ []
  keep-none [] h = refl
  keep-none (x ∷ xs) h = rw (or_left (p x) (some_of p xs) h) (keep-none xs (or_right (p x) (some_of p xs) h))

  -- and taking out those of which it holds leaves the list
  pub keep-others : (xs : List A) → some_of p xs ≡ false → keep (λ (x : A). not (p x)) xs ≡ xs
  keep-others [] h = refl
  keep-others (x ∷ xs) h =
      rw (or_left (p x) (some_of p xs) h) (ap (λ (l : List A). x ∷ l) (keep-others xs (or_right (p x) (some_of p xs) h)))

  -- the test fails of every one exactly if it holds of none
  pub every-not : (xs : List A) → every (λ (x : A). not (p x)) xs ≡ not (some_of p xs)
  every-not [] = refl
  every-not (x ∷ xs) = go (p x) (every-not xs)
    where
      go : (b : Bool) → every (λ (x' : A). not (p x')) xs ≡ not (some_of p xs) → (not b && every (λ (x' : A). not (p x')) xs) ≡ not (b || some_of p xs)
      go true h = refl
      go false h = h

  -- what holds of none is not every one's, unless there is none
  pub every_some : (x : A) (xs : List A) → every p (x ∷ xs) ≡ true → some_of p (x ∷ xs) ≡ true
  every_some x xs h = rw (and_left (p x) (every p xs) h) refl

  -- the test holds of some one exactly if the list parts at one of which it holds
  pub some-parts : (xs : List A) → some_of p xs ≡ true → (before : List A) × (x : A) × (behind : List A) × (xs ≡ before ++ (x ∷ behind)) × (p x ≡ true)
  some-parts [] h = absurd (false≢true h)
  some-parts (x ∷ xs) h = go (or_cases (p x) (some_of p xs) h) (λ k. some-parts xs k)
    where
      go :
          (p x ≡ true) ⊎ (some_of p xs ≡ true)
          → (some_of p xs ≡ true → (before : List A) × (y : A) × (behind : List A) × (xs ≡ before ++ (y ∷ behind)) × (p y ≡ true))
          → (before : List A) × (y : A) × (behind : List A) × (x ∷ xs ≡ before ++ (y ∷ behind)) × (p y ≡ true)
      go (inl e) f = ([], x, xs, refl, e)
      go (inr e) f = let r = f e in (x ∷ r.0, r.1, r.2, ap (λ (l : List A). x ∷ l) r.3, r.4)

  pub parts-some : (before : List A) (x : A) (behind : List A) → p x ≡ true → some_of p (before ++ (x ∷ behind)) ≡ true
  parts-some [] x behind h = rw h
  parts-some (y ∷ before) x behind h = go (p y) (parts-some before x behind h)
    where
      go : (b : Bool) → some_of p (before ++ (x ∷ behind)) ≡ true → (b || some_of p (before ++ (x ∷ behind))) ≡ true
      go true k = refl
      go false k = k

  -- and of every one exactly if of each at which the list parts
  pub every-parts : (before : List A) (x : A) (behind : List A) → every p (before ++ (x ∷ behind)) ≡ true → p x ≡ true
  every-parts [] x behind h = and_left (p x) (every p behind) h
  every-parts (y ∷ before) x behind h = every-parts before x behind (and_right (p y) (every p (before ++ (x ∷ behind))) h)

  pub parts-every : (xs : List A) → ((before : List A) (x : A) (behind : List A) → xs ≡ before ++ (x ∷ behind) → p x ≡ true) → every p xs ≡ true
  parts-every [] h = refl
  parts-every (x ∷ xs) h =
      and_both (p x) (every p xs) (h [] x xs refl)
      (parts-every xs (λ before y behind q. h (x ∷ before) y behind (ap (λ (l : List A). x ∷ l) q)))

pub length-numbers : (k m : ℕ) → length (numbers k m) ≡ m
length-numbers k zero = refl
length-numbers k (suc m) = ap suc (length-numbers (suc k) m)

module _ (q : ℕ → Bool) where
  pub every-number : (k m : ℕ) → every q (numbers k m) ≡ true → (n : ℕ) → k ≤ n → n < k + m → q n ≡ true
  every-number k zero h n l u = absurd (omega arith)
  every-number k (suc m) h n l u =
      ⊎_elim (λ (e : k ≡ n). rw (← e) (and_left (q k) (every q (numbers (suc k) m)) h))
      (λ (lt : k < n). every-number (suc k) m (and_right (q k) (every q (numbers (suc k) m)) h) n lt (omega arith))
      (eq-or-lt_of_le l)

  pub number-every : (k m : ℕ) → ((n : ℕ) → k ≤ n → n < k + m → q n ≡ true) → every q (numbers k m) ≡ true
  number-every k zero h = refl
  number-every k (suc m) h =
      and_both (q k) (every q (numbers (suc k) m)) (h k (omega arith) (omega arith))
      (number-every (suc k) m (λ n l u. h n (omega arith) (omega arith)))

  -- some number of those has it, with the number
  pub some_number : (k m : ℕ) → some_of q (numbers k m) ≡ true → (n : ℕ) × (k ≤ n) × (n < k + m) × (q n ≡ true)
  some_number k zero h = absurd (false≢true h)
  some_number k (suc m) h = go (or_cases (q k) (some_of q (numbers (suc k) m)) h) (λ h'. some_number (suc k) m h')
    where
      go :
          (q k ≡ true) ⊎ (some_of q (numbers (suc k) m) ≡ true)
          → (some_of q (numbers (suc k) m) ≡ true → (n : ℕ) × (suc k ≤ n) × (n < suc k + m) × (q n ≡ true))
          → (n : ℕ) × (k ≤ n) × (n < k + suc m) × (q n ≡ true)
      go (inl e) f = (k, omega arith, omega arith, e)
      go (inr e) f = let r = f e in (r.0, omega (arith, r.1), omega (arith, r.2), r.3)

  pub no_number : (k m : ℕ) → some_of q (numbers k m) ≡ false → (n : ℕ) → k ≤ n → n < k + m → q n ≡ false
  no_number k zero h n l u = absurd (omega arith)
  no_number k (suc m) h n l u =
      ⊎_elim (λ (e : k ≡ n). rw (← e) (or_left (q k) (some_of q (numbers (suc k) m)) h))
      (λ (lt : k < n). no_number (suc k) m (or_right (q k) (some_of q (numbers (suc k) m)) h) n lt (omega arith))
      (eq-or-lt_of_le l)

  pub number-none : (k m : ℕ) → ((n : ℕ) → k ≤ n → n < k + m → q n ≡ false) → some_of q (numbers k m) ≡ false
  number-none k zero h = refl
  number-none k (suc m) h =
      or-neither (q k) (some_of q (numbers (suc k) m)) (h k (omega arith) (omega arith))
      (number-none (suc k) m (λ n l u. h n (omega arith) (omega arith)))

  -- where it is not every one's, some number has it not
  pub fails-number : (k m : ℕ) → every q (numbers k m) ≡ false → (n : ℕ) × (k ≤ n) × (n < k + m) × (q n ≡ false)
  fails-number k zero h = absurd (true≢false h)
  fails-number k (suc m) h = go (either (q k)) (λ h'. fails-number (suc k) m h')
    where
      go :
          (q k ≡ true) ⊎ (q k ≡ false)
          → (every q (numbers (suc k) m) ≡ false → (n : ℕ) × (suc k ≤ n) × (n < suc k + m) × (q n ≡ false))
          → (n : ℕ) × (k ≤ n) × (n < k + suc m) × (q n ≡ false)
      go (inl e) f =
          let r = f (rw e at h) in
          (r.0, omega (arith, r.1), omega (arith, r.2), r.3)
      go (inr e) f = (k, omega arith, omega arith, e)
