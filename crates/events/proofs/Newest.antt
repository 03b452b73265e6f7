-- The outcomes with one event more, the newest: its bit is the highest, so that a committed one is applied to each of the outcomes in their order, and an undecided one adds to them, behind
-- them, the same list with the event applied. Over any rule.
-- Assumes nothing.
use Prim.Native.Nat.{ℕ, zero, suc, ◌+◌, ◌/◌, ◌%◌, ◌^◌, ◌<◌}
use mathlib.Core.Path.{◌≡◌, refl, sym, ◌∙◌, ap, ap₂}
use mathlib.Core.Bool.{cond, ◌&&◌}
use mathlib.Core.List.{List, [], ◌∷◌, ◌++◌, map, append_assoc, append-nil}
use native.Mathlib.Omega.{arith}
use lib.Dec.{eqb}
use lib.Pow.{pow_pos}
use Rattle.std.proofs.Math.Bool.{and-true, and_assoc}
use Rattle.rule.specs.Lists.{every, numbers}
use Rattle.rule.specs.Rule.{Rule, guard, Decision, undecided, committed, Slot, slot}
use Rattle.rule.specs.Outcome.{undecided_of, outcome, outcomes}
use Rattle.rule.specs.InOrder.{guarded}
use Rattle.rule.proofs.Outcomes.{twice}

-- numbers in a row, mapped: two rows, one after the other; two rows that are mapped alike
module _ {A : Type 0} where
  map-numbers : (f : ℕ → A) (first m k : ℕ) → map f (numbers first (m + k)) ≡ map f (numbers first m) ++ map f (numbers (first + m) k)
  map-numbers f first zero k = let same : first + 0 ≡ first = omega arith in let same' : 0 + k ≡ k = omega arith in rw (same, same')
  map-numbers f first (suc m) k =
      let next : first + suc m ≡ suc first + m = omega arith in
      let more : suc m + k ≡ suc (m + k) = omega arith in
      rw (next, more) (ap (λ (l : List A). f first ∷ l) (map-numbers f (suc first) m k))

  map_same : (f h : ℕ → A) (first other m : ℕ) → ((n : ℕ) → n < m → f (first + n) ≡ h (other + n)) → map f (numbers first m) ≡ map h (numbers other m)
  map_same f h first other zero same = refl
  map_same f h first other (suc m) same =
      let here : f first ≡ h other =
      (let a : first ≡ first + 0 = omega arith in let b : other + 0 ≡ other = omega arith in ap f a ∙ same 0 (omega arith) ∙ ap h b)
      in
      ap₂ (λ (x : A) (l : List A). x ∷ l) here
      (map_same f h (suc first) (suc other) m
      (λ n k. let a : suc first + n ≡ first + suc n = omega arith in let b : other + suc n ≡ suc other + n = omega arith in ap f a ∙ same (suc n) (omega arith) ∙ ap h b))

  map-map : {B C : Type 0} (f : B → C) (h : A → B) (xs : List A) → map f (map h xs) ≡ map (λ (x : A). f (h x)) xs
  map-map f h [] = refl
  map-map f h (x ∷ xs) = ap (λ l. f (h x) ∷ l) (map-map f h xs)

module _ {G S E B : Type 0} (R : Rule S E B) where
  module _ (t : ℕ) (g : G) (e : E) where
    past : (xs : List (Slot G E)) (n : ℕ) (s : S) → outcome R (xs ++ (slot t g e committed ∷ [])) n s ≡ R.effect e (outcome R xs n s)
    past [] n s = refl
    past (slot t' g' e' committed ∷ xs) n s = past xs n (R.effect e' s)
    past (slot t' g' e' undecided ∷ xs) n s = past xs (n / 2) (cond (eqb (n % 2) 1) (R.effect e' s) s)

    past-many : (xs : List (Slot G E)) → undecided_of (xs ++ (slot t g e committed ∷ [])) ≡ undecided_of xs
    past-many [] = refl
    past-many (slot t' g' e' undecided ∷ xs) = ap suc (past-many xs)
    past-many (slot t' g' e' committed ∷ xs) = past-many xs

    -- an undecided newest one is left out below 2 to the power u, and applied from there on
    left : (xs : List (Slot G E)) (n : ℕ) (s : S) → n < 2 ^ undecided_of xs → outcome R (xs ++ (slot t g e undecided ∷ [])) n s ≡ outcome R xs n s
    left [] n s h = let none : n ≡ 0 = omega arith in rw none
    left (slot t' g' e' committed ∷ xs) n s h = left xs n (R.effect e' s) h
    left (slot t' g' e' undecided ∷ xs) n s h = left xs (n / 2) (cond (eqb (n % 2) 1) (R.effect e' s) s) (omega (arith, twice (undecided_of xs)))

    taken : (xs : List (Slot G E)) (n : ℕ) (s : S) → n < 2 ^ undecided_of xs
        → outcome R (xs ++ (slot t g e undecided ∷ [])) (2 ^ undecided_of xs + n) s ≡ R.effect e (outcome R xs n s)
    taken [] n s h = let one : (1 + n) % 2 ≡ 1 = omega arith in rw one
    taken (slot t' g' e' committed ∷ xs) n s h = taken xs n (R.effect e' s) h
    taken (slot t' g' e' undecided ∷ xs) n s h =
        let half : (2 ^ suc (undecided_of xs) + n) / 2 ≡ 2 ^ undecided_of xs + n / 2 = omega (arith, twice (undecided_of xs)) in
        let rest : (2 ^ suc (undecided_of xs) + n) % 2 ≡ n % 2 = omega (arith, twice (undecided_of xs)) in
        ap₂ (λ (m r : ℕ). outcome R (xs ++ (slot t g e undecided ∷ [])) m (cond (eqb r 1) (R.effect e' s) s)) half rest
        ∙ taken xs (n / 2) (cond (eqb (n % 2) 1) (R.effect e' s) s) (omega (arith, twice (undecided_of xs)))

    left-many : (xs : List (Slot G E)) → undecided_of (xs ++ (slot t g e undecided ∷ [])) ≡ suc (undecided_of xs)
    left-many [] = refl
    left-many (slot t' g' e' undecided ∷ xs) = ap suc (left-many xs)
    left-many (slot t' g' e' committed ∷ xs) = left-many xs

    -- so outcome 0: a committed event is applied to it, an undecided one leaves it;
    pub first_past : (xs : List (Slot G E)) (s : S) → outcome R (xs ++ (slot t g e committed ∷ [])) 0 s ≡ R.effect e (outcome R xs 0 s)
    first_past xs s = past xs 0 s

    pub first_more : (xs : List (Slot G E)) (s : S) → outcome R (xs ++ (slot t g e undecided ∷ [])) 0 s ≡ outcome R xs 0 s
    first_more xs s = left xs 0 s (pow_pos (undecided_of xs))

    -- and so the lists
    pub outcomes-past : (xs : List (Slot G E)) (s : S) → outcomes R (xs ++ (slot t g e committed ∷ [])) s ≡ map (R.effect e) (outcomes R xs s)
    unfolding outcomes
    outcomes-past xs s =
        ap (λ (u : ℕ). map (λ (n : ℕ). outcome R (xs ++ (slot t g e committed ∷ [])) n s) (numbers 0 (2 ^ u))) (past-many xs)
        ∙ map_same (λ (n : ℕ). outcome R (xs ++ (slot t g e committed ∷ [])) n s) (λ (n : ℕ). R.effect e (outcome R xs n s)) 0 0 (2 ^ undecided_of xs) (λ n h. past xs (0 + n) s)
        ∙ sym (map-map (R.effect e) (λ (n : ℕ). outcome R xs n s) (numbers 0 (2 ^ undecided_of xs)))

    pub outcomes-more : (xs : List (Slot G E)) (s : S) → outcomes R (xs ++ (slot t g e undecided ∷ [])) s ≡ outcomes R xs s ++ map (R.effect e) (outcomes R xs s)
    unfolding outcomes
    outcomes-more xs s =
        let f : ℕ → S = λ n. outcome R (xs ++ (slot t g e undecided ∷ [])) n s in
        let u : ℕ = 2 ^ undecided_of xs in
        ap (λ (m : ℕ). map f (numbers 0 m)) (ap (λ (m : ℕ). 2 ^ m) (left-many xs) ∙ twice (undecided_of xs)) ∙ map-numbers f 0 u u
        ∙ ap₂ ◌++◌ (map_same f (λ (n : ℕ). outcome R xs n s) 0 0 u (λ n h. left xs (0 + n) s (omega arith)))
        (map_same f (λ (n : ℕ). R.effect e (outcome R xs n s)) (0 + u) 0 u (λ n h. let same : n ≡ 0 + n = omega arith in let behind : (0 + u) + n ≡ u + n = omega arith in ap f behind ∙ taken xs n s h ∙ ap (λ (m : ℕ). R.effect e (outcome R xs m s)) same) ∙ sym (map-map (R.effect e) (λ (n : ℕ). outcome R xs n s) (numbers 0 u)))

  -- an outcome there is
  pub outcomes-first : (xs : List (Slot G E)) (s : S) → (first : S) × (others : List S) × (outcomes R xs s ≡ first ∷ others)
  unfolding outcomes
  outcomes-first xs s = go (2 ^ undecided_of xs) refl
    where
      go : (m : ℕ) → 2 ^ undecided_of xs ≡ m → (first : S) × (others : List S) × (map (λ (n : ℕ). outcome R xs n s) (numbers 0 (2 ^ undecided_of xs)) ≡ first ∷ others)
      go zero h = absurd (omega (arith, pow_pos (undecided_of xs)))
      go (suc m) h = (outcome R xs 0 s, map (λ (n : ℕ). outcome R xs n s) (numbers 1 m), ap (λ (k : ℕ). map (λ (n : ℕ). outcome R xs n s) (numbers 0 k)) h)

  -- each event finds its guard true however the older ones end: with one event more
  pub guarded-more : (s : S) (before xs : List (Slot G E)) (t : ℕ) (g : G) (e : E) (d : Decision)
      → guarded R s before (xs ++ (slot t g e d ∷ [])) ≡ (guarded R s before xs && every (guard R e) (outcomes R (before ++ xs) s))
  guarded-more s before [] t g e d = rw (append-nil before) (and-true (every (guard R e) (outcomes R before s)))
  guarded-more s before (slot t' g' e' d' ∷ xs) t g e d =
      rw (guarded-more s (before ++ (slot t' g' e' d' ∷ [])) xs t g e d, append_assoc before (slot t' g' e' d' ∷ []) xs)
      (sym (and_assoc (every (guard R e') (outcomes R before s)) (guarded R s (before ++ (slot t' g' e' d' ∷ [])) xs) (every (guard R e) (outcomes R (before ++ (slot t' g' e' d' ∷ xs)) s))))
