-- Transactions apart: what it says of one slot among others, that each step of an account keeps it, and that a transaction then names one slot.
-- By induction on the slots.
-- Assumes nothing.
use Prim.Native.Nat.{ℕ, suc, ◌≤◌}
use mathlib.Core.Path.{◌≡◌, refl, sym, ◌∙◌, ap, ap₂}
use mathlib.Core.Bool.{Bool, true, false, cond, not, ◌&&◌, ◌||◌, true≢false, false≢true}
use mathlib.Core.List.{List, [], ◌∷◌, ◌++◌}
use native.Mathlib.Omega.{arith}
use lib.Dec.{eqb}
use lib.ListN.{length}
use borrow.Author.Tests.{eqb-true, eqb-false, ne_eqb, not-true}
use Rattle.rule.specs.Lists.{some_of, keep}
use Rattle.rule.specs.Rule.{Decision, undecided, committed, Slot, slot}
use Rattle.rule.specs.Step.{named, mark, without}
use Rattle.rule.specs.Call.{named_committed}
use Rattle.rule.specs.InOrder.{apart}
use Rattle.rule.proofs.Lists.{and_left, and_right, and_both, or_left, or_right, or-neither, some-append, keep_append, keep-none}

eqb-other : (a b : ℕ) → eqb a b ≡ false → eqb b a ≡ false
eqb-other a b h = ne_eqb b a (λ e. eqb-false a b h (sym e))

not_of_false : (b : Bool) → b ≡ false → not b ≡ true
not_of_false b h = rw h

module _ {A : Type 0} where
  pub length-keep : (p : A → Bool) (xs : List A) → length (keep p xs) ≤ length xs
  length-keep p [] = omega arith
  length-keep p (x ∷ xs) = go (p x) (length-keep p xs)
    where
      go : (b : Bool) → length (keep p xs) ≤ length xs → length (cond b (x ∷ keep p xs) (keep p xs)) ≤ suc (length xs)
      go true h = omega arith
      go false h = omega arith

  -- what none has, none of those kept has
  some-keep : (p q : A → Bool) (xs : List A) → some_of p xs ≡ false → some_of p (keep q xs) ≡ false
  some-keep p q [] h = refl
  some-keep p q (x ∷ xs) h = go (q x) (some-keep p q xs (or_right (p x) (some_of p xs) h))
    where
      go : (b : Bool) → some_of p (keep q xs) ≡ false → some_of p (cond b (x ∷ keep q xs) (keep q xs)) ≡ false
      go true r = or-neither (p x) (some_of p (keep q xs)) (or_left (p x) (some_of p xs) h) r
      go false r = r

module _ {G E : Type 0} where
  -- a slot among others: none of those before it and none of those behind it has its transaction
  pub apart-at : (xs : List (Slot G E)) (t : ℕ) (g : G) (e : E) (d : Decision) (ys : List (Slot G E))
      → apart (xs ++ (slot t g e d ∷ ys)) ≡ true → (some_of (named t) xs ≡ false) × (some_of (named t) ys ≡ false)
  apart-at [] t g e d ys h = (refl, not-true (some_of (named t) ys) (and_left (not (some_of (named t) ys)) (apart ys) h))
  apart-at (slot t' g' e' d' ∷ xs) t g e d ys h =
      let r = apart-at xs t g e d ys (and_right (not (some_of (named t') (xs ++ (slot t g e d ∷ ys)))) (apart (xs ++ (slot t g e d ∷ ys))) h) in
      let far : some_of (named t') (xs ++ (slot t g e d ∷ ys)) ≡ false =
      not-true (some_of (named t') (xs ++ (slot t g e d ∷ ys))) (and_left (not (some_of (named t') (xs ++ (slot t g e d ∷ ys)))) (apart (xs ++ (slot t g e d ∷ ys))) h)
      in
      let here : eqb t' t ≡ false =
      or_left (eqb t' t) (some_of (named t') ys)
      (or_right (some_of (named t') xs) (eqb t' t || some_of (named t') ys) (sym (some-append (named t') xs (slot t g e d ∷ ys)) ∙ far))
      in
      (or-neither (eqb t t') (some_of (named t) xs) (eqb-other t' t here) r.0, r.1)

  -- one more, of a transaction that none has
  pub apart_snoc : (xs : List (Slot G E)) (t : ℕ) (g : G) (e : E) (d : Decision)
      → apart xs ≡ true → some_of (named t) xs ≡ false → apart (xs ++ (slot t g e d ∷ [])) ≡ true
  apart_snoc [] t g e d h q = refl
  apart_snoc (slot t' g' e' d' ∷ xs) t g e d h q =
      and_both (not (some_of (named t') (xs ++ (slot t g e d ∷ [])))) (apart (xs ++ (slot t g e d ∷ [])))
      (not_of_false (some_of (named t') (xs ++ (slot t g e d ∷ [])))
      (some-append (named t') xs (slot t g e d ∷ [])
      ∙ or-neither (some_of (named t') xs) (eqb t' t || false)
      (not-true (some_of (named t') xs) (and_left (not (some_of (named t') xs)) (apart xs) h))
      (or-neither (eqb t' t) false (eqb-other t t' (or_left (eqb t t') (some_of (named t) xs) q)) refl)))
      (apart_snoc xs t g e d (and_right (not (some_of (named t') xs)) (apart xs) h) (or_right (eqb t t') (some_of (named t) xs) q))

  -- marking changes no transaction
  some-mark : (v u : ℕ) (xs ys : List (Slot G E)) → some_of (named v) (mark u xs ++ ys) ≡ some_of (named v) (xs ++ ys)
  some-mark v u [] ys = refl
  some-mark v u (slot t g e d ∷ xs) ys = ap (λ (b : Bool). eqb v t || b) (some-mark v u xs ys)

  pub apart-mark : (u : ℕ) (xs ys : List (Slot G E)) → apart (mark u xs ++ ys) ≡ apart (xs ++ ys)
  apart-mark u [] ys = refl
  apart-mark u (slot t g e d ∷ xs) ys = ap₂ (λ (a b : Bool). not a && b) (some-mark t u xs ys) (apart-mark u xs ys)

  -- those kept are apart
  apart-keep : (q : Slot G E → Bool) (xs : List (Slot G E)) → apart xs ≡ true → apart (keep q xs) ≡ true
  apart-keep q [] h = refl
  apart-keep q (slot t g e d ∷ xs) h = go (q (slot t g e d)) (apart-keep q xs (and_right (not (some_of (named t) xs)) (apart xs) h))
    where
      go : (b : Bool) → apart (keep q xs) ≡ true → apart (cond b (slot t g e d ∷ keep q xs) (keep q xs)) ≡ true
      go true r =
          and_both (not (some_of (named t) (keep q xs))) (apart (keep q xs))
          (not_of_false (some_of (named t) (keep q xs))
          (some-keep (named t) q xs (not-true (some_of (named t) xs) (and_left (not (some_of (named t) xs)) (apart xs) h)))) r
      go false r = r

  pub apart-without : (u : ℕ) (xs ys : List (Slot G E)) → apart (xs ++ ys) ≡ true → apart (without u xs ++ without u ys) ≡ true
  apart-without u xs ys h =
      rw (← keep_append (λ (x : Slot G E). not (named u x)) xs ys) (apart-keep (λ (x : Slot G E). not (named u x)) (xs ++ ys) h)

  -- one less
  pub apart-less : (xs : List (Slot G E)) (x : Slot G E) (ys : List (Slot G E)) → apart (xs ++ (x ∷ ys)) ≡ true → apart (xs ++ ys) ≡ true
  apart-less [] (slot t g e d) ys h = and_right (not (some_of (named t) ys)) (apart ys) h
  apart-less (slot t g e d ∷ xs) x ys h =
      let far : some_of (named t) (xs ++ (x ∷ ys)) ≡ false =
      not-true (some_of (named t) (xs ++ (x ∷ ys))) (and_left (not (some_of (named t) (xs ++ (x ∷ ys)))) (apart (xs ++ (x ∷ ys))) h)
      in
      let both : (some_of (named t) xs || (named t x || some_of (named t) ys)) ≡ false = sym (some-append (named t) xs (x ∷ ys)) ∙ far in
      and_both (not (some_of (named t) (xs ++ ys))) (apart (xs ++ ys))
      (not_of_false (some_of (named t) (xs ++ ys))
      (some-append (named t) xs ys
      ∙ or-neither (some_of (named t) xs) (some_of (named t) ys)
      (or_left (some_of (named t) xs) (named t x || some_of (named t) ys) both)
      (or_right (named t x) (some_of (named t) ys) (or_right (some_of (named t) xs) (named t x || some_of (named t) ys) both))))
      (apart-less xs x ys (and_right (not (some_of (named t) (xs ++ (x ∷ ys)))) (apart (xs ++ (x ∷ ys))) h))

  -- the first of two lists is apart, and so is the second
  pub apart-left : (xs ys : List (Slot G E)) → apart (xs ++ ys) ≡ true → apart xs ≡ true
  apart-left [] ys h = refl
  apart-left (slot t g e d ∷ xs) ys h =
      and_both (not (some_of (named t) xs)) (apart xs)
      (not_of_false (some_of (named t) xs)
      (or_left (some_of (named t) xs) (some_of (named t) ys)
      (sym (some-append (named t) xs ys) ∙ not-true (some_of (named t) (xs ++ ys)) (and_left (not (some_of (named t) (xs ++ ys))) (apart (xs ++ ys)) h))))
      (apart-left xs ys (and_right (not (some_of (named t) (xs ++ ys))) (apart (xs ++ ys)) h))

  pub apart-right : (xs ys : List (Slot G E)) → apart (xs ++ ys) ≡ true → apart ys ≡ true
  apart-right [] ys h = h
  apart-right (slot t g e d ∷ xs) ys h = apart-right xs ys (and_right (not (some_of (named t) (xs ++ ys))) (apart (xs ++ ys)) h)

  -- a transaction in one of two lists that are apart is not in the other
  pub apart_other : (u : ℕ) (xs ys : List (Slot G E)) → apart (xs ++ ys) ≡ true → some_of (named u) xs ≡ true → some_of (named u) ys ≡ false
  apart_other u [] ys h q = absurd (false≢true q)
  apart_other u (slot t g e d ∷ xs) ys h q = go (eqb u t) refl q (λ q'. apart_other u xs ys (and_right (not (some_of (named t) (xs ++ ys))) (apart (xs ++ ys)) h) q')
    where
      go : (b : Bool) → eqb u t ≡ b → (b || some_of (named u) xs) ≡ true → (some_of (named u) xs ≡ true → some_of (named u) ys ≡ false) → some_of (named u) ys ≡ false
      go true k q' f =
          rw (eqb-true u t k)
          (or_right (some_of (named t) xs) (some_of (named t) ys)
          (sym (some-append (named t) xs ys) ∙ not-true (some_of (named t) (xs ++ ys)) (and_left (not (some_of (named t) (xs ++ ys))) (apart (xs ++ ys)) h)))
      go false k q' f = f q'

  -- a slot of that name which is not committed is undecided
  undecided-else : (u t : ℕ) (g : G) (e : E) (d : Decision) → eqb u t ≡ true → named_committed u (slot t g e d) ≡ false → d ≡ undecided
  undecided-else u t g e undecided k z = refl
  undecided-else u t g e committed k z = absurd (true≢false (sym k ∙ z))

  -- a transaction names one slot, and an undecided one where none of its name is committed
  pub only_one : (u : ℕ) (xs : List (Slot G E)) → apart xs ≡ true → some_of (named u) xs ≡ true
      → (g : G) × (e : E) × (d : Decision) × (keep (named u) xs ≡ slot u g e d ∷ []) × (some_of (named_committed u) xs ≡ false → d ≡ undecided)
  only_one u [] h q = absurd (false≢true q)
  only_one u (slot t g e d ∷ xs) h q = go (eqb u t) refl q (λ q'. only_one u xs (and_right (not (some_of (named t) xs)) (apart xs) h) q')
    where
      go : (b : Bool) → eqb u t ≡ b → (b || some_of (named u) xs) ≡ true
          → (some_of (named u) xs ≡ true
          → (g : G) × (e : E) × (d : Decision) × (keep (named u) xs ≡ slot u g e d ∷ []) × (some_of (named_committed u) xs ≡ false → d ≡ undecided))
          → (g' : G) × (e' : E) × (d' : Decision) × (cond b (slot t g e d ∷ keep (named u) xs) (keep (named u) xs) ≡ slot u g' e' d' ∷ [])
          × ((named_committed u (slot t g e d) || some_of (named_committed u) xs) ≡ false → d' ≡ undecided)
      go true k q' f =
          let same : t ≡ u = sym (eqb-true u t k) in
          let none : keep (named u) xs ≡ [] =
          keep-none (named u) xs (rw same at (not-true (some_of (named t) xs) (and_left (not (some_of (named t) xs)) (apart xs) h)))
          in (
            g,
            e,
            d,
            ap₂ (λ (a : ℕ) (l : List (Slot G E)). slot a g e d ∷ l) same none,
            λ z. undecided-else u t g e d k (or_left (named_committed u (slot t g e d)) (some_of (named_committed u) xs) z),
          )
      go false k q' f =
          let r = f q' in
          (r.0, r.1, r.2, r.3, λ z. r.4 (or_right (named_committed u (slot t g e d)) (some_of (named_committed u) xs) z))
