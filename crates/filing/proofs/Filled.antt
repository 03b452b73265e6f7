-- A list filled up to a size with one blank: its first places, the others, its length; and what is put in the first free place is the list's next element.
-- An account's places and the entries of a call are both of this form.
-- Assumes nothing.
use Prim.Native.Nat.{ℕ, suc, ◌+◌, ◌-◌, ◌≤◌, ◌<◌}
use mathlib.Core.Path.{◌≡◌, refl}
use mathlib.Core.List.{List, [], ◌∷◌, ◌++◌, map, append_assoc}
use native.Mathlib.Omega.{arith}
use lib.ListN.{length, take, drop, set, replicate, length-append, length-map, length-replicate}
use lib.Seq.{take_at, drop_at, set_at}
use Rattle.std.proofs.lemmas.List.{map-append}

module _ {X A : Type 0} (f : X → A) (b : A) (size : ℕ) (xs : List X) where
  abbrev pub filled : List A
  filled = map f xs ++ replicate (size - length xs) b

  pub first-filled : take (length xs) filled ≡ map f xs
  first-filled = take_at (map f xs) (replicate (size - length xs) b) (length xs) (length-map xs f)

  pub rest-filled : drop (length xs) filled ≡ replicate (size - length xs) b
  rest-filled = drop_at (map f xs) (replicate (size - length xs) b) (length xs) (length-map xs f)

  pub length-filled : length xs ≤ size → length filled ≡ size
  length-filled h = omega (arith, length-append (map f xs) (replicate (size - length xs) b), length-map xs f, length-replicate (size - length xs) b)

  pub fill-next : (x : X) → length xs < size
      → set filled (length xs) (f x) ≡ map f (xs ++ (x ∷ [])) ++ replicate (size - length (xs ++ (x ∷ []))) b
  fill-next x h =
      let e : size - length xs ≡ suc (size - (length xs + 1)) = omega arith in
      rw (e, set_at (map f xs) b _ (f x) (length xs) (length-map xs f), map-append f xs (x ∷ []), length-append xs (x ∷ []), append_assoc) refl
