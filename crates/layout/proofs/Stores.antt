-- Runs of stores: one after the other is one run, in either direction, and a run past the end stores nothing. By induction on the values stored.
-- Assumes nothing.
use Prim.Native.Nat.{ℕ, zero, suc, ◌+◌, ◌-◌, ◌≤◌, ◌<◌, min}
use native.Mathlib.Nat.{add-zero, zero-add, add-suc, suc-add}
use native.Mathlib.Omega.{arith}
use mathlib.Core.Path.{◌≡◌, refl, ap, sym, ◌∙◌}
use mathlib.Core.List.{List, [], ◌∷◌, ◌++◌, append-nil}
use lib.ListN.{length, set, take, drop, length-take, length-drop, length-set, take-append-drop, drop_of_length-le}
use borrow.Rule.Slice.PartMut.{put_mid}
use lib.Seq.{sets, sets-eq, set_out, set_comm, drop-drop, take_at, take_all, length-take-le}
use Rattle.std.proofs.Math.Nat.{min_comm}
use Rattle.std.proofs.lemmas.List.{take_min}
use Rattle.std.proofs.lemmas.Slice.{put_mid-paste}
use Rattle.layout.specs.Writes.{laid_over}

module _ {ℓ} {A : Type ℓ} where
  -- stores that go on where others ended
  pub sets-append : (xs ys l : List A) (i : ℕ) → sets (sets l i xs) (i + length xs) ys ≡ sets l i (xs ++ ys)
  sets-append [] ys l i = rw add-zero
  sets-append (x ∷ xs) ys l i = rw (add-suc, ← suc-add) (sets-append xs ys (set l i x) (suc i))

  -- the same, of a list that already holds the first run
  pub sets_more : (xs ys l l₁ l₂ : List A) (i k : ℕ) → length xs ≡ k → l₁ ≡ sets l i xs → l₂ ≡ sets l₁ (i + k) ys → l₂ ≡ sets l i (xs ++ ys)
  sets_more xs ys l l₁ l₂ i k n e₁ e₂ = rw (e₂, e₁, ← n) (sets-append xs ys l i)

  -- a store before a run of stores
  set_before : (x : A) (ys l : List A) (i j : ℕ) → i < j → set (sets l j ys) i x ≡ sets (set l i x) j ys
  set_before x [] l i j h = refl
  set_before x (y ∷ ys) l i j h = set_before x ys (set l j y) i (suc j) (omega arith) ∙ rw (set_comm l j i y x (omega arith))

  pub sets-before : (x : A) (ys l : List A) (i : ℕ) → set (sets l (suc i) ys) i x ≡ sets l i (x ∷ ys)
  sets-before x ys l i = set_before x ys l i (suc i) (omega arith)

  pub sets-out : (vs l : List A) (i : ℕ) → length l ≤ i → sets l i vs ≡ l
  sets-out [] l i h = refl
  sets-out (v ∷ vs) l i h = rw (set_out l i v h) (sets-out vs l (suc i) (omega arith))

  -- a part of a list that stores were made in is that part with the stores
  take_set : (n : ℕ) (l : List A) (i : ℕ) (v : A) → take n (set l i v) ≡ set (take n l) i v
  take_set zero l i v = refl
  take_set (suc n) [] i v = refl
  take_set (suc n) (x ∷ l) zero v = refl
  take_set (suc n) (x ∷ l) (suc i) v = ap (◌∷◌ x) (take_set n l i v)

  take-sets : (n : ℕ) (vs l : List A) (i : ℕ) → take n (sets l i vs) ≡ sets (take n l) i vs
  take-sets n [] l i = refl
  take-sets n (v ∷ vs) l i = take-sets n vs (set l i v) (suc i) ∙ ap (λ (m : List A). sets m (suc i) vs) (take_set n l i v)

  -- stores behind a front leave it as it is
  set_behind : (front l : List A) (i : ℕ) (v : A) → set (front ++ l) (length front + i) v ≡ front ++ set l i v
  set_behind [] l i v = rw zero-add
  set_behind (x ∷ front) l i v = rw suc-add (ap (◌∷◌ x) (set_behind front l i v))

  sets-behind : (front l vs : List A) (i : ℕ) → sets (front ++ l) (length front + i) vs ≡ front ++ sets l i vs
  sets-behind front l [] i = refl
  sets-behind front l (v ∷ vs) i = rw (set_behind front l i v, ← add-suc) (sets-behind front (set l i v) vs (suc i))

-- values that are stored as far as there is room for them
module _ {A : Type 0} where
  -- of stores that go past the end, those within the list are all
  sets-within : (vs l : List A) (at n : ℕ) → length l ≤ at + n → sets l at (take n vs) ≡ sets l at vs
  sets-within [] l at zero h = refl
  sets-within [] l at (suc n) h = refl
  sets-within (x ∷ vs) l at zero h = sym (sets-out (x ∷ vs) l at (omega arith))
  sets-within (x ∷ vs) l at (suc n) h = sets-within vs (set l at x) (suc at) n (omega (arith, length-set l at x))

  pub least_part : (vs : List A) (n : ℕ) → take (min (length vs) n) vs ≡ take n vs
  least_part vs n = rw min_comm (take_min n vs)

  -- the part of a list that they fill,
  pub store_part : (vs part l : List A) (at count : ℕ) → at < length l → count ≡ min (length vs) (length l - at) → part ≡ take count vs
      → put_mid at (at + count - at) l part ≡ sets l at vs
  store_part vs part l at count h some is =
      let these = take count vs in
      let n : length these ≡ count = length-take-le count vs (omega arith) in
      let all : sets l at these ≡ sets l at vs = rw (some, least_part vs (length l - at)) (sets-within vs l at (length l - at) (omega arith)) in
      let laid : sets l at these ≡ take at l ++ these ++ drop (at + count) l = rw n at (sets-eq these l at (omega (arith, n))) in
      put_mid-paste at (at + count - at) l part these count is (omega arith) (sym n)
      ∙ ap (λ (x : List A). take at l ++ x ++ drop (at + count) l) (take_all count these (omega arith)) ∙ sym laid ∙ all

  -- which is none past the end
  pub store_none : (vs l : List A) (at : ℕ) → length l ≤ at → l ≡ sets l at vs
  store_none vs l at h = sym (sets-out vs l at h)

-- stores made in the end of a list
pub stored-behind : (l vs end : List ℕ) (at k : ℕ) → at + k ≡ length l → end ≡ sets (take k (drop at l)) 0 vs → put_mid at k l end ≡ sets l at vs
stored-behind l vs end at k n e =
    let front : length (take at l) ≡ at = rw length-take (omega arith) in
    let all : take k (drop at l) ≡ drop at l = take_all k (drop at l) (rw length-drop (omega arith)) in
    let back : drop k (drop at l) ≡ [] = rw drop-drop (drop_of_length-le l (omega arith)) in
    let moved = rw (take-append-drop, front, add-zero) at (sets-behind (take at l) (drop at l) vs 0) in
    rw (e, all, back, append-nil) (sym moved)

-- stores made beside a list, over a copy of its end, and copied back
pub stored-beside : (l vs copy rest copied : List ℕ) (at k : ℕ) → at + k ≡ length l → copy ≡ take k (drop at l) → copied ≡ take k (sets (copy ++ rest) 0 vs)
    → put_mid at k l copied ≡ sets l at vs
stored-beside l vs copy rest copied at k n c e =
    let size : length copy ≡ k = rw (c, length-take, length-drop) (omega arith) in
    stored-behind l vs copied at k n (e ∙ take-sets k vs (copy ++ rest) 0 ∙ rw (take_at copy rest k size, c))

-- stores from the beginning of a buffer that has room for them lay them over it
pub laid-over : (bytes buffer : List ℕ) → length bytes ≤ length buffer → sets buffer 0 bytes ≡ laid_over bytes buffer
laid-over bytes buffer h = sets-eq bytes buffer 0 (rw zero-add h) ∙ rw zero-add

pub stored : (l vs copied : List ℕ) (k : ℕ) → copied ≡ vs → length vs ≡ k → k ≤ length l → copied ++ drop k l ≡ sets l 0 vs
stored l vs copied k e n h = rw (e, ← n) (sym (laid-over vs l (omega arith)))
