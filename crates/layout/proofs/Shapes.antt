-- Rows as the code holds them: a width that is none of 0, 1 and 2 counts as 4; places of the width 0 store nothing and are read as 0; so a row
-- with such places behind it is stored and read as the row itself.
-- Assumes nothing.
use Prim.Native.Nat.{ℕ, zero, suc, ◌+◌, ◌-◌, ◌≤◌, ◌<◌}
use native.Mathlib.Nat.{add-zero, add_assoc}
use native.Mathlib.Omega.{arith}
use mathlib.Core.Path.{◌≡◌, refl, ap, sym, ◌∙◌}
use mathlib.Core.Bool.{Bool, true, false, cond}
use mathlib.Core.List.{List, [], ◌∷◌, ◌++◌, map, map-append, append-nil}
use mathlib.Core.Option.{Option, none, some}
use borrow.Author.Tests.{ne_eqb, ltb-true, ltb-false}
use lib.Dec.{eqb, ltb}
use lib.ListN.{length, get_or, take, drop, set, replicate, length-map, get_or-map, get_or-append, get_or-eq_default}
use lib.Seq.{sets, drop-length, get_or-append-add}
use Rattle.layout.specs.Number.{bytes_of, number_at}
use Rattle.layout.specs.Fields.{KindRow, row_of_kind, whole_of, widths_of, heading, written, numbers_at, total}
use Rattle.layout.specs.Shapes.{bytes_in, padded, shape_of}
use Rattle.layout.proofs.Fields.{put_one, read_one, written-append}

pub four_bytes : (width : ℕ) → (width ≡ 0 → ⊥) → (width ≡ 1 → ⊥) → (width ≡ 2 → ⊥) → bytes_in width ≡ 4
four_bytes width h k m = rw (ne_eqb width 0 h, ne_eqb width 1 k, ne_eqb width 2 m)

-- after the last place nothing is left
pub none_left : (widths : List ℕ) (i : ℕ) → length widths ≡ i → drop i (map bytes_in widths) ≡ []
none_left widths i h = rw (← h, ← length-map widths bytes_in) (drop-length (map bytes_in widths))

-- one step of the loops that store and read a row
module _ (widths ns : List ℕ) where
  pub put-place : (l l' : List ℕ) (to i width : ℕ) → i < length widths → i < length ns → width ≡ bytes_in (get_or widths i 0)
      → l' ≡ sets l to (bytes_of (bytes_in (get_or widths i 0)) (get_or ns i 0))
      → sets l' (to + width) (written (drop (i + 1) (map bytes_in widths)) (drop (i + 1) ns)) ≡ sets l to (written (drop i (map bytes_in widths)) (drop i ns))
  put-place l l' to i width h k w e =
      rw (e, ← w) (put_one (map bytes_in widths) ns l to i width (rw length-map h) k (w ∙ sym (get_or-map bytes_in widths i 0)))

  pub read-place : (bytes : List ℕ) (from i width number : ℕ) → i < length widths → i < length ns → width ≡ bytes_in (get_or widths i 0)
      → number ≡ number_at bytes from (bytes_in (get_or widths i 0))
      → take (i + 1) (set ns i number) ++ numbers_at (drop (i + 1) (map bytes_in widths)) bytes (from + width) ≡ take i ns ++ numbers_at (drop i (map bytes_in widths)) bytes from
  read-place bytes from i width number h k w e =
      rw (e, ← w) (read_one (map bytes_in widths) ns bytes from i width (rw length-map h) k (w ∙ sym (get_or-map bytes_in widths i 0)))

-- ---- places behind a row

numbers_at-append : (ws vs bytes : List ℕ) (at : ℕ) → numbers_at (ws ++ vs) bytes at ≡ numbers_at ws bytes at ++ numbers_at vs bytes (at + total ws)
unfolding numbers_at
numbers_at-append [] vs bytes at = rw add-zero
numbers_at-append (w ∷ ws) vs bytes at = rw (numbers_at-append ws vs bytes (at + w), add_assoc)

numbers_at-zeros : (k at : ℕ) (bytes : List ℕ) → numbers_at (replicate k 0) bytes at ≡ replicate k 0
unfolding numbers_at number_at
numbers_at-zeros zero at bytes = refl
numbers_at-zeros (suc k) at bytes = rw (add-zero, numbers_at-zeros k at bytes)

length-numbers_at : (ws bytes : List ℕ) (at : ℕ) → length (numbers_at ws bytes at) ≡ length ws
unfolding numbers_at
length-numbers_at [] bytes at = refl
length-numbers_at (w ∷ ws) bytes at = rw (length-numbers_at ws bytes (at + w))

-- they are read as 0,
pub padded-read : (ws bytes : List ℕ) (at : ℕ) → numbers_at (padded ws) bytes at ≡ padded (numbers_at ws bytes at)
padded-read ws bytes at =
    rw (numbers_at-append ws (replicate (10 - length ws) 0) bytes at, numbers_at-zeros (10 - length ws) (at + total ws) bytes, length-numbers_at ws bytes at)

zeros-at : (k i : ℕ) → ◌≡◌ {A = ℕ} (get_or (replicate k 0) i 0) 0
zeros-at zero i = refl
zeros-at (suc k) zero = refl
zeros-at (suc k) (suc i) = zeros-at k i

pub padded-at : (numbers : List ℕ) (i : ℕ) → get_or (padded numbers) i 0 ≡ get_or numbers i 0
padded-at numbers i = go (ltb i (length numbers)) refl
  where
    go : (b : Bool) → ltb i (length numbers) ≡ b → get_or (padded numbers) i 0 ≡ get_or numbers i 0
    go true e = get_or-append numbers (replicate (10 - length numbers) 0) 0 i (ltb-true i (length numbers) e)
    go false e =
        let h : length numbers ≤ i = ltb-false i (length numbers) e in
        let k : i ≡ length numbers + (i - length numbers) = omega arith in
        rw (get_or-eq_default numbers 0 {n = i} h)
        (ap (λ (n : ℕ). get_or (padded numbers) n 0) k ∙ get_or-append-add numbers (replicate (10 - length numbers) 0) (i - length numbers) 0 ∙ zeros-at (10 - length numbers) (i - length numbers))

-- and store nothing
written-zeros : (k : ℕ) (ns : List ℕ) → written (replicate k 0) ns ≡ []
unfolding written bytes_of
written-zeros zero ns = refl
written-zeros (suc k) [] = refl
written-zeros (suc k) (n ∷ ns) = written-zeros k ns

pub padded-written : (ws ns : List ℕ) → length ws ≡ length ns → written (padded ws) (padded ns) ≡ written ws ns
padded-written ws ns h =
    rw (written-append ws (replicate (10 - length ws) 0) ns (replicate (10 - length ns) 0) h, written-zeros (10 - length ws) (replicate (10 - length ns) 0), append-nil)

-- ---- the rows of a table

pub shape-whole : (found : Option KindRow) → (shape_of found).whole ≡ whole_of found
shape-whole none = refl
shape-whole (some r) = refl

-- the widths of every row make up its length, and are such as count as they are
pub record Hold (rows : List KindRow) : Type 0 where
  pub sums : map (λ (r : KindRow). total (heading ++ r.then)) rows ≡ map (λ (r : KindRow). r.whole) rows
  pub widths : map (λ (r : KindRow). map bytes_in r.then) rows ≡ map (λ (r : KindRow). r.then) rows

pub record Held (found : Option KindRow) : Type 0 where
  pub sum : total (widths_of found) ≡ whole_of found
  pub widths : map bytes_in (shape_of found).widths ≡ padded (widths_of found)

bytes-in-zeros : (k : ℕ) → map bytes_in (replicate k 0) ≡ replicate k 0
bytes-in-zeros zero = refl
bytes-in-zeros (suc k) = ap (◌∷◌ 0) (bytes-in-zeros k)

-- so it is with the row that was found
pub found-holds : (rows : List KindRow) (kind : ℕ) → Hold rows → 0 < whole_of (row_of_kind rows kind) → Held (row_of_kind rows kind)
unfolding row_of_kind
found-holds [] kind h p = absurd (omega arith)
found-holds (r ∷ rows) kind h p = go (eqb kind r.kind) (found-holds rows kind (record { sums = cc h.sums; widths = cc h.widths })) p
  where
    go : (b : Bool) → (0 < whole_of (row_of_kind rows kind) → Held (row_of_kind rows kind)) → 0 < whole_of (cond b (some r) (row_of_kind rows kind)) → Held (cond b (some r) (row_of_kind rows kind))
    go true rest p =
        let own : map bytes_in r.then ≡ r.then = cc h.widths in
        record { sum = cc h.sums; widths = rw (map-append, own, bytes-in-zeros) }
    go false rest p = rest p
