-- Entries stored one after the other are one run of stores, as long as their lengths together. By induction on the list of entries;
-- one entry more is one step of the loops that count and store them.
-- Assumes nothing.
use Prim.Native.Nat.{ℕ, ◌+◌, ◌-◌, ◌*◌, ◌≤◌, ◌<◌, min}
use native.Mathlib.Nat.{add_assoc, zero-add, add-zero, mul-suc}
use native.Mathlib.Numerals.{add-one}
use native.Mathlib.Omega.{arith}
use mathlib.Core.Path.{◌≡◌, refl, sym, ◌∙◌}
use mathlib.Core.Bool.{Bool, true, false}
use mathlib.Core.List.{List, [], ◌∷◌, ◌++◌, map, append-nil, append_assoc}
use borrow.Author.Tests.{leb-true, leb-false}
use lib.Dec.{leb}
use lib.ListN.{length, get_or, take, drop, length-append, length-drop}
use lib.Seq.{sets, sets-eq, take-suc}
use borrow.Rule.Slice.PartMut.{put_mid, mid_of, post_of}
use Rattle.std.proofs.lemmas.List.{take-append-drop, take_all, drop_all, drop-drop}
use Rattle.events.specs.declared.Event.TheVariants.{Open}
use Rattle.filing.specs.declared.Verdict.TheVariants.{Accepted}
use Rattle.filing.specs.declared.Told.{Told}
use Rattle.filing.specs.declared.Told.TheVariants.{Voted}
use Rattle.filing.specs.declared.Entry.{Entry}
use Rattle.filing.specs.Slots.{blank_filed}
use Rattle.layout.specs.Fields.{row_of_kind, widths_of, written}
use Rattle.layout.specs.Shapes.{bytes_in, padded, shape_of}
use Rattle.layout.proofs.Stores.{sets_more}
use Rattle.layout.proofs.Fields.{length-written}
use Rattle.layout.proofs.Reading.{shape-written}
use Rattle.layout.proofs.Tables.{longest}
use Rattle.entry.specs.Bytes.{entry_rows, kind_of, numbers_of, bytes_as, bytes_of_entry, length_of_told, bytes_of_entries, wholes_of}
use Rattle.entry.proofs.Shapes.{rows-hold, shaped}

pub length-entry : (account : ℕ) (e : Entry) → length (bytes_of_entry account e) ≡ length_of_told e.told
unfolding bytes_of_entry bytes_as
length-entry account e =
    length-written (widths_of (row_of_kind entry_rows (kind_of e.told))) (numbers_of account e) (rw (shaped e.told).paired) ∙ (shaped e.told).whole

pub length-entries : (account : ℕ) (es : List Entry) → length (bytes_of_entries account es) ≡ wholes_of es
unfolding bytes_of_entries wholes_of
length-entries account [] = refl
length-entries account (e ∷ es) = rw (length-append, length-entry account e, length-entries account es)

pub entries-append : (account : ℕ) (xs ys : List Entry) → bytes_of_entries account (xs ++ ys) ≡ bytes_of_entries account xs ++ bytes_of_entries account ys
unfolding bytes_of_entries
entries-append account [] ys = refl
entries-append account (x ∷ xs) ys = rw (append_assoc, entries-append account xs ys)

pub wholes-append : (xs ys : List Entry) → wholes_of (xs ++ ys) ≡ wholes_of xs + wholes_of ys
unfolding wholes_of
wholes-append [] ys = sym (zero-add (wholes_of ys))
wholes-append (x ∷ xs) ys = rw (add_assoc, wholes-append xs ys)

-- stored by the row of its kind, places behind it and all, an entry is its bytes
pub row-bytes : (account : ℕ) (e : Entry) → written (map bytes_in (shape_of (row_of_kind entry_rows (kind_of e.told))).widths) (padded (numbers_of account e)) ≡ bytes_of_entry account e
unfolding bytes_of_entry bytes_as length_of_told
row-bytes account e =
    let told = e.told in
    let whole : 0 < length_of_told told = rw (← (shaped told).whole) (omega arith) in
    shape-written entry_rows (kind_of told) rows-hold whole (numbers_of account e) (rw (shaped told).paired)

-- a run stored at the beginning of what lies from `at` on is stored from there on
pub stored-behind : (bytes l : List ℕ) (at : ℕ) → at + length bytes ≤ length l → put_mid at (length l - at) l (sets (mid_of at (length l - at) l) 0 bytes) ≡ sets l at bytes
stored-behind bytes l at h =
    let rest : length (drop at l) ≤ length l - at = rw length-drop (omega arith) in
    let fits : 0 + length bytes ≤ length (drop at l) = rw length-drop (omega arith) in
    let mid : mid_of at (length l - at) l ≡ drop at l = take_all (length l - at) (drop at l) rest in
    let behind : post_of at (length l - at) l ≡ [] = drop_all (length l - at) (drop at l) rest in
    rw (mid, behind, append-nil, sets-eq bytes (drop at l) 0 fits, sets-eq bytes l at h, zero-add, drop-drop, append_assoc (take at l) bytes (drop (at + length bytes) l))

-- no entry has more than 40 bytes
short-told : (told : Told) → length_of_told told ≤ 40
unfolding length_of_told entry_rows
short-told told = longest 40 entry_rows (kind_of told) (omega arith)

pub wholes-short : (es : List Entry) → wholes_of es ≤ 40 * length es
unfolding wholes_of
wholes-short [] = omega arith
wholes-short (e ∷ es) = rw mul-suc (omega (arith, short-told e.told, wholes-short es))

-- the first of them are no longer than all
wholes-front : (es : List Entry) (i : ℕ) → wholes_of (take i es) ≤ wholes_of es
wholes-front es i = let split : wholes_of (take i es) + wholes_of (drop i es) ≡ wholes_of es = rw (← wholes-append, take-append-drop) in omega arith

-- what the code's slices give past their end, where nothing looks
abbrev pub no_entry : Entry
no_entry = record { transaction = 0; filed = blank_filed; told = Voted (Open 0) (record { verdict = Accepted; weighed = 0; reason = 0 }) }

-- one entry more
module _ (places : List Entry) (i : ℕ) (h : i < length places) where
  one_more : take (i + 1) places ≡ take i places ++ (get_or places i no_entry ∷ [])
  one_more = rw add-one (take-suc places i no_entry h)

  pub wholes-more : wholes_of (take (i + 1) places) ≡ wholes_of (take i places) + length_of_told (get_or places i no_entry).told
  unfolding wholes_of
  wholes-more = rw (one_more, wholes-append, add-zero)

  -- so they are no longer than all
  pub wholes-next : wholes_of (take i places) + length_of_told (get_or places i no_entry).told ≤ wholes_of places
  wholes-next = rw (← wholes-more) (wholes-front places (i + 1))

  entries-more : (account : ℕ) → bytes_of_entries account (take (i + 1) places) ≡ bytes_of_entries account (take i places) ++ bytes_of_entry account (get_or places i no_entry)
  unfolding bytes_of_entries
  entries-more account = rw (one_more, entries-append, append-nil)

  pub stored_more : (account at : ℕ) (l l₁ l₂ : List ℕ) → at ≡ wholes_of (take i places) → wholes_of places ≤ length l₁ → l₁ ≡ sets l 0 (bytes_of_entries account (take i places))
      → l₂ ≡ sets (mid_of at (length l₁ - at) l₁) 0 (bytes_of_entry account (get_or places i no_entry))
      → put_mid at (length l₁ - at) l₁ l₂ ≡ sets l 0 (bytes_of_entries account (take (i + 1) places))
  stored_more account at l l₁ l₂ a room e₁ e₂ =
      let bytes = bytes_of_entry account (get_or places i no_entry) in
      let fits : at + length bytes ≤ length l₁ = rw length-entry (omega (arith, wholes-next)) in
      rw (entries-more account)
      (sets_more (bytes_of_entries account (take i places)) bytes l l₁ (put_mid at (length l₁ - at) l₁ l₂) 0 at
      (length-entries account (take i places) ∙ sym a) e₁ (rw (zero-add, e₂) (stored-behind bytes l₁ at fits)))

-- a count above the number of places counts as all of them
pub all-places : {A : Type 0} (places : List A) (count : ℕ) → length places ≡ 17 → take (min count 17) places ≡ take count places
all-places {A} places count h = go (leb count 17) refl
  where
    go : (b : Bool) → leb count 17 ≡ b → take (min count 17) places ≡ take count places
    go true e = let m : count ≤ 17 = leb-true count 17 e in let k : min count 17 ≡ count = omega arith in rw k
    go false e =
        let m : 17 < count = leb-false count 17 e in
        let k : min count 17 ≡ 17 = omega arith in
        let a : length places ≤ 17 = omega arith in
        let b : length places ≤ count = omega arith in
        rw (k, take_all 17 places a, take_all count places b)
