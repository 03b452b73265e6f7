-- The lines of entries are those of their bytes, read one after the other: where the reader gives the entries back, each reads as itself. By induction
-- on the entries.
-- Assumes nothing.
use Prim.Native.Nat.{ℕ, zero, suc, ◌≤◌, ◌<◌}
use native.Mathlib.Omega.{arith}
use mathlib.Core.Path.{◌≡◌, refl, sym, ◌∙◌, ap}
use mathlib.Core.List.{List, [], ◌∷◌, ◌++◌, map}
use lib.Dec.{lit<}
use lib.ListN.{drop}
use lib.Seq.{drop_at}
use Rattle.filing.specs.declared.Filed.{Filed}
use Rattle.filing.specs.declared.Weighing.{Weighing}
use Rattle.filing.specs.declared.Told.{Told}
use Rattle.filing.specs.declared.Told.TheVariants.{Voted, Noted, Applied, Dropped}
use Rattle.filing.specs.declared.Entry.{Entry}
use Rattle.filing.specs.Entries.{entry_of}
use Rattle.filing.proofs.Slots.{weighing-back}
use Rattle.layout.specs.Number.{bytes_of, AreBytes}
use Rattle.layout.specs.Fields.{written, last_account}
use Rattle.std.specs.Prelude.{Option, Some, None}
use Rattle.entry.specs.declared.Found.{Found}
use Rattle.entry.specs.Bytes.{kind_of, bytes_of_entry, bytes_of_entries, length_of_told, bytes_as}
use Rattle.entry.specs.Answers.{said_of_entry, read_of, found_as}
use Rattle.entry.specs.Inverse.{Writable}
use Rattle.entry.proofs.Inverse.{reads-written, writes-read}
use Rattle.entry.proofs.Stored.{length-entry}
use Rattle.register.specs.Sequence.{told_as, rule_entry, read_on, entries_from, entries_in}
use Rattle.text.specs.Text.{line_of, lines_of}
use Rattle.text.specs.OutputCalls.{EntryLines}
use Rattle.text.specs.OutputCalls as by

-- ---- what is written are bytes

are-append : (xs ys : List ℕ) → AreBytes xs → AreBytes ys → AreBytes (xs ++ ys)
are-append [] ys p q i = q i
are-append (x ∷ xs) ys p q zero = p 0
are-append (x ∷ xs) ys p q (suc i) = are-append xs ys (λ j. p (suc j)) q i

are-none : AreBytes []
are-none i = lit< tt

are-one : (byte : ℕ) → byte < 256 → AreBytes (byte ∷ [])
are-one byte h zero = h
are-one byte h (suc i) = lit< tt

are-number : (width number : ℕ) → AreBytes (bytes_of width number)
unfolding bytes_of
are-number zero number = are-none
are-number (suc width) number = are-append (bytes_of width _) _ (are-number width _) (are-one _ (omega arith))

are_written : (widths numbers : List ℕ) → AreBytes (written widths numbers)
unfolding written
are_written [] numbers = are-none
are_written (w ∷ ws) [] = are-none
are_written (w ∷ ws) (n ∷ ns) = are-append (bytes_of w n) (written ws ns) (are-number w n) (are_written ws ns)

are-entries : (i : ℕ) (es : List Entry) → AreBytes (bytes_of_entries i es)
unfolding bytes_of_entries bytes_as bytes_of_entry
are-entries i [] = are-none
are-entries i (e ∷ es) = are-append (bytes_of_entry i e) (bytes_of_entries i es) (are_written _ _) (are-entries i es)

-- ---- the rule's entry tells the values apart

value_there : (t : ℕ) (g : Filed) (told : Told) → entry_of (told_as t g told) ≡ record { transaction = t; filed = g; told = told }
value_there t g (Voted e w) = ap (λ (x : Weighing). record { transaction = t; filed = g; told = Voted e x }) (weighing-back w)
value_there t g Noted = refl
value_there t g (Applied e n) = refl
value_there t g (Dropped e) = refl

same-value : (x y : Entry) → rule_entry x ≡ rule_entry y → x ≡ y
same-value x y e = sym (value_there x.transaction x.filed x.told) ∙ ap entry_of e ∙ value_there y.transaction y.filed y.told

-- ---- entries that the reader gives back

module _ (i : ℕ) (known : i ≤ last_account) where
  -- what was read under some account can be written under this one
  under : (account : ℕ) (e : Entry) → Writable account e → Writable i e
  under account e w =
      record { transaction = w.transaction; account' = known; filed = w.filed; amount = w.amount; weighed = w.weighed; balance = w.balance; reason = w.reason; alone = w.alone }

  module _ (most : ℕ) (on : (es : List Entry) → entries_from most (bytes_of_entries i es) ≡ map rule_entry es → EntryLines (bytes_of_entries i es) (lines_of i es))
      (e : Entry) (es : List Entry) where
    bytes : List ℕ
    bytes = bytes_of_entry i e ++ bytes_of_entries i es

    -- the first one is the one that is read, and behind it are the others
    first : (x : Entry) (kind account whole : ℕ) → AreBytes bytes → read_of bytes ≡ found_as x kind account whole → x ≡ e → entries_from most (drop whole bytes) ≡ map rule_entry es
        → EntryLines bytes (line_of i e ++ lines_of i es)
    unfolding bytes
    first x kind account whole are q same rest =
        let read = writes-read bytes kind account x whole are q in
        let writable : Writable i e = under account e (rw same at read.writable) in
        let own = reads-written i e (bytes_of_entries i es) writable in
        let length' : whole ≡ length_of_told e.told = let z : found_as x kind account whole ≡ found_as e (kind_of e.told) i (length_of_told e.told) = sym q ∙ own in ap (λ (o : Option (Found × ℕ)). (said_of_entry o).length') z in
        let left : drop whole bytes ≡ bytes_of_entries i es = drop_at (bytes_of_entry i e) (bytes_of_entries i es) whole (length-entry i e ∙ sym length') in
        by.more i e (kind_of e.told) (length_of_told e.told) own (on es (rw left at rest))

    one_more : AreBytes bytes → entries_from (suc most) bytes ≡ rule_entry e ∷ map rule_entry es → EntryLines bytes (line_of i e ++ lines_of i es)
    unfolding entries_from
    one_more are = go (read_of bytes) refl
      where
        go : (reading : Option (Found × ℕ)) → read_of bytes ≡ reading → read_on bytes (λ (rest : List ℕ). entries_from most rest) reading ≡ rule_entry e ∷ map rule_entry es
            → EntryLines bytes (line_of i e ++ lines_of i es)
        go None q z = let y : ◌≡◌ {A = ℕ} 0 1 = cc in absurd (omega arith)
        go (Some (found, whole)) q z =
            let head : rule_entry found.entry ≡ rule_entry e = cc in
            let tail : entries_from most (drop whole bytes) ≡ map rule_entry es = cc in
            first found.entry found.kind found.account whole are q (same-value found.entry e head) tail

  lines_from : (most : ℕ) (es : List Entry) → entries_from most (bytes_of_entries i es) ≡ map rule_entry es → EntryLines (bytes_of_entries i es) (lines_of i es)
  unfolding entries_from bytes_of_entries lines_of bytes
  lines_from zero es z = none es z
    where
      none : (es : List Entry) → [] ≡ map rule_entry es → EntryLines (bytes_of_entries i es) (lines_of i es)
      none [] z = by.none
      none (e ∷ es) z = let y : ◌≡◌ {A = ℕ} 0 1 = cc in absurd (omega arith)
  lines_from (suc most) es z = more (lines_from most) es z
    where
      more : ((es : List Entry) → entries_from most (bytes_of_entries i es) ≡ map rule_entry es → EntryLines (bytes_of_entries i es) (lines_of i es))
          → (es : List Entry) → entries_from (suc most) (bytes_of_entries i es) ≡ map rule_entry es → EntryLines (bytes_of_entries i es) (lines_of i es)
      more on [] z = by.none
      more on (e ∷ es) z = one_more most on e es (are-entries i (e ∷ es)) z

  pub lines-read : (es : List Entry) → entries_in (bytes_of_entries i es) ≡ map rule_entry es → EntryLines (bytes_of_entries i es) (lines_of i es)
  lines-read es z = lines_from _ es z
