-- The plain sayings of entries: bytes and lengths by those of numbers and by the table, case by case; what the writer of a call leaves by the law
-- that an entry written is read.
-- Assumes nothing.
use Prim.Native.Nat.{ℕ, ◌≤◌, ◌<◌}
use native.Mathlib.Omega.{arith}
use mathlib.Core.Path.{◌≡◌, refl, ◌∙◌}
use mathlib.Core.Bool.{Bool, true, false, cond, ◌&&◌}
use mathlib.Core.List.{List, [], ◌∷◌, ◌++◌, append-nil, append_assoc}
use borrow.Author.Tests.{leb-true, leb-false, eqb-true, eqb-false, le-ltb}
use lib.Dec.{eqb, leb}
use lib.ListN.{length, drop}
use lib.Seq.{drop_at}
use Rattle.events.specs.declared.Event.{Event}
use Rattle.events.specs.declared.Event.TheVariants.{Open, Withdraw, Deposit, Close}
use Rattle.filing.specs.declared.Entry.{Entry}
use Rattle.layout.specs.Number.{bytes_of}
use Rattle.layout.specs.Fields.{written, row_of_kind, whole_of}
use Rattle.events.specs.Kinds.{event_kind, amount_of}
use Rattle.layout.specs.Writes.{wrote_over}
use Rattle.layout.proofs.Plain.{numbers-plain}
use Rattle.entry.specs.Bytes.{entry_rows, bytes_as, bytes_of_entry, bytes_of_entries, wholes_of, length_of_told}
use Rattle.entry.specs.Answers.{write_of}
use Rattle.entry.specs.Plain.{event_bytes, EntriesPlain, LengthsPlain, length_in, lengths_in, AllWritable, AllRead, WriterReadBack}
use Rattle.entry.proofs.Lengths.{vote-length, below-kinds, above-kinds}
use Rattle.entry.proofs.Shapes.{shaped}
use Rattle.entry.proofs.Stored.{length-entry, length-entries}
use Rattle.entry.proofs.Inverse.{reads-written}

event-bytes : (e : Event) (rest : List ℕ) → bytes_of 1 (event_kind e) ++ (bytes_of 4 (amount_of e) ++ rest) ≡ event_bytes e ++ rest
event-bytes (Open a) rest = rw ((numbers-plain [] 0 1).bytes1, (numbers-plain [] 0 a).bytes4)
event-bytes (Withdraw a) rest = rw ((numbers-plain [] 0 2).bytes1, (numbers-plain [] 0 a).bytes4)
event-bytes (Deposit a) rest = rw ((numbers-plain [] 0 3).bytes1, (numbers-plain [] 0 a).bytes4)
event-bytes Close rest = rw ((numbers-plain [] 0 4).bytes1, (numbers-plain [] 0 0).bytes4)

pub entries-plain : EntriesPlain
unfolding bytes_as bytes_of_entry length_of_told row_of_kind entry_rows written
entries-plain t a g e n k =
    let p = numbers-plain [] 0 in
    record {
      bytes =
          rw (
            event-bytes e (bytes_of 2 n ++ []),
            event-bytes e (bytes_of 2 n ++ (bytes_of 1 k ++ [])),
            event-bytes e (bytes_of 4 n ++ []),
            event-bytes e [],
            append-nil (event_bytes e),
            (p 17).bytes1,
            (p 23).bytes1,
            (p 19).bytes1,
            (p 20).bytes1,
            (p 21).bytes1,
            (p 22).bytes1,
            (p t).bytes4,
            (p a).bytes2,
            (p g.second).bytes4,
            (p n).bytes2,
            (p n).bytes4,
            (p k).bytes1,
          );
      older = rw (event-bytes e (bytes_of 2 n ++ []), (p 18).bytes1, (p t).bytes4, (p a).bytes2, (p g.second).bytes4, (p n).bytes2);
      lengths = refl;
      amounts = refl;
      weighed = refl;
      balances = refl;
      reasons = refl;
    }

-- the length of a kind
pub lengths-plain : LengthsPlain
unfolding row_of_kind entry_rows
lengths-plain kind = go (leb 17 kind) (leb kind 23) (leb kind 19) (eqb kind 20) (eqb kind 21) (eqb kind 22) refl refl refl refl refl refl
  where
    go : (a b c d f h : Bool) → leb 17 kind ≡ a → leb kind 23 ≡ b → leb kind 19 ≡ c → eqb kind 20 ≡ d → eqb kind 21 ≡ f → eqb kind 22 ≡ h
        → whole_of (row_of_kind entry_rows kind) ≡ cond (a && b) (cond c 18 (cond d 11 (cond f 20 (cond h 16 19)))) 0
    go false b c d f h p q r s t u = below-kinds kind (leb-false 17 kind p)
    go true false c d f h p q r s t u = above-kinds kind (leb-false kind 23 q)
    go true true true d f h p q r s t u = vote-length kind (leb-true 17 kind p) (leb-true kind 19 r)
    go true true false true f h p q r s t u = rw (eqb-true kind 20 s)
    go true true false false true h p q r s t u = rw (eqb-true kind 21 t)
    go true true false false false true p q r s t u = rw (eqb-true kind 22 u)
    go true true false false false false p q r s t u =
        let high : kind ≤ 23 = leb-true kind 23 q in
        let low : 19 < kind = leb-false kind 19 r in
        let n : kind ≡ 20 → ⊥ = eqb-false kind 20 s in
        let m : kind ≡ 21 → ⊥ = eqb-false kind 21 t in
        let o : kind ≡ 22 → ⊥ = eqb-false kind 22 u in
        let e : kind ≡ 23 = omega arith in
        rw e

-- ---- what the writer of a call leaves

lengths-in : (es : List Entry) → wholes_of es ≡ lengths_in es
unfolding wholes_of
lengths-in [] = refl
lengths-in (e ∷ es) = rw ((shaped e.told).length', lengths-in es)

pub length-bytes : (account : ℕ) (es : List Entry) → length (bytes_of_entries account es) ≡ lengths_in es
length-bytes account es = length-entries account es ∙ lengths-in es

all_read : (account : ℕ) (es : List Entry) (rest : List ℕ) → AllWritable account es → AllRead account es (bytes_of_entries account es ++ rest)
unfolding bytes_of_entries
all_read account [] rest p = tt
all_read account (e ∷ es) rest p =
    let own = bytes_of_entry account e in
    let following = bytes_of_entries account es ++ rest in
    let n : length own ≡ length_in e.told = length-entry account e ∙ (shaped e.told).length' in (
      rw (append_assoc, reads-written account e following p.0, (shaped e.told).length'),
      rw (append_assoc, drop_at own following (length_in e.told) n) (all_read account es rest p.1),
    )

pub writer-read-back : WriterReadBack
unfolding write_of
writer-read-back entries account buffer p room fits =
    let bytes = bytes_of_entries account entries in
    let n : length bytes ≡ lengths_in entries = length-bytes account entries in
    let t : write_of entries account buffer ≡ wrote_over bytes buffer = rw (le-ltb (length buffer) 323 room, le-ltb (length buffer) (length bytes) (rw n fits)) in
    record { answer = rw (t, n); back = rw t (all_read account entries (drop (length bytes) buffer) p) }
