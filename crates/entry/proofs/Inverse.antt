-- Reader and writer of entries are inverse, as those of messages are: the numbers of an entry in a kind in which it can stand are read back by the law on
-- fields, and an entry is its numbers; what was read was read by a row of the table, whose widths make up its length, so the law on fields gives its bytes.
-- Assumes nothing.
use Prim.Native.Nat.{ℕ, ◌+◌, ◌≤◌, ◌<◌}
use native.Mathlib.Omega.{arith}
use mathlib.Core.Path.{◌≡◌, refl, ap, sym, ◌∙◌}
use mathlib.Core.Bool.{Bool, true, false, cond, ◌&&◌, ◌||◌, not}
use mathlib.Core.Logic.{inl, inr}
use mathlib.Core.List.{List, [], ◌∷◌, ◌++◌}
use mathlib.Core.Option as math
use Rattle.std.specs.Prelude.{Option, None}
use borrow.Author.Tests.{eqb-true, eqb-false, leb-true}
use lib.Dec.{eqb, leb}
use lib.ListN.{length, get_or, take, drop, length-append}
use Rattle.filing.specs.declared.Told.{Told}
use Rattle.filing.specs.declared.Entry.{Entry}
use Rattle.layout.specs.Number.{bytes_of, number_at}
use Rattle.layout.specs.Fields.{KindRow, row_of_kind, whole_of, then_of, widths_of, written, numbers_at, total, last_account}
use Rattle.events.specs.Kinds.{event_kind, amount_of, event_of}
use Rattle.layout.specs.Heading.{heading_numbers}
use Rattle.layout.specs.Inverse.{Fit}
use Rattle.layout.proofs.Numbers.{number_at-fits}
use Rattle.layout.proofs.Fields.{numbers_at-fit, numbers_at-written, length-written}
use Rattle.layout.proofs.Heading.{fit-heading, filed_at, filed-fits}
use Rattle.layout.proofs.Shapes.{found-holds}
use Rattle.layout.proofs.Tables.{present}
use Rattle.layout.proofs.Reading.{taken-row, taken-by, read_written}
use Rattle.entry.specs.declared.Found.{Found}
use Rattle.entry.specs.Bytes.{entry_rows, kind_of, then_numbers, bytes_as, bytes_of_entry, length_of_told, verdict_by, told_by, entry_from}
use Rattle.entry.specs.Answers.{SaidOfEntry, said_of_entry, found_as, event_fits, then_fits, entry_reader, read_of}
use Rattle.entry.specs.Inverse.{StandsAs, ReadsWritten, ReadsStanding, Read, WritesRead, WritesOwn}
use Rattle.entry.proofs.Booleans.{both}
use Rattle.entry.proofs.Shapes.{rows-hold, then_as, Alone, standing}
use Rattle.entry.proofs.Reading.{entry_at, told-read, by_kind, every-length}

-- numbers behind those that the widths have are not written
written-first : (widths numbers : List ℕ) → written widths numbers ≡ written widths (take (length widths) numbers)
unfolding written
written-first [] numbers = refl
written-first (w ∷ ws) [] = refl
written-first (w ∷ ws) (n ∷ ns) = ap (λ (bytes : List ℕ). bytes_of w n ++ bytes) (written-first ws ns)

-- an entry's numbers in a kind: the heading, and those that the kind has
abbrev first_numbers : (kind account : ℕ) → Entry → List ℕ
first_numbers kind account e = heading_numbers kind e.transaction account e.filed ++ then_as kind e.told

bytes-first : (kind account : ℕ) (e : Entry) → bytes_as kind account e ≡ written (widths_of (row_of_kind entry_rows kind)) (first_numbers kind account e)
unfolding bytes_as written
bytes-first kind account e = rw (← written-first (then_of (row_of_kind entry_rows kind)) (then_numbers e.told))

pub reads-standing : ReadsStanding
unfolding numbers_at
reads-standing kind account e after p s =
    let told = e.told in
    let found = row_of_kind entry_rows kind in
    let t = standing kind told s p.alone in
    let bytes = bytes_as kind account e ++ after in
    let numbers = first_numbers kind account e in
    let own : bytes_as kind account e ≡ written (widths_of found) numbers = bytes-first kind account e in
    let sum : total (widths_of found) ≡ whole_of found = (found-holds entry_rows kind rows-hold t.positive).sum in
    let n : length bytes ≡ whole_of found + length after = rw (length-append, own, length-written (widths_of found) numbers (omega (arith, t.paired)), sum) in
    let fit : Fit (widths_of found) numbers =
    fit-heading kind e.transaction account e.filed t.byte p.transaction p.account' p.filed
    (t.fits p.amount p.weighed p.balance p.reason) in
    let r : numbers_at (widths_of found) bytes 0 ≡ numbers = rw own (numbers_at-written [] after fit) in
    let k : kind ≡ number_at bytes 0 1 = sym (ap (λ (ns : List ℕ). get_or ns 0 0) r) in
    by_kind bytes kind k
    ∙ taken-row entry_reader found bytes numbers t.positive (omega arith) r p.account'
    ∙ rw (t.fitting, t.numbers)

pub reads-written : ReadsWritten
unfolding bytes_of_entry length_of_told
reads-written account e after p = reads-standing (kind_of e.told) account e after p (inl refl)

-- what an entry that was read says of the row by which it was read
pub record Taken (found : math.Option KindRow) (bytes : List ℕ) (kind account : ℕ) (e : Entry) (whole : ℕ) : Type 0 where
  pub positive : 0 < whole_of found
  pub enough : whole_of found ≤ length bytes
  pub fitting : then_fits (drop 4 (numbers_at (widths_of found) bytes 0)) ≡ true
  pub known : get_or (numbers_at (widths_of found) bytes 0) 2 0 ≤ last_account
  pub kind' : get_or (numbers_at (widths_of found) bytes 0) 0 0 ≡ kind
  pub account' : get_or (numbers_at (widths_of found) bytes 0) 2 0 ≡ account
  pub entry : entry_from (numbers_at (widths_of found) bytes 0) ≡ e
  pub length' : whole_of found ≡ whole

nothing-found : (e : Entry) (kind account whole : ℕ) → None ≡ found_as e kind account whole → ⊥
nothing-found e kind account whole n = cc

-- an entry comes out where a test for one is true
held : (b : Bool) (next : Option (Found × ℕ)) (e : Entry) (kind account whole : ℕ) → cond b next None ≡ found_as e kind account whole
    → (b ≡ true) × (next ≡ found_as e kind account whole)
held true next e kind account whole n = (refl, n)
held false next e kind account whole n = absurd (nothing-found e kind account whole n)

pub taken_of : (bytes : List ℕ) (kind account : ℕ) (e : Entry) (whole : ℕ) → read_of bytes ≡ found_as e kind account whole
    → Taken (row_of_kind entry_rows (number_at bytes 0 1)) bytes kind account e whole
unfolding read_of
taken_of bytes kind account e whole n =
    let found = row_of_kind entry_rows (number_at bytes 0 1) in
    let numbers = numbers_at (widths_of found) bytes 0 in
    let no = nothing-found e kind account whole in
    let t = taken-by entry_reader (found_as e kind account whole) no no no entry_rows (number_at bytes 0 1) bytes every-length n in
    let entry = found_as (entry_from numbers) (get_or numbers 0 0) (get_or numbers 2 0) (whole_of found) in
    let u = held (then_fits (drop 4 numbers)) entry e kind account whole t.answered in
    let said = ap said_of_entry u.1 in
    let read = ap (λ (s : SaidOfEntry). s.entry) said in
    record {
      positive = t.positive;
      enough = t.enough;
      fitting = u.0;
      known = t.account;
      kind' = ap (λ (s : SaidOfEntry). s.kind) said;
      account' = ap (λ (s : SaidOfEntry). s.account) said;
      entry = cc;
      length' = ap (λ (s : SaidOfEntry). s.length') said;
    }

-- an event that fits is the one of its kind and amount
pub event-back : (kind amount : ℕ) → event_fits kind amount ≡ true → (event_kind (event_of kind amount) ≡ kind) × (amount_of (event_of kind amount) ≡ amount)
unfolding event_of
event-back kind amount f = go (eqb kind 1) (eqb kind 2) (eqb kind 3) refl refl refl
  where
    go : (a b d : Bool) → eqb kind 1 ≡ a → eqb kind 2 ≡ b → eqb kind 3 ≡ d → (event_kind (event_of kind amount) ≡ kind) × (amount_of (event_of kind amount) ≡ amount)
    go true b d p q r = rw (eqb-true kind 1 p) (refl, refl)
    go false true d p q r = rw (eqb-true kind 2 q) (refl, refl)
    go false false true p q r = rw (eqb-true kind 3 r) (refl, refl)
    go false false false p q r =
        let s = both (leb 1 kind && leb kind 4) (not (eqb kind 4) || eqb amount 0) f in
        let t = both (leb 1 kind) (leb kind 4) s.0 in
        let low : 1 ≤ kind = leb-true 1 kind t.0 in
        let high : kind ≤ 4 = leb-true kind 4 t.1 in
        let n : kind ≡ 1 → ⊥ = eqb-false kind 1 p in
        let m : kind ≡ 2 → ⊥ = eqb-false kind 2 q in
        let o : kind ≡ 3 → ⊥ = eqb-false kind 3 r in
        let four : kind ≡ 4 = omega arith in
        let zero : amount ≡ 0 = eqb-true amount 0 (rw four at s.1) in
        rw (four, zero) (refl, refl)

-- what was read by a row: the entry can stand in its kind, only a rejection has a reason, and the numbers that were read are those of the entry
record Back (bytes : List ℕ) (kind : ℕ) (told : Told) : Type 0 where
  stands : StandsAs kind told
  alone : Alone told
  then : then_as kind told ≡ numbers_at (then_of (row_of_kind entry_rows kind)) bytes 11

told_back : (bytes : List ℕ) (kind : ℕ) → 0 < whole_of (row_of_kind entry_rows kind) → then_fits (numbers_at (then_of (row_of_kind entry_rows kind)) bytes 11) ≡ true
    → Back bytes kind (entry_at bytes kind).told
unfolding row_of_kind entry_rows numbers_at verdict_by told_by
told_back bytes kind p =
    let k = number_at bytes 11 1 in
    let a = number_at bytes 12 4 in
    let back = event-back k a in
    present
    (λ (k : ℕ). then_fits (numbers_at (then_of (row_of_kind entry_rows k)) bytes 11) ≡ true → Back bytes k (entry_at bytes k).told)
    entry_rows kind (
      (λ f. record { stands = inl refl; alone = λ n. refl; then = rw ((back f).0, (back f).1) }),
      (
        (λ f. record { stands = inr (refl, refl, refl); alone = λ n. refl; then = rw ((back f).0, (back f).1) }),
        (
          (λ f. record { stands = inl refl; alone = λ n. refl; then = rw ((back f).0, (back f).1) }),
          (
            (λ f. record { stands = inl refl; alone = λ n. refl; then = refl }),
            (
              (λ f. record { stands = inl refl; alone = λ n. refl; then = rw ((back f).0, (back f).1) }),
              (
                (λ f. record { stands = inl refl; alone = λ n. refl; then = rw ((back f).0, (back f).1) }),
                ((λ f. record { stands = inl refl; alone = λ n. absurd (n refl); then = rw ((back f).0, (back f).1) }), tt),
              ),
            ),
          ),
        ),
      ),
    )
    p

pub writes-read : WritesRead
unfolding numbers_at
writes-read bytes kind account e whole b n =
    let found = row_of_kind entry_rows kind in
    let t₀ = taken_of bytes kind account e whole n in
    let k : number_at bytes 0 1 ≡ kind = t₀.kind' in
    let t = rw k at t₀ in
    let numbers = numbers_at (widths_of found) bytes 0 in
    let entry : entry_at bytes kind ≡ e = sym (told-read bytes kind t.positive (sym k)) ∙ t.entry in
    let back = rw (ap (λ (x : Entry). x.told) entry) at (told_back bytes kind t.positive t.fitting) in
    let transaction : e.transaction ≡ number_at bytes 1 4 = sym (ap (λ (x : Entry). x.transaction) entry) in
    let filed : e.filed ≡ filed_at bytes = sym (ap (λ (x : Entry). x.filed) entry) in
    let first : first_numbers kind account e ≡ numbers = rw (transaction, filed, back.then, ← t.account', k) in
    let bounds = (standing kind e.told back.stands back.alone).bounds (rw back.then (numbers_at-fit (then_of found) bytes 11 b)) in
    record {
      bytes' = rw (bytes-first kind account e, first) (read_written entry_rows kind rows-hold t.positive bytes whole b t.enough t.length');
      length' = sym t.length';
      writable =
          record {
            transaction = rw transaction (number_at-fits 4 1 bytes b);
            account' = rw t.account' at t.known;
            filed = rw filed (filed-fits bytes b);
            amount = bounds.0;
            weighed = bounds.1;
            balance = bounds.2;
            reason = bounds.3;
            alone = back.alone;
          };
      standing = back.stands;
    }

pub writes-own : WritesOwn
unfolding bytes_of_entry length_of_told
writes-own bytes kind account e whole b n other = go read.standing
  where
    read : Read bytes kind account e whole
    read = writes-read bytes kind account e whole b n

    go : StandsAs kind e.told → (take whole bytes ≡ bytes_of_entry account e) × (whole ≡ length_of_told e.told)
    go (inl k) = (rw k at read.bytes', rw k at read.length')
    go (inr q) = absurd (other q.0)
