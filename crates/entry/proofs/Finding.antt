-- What the reader finds, in plain numbers. An entry that was found was read by the row of its kind, and its event fits; bytes that begin with an
-- entry are read so; and where none is found one of the tests holds.
-- Assumes nothing.
use Prim.Native.Nat.{ℕ, ◌<◌}
use native.Mathlib.Omega.{arith}
use mathlib.Core.Path.{◌≡◌, refl, ap, ap₂, sym, ◌∙◌}
use mathlib.Core.Logic.{inl, inr}
use mathlib.Core.Bool.{Bool, true, false, cond, not, ◌&&◌, ◌||◌, false≢true}
use mathlib.Core.List.{List}
use borrow.Author.Tests.{ltb-true, ltb-false}
use Rattle.std.specs.Prelude.{Option, Some, None}
use lib.Dec.{eqb, leb, ltb, lit<}
use lib.ListN.{length, get_or}
use Rattle.events.specs.declared.Event.{Event}
use Rattle.events.specs.declared.Event.TheVariants.{Open, Withdraw, Deposit, Close}
use Rattle.filing.specs.declared.Verdict.{Verdict}
use Rattle.filing.specs.declared.Verdict.TheVariants.{Accepted, Rejected, Held}
use Rattle.filing.specs.declared.Told.{Told}
use Rattle.filing.specs.declared.Told.TheVariants.{Voted, Noted, Applied, Dropped}
use Rattle.filing.specs.declared.Entry.{Entry}
use Rattle.layout.specs.Number.{number_at}
use Rattle.layout.specs.Fields.{row_of_kind, whole_of, numbers_at}
use Rattle.events.specs.Kinds.{event_kind, amount_of, event_of}
use Rattle.layout.specs.Plain.{two_at, four_at}
use Rattle.layout.proofs.Tables.{present}
use Rattle.events.proofs.Table.{event-is}
use Rattle.layout.proofs.Plain.{numbers-plain}
use Rattle.layout.proofs.Heading.{filed-plain}
use Rattle.entry.specs.declared.Found.{Found}
use Rattle.entry.specs.Bytes.{entry_rows, verdict_by, told_by}
use Rattle.entry.specs.Answers.{said_of_entry, found_as, event_fits, read_of}
use Rattle.entry.specs.Plain.{vote, length_as, EventStands, VoteStands, Stands, Begins, ReaderFinds, kind_length, no_entry, nothing, ReaderFindsNone}
use Rattle.entry.proofs.Shapes.{event-fits}
use Rattle.entry.proofs.Reading.{number_after, reason_after, entry_at, fits_read, told-read, read-unknown, read_short, read-account, read-fitting}
use Rattle.entry.proofs.Inverse.{event-back, taken_of}
use Rattle.entry.proofs.Refusals.{readings-apart}
use Rattle.entry.proofs.Plain.{lengths-plain}

-- an event stands where its kind and its amount do
event-stands : (bytes : List ℕ) (e : Event) → (get_or bytes 11 0 ≡ event_kind e) × (four_at bytes 12 ≡ amount_of e) → EventStands bytes e
event-stands bytes (Open a) p = p
event-stands bytes (Withdraw a) p = p
event-stands bytes (Deposit a) p = p
event-stands bytes Close p = p

event-parts : (bytes : List ℕ) (e : Event) → EventStands bytes e → (get_or bytes 11 0 ≡ event_kind e) × (four_at bytes 12 ≡ amount_of e)
event-parts bytes (Open a) p = p
event-parts bytes (Withdraw a) p = p
event-parts bytes (Deposit a) p = p
event-parts bytes Close p = p

-- the event that the bytes hold
abbrev event_at : List ℕ → Event
event_at bytes = event_of (number_at bytes 11 1) (number_at bytes 12 4)

-- whether what follows the heading fits
abbrev fits_at : (bytes : List ℕ) (kind : ℕ) → Bool
fits_at bytes kind = cond (eqb kind 20) true (event_fits (number_at bytes 11 1) (number_at bytes 12 4))

event-read : (bytes : List ℕ) → event_fits (number_at bytes 11 1) (number_at bytes 12 4) ≡ true → EventStands bytes (event_at bytes)
event-read bytes f =
    let b = event-back (number_at bytes 11 1) (number_at bytes 12 4) f in
    event-stands bytes (event_at bytes) (sym (numbers-plain bytes 11 0).read1 ∙ sym b.0, sym (numbers-plain bytes 12 0).read4 ∙ sym b.1)

-- what the bytes' kind tells
abbrev told_at : (bytes : List ℕ) (kind : ℕ) → Told
told_at bytes kind = told_by kind (event_at bytes) (number_after bytes kind) (reason_after bytes kind)

-- stands in them, and is as long as the kind says
module _ (bytes : List ℕ) (kind : ℕ) (p : 0 < whole_of (row_of_kind entry_rows kind)) where
  stands_by : kind ≡ number_at bytes 0 1 → fits_at bytes kind ≡ true → Stands bytes (told_at bytes kind)
  unfolding row_of_kind entry_rows verdict_by told_by
  stands_by e f =
      let first : (k : ℕ) → k ≡ number_at bytes 0 1 → get_or bytes 0 0 ≡ k = λ k e. sym (numbers-plain bytes 0 0).read1 ∙ sym e in
      let two = sym (numbers-plain bytes 16 0).read2 in
      let four = sym (numbers-plain bytes 16 0).read4 in
      let last = sym (numbers-plain bytes 18 0).read1 in
      present
      (λ (k : ℕ). k ≡ number_at bytes 0 1 → fits_at bytes k ≡ true → Stands bytes (told_at bytes k))
      entry_rows kind (
        (λ e f. ((first 17 e, refl), event-read bytes f, two)),
        (
          (λ e f. (inl (first 18 e, refl), event-read bytes f, two)),
          (
            (λ e f. ((first 19 e, refl), event-read bytes f, two)),
            (
              (λ e f. first 20 e),
              (
                (λ e f. (first 21 e, event-read bytes f, four)),
                ((λ e f. (first 22 e, event-read bytes f)), ((λ e f. (inr (first 23 e, last), event-read bytes f, two)), tt)),
              ),
            ),
          ),
        ),
      )
      p e f

  length-by : whole_of (row_of_kind entry_rows kind) ≡ length_as kind (told_at bytes kind)
  unfolding row_of_kind entry_rows verdict_by told_by
  length-by =
      present
      (λ (k : ℕ). whole_of (row_of_kind entry_rows k) ≡ length_as k (told_at bytes k))
      entry_rows kind (refl, (refl, (refl, (refl, (refl, (refl, (refl, tt))))))) p

-- what was found stands at the beginning
found-begins : (bytes : List ℕ) (e : Entry) (kind account whole : ℕ) → read_of bytes ≡ found_as e kind account whole → Begins bytes e kind account whole
unfolding numbers_at
found-begins bytes e kind account whole r =
    let n = numbers-plain bytes in
    let t₀ = taken_of bytes kind account e whole r in
    let k : number_at bytes 0 1 ≡ kind = t₀.kind' in
    let t = rw k at t₀ in
    let f : fits_at bytes kind ≡ true = sym (fits_read bytes kind t.positive) ∙ t.fitting in
    let entry : entry_at bytes kind ≡ e = sym (told-read bytes kind t.positive (sym k)) ∙ t.entry in
    let told : told_at bytes kind ≡ e.told = ap (λ (x : Entry). x.told) entry in
    record {
      kind' = sym (n 0 0).read1 ∙ k;
      stands = rw told at (stands_by bytes kind t.positive (sym k) f);
      transaction = sym (n 1 0).read4 ∙ ap (λ (x : Entry). x.transaction) entry;
      account' = sym (n 5 0).read2 ∙ t.account';
      known = rw (n 5 0).read2 at t.known;
      filed = sym (filed-plain bytes) ∙ ap (λ (x : Entry). x.filed) entry;
      length' = sym t.length' ∙ length-by bytes kind t.positive ∙ ap (length_as kind) told;
      enough = rw t.length' at t.enough;
    }

-- what stands in the bytes is told by their kind, fits, and is as long as the kind says
record Parts (bytes : List ℕ) (kind : ℕ) (told : Told) : Type 0 where
  told' : told_at bytes kind ≡ told
  fitting : fits_at bytes kind ≡ true
  whole : whole_of (row_of_kind entry_rows kind) ≡ length_as kind told
  positive : 0 < whole_of (row_of_kind entry_rows kind)

event-at : (bytes : List ℕ) (e : Event) → EventStands bytes e → (event_at bytes ≡ e) × (event_fits (number_at bytes 11 1) (number_at bytes 12 4) ≡ true)
event-at bytes e s =
    let p = event-parts bytes e s in
    let k : number_at bytes 11 1 ≡ event_kind e = (numbers-plain bytes 11 0).read1 ∙ p.0 in
    let a : number_at bytes 12 4 ≡ amount_of e = (numbers-plain bytes 12 0).read4 ∙ p.1 in
    rw (k, a) (event-is e, event-fits e)

-- a vote by its verdict
module _ (bytes : List ℕ) {kind : ℕ} (first : get_or bytes 0 0 ≡ kind) where
  vote-parts : (v : Verdict) {e : Event} {n : ℕ} (k : ℕ) → VoteStands bytes v k → event_at bytes ≡ e → number_at bytes 16 2 ≡ n
      → event_fits (number_at bytes 11 1) (number_at bytes 12 4) ≡ true → Parts bytes kind (vote v e n k)
  unfolding row_of_kind entry_rows verdict_by told_by
  vote-parts Accepted k s p q f = rw (← first, s.0, s.1) (record { told' = rw (p, q); fitting = f; whole = refl; positive = lit< tt })
  vote-parts Rejected k (inl s) p q f = rw (← first, s.0, s.1) (record { told' = rw (p, q); fitting = f; whole = refl; positive = lit< tt })
  vote-parts Rejected k (inr s) p q f =
      rw (← first, s.0) (record { told' = rw (p, q, (numbers-plain bytes 18 0).read1, s.1); fitting = f; whole = refl; positive = lit< tt })
  vote-parts Held k s p q f = rw (← first, s.0, s.1) (record { told' = rw (p, q); fitting = f; whole = refl; positive = lit< tt })

  parts : (told : Told) → Stands bytes told → Parts bytes kind told
  unfolding row_of_kind entry_rows told_by
  parts (Voted e w) s =
      let v = event-at bytes e s.1 in
      let weighed : number_at bytes 16 2 ≡ w.weighed = (numbers-plain bytes 16 0).read2 ∙ s.2 in
      vote-parts w.verdict w.reason s.0 v.0 weighed v.1
  parts Noted s = rw (← first, s) (record { told' = refl; fitting = refl; whole = refl; positive = lit< tt })
  parts (Applied e n) s =
      let v = event-at bytes e s.1 in
      rw (← first, s.0) (record { told' = ap₂ Applied v.0 ((numbers-plain bytes 16 0).read4 ∙ s.2); fitting = v.1; whole = refl; positive = lit< tt })
  parts (Dropped e) s =
      let v = event-at bytes e s.1 in rw (← first, s.0) (record { told' = ap Dropped v.0; fitting = v.1; whole = refl; positive = lit< tt })

begins-found : (bytes : List ℕ) (e : Entry) (kind account whole : ℕ) → Begins bytes e kind account whole → read_of bytes ≡ found_as e kind account whole
begins-found bytes e kind account whole b =
    let n = numbers-plain bytes in
    let q = parts bytes b.kind' e.told b.stands in
    let w : whole ≡ whole_of (row_of_kind entry_rows kind) = b.length' ∙ sym q.whole in
    let z : 0 < whole = rw w q.positive in
    let entry : entry_at bytes kind ≡ e = rw ((n 1 0).read4, filed-plain bytes, b.transaction, b.filed, q.told') in
    read-fitting bytes kind whole (sym b.kind' ∙ sym (n 0 0).read1) w (λ y. omega arith) b.enough (rw (n 5 0).read2 b.known)
    ∙ rw (q.fitting, entry, (n 5 0).read2, b.account')

pub reader-finds : ReaderFinds
reader-finds bytes e kind account whole = (
  (λ g. found-begins bytes e kind account whole (readings-apart (read_of bytes) (found_as e kind account whole) g)),
  (λ b. ap said_of_entry (begins-found bytes e kind account whole b)),
)

-- ---- where nothing is found

abbrev is_nothing : Option (Found × ℕ) → Bool
is_nothing (Some f) = false
is_nothing None = true

-- what follows the heading does not fit
unfit : (t a b c : Bool) (x : Option (Found × ℕ)) → is_nothing x ≡ false
    → is_nothing (cond (cond t true (a && (not b || c))) x None) ≡ (not t && (not a || (b && not c)))
unfit true a b c x h = h
unfit false false b c x h = refl
unfit false true false c x h = h
unfit false true true true x h = h
unfit false true true false x h = refl

positive : (a b c d : Bool) → 0 < cond a 18 (cond b 11 (cond c 20 (cond d 16 19)))
positive true b c d = omega arith
positive false true c d = omega arith
positive false false true d = omega arith
positive false false false true = omega arith
positive false false false false = omega arith

none-by : (bytes : List ℕ) → is_nothing (read_of bytes) ≡ no_entry bytes
none-by bytes = go (leb 17 kind && leb kind 23) (ltb (length bytes) (kind_length kind)) (ltb 15 (two_at bytes 5)) refl refl refl
  where
    kind : ℕ
    kind = get_or bytes 0 0

    k : kind ≡ number_at bytes 0 1
    k = sym (numbers-plain bytes 0 0).read1

    some_bytes : 0 < kind_length kind
    some_bytes = positive (leb kind 19) (eqb kind 20) (eqb kind 21) (eqb kind 22)

    whole : (a : Bool) → leb 17 kind && leb kind 23 ≡ a → cond a (kind_length kind) 0 ≡ whole_of (row_of_kind entry_rows kind)
    whole a p = sym (rw p at (lengths-plain kind))

    go : (a b d : Bool) → leb 17 kind && leb kind 23 ≡ a → ltb (length bytes) (kind_length kind) ≡ b → ltb 15 (two_at bytes 5) ≡ d
        → is_nothing (read_of bytes)
        ≡ (not a || (b || (d || (not (eqb kind 20)
        && (not (leb 1 (get_or bytes 11 0) && leb (get_or bytes 11 0) 4) || (eqb (get_or bytes 11 0) 4 && not (eqb (four_at bytes 12) 0)))))))
    go false b d p q r = rw (read-unknown bytes kind 0 k (whole false p) refl)
    go true true d p q r = rw (read_short bytes kind (kind_length kind) k (whole true p) (ltb-true (length bytes) (kind_length kind) q))
    go true false true p q r =
        rw (read-account bytes kind (kind_length kind) k (whole true p) (λ n. omega (arith, some_bytes)) (ltb-false (length bytes) (kind_length kind) q) (rw (numbers-plain bytes 5 0).read2 (ltb-true 15 (two_at bytes 5) r)))
    go true false false p q r =
        let e = read-fitting bytes kind (kind_length kind) k (whole true p) (λ n. omega (arith, some_bytes)) (ltb-false (length bytes) (kind_length kind) q) (rw (numbers-plain bytes 5 0).read2 (ltb-false 15 (two_at bytes 5) r)) in
        let found = found_as (entry_at bytes kind) kind (number_at bytes 5 2) (kind_length kind) in
        let event = number_at bytes 11 1 in
        rw (e, ← (numbers-plain bytes 11 0).read1, ← (numbers-plain bytes 12 0).read4)
        (unfit (eqb kind 20) (leb 1 event && leb event 4) (eqb event 4) (eqb (number_at bytes 12 4) 0) found refl)

pub reader-finds-none : ReaderFindsNone
reader-finds-none bytes = (
  (λ g. sym (none-by bytes) ∙ ap is_nothing (readings-apart (read_of bytes) None g)),
  (λ h. go (read_of bytes) (none-by bytes ∙ h)),
)
  where
    go : (x : Option (Found × ℕ)) → is_nothing x ≡ true → said_of_entry x ≡ nothing
    go (Some f) h = absurd (false≢true h)
    go None h = refl
