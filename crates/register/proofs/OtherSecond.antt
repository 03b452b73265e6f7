-- Bytes that differ only in the four bytes of a second. They are read alike: every number of a message but its second stands below byte 7 or from byte 11 up to its length,
-- and there the bytes agree. And they are written alike: entries that agree but for their seconds have the same bytes before and behind them.
-- Assumes nothing.
use Prim.Native.Nat.{ℕ, zero, suc, ◌+◌, ◌-◌, ◌≤◌, ◌<◌, min}
use native.Mathlib.Nat.{sub-zero, zero-sub, suc-sub-suc}
use native.Mathlib.Omega.{arith}
use mathlib.Core.Path.{◌≡◌, refl, sym, ◌∙◌, ap, ap₂, subst₂}
use mathlib.Core.Bool.{Bool, true, false, cond}
use mathlib.Core.List.{List, [], ◌∷◌, ◌++◌, map}
use mathlib.Core.Option.{Option, none, some}
use borrow.Author.Tests.{ltb-true, ltb-false, eqb-true, eqb-false}
use lib.Dec.{eqb, ltb}
use lib.ListN.{length, get_or, take, drop, length-append, length-take}
use lib.Seq.{slice, take-nil, get_or-take, get_or-drop, take_at, drop_at}
use Rattle.std.specs.Prelude.{Result, Ok, Err}
use Rattle.refusal.specs.declared.Refusal.{Refusal}
use Rattle.refusal.specs.declared.Refusal.TheVariants.{Torn, UnknownAccount, UnknownKind}
use Rattle.rule.specs.Filed.{message_through, entry_through}
use Rattle.filing.specs.declared.Filed.{Filed}
use Rattle.filing.specs.declared.Told.{Told}
use Rattle.filing.specs.declared.Told.TheVariants.{Voted, Noted, Applied, Dropped}
use Rattle.filing.specs.declared.Entry.{Entry}
use Rattle.filing.specs.Slots.{blank_filed}
use Rattle.filing.specs.Entries.{RuleEntry, entry_of}
use Rattle.filing.proofs.Slots.{weighing-back}
use Rattle.layout.specs.Number.{number_at}
use Rattle.layout.specs.Fields.{KindRow, row_of_kind, then_of, widths_of, heading, numbers_at, written, total, last_account}
use Rattle.events.specs.Kinds.{event_of}
use Rattle.layout.specs.Heading.{heading_numbers}
use Rattle.layout.proofs.Fields.{length-written, written-append}
use Rattle.layout.proofs.Heading.{filed_at}
use Rattle.message.specs.declared.Heading.{Heading}
use Rattle.message.specs.declared.Message.{Message}
use Rattle.message.specs.declared.Message.TheVariants.{Request, Commit, Abort}
use Rattle.message.specs.Bytes.{messages, heading_of, message_by}
use Rattle.message.specs.Answers.{read_numbers, read_kind, read_of}
use Rattle.entry.specs.Bytes.{bytes_as, entry_rows, kind_of, then_numbers, bytes_of_entry, bytes_of_entries}
use Rattle.entry.proofs.Stored.{length-entry}
use Rattle.register.specs.Register.{rule_message}
use Rattle.register.specs.Sequence.{told_as, rule_entry}
use Rattle.register.specs.Whole.{Whole}
use Rattle.register.specs.Seconds.{OtherSecond, SameMessage, WholeStrings, SameEntries, nothing_written, entry}
use Rattle.register.proofs.Whole.{row-length, row-total}

-- what is left of what is filed where it is not looked at
abbrev pub forget : Filed → Filed
forget g = blank_filed

-- two readings that differ at most in what is filed: the same refusal, or messages of the same length to the same account
pub data SameReading : Result (Message × ℕ) Refusal → Result (Message × ℕ) Refusal → Type 0 where
  same-refusal : (refusal : Refusal) → SameReading (Err refusal) (Err refusal)
  same-message : (m m' : Message) (whole : ℕ) → (heading_of m).account ≡ (heading_of m').account → message_through forget (rule_message m) ≡ message_through forget (rule_message m')
      → SameReading (Ok (m, whole)) (Ok (m', whole))

-- Numbers that stand before the second, or behind it within the message's length.
module _ (bytes bytes' : List ℕ) (other : SameMessage bytes bytes') where
  before : (i : ℕ) → i < 7 → get_or bytes i 0 ≡ get_or bytes' i 0
  before i l = sym (get_or-take 7 bytes i 0 l) ∙ ap (λ (s : List ℕ). get_or s i 0) other.front ∙ get_or-take 7 bytes' i 0 l

  -- a byte of a part
  within : (s : List ℕ) (whole i : ℕ) → 11 ≤ i → i < whole → get_or (slice 11 whole s) (i - 11) 0 ≡ get_or s i 0
  within s whole i l h = let k : 11 + (i - 11) ≡ i = omega arith in get_or-drop 11 (take whole s) (i - 11) 0 ∙ rw k (get_or-take whole s i 0 h)

  behind : (whole : ℕ) → Whole bytes whole → (i : ℕ) → 11 ≤ i → i < whole → get_or bytes i 0 ≡ get_or bytes' i 0
  behind whole w i l h = sym (within bytes whole i l h) ∙ ap (λ (s : List ℕ). get_or s (i - 11) 0) (other.back whole w) ∙ within bytes' whole i l h

  -- a number whose bytes agree
  number_same : (at width : ℕ) → ((i : ℕ) → i < width → get_or bytes (at + i) 0 ≡ get_or bytes' (at + i) 0) → number_at bytes at width ≡ number_at bytes' at width
  unfolding number_at
  number_same at zero h = refl
  number_same at (suc width) h = rw (number_same at width (λ i l. h i (omega arith)), h width (omega arith))

  pub number-before : (at width : ℕ) → at + width ≤ 7 → number_at bytes at width ≡ number_at bytes' at width
  number-before at width l = number_same at width (λ i k. before (at + i) (omega arith))

  numbers-behind : (whole : ℕ) → Whole bytes whole → (widths : List ℕ) (at : ℕ) → 11 ≤ at → at + total widths ≤ whole → numbers_at widths bytes at ≡ numbers_at widths bytes' at
  unfolding numbers_at
  numbers-behind whole w [] at l h = refl
  numbers-behind whole w (width ∷ widths) at l h =
      ap₂ (λ (n : ℕ) (ns : List ℕ). n ∷ ns)
      (number_same at width (λ i k. behind whole w (at + i) (omega arith) (omega arith)))
      (numbers-behind whole w widths (at + width) (omega arith) (omega arith))

  -- both are empty or neither, and both are too short or neither
  pub empty-same : eqb (length bytes) 0 ≡ eqb (length bytes') 0
  empty-same = go (eqb (length bytes) 0) (eqb (length bytes') 0) refl refl
    where
      sizes : min 7 (length bytes) ≡ min 7 (length bytes')
      sizes = sym (length-take 7 bytes) ∙ ap length other.front ∙ length-take 7 bytes'

      go : (b c : Bool) → eqb (length bytes) 0 ≡ b → eqb (length bytes') 0 ≡ c → b ≡ c
      go true true p q = refl
      go true false p q = absurd (eqb-false (length bytes') 0 q (omega (arith, sizes, eqb-true (length bytes) 0 p)))
      go false true p q = absurd (eqb-false (length bytes) 0 p (omega (arith, sizes, eqb-true (length bytes') 0 q)))
      go false false p q = refl

  short-same : (whole : ℕ) → Whole bytes whole → ltb (length bytes) whole ≡ ltb (length bytes') whole
  short-same whole w = go (ltb (length bytes) whole) (ltb (length bytes') whole) refl refl
    where
      go : (b c : Bool) → ltb (length bytes) whole ≡ b → ltb (length bytes') whole ≡ c → b ≡ c
      go true true p q = refl
      go true false p q = absurd (omega (arith, ltb-true (length bytes) whole p, (other.reached whole w).1 (ltb-false (length bytes') whole q)))
      go false true p q = absurd (omega (arith, ltb-true (length bytes') whole q, (other.reached whole w).0 (ltb-false (length bytes) whole p)))
      go false false p q = refl

-- Messages that agree but for what is filed, by the tests of their kind.
module _ (kind transaction account amount : ℕ) (g g' : Filed) where
  abbrev headed : Filed → Heading
  headed x = record { transaction = transaction; account = account; filed = x }

  abbrev chosen : (commits aborts : Bool) → Filed → Message
  chosen commits aborts x = cond commits (Commit (headed x)) (cond aborts (Abort (headed x)) (Request (headed x) (event_of kind amount)))

  chosen-same : (commits aborts : Bool) (whole : ℕ)
      → SameReading (Ok (chosen commits aborts g, whole)) (Ok (chosen commits aborts g', whole))
  chosen-same true aborts whole = same-message (Commit (headed g)) (Commit (headed g')) whole refl refl
  chosen-same false true whole = same-message (Abort (headed g)) (Abort (headed g')) whole refl refl
  chosen-same false false whole = same-message (Request (headed g) (event_of kind amount)) (Request (headed g') (event_of kind amount)) whole refl refl

  message-same : (whole : ℕ)
      → SameReading (Ok (message_by kind (headed g) amount, whole)) (Ok (message_by kind (headed g') amount, whole))
  unfolding message_by
  message-same whole = chosen-same (eqb kind 5) (eqb kind 6) whole

-- numbers that agree but for what is filed are read alike
numbers-same : (kind transaction account whole : ℕ) (g g' : Filed) (amounts : List ℕ)
    → SameReading (read_numbers whole (heading_numbers kind transaction account g ++ amounts)) (read_numbers whole (heading_numbers kind transaction account g' ++ amounts))
numbers-same kind transaction account whole g g' amounts = go (ltb last_account account)
  where
    reading : Bool → Filed → Result (Message × ℕ) Refusal
    reading above x =
        cond above (Err UnknownAccount)
        (Ok (message_by kind (record { transaction = transaction; account = account; filed = x }) (get_or amounts 0 0), whole))

    go : (above : Bool) → SameReading (reading above g) (reading above g')
    go true = same-refusal UnknownAccount
    go false = message-same kind transaction account (get_or amounts 0 0) g g' whole

-- and so are bytes
module _ (bytes bytes' : List ℕ) (other : SameMessage bytes bytes') where
  kind-same : (found : Option KindRow) → row_of_kind messages (number_at bytes 0 1) ≡ found → SameReading (read_kind found bytes) (read_kind found bytes')
  unfolding numbers_at
  kind-same none e = same-refusal UnknownKind
  kind-same (some r) e = rw (short-same bytes bytes' other r.whole (row-length bytes r e)) (go (ltb (length bytes') r.whole))
    where
      numbers : List ℕ → List ℕ
      numbers s = numbers_at (widths_of (some r)) s 0

      go : (short : Bool) → SameReading (cond short (Err Torn) (read_numbers r.whole (numbers bytes))) (cond short (Err Torn) (read_numbers r.whole (numbers bytes')))
      go true = same-refusal Torn
      go false =
          rw (
            number-before bytes bytes' other 0 1 (omega arith),
            number-before bytes bytes' other 1 4 (omega arith),
            number-before bytes bytes' other 5 2 (omega arith),
            numbers-behind bytes bytes' other r.whole (row-length bytes r e) r.then 11 (omega arith) (omega (arith, row-total bytes r e)),
          )
          (numbers-same (number_at bytes' 0 1) (number_at bytes' 1 4) (number_at bytes' 5 2) r.whole (filed_at bytes) (filed_at bytes') (numbers_at r.then bytes' 11))

  pub reading-same : SameReading (read_of bytes) (read_of bytes')
  unfolding read_of
  reading-same = rw (empty-same bytes bytes' other, ← number-before bytes bytes' other 0 1 (omega arith)) (go (eqb (length bytes') 0))
    where
      row' : Option KindRow
      row' = row_of_kind messages (number_at bytes 0 1)

      go : (empty : Bool) → SameReading (cond empty (Err Torn) (read_kind row' bytes)) (cond empty (Err Torn) (read_kind row' bytes'))
      go true = same-refusal Torn
      go false = kind-same row' refl

-- a part is the beginning of what is left
slice-take : (from to : ℕ) (s : List ℕ) → slice from to s ≡ take (to - from) (drop from s)
slice-take zero to s = ap (λ (n : ℕ). take n s) (sym (sub-zero to))
slice-take (suc from) zero s = ap (λ (n : ℕ). take n (drop (suc from) s)) (sym (zero-sub (suc from)))
slice-take (suc from) (suc to) [] = sym (take-nil (suc to - suc from))
slice-take (suc from) (suc to) (x ∷ xs) = slice-take from to xs ∙ ap (λ (n : ℕ). take n (drop from xs)) (sym (suc-sub-suc to from))

-- strings that differ only in the second as wholes begin with messages that do
pub whole-strings : WholeStrings
whole-strings bytes bytes' other =
    record {
      front = other.front;
      back = λ whole w. slice-take 11 whole bytes ∙ ap (take (whole - 11)) other.back ∙ sym (slice-take 11 whole bytes');
      reached = λ whole w. (λ h. omega (arith, other.size), λ h. omega (arith, other.size));
    }

-- An entry's bytes: seven before what is filed, and those behind it.
module _ (kind transaction account : ℕ) (g : Filed) (then numbers : List ℕ) where
  abbrev before_filed : List ℕ
  before_filed = kind ∷ transaction ∷ account ∷ []

  abbrev headed_by : List ℕ
  headed_by = heading_numbers kind transaction account g

  entry-front : take 7 (written (heading ++ then) (headed_by ++ numbers)) ≡ written (1 ∷ 4 ∷ 2 ∷ []) before_filed
  entry-front =
      ap (take 7) (written-append (1 ∷ 4 ∷ 2 ∷ []) (4 ∷ then) before_filed (drop 3 headed_by ++ numbers) refl)
      ∙ take_at (written (1 ∷ 4 ∷ 2 ∷ []) before_filed) (written (4 ∷ then) (drop 3 headed_by ++ numbers)) 7 (length-written (1 ∷ 4 ∷ 2 ∷ []) before_filed refl)

  entry-back : drop 11 (written (heading ++ then) (headed_by ++ numbers)) ≡ written then numbers
  entry-back =
      ap (drop 11) (written-append heading then headed_by numbers refl)
      ∙ drop_at (written heading headed_by) (written then numbers) 11 (length-written heading headed_by refl)

-- entries that agree but for what is filed
module _ (account transaction : ℕ) (told : Told) where
  abbrev said : Filed → Entry
  said g = record { transaction = transaction; filed = g; told = told }

  entry-same : (g g' : Filed) → OtherSecond (bytes_of_entry account (said g)) (bytes_of_entry account (said g'))
  unfolding bytes_as bytes_of_entry
  entry-same g g' =
      let kind = kind_of told in
      let then = then_of (row_of_kind entry_rows kind) in
      let numbers = then_numbers told in
      record {
        size = length-entry account (said g) ∙ sym (length-entry account (said g'));
        front = entry-front kind transaction account g then numbers ∙ sym (entry-front kind transaction account g' then numbers);
        back = entry-back kind transaction account g then numbers ∙ sym (entry-back kind transaction account g' then numbers);
      }

-- what an entry says besides what is filed stays where that is forgotten
abbrev pub forgotten : Entry → RuleEntry
forgotten e = entry_through forget (rule_entry e)

forgotten-told : (e : Entry) → (entry_of (forgotten e)).told ≡ e.told
forgotten-told e = by e.told
  where
    by : (told : Told) → (entry_of (entry_through forget (told_as e.transaction e.filed told))).told ≡ told
    by (Voted x w) = ap (Voted x) (weighing-back w)
    by Noted = refl
    by (Applied x b) = refl
    by (Dropped x) = refl

forgotten-transaction : (e : Entry) → (entry_of (forgotten e)).transaction ≡ e.transaction
forgotten-transaction e = by e.told
  where
    by : (told : Told) → (entry_of (entry_through forget (told_as e.transaction e.filed told))).transaction ≡ e.transaction
    by (Voted x w) = refl
    by Noted = refl
    by (Applied x b) = refl
    by (Dropped x) = refl

module _ (account : ℕ) where
  two-same : (e e' : Entry) → forgotten e ≡ forgotten e' → OtherSecond (bytes_of_entry account e) (bytes_of_entry account e')
  two-same e e' h =
      let t : e.transaction ≡ e'.transaction = sym (forgotten-transaction e) ∙ ap (λ (y : RuleEntry). (entry_of y).transaction) h ∙ forgotten-transaction e' in
      let d : e.told ≡ e'.told = sym (forgotten-told e) ∙ ap (λ (y : RuleEntry). (entry_of y).told) h ∙ forgotten-told e' in
      subst₂ (λ (u : ℕ) (w : Told). OtherSecond (bytes_of_entry account e) (bytes_of_entry account (said account u w e'.filed))) t d
      (entry-same account e.transaction e.told e.filed e'.filed)

  -- the entries of two calls that agree but for what is filed
  pub entries-same : (es es' : List Entry) → map forgotten es ≡ map forgotten es' → SameEntries (bytes_of_entries account es) (bytes_of_entries account es')
  unfolding bytes_of_entries
  entries-same [] [] h = nothing_written
  entries-same [] (e' ∷ es') h = cc
  entries-same (e ∷ es) [] h = cc
  entries-same (e ∷ es) (e' ∷ es') h =
      let head : forgotten e ≡ forgotten e' = cc in
      let tail : map forgotten es ≡ map forgotten es' = cc in
      entry account e e' (two-same e e' head) (entries-same es es' tail)

-- entries that agree but for their seconds are as long as each other
pub same_length : {bytes bytes' : List ℕ} → SameEntries bytes bytes' → length bytes ≡ length bytes'
same_length nothing_written = refl
same_length (entry account e e' {rest = rest} {rest' = rest'} other more) =
    length-append (bytes_of_entry account e) rest ∙ ap₂ (λ (a b : ℕ). a + b) other.size (same_length more) ∙ sym (length-append (bytes_of_entry account e') rest')
