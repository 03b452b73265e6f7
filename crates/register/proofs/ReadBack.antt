-- The entries of a call, read back from their bytes, are the entries: by induction on the entries, each by the reader's law.
-- Assumes nothing.
use Prim.Native.Nat.{ℕ, zero, suc, ◌≤◌, ◌<◌, ◌^◌}
use mathlib.Core.Path.{◌≡◌, refl, ◌∙◌, ap}
use mathlib.Core.List.{List, [], ◌∷◌, ◌++◌, map}
use mathlib.Core.Option.{Option, none, some}
use native.Mathlib.Omega.{arith}
use lib.ListN.{length, length-append}
use lib.Pow.{pow_mono}
use lib.Seq.{drop_at}
use Rattle.rule.specs.Rule as rule
use Rattle.rule.specs.Says.{WeighingSays, EntrySays, EntriesSay}
use Rattle.events.specs.declared.Event.{Event}
use Rattle.events.specs.declared.State.{State}
use Rattle.events.specs.Events.{reason_byte}
use Rattle.filing.specs.Entries.{RuleEntry, verdict_in, entry_of}
use Rattle.filing.proofs.Slots.{weighing-forth}
use Rattle.layout.specs.Fields.{row_of_kind, last_account}
use Rattle.layout.specs.Number.{number_at}
use Rattle.entry.specs.Bytes.{bytes_of_entry, bytes_of_entries, length_of_told, entry_rows}
use Rattle.entry.specs.Answers.{read_of}
use Rattle.entry.specs.Inverse.{Writable}
use Rattle.entry.proofs.Inverse.{reads-written}
use Rattle.entry.proofs.Stored.{length-entry}
use Rattle.register.specs.Fits.{EventFits, CommitFits, StateFits, BalanceFits}
use Rattle.register.specs.Sequence.{rule_entry, entries_from, entries_in}
use Rattle.register.specs.Plain.{Reasoned}
use Rattle.register.proofs.Suits.{Suits}

-- an entry as a value and back
pub value-back : (x : RuleEntry) → Reasoned x → rule_entry (entry_of x) ≡ x
value-back (rule.voted t g e w) h = ap (rule.voted t g e) (weighing-forth w h)
value-back (rule.noted t g) h = refl
value-back (rule.applied t g e b) h = refl
value-back (rule.dropped t g e) h = refl

-- an entry is at least as long as its heading
length_some : (x : RuleEntry) → 1 ≤ length_of_told (entry_of x).told
unfolding length_of_told row_of_kind entry_rows
length_some (rule.voted t g e w) = vote w.verdict
  where
    vote : (v : rule.Verdict) → 1 ≤ length_of_told (entry_of (rule.voted t g e (record { verdict = v; weighed = w.weighed; reason = w.reason }))).told
    vote rule.accept = omega arith
    vote rule.reject = omega arith
    vote rule.hold = omega arith
length_some (rule.noted t g) = omega arith
length_some (rule.applied t g e b) = omega arith
length_some (rule.dropped t g e) = omega arith

-- where no bytes are left, no entry is
nothing_read : (most : ℕ) → entries_from most [] ≡ []
unfolding entries_from read_of row_of_kind entry_rows number_at
nothing_read zero = refl
nothing_read (suc most) = refl

module _ (R : rule.Rule State Event ℕ) (k : Suits R) (i : ℕ) (fits : i ≤ last_account) where
  abbrev Say : RuleEntry → Type 0
  Say x = EntrySays R EventFits CommitFits StateFits BalanceFits x

  -- a reason fits its byte, and is not 0
  reason-fits : (e : Event) (w : rule.Weighing) → WeighingSays R e w → reason_byte w.reason < 256
  reason-fits e w h = by w.reason refl
    where
      by : (o : Option ℕ) → w.reason ≡ o → reason_byte o < 256
      by none q = omega arith
      by (some n) q = let given = h.given n q in (k.reasoned e given.0 n given.1).1

  says-reasoned : (x : RuleEntry) → Say x → Reasoned x
  says-reasoned (rule.voted t g e w) h = λ q. let given = h.1.given 0 q in omega (arith, (k.reasoned e given.0 0 given.1).0)
  says-reasoned (rule.noted t g) h = tt
  says-reasoned (rule.applied t g e b) h = tt
  says-reasoned (rule.dropped t g e) h = tt

  -- what an entry says fits its bytes
  says-fits : (x : RuleEntry) → Say x → Writable i (entry_of x)
  says-fits (rule.voted t g e w) h =
      let few : 2 ^ R.progress_limit ≤ 2 ^ 8 = pow_mono k.few in
      record {
        transaction = h.0.0;
        account' = fits;
        filed = h.0.1;
        amount = h.0.2;
        weighed = omega (arith, h.1.few, few);
        balance = omega arith;
        reason = reason-fits e w h.1;
        alone = λ other. rw (h.1.alone (λ rejects. other (ap verdict_in rejects))) refl;
      }
  says-fits (rule.noted t g) h =
      record { transaction = h.0; account' = fits; filed = h.1; amount = omega arith; weighed = omega arith; balance = omega arith; reason = omega arith; alone = λ other. refl }
  says-fits (rule.applied t g e b) h =
      record { transaction = h.0.0; account' = fits; filed = h.0.1; amount = h.0.2; weighed = omega arith; balance = omega (arith, h.1); reason = omega arith; alone = λ other. refl }
  says-fits (rule.dropped t g e) h =
      record { transaction = h.0; account' = fits; filed = h.1; amount = h.2; weighed = omega arith; balance = omega arith; reason = omega arith; alone = λ other. refl }

  -- so that entries as values are the entries
  pub values-back : (xs : List RuleEntry) → EntriesSay R EventFits CommitFits StateFits BalanceFits xs → map rule_entry (map entry_of xs) ≡ xs
  values-back [] h = refl
  values-back (x ∷ xs) h = λ j. value-back x (says-reasoned x h.0) j ∷ values-back xs h.1 j

  -- one entry, and the rest
  read_one : (x : RuleEntry) (rest : List ℕ) (most : ℕ) → Say x → entries_from (suc most) (bytes_of_entry i (entry_of x) ++ rest) ≡ x ∷ entries_from most rest
  unfolding entries_from
  read_one x rest most h =
      rw (
        reads-written i (entry_of x) rest (says-fits x h),
        value-back x (says-reasoned x h),
        drop_at (bytes_of_entry i (entry_of x)) rest (length_of_told (entry_of x).told) (length-entry i (entry_of x)),
      )

  read-on : (xs : List RuleEntry) (most : ℕ) → length (bytes_of_entries i (map entry_of xs)) ≤ most → EntriesSay R EventFits CommitFits StateFits BalanceFits xs
      → entries_from most (bytes_of_entries i (map entry_of xs)) ≡ xs
  unfolding bytes_of_entries
  read-on [] most l h = nothing_read most
  read-on (x ∷ xs) zero l h =
      absurd (omega (arith, length-append (bytes_of_entry i (entry_of x)) (bytes_of_entries i (map entry_of xs)), length-entry i (entry_of x), length_some x))
  read-on (x ∷ xs) (suc most) l h =
      read_one x (bytes_of_entries i (map entry_of xs)) most h.0
      ∙ ap (λ (l : List RuleEntry). x ∷ l)
      (read-on xs most
      (omega (arith, length-append (bytes_of_entry i (entry_of x)) (bytes_of_entries i (map entry_of xs)), length-entry i (entry_of x), length_some x)) h.1)

  pub entries-back : (xs : List RuleEntry) → EntriesSay R EventFits CommitFits StateFits BalanceFits xs → entries_in (bytes_of_entries i (map entry_of xs)) ≡ xs
  entries-back xs h = read-on xs (length (bytes_of_entries i (map entry_of xs))) (omega arith) h
