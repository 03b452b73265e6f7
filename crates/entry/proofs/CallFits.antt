-- A call's entries are its own, then those of the events applied, then votes, as the rule's law on the shape of a call says. There are at most as many applied as
-- events were in progress, and at most as many votes as requests were held; an event or a request that is dropped is not among them.
-- Assumes nothing.
use Prim.Native.Nat.{ℕ, suc, ◌+◌, ◌*◌, ◌≤◌}
use native.Mathlib.Nat.{mul-suc}
use native.Mathlib.Omega.{arith}
use mathlib.Core.Path.{◌≡◌, refl, ◌∙◌}
use mathlib.Core.Bool.{Bool, true, false, cond}
use mathlib.Core.List.{List, [], ◌∷◌, ◌++◌, map, map-append}
use mathlib.Core.Option.{Option, none, some}
use borrow.Author.Tests.{ltb-false, le-ltb, leb-true}
use lib.Dec.{leb, ltb, lit≤}
use lib.ListN.{length, length-append}
use Rattle.rule.specs.Rule as rule
use Rattle.rule.specs.Rule.{Rule}
use Rattle.rule.specs.InOrder.{is_in_order}
use Rattle.rule.specs.Step.{step}
use Rattle.rule.specs.Call as call
use Rattle.rule.specs.Written.{OnlyApplied, OnlyDecided, Following, Writes}
use Rattle.rule.proofs.Lists.{and_left, and_right}
use Rattle.rule.proofs.InOrder.{order-clauses}
use Rattle.rule.proofs.Written.{step-shape}
use Rattle.events.specs.declared.Event.{Event}
use Rattle.events.specs.declared.State.{State}
use Rattle.filing.specs.declared.Filed.{Filed}
use Rattle.filing.specs.Slots.{places, blank_filed}
use Rattle.filing.specs.Entries.{RuleEntry, weighing_in, entry_of, entries_of, blank_entry, most}
use Rattle.filing.proofs.Filled.{first-filled}
use Rattle.refusal.specs.declared.Refusal.TheVariants.{NoRoom}
use Rattle.layout.specs.Fields.{row_of_kind}
use Rattle.layout.specs.Writes.{said_of_writing, wrote_over, refused_with}
use Rattle.entry.specs.Bytes.{entry_rows, length_of_told, bytes_of_entries, wholes_of, list_of}
use Rattle.entry.specs.Answers.{longest_call, write_of}
use Rattle.entry.specs.Longest.{CallFits, CallsFit, CallsRefused, full_account, filling, LongestBy}
use Rattle.entry.proofs.Longest.{vote-short}
use Rattle.entry.proofs.Stored.{length-entries, wholes-append}

-- at most so many entries, in at most so many bytes
record Within (xs : List RuleEntry) (count bytes : ℕ) : Type 0 where
  few : length xs ≤ count
  short : wholes_of (map entry_of xs) ≤ bytes

within_none : (count bytes : ℕ) → Within [] count bytes
unfolding wholes_of
within_none count bytes = record { few = omega arith; short = omega arith }

within_more : (xs : List RuleEntry) (a b c d : ℕ) → Within xs a b → a ≤ c → b ≤ d → Within xs c d
within_more xs a b c d p h k = record { few = omega (arith, p.few); short = omega (arith, p.short) }

within-one : (x : RuleEntry) (xs : List RuleEntry) (size a b : ℕ) → length_of_told (entry_of x).told ≤ size → Within xs a b → Within (x ∷ xs) (1 + a) (size + b)
unfolding wholes_of
within-one x xs size a b h p = record { few = omega (arith, p.few); short = omega (arith, p.short) }

-- one more that is no longer than the others
within-next : (x : RuleEntry) (xs : List RuleEntry) (size n : ℕ) → length_of_told (entry_of x).told ≤ size → Within xs n (size * n)
    → Within (x ∷ xs) (suc n) (size * suc n)
within-next x xs size n h p = within_more (x ∷ xs) (1 + n) (size + size * n) (suc n) (size * suc n) (within-one x xs size n (size * n) h p) (omega arith) (rw mul-suc (omega arith))

within-append : (xs ys : List RuleEntry) (a b c d : ℕ) → Within xs a b → Within ys c d → Within (xs ++ ys) (a + c) (b + d)
within-append xs ys a b c d p q =
    record {
      few = rw length-append (omega (arith, p.few, q.few));
      short = rw (map-append, wholes-append) (omega (arith, p.short, q.short));
    }

-- entries of events applied, and votes, of which a rejection is the longest
applied-within : (xs : List RuleEntry) → OnlyApplied xs → Within xs (length xs) (20 * length xs)
unfolding length_of_told row_of_kind entry_rows
applied-within [] h = within_none 0 0
applied-within (rule.voted t g e w ∷ xs) h = absurd h
applied-within (rule.noted t g ∷ xs) h = absurd h
applied-within (rule.applied t g e b ∷ xs) h = within-next (rule.applied t g e b) xs 20 (length xs) (lit≤ tt) (applied-within xs h)
applied-within (rule.dropped t g e ∷ xs) h = absurd h

decided-within : (xs : List RuleEntry) → OnlyDecided xs → Within xs (length xs) (19 * length xs)
decided-within [] h = within_none 0 0
decided-within (rule.voted t g e w ∷ xs) h = within-next (rule.voted t g e w) xs 19 (length xs) (vote-short e (weighing_in w)) (decided-within xs h.1)
decided-within (rule.noted t g ∷ xs) h = absurd h
decided-within (rule.applied t g e b ∷ xs) h = absurd h
decided-within (rule.dropped t g e ∷ xs) h = absurd h

-- those behind a call's own
following-within : (most-applied most-decided : ℕ) (xs : List RuleEntry) → Following most-applied most-decided xs
    → Within xs (most-applied + most-decided) (20 * most-applied + 19 * most-decided)
following-within p d xs f =
    let first = f.applications in
    let then = f.decisions in
    rw f.split
    (within_more (first ++ then) (length first + length then) (20 * length first + 19 * length then) (p + d) (20 * p + 19 * d)
    (within-append first then (length first) (20 * length first) (length then) (19 * length then) (applied-within first f.only_applied) (decided-within then f.only_decided))
    (omega (arith, f.few, f.few_decided)) (omega (arith, f.few, f.few_decided)))

-- a message that is taken, by the shape of what it writes
writes-within : (n k : ℕ) (m : rule.Message Filed Event) (xs : List RuleEntry) → n ≤ places → k ≤ places → Writes n k m xs → Within xs most longest_call
unfolding length_of_told row_of_kind entry_rows
writes-within n k (rule.request t g e) xs p h s =
    let own = rule.voted t g e s.0 in
    rw s.1 (within_more (own ∷ []) (1 + 0) (19 + 0) most longest_call (within-one own [] 19 0 0 (vote-short e (weighing_in s.0)) (within_none 0 0)) (lit≤ tt) (lit≤ tt))
writes-within n k (rule.commit t g) xs p h s =
    rw s.1
    (within_more (rule.noted t g ∷ s.0) (1 + (n + k)) (11 + (20 * n + 19 * k)) most longest_call
    (within-one (rule.noted t g) s.0 11 (n + k) (20 * n + 19 * k) (lit≤ tt) (following-within n k s.0 s.2)) (omega arith) (omega arith))
writes-within n k (rule.abort t g) xs p h s =
    let applied = s.3 in
    let decided = s.4 in
    rw s.5
    (within_more (rule.dropped t s.0 s.1 ∷ s.2) (1 + (applied + decided)) (16 + (20 * applied + 19 * decided)) most longest_call
    (within-one (rule.dropped t s.0 s.1) s.2 16 (applied + decided) (20 * applied + 19 * decided) (lit≤ tt) (following-within applied decided s.2 s.6))
    (omega (arith, s.7, s.8, s.9)) (omega (arith, s.7, s.8, s.9)))

-- the entries of a call in their places, and without them
pub listed : (xs : List RuleEntry) → list_of (entries_of xs) ≡ map entry_of xs
unfolding entries_of
listed xs = first-filled entry_of blank_entry most xs

fits : (xs : List RuleEntry) → Within xs most longest_call → CallFits xs
unfolding entries_of
fits xs p = record { count = p.few; bytes = λ account. rw (listed xs, length-entries) p.short }

module _ (R : Rule State Event ℕ) (a : rule.Account Filed State Event) (m : rule.Message Filed Event)
    (p : R.progress_limit ≤ places) (h : R.held_limit ≤ places) (o : is_in_order R a ≡ true) where
  -- a call writes what its step does, or nothing
  call-within : Within (call.written (call.call R a m).answer) most longest_call
  unfolding call.call
  call-within = go (call.refusal R a m) refl
    where
      go : (refusal : Option ℕ) → call.refusal R a m ≡ refusal → Within (call.written (call.call_by refusal a (step R a m)).answer) most longest_call
      go (some n) e = within_none most longest_call
      go none e =
          let clauses = order-clauses R a o in
          let progressing = length a.progress in
          let holding = length a.held in
          let few = leb progressing R.progress_limit in
          let few-held = leb holding R.held_limit in
          let n : progressing ≤ R.progress_limit = leb-true progressing R.progress_limit (and_left few few-held clauses.counts) in
          let k : holding ≤ R.held_limit = leb-true holding R.held_limit (and_right few few-held clauses.counts) in
          writes-within progressing holding m (step R a m).entries (omega arith) (omega arith) (step-shape R a m clauses.transactions e)

pub calls-fit : CallsFit
calls-fit =
    record {
      nothing = fits [] (within_none most longest_call);
      taken = λ n k m xs p h w. fits xs (writes-within n k m xs p h w);
      called = λ R a m p h o. fits (call.written (call.call R a m).answer) (call-within R a m p h o);
    }

pub calls-refused : CallsRefused
unfolding write_of
calls-refused xs fit account buffer = go (ltb (length buffer) longest_call) refl
  where
    bytes : List ℕ
    bytes = bytes_of_entries account (list_of (entries_of xs))

    go : (b : Bool) → ltb (length buffer) longest_call ≡ b
        → (said_of_writing (cond b (refused_with NoRoom buffer) (cond (ltb (length buffer) (length bytes)) (refused_with NoRoom buffer) (wrote_over bytes buffer))).answer).refusal
        ≡ cond b (some 4) none
    go true e = refl
    go false e =
        let room_for : longest_call ≤ length buffer = ltb-false (length buffer) longest_call e in
        let short : length bytes ≤ longest_call = fit.bytes account in
        rw (le-ltb (length buffer) (length bytes) (omega arith))

-- for a rule it is enough to compute three things
pub longest-by : (R : Rule State Event ℕ) → is_in_order R full_account ≡ true → call.reached R (rule.new_account R Filed) filling ≡ full_account
    → wholes_of (map entry_of (call.written (call.call R full_account (rule.commit 1 blank_filed)).answer)) ≡ longest_call → LongestBy R
longest-by R o r e =
    let xs = call.written (call.call R full_account (rule.commit 1 blank_filed)).answer in
    record { ordered = o; reached = r; bytes = λ account. rw (listed xs) (length-entries account (map entry_of xs) ∙ e) }
