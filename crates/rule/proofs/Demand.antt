-- Demand 3, both halves, from what is kept at rest: each part of "the lines are right" is an induction on the tie between the lines and the account;
-- that the entries of ends are those of the lines that have ended is counted along the entries, each of which turns one line.
-- Assumes nothing.
use Prim.Native.Nat.{ℕ, ◌+◌, ◌≤◌}
use mathlib.Core.Path.{◌≡◌, refl, sym, ◌∙◌, ap}
use mathlib.Core.Logic.{◌⊎◌, inl, inr}
use mathlib.Core.Bool.{Bool, true, false, false≢true}
use mathlib.Core.List.{List, [], ◌∷◌, ◌++◌}
use native.Mathlib.Omega.{arith}
use lib.ListN.{length}
use Rattle.rule.specs.Lists.{keep}
use Rattle.rule.specs.Rule.{Rule, guard, Decision, undecided, committed, Slot, slot, Account, Message, request, commit, abort, accept, reject, hold, Verdict, Weighing, Entry, voted, noted, applied, dropped, new_account}
use Rattle.rule.specs.Weigh.{decide}
use Rattle.rule.specs.Call.{Answer, refused, taken, written, reached}
use Rattle.rule.specs.InOrder.{oldest_undecided, oldest_stays_held, stays_held}
use Rattle.rule.specs.History.{fate_by, Fate, waiting, voted_no, ongoing, was_applied, was_dropped, Line, line, note, notes, begun, after_call, Seen, history, lines_from, all_entries}
use Rattle.rule.specs.Vote.{Vote}
use Rattle.rule.specs.Run.{run, GuardsHold}
use Rattle.rule.specs.Demand.{serial, course, OneEnd, Turns, ended_line, end_entry, ends_owned, ends_written, Right, Owned, AllOwned, HistoryOwned, Demand3, Demand3After}
use Rattle.rule.specs.Readings.{any_end}
use Rattle.rule.proofs.Outcomes.{total, yes_of, length-yes}
use Rattle.rule.proofs.Exact.{idle-decide}
use Rattle.rule.proofs.Safe.{Safe, safe-every}
use Rattle.rule.proofs.Ties.{Wait, no_more, gone, waits, Live, held_then, no-then, dropped-then, going-then, Past, live_then, no-past, dropped-past, applied-past}
use Rattle.rule.proofs.Readings.{course-append}
use Rattle.rule.proofs.Vote.{vote-is}
use Rattle.rule.proofs.Turns.{total-append, turned}
use Rattle.rule.proofs.Tells.{past-progress, past-held, past-applied}
use Rattle.rule.proofs.Good.{Rest}
use Rattle.rule.proofs.Reached.{history-kept}
use Rattle.rule.proofs.InOrderExactly.{held-verdict, oldest-undecided, every-outcome}
use Rattle.rule.proofs.Course.{sorted_before, past-sorted, sorted-along}

module _ {G E : Type 0} where
  -- What waits has not run.
  wait-serial : {lines : List (Line G E)} {held : List (Slot G E)} → Wait lines held → serial lines ≡ []
  wait-serial no_more = refl
  wait-serial (gone w) = wait-serial w
  wait-serial (waits w) = wait-serial w

  wait-course : {lines : List (Line G E)} {held : List (Slot G E)} → Wait lines held → course lines ≡ []
  wait-course no_more = refl
  wait-course (gone w) = wait-course w
  wait-course (waits w) = wait-course w

  wait-ends : {lines : List (Line G E)} {held : List (Slot G E)} → Wait lines held → OneEnd lines
  wait-ends no_more = tt
  wait-ends (gone w) = (refl, wait-ends w)
  wait-ends (waits w) = (refl, wait-ends w)

  -- nothing but what waits, or was dropped while it waited
  abbrev OnlyWaiting : List (Line G E) → Type 0
  OnlyWaiting [] = Unit {0}
  OnlyWaiting (line t g e f k ∷ lines) = ((f ≡ waiting) ⊎ (f ≡ was_dropped)) × OnlyWaiting lines

  waiting-at : (before behind : List (Line G E)) (t : ℕ) (g : G) (e : E) (f : Fate) (k : ℕ) → OnlyWaiting (before ++ (line t g e f k ∷ behind)) → (f ≡ waiting) ⊎ (f ≡ was_dropped)
  waiting-at [] behind t g e f k h = h.0
  waiting-at (line t' g' e' f' k' ∷ before) behind t g e f k h = waiting-at before behind t g e f k h.1

  wait-only : {lines : List (Line G E)} {held : List (Slot G E)} → Wait lines held → OnlyWaiting lines
  wait-only no_more = tt
  wait-only (gone w) = (inr refl, wait-only w)
  wait-only (waits w) = (inl refl, wait-only w)

  -- From the first line in progress on: the same of the live lines.
  -- behind an oldest event that is undecided nothing has run
  live-serial : {lines : List (Line G E)} {progress held : List (Slot G E)} → Live lines progress held → oldest_undecided progress ≡ true → serial lines ≡ []
  live-serial (held_then w) o = wait-serial w
  live-serial (no-then l) o = live-serial l o
  live-serial (dropped-then l) o = live-serial l o
  live-serial (going-then {d = undecided} l) o = refl
  live-serial (going-then {d = committed} l) o = absurd (false≢true o)

  live-course : {lines : List (Line G E)} {progress held : List (Slot G E)} → Live lines progress held → course lines ≡ progress
  live-course (held_then w) = wait-course w
  live-course (no-then l) = live-course l
  live-course (dropped-then l) = live-course l
  live-course (going-then {t = t} {g = g} {e = e} {d = d} l) = ap (λ (xs : List (Slot G E)). slot t g e d ∷ xs) (live-course l)

  live-ends : {lines : List (Line G E)} {progress held : List (Slot G E)} → Live lines progress held → OneEnd lines
  live-ends (held_then w) = wait-ends w
  live-ends (no-then l) = (refl, live-ends l)
  live-ends (dropped-then l) = (refl, live-ends l)
  live-ends (going-then l) = (refl, live-ends l)

  -- behind each line that waits, only what waits
  Passing : List (Line G E) → Type 0
  Passing [] = Unit {0}
  Passing (line t g e f k ∷ lines) = (f ≡ waiting → OnlyWaiting lines) × Passing lines

  passing-split : (before behind : List (Line G E)) (t : ℕ) (g : G) (e : E) (k : ℕ) → Passing (before ++ (line t g e waiting k ∷ behind)) → OnlyWaiting behind
  unfolding Passing
  passing-split [] behind t g e k h = h.0 refl
  passing-split (line t' g' e' f k' ∷ before) behind t g e k h = passing-split before behind t g e k h.1

  wait-passing : {lines : List (Line G E)} {held : List (Slot G E)} → Wait lines held → Passing lines
  unfolding Passing
  wait-passing no_more = tt
  wait-passing (gone w) = (λ q. wait-only w, wait-passing w)
  wait-passing (waits w) = (λ q. wait-only w, wait-passing w)

  live-passing : {lines : List (Line G E)} {progress held : List (Slot G E)} → Live lines progress held → Passing lines
  unfolding Passing
  live-passing (held_then w) = wait-passing w
  live-passing (no-then l) = (λ q. let z : ◌≡◌ {A = ℕ} 0 1 = cc in absurd (omega arith), live-passing l)
  live-passing (dropped-then l) = (λ q. let z : ◌≡◌ {A = ℕ} 0 1 = cc in absurd (omega arith), live-passing l)
  live-passing (going-then l) = (λ q. let z : ◌≡◌ {A = ℕ} 0 1 = cc in absurd (omega arith), live-passing l)

module _ {G S E B : Type 0} (R : Rule S E B) where
  past-run : {s s' : S} {lines : List (Line G E)} {progress held : List (Slot G E)} → Past R s lines s' progress held → oldest_undecided progress ≡ true → s' ≡ run R (serial lines) s
  past-run (live_then l) o = rw (live-serial l o)
  past-run (no-past l) o = past-run l o
  past-run (dropped-past l) o = past-run l o
  past-run (applied-past q l) o = past-run l o

  past-guards : {s s' : S} {lines : List (Line G E)} {progress held : List (Slot G E)} → Past R s lines s' progress held → oldest_undecided progress ≡ true → GuardsHold R (serial lines) s
  past-guards (live_then l) o = rw (live-serial l o) tt
  past-guards (no-past l) o = past-guards l o
  past-guards (dropped-past l) o = past-guards l o
  past-guards (applied-past q l) o = (q, past-guards l o)

  past-course : {s s' : S} {lines : List (Line G E)} {progress held : List (Slot G E)} → Past R s lines s' progress held → Safe R progress s' → Safe R (course lines) s
  past-course (live_then l) h = rw (live-course l) h
  past-course (no-past l) h = past-course l h
  past-course (dropped-past l) h = past-course l h
  past-course (applied-past q l) h = (q, past-course l h)

  past-ends : {s s' : S} {lines : List (Line G E)} {progress held : List (Slot G E)} → Past R s lines s' progress held → OneEnd lines
  past-ends (live_then l) = live-ends l
  past-ends (no-past l) = (refl, past-ends l)
  past-ends (dropped-past l) = (refl, past-ends l)
  past-ends (applied-past q l) = (refl, past-ends l)

  past-passing : {s s' : S} {lines : List (Line G E)} {progress held : List (Slot G E)} → Past R s lines s' progress held → Passing lines
  unfolding Passing
  past-passing (live_then l) = live-passing l
  past-passing (no-past l) = (λ q. let z : ◌≡◌ {A = ℕ} 0 1 = cc in absurd (omega arith), past-passing l)
  past-passing (dropped-past l) = (λ q. let z : ◌≡◌ {A = ℕ} 0 1 = cc in absurd (omega arith), past-passing l)
  past-passing (applied-past q l) = (λ q'. let z : ◌≡◌ {A = ℕ} 0 1 = cc in absurd (omega arith), past-passing l)

  -- With nothing in progress the oldest held request would not stay held.
  nothing-held : 1 ≤ R.progress_limit → (s : S) (progress held : List (Slot G E)) → progress ≡ [] → oldest_stays_held R s progress held ≡ true → held ≡ []
  nothing-held roomy s progress [] none h = refl
  nothing-held roomy s progress (slot t g e d ∷ held) none h = absurd (not-held (decide R e s []).verdict refl (rw none at h))
    where
      not-held : (v : Verdict) → (decide {G = G} R e s []).verdict ≡ v → stays_held v ≡ true → ⊥
      not-held accept q k = false≢true k
      not-held reject q k = false≢true k
      not-held hold q k = idle-decide G R e s roomy q

  -- The oldest held request's vote is that it is held.
  held-vote : (s : S) (progress : List (Slot G E)) (t : ℕ) (g : G) (e : E) (d : Decision) (behind : List (Slot G E))
      → oldest_stays_held R s progress (slot t g e d ∷ behind) ≡ true → (w : Weighing) × (w.verdict ≡ hold) × Vote R [] progress s e w
  held-vote s progress t g e d behind h =
      let w = decide R e s progress in
      (w, held-verdict w.verdict h, vote-is R e s progress [] w refl)

  rest-right : 1 ≤ R.progress_limit → (a : Account G S E) (lines : List (Line G E)) → Rest R a lines → Right R a lines
  rest-right roomy a lines h =
      record {
        progress = past-progress R h.tied.past;
        held = past-held R h.tied.past;
        state = past-run h.tied.past h.oldest;
        guards = past-guards h.tied.past h.oldest;
        ahead =
            λ before behind t g e d k q.
            every-outcome R (guard R e) (course before) R.fresh
            (safe-every R (course before) t g e d (course behind) R.fresh
            (rw (← course-append before (line t g e (ongoing d) k ∷ behind)) (rw (← q) (past-course h.tied.past h.tied.safe))));
        along = λ before behind chosen q. sorted-along R before (sorted_before before behind (rw q at (past-sorted R h.tied.past))) chosen R.fresh;
        passing =
            λ before between behind t t' g g' e e' f k k' q.
            waiting-at between behind t' g' e' f k' (passing-split before (between ++ (line t' g' e' f k' ∷ behind)) t g e k (rw q at (past-passing h.tied.past)));
        idle = λ none. nothing-held roomy a.state a.progress a.held none h.stays;
        oldest = λ behind t g e d q. oldest-undecided a.progress behind t g e d h.oldest (past-progress R h.tied.past ∙ q);
        stays =
            λ behind t g e d q.
            rw (← past-progress R h.tied.past, past-applied R h.tied.past)
            (held-vote a.state a.progress t g e d behind (rw (past-held R h.tied.past ∙ q) at h.stays));
      }

  -- Counting the ends that are asked for, along a history: an entry turns one line, and counts exactly if that line has ended with it.
  module _ (asked : ℕ → G → E → Fate → Bool) where
    abbrev of_lines : List (Line G E) → ℕ
    of_lines lines = total (yes_of (ended_line asked)) lines

    abbrev of_entries : List (Entry G E B) → ℕ
    of_entries xs = total (yes_of (end_entry asked)) xs

    -- no vote is an end
    vote-open : (t : ℕ) (g : G) (e : E) (v : Verdict) → ended_line asked (line t g e (fate_by v) 0) ≡ false
    vote-open t g e accept = refl
    vote-open t g e reject = refl
    vote-open t g e hold = refl

    turns-counted : (t : ℕ) (l l' : Line G E) (lines lines' : List (Line G E)) → ended_line asked l ≡ false → Turns t l l' lines lines'
        → of_lines lines' ≡ of_lines lines + yes_of (ended_line asked) l'
    turns-counted t l l' lines lines' q h =
        let none : yes_of (ended_line asked) l ≡ 0 = rw q in
        omega (arith, turned (yes_of (ended_line asked)) t l l' lines lines' h)

    note-counted : (lines : List (Line G E)) (x : Entry G E B) → Owned R lines x → of_lines (note lines x) ≡ of_lines lines + yes_of (end_entry asked) x
    note-counted lines (voted t g e w) h =
        let none : yes_of (ended_line asked) (line t g e (fate_by w.verdict) 0) ≡ 0 = rw (vote-open t g e w.verdict) in
        omega (arith, none, turns-counted t (line t g e waiting 0) (line t g e (fate_by w.verdict) 0) lines (note {B = B} lines (voted t g e w)) refl h.0)
    note-counted lines (noted t g) h =
        turns-counted t (line t h.0 h.1 (ongoing undecided) 0) (line t h.0 h.1 (ongoing committed) 0) lines (note {B = B} lines (noted t g)) refl h.2
    note-counted lines (applied t g e b) h = turns-counted t (line t g e (ongoing committed) 0) (line t g e was_applied 1) lines (note lines (applied t g e b)) refl h.0
    note-counted lines (dropped t g e) (inl h) = turns-counted t (line t g e (ongoing undecided) 0) (line t g e was_dropped 1) lines (note {B = B} lines (dropped t g e)) refl h
    note-counted lines (dropped t g e) (inr h) = turns-counted t (line t g e waiting 0) (line t g e was_dropped 1) lines (note {B = B} lines (dropped t g e)) refl h

    notes-counted : (xs : List (Entry G E B)) (lines : List (Line G E)) → AllOwned R lines xs → of_lines (notes lines xs) ≡ of_lines lines + of_entries xs
    notes-counted [] lines h = omega arith
    notes-counted (x ∷ xs) lines h = omega (arith, notes-counted xs (note lines x) h.1, note-counted lines x h.0)

    begun-counted : (lines : List (Line G E)) (m : Message G E) (answer : Answer G E B) → of_lines (begun lines m answer) ≡ of_lines lines
    begun-counted lines m (refused n) = refl
    begun-counted lines (request t g e) (taken xs) = omega (arith, total-append (yes_of (ended_line asked)) lines (line t g e waiting 0 ∷ []))
    begun-counted lines (commit t g) (taken xs) = refl
    begun-counted lines (abort t g) (taken xs) = refl

    history-counted : (seen : List (Seen G E B)) (lines : List (Line G E)) → HistoryOwned R lines seen → of_lines (lines_from lines seen) ≡ of_lines lines + of_entries (all_entries seen)
    history-counted [] lines h = omega arith
    history-counted (x ∷ seen) lines h =
        omega (
          arith,
          history-counted seen (after_call lines x.message x.answer) h.2,
          notes-counted (written x.answer) (begun lines x.message x.answer) h.0,
          begun-counted lines x.message x.answer,
          total-append (yes_of (end_entry asked)) (written x.answer) (all_entries seen),
        )

    all-ended : (seen : List (Seen G E B)) → HistoryOwned R [] seen → length (keep (end_entry asked) (all_entries seen)) ≡ length (keep (ended_line asked) (lines_from [] seen))
    all-ended seen h =
        omega (arith, length-yes (end_entry asked) (all_entries seen), length-yes (ended_line asked) (lines_from [] seen), history-counted seen [] h)

  -- All ends, whichever they are: of entries, and of lines by the number beside each.
  ends-written : (xs : List (Entry G E B)) → ends_written xs ≡ length (keep (end_entry any_end) xs)
  ends-written [] = refl
  ends-written (voted t g e w ∷ xs) = omega (arith, ends-written xs)
  ends-written (noted t g ∷ xs) = omega (arith, ends-written xs)
  ends-written (applied t g e b ∷ xs) = omega (arith, ends-written xs)
  ends-written (dropped t g e ∷ xs) = omega (arith, ends-written xs)

  ends-owned : (lines : List (Line G E)) → OneEnd lines → ends_owned lines ≡ length (keep (ended_line any_end) lines)
  ends-owned [] h = refl
  ends-owned (line t g e waiting k ∷ lines) h = omega (arith, h.0, ends-owned lines h.1)
  ends-owned (line t g e voted_no k ∷ lines) h = omega (arith, h.0, ends-owned lines h.1)
  ends-owned (line t g e (ongoing d) k ∷ lines) h = omega (arith, h.0, ends-owned lines h.1)
  ends-owned (line t g e was_applied k ∷ lines) h = omega (arith, h.0, ends-owned lines h.1)
  ends-owned (line t g e was_dropped k ∷ lines) h = omega (arith, h.0, ends-owned lines h.1)

  -- Demand 3 of an account at rest whose entries have their owners,
  pub kept-demand3 : 1 ≤ R.progress_limit → (a : Account G S E) (seen : List (Seen G E B)) → Rest R a (lines_from [] seen) → HistoryOwned R [] seen → Demand3 R a seen
  kept-demand3 roomy a seen h owned =
      record {
        right = rest-right roomy a (lines_from [] seen) h;
        owned = owned;
        ended = λ asked. all-ended asked seen owned;
        one_end = past-ends h.tied.past;
        no_other = ends-written (all_entries seen) ∙ all-ended any_end seen owned ∙ sym (ends-owned (lines_from [] seen) (past-ends h.tied.past));
      }

  -- so for every list of messages to a new account, taken or refused, at any limit on events in progress of at least 1.
  pub demand3 : 1 ≤ R.progress_limit → (ms : List (Message G E)) → Demand3After R ms
  demand3 roomy ms = let k = history-kept R ms in kept-demand3 roomy (reached R (new_account R G) ms) (history R (new_account R G) ms) k.0 k.1
