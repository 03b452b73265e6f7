-- By the laws of lists and of bits, and by computing.
-- Assumes nothing.
use Prim.Native.Nat.{ℕ, zero, suc, ◌+◌, ◌*◌, ◌/◌, ◌%◌, ◌<◌}
use native.Mathlib.Omega.{arith}
use mathlib.Core.Path.{◌≡◌, refl, sym, ◌∙◌}
use mathlib.Core.Bool.{Bool, true, false, cond, ◌&&◌, true≢false}
use mathlib.Core.List.{List, [], ◌∷◌, append-nil}
use mathlib.Core.Option.{Option, none, some}
use borrow.Author.Tests.{eq-eqb, ne_eqb}
use lib.ListN.{get_or}
use Rattle.rule.specs.Lists.{keep, numbers}
use Rattle.rule.specs.Rule.{Rule, absent, guard, Decision, Slot, Account, Message, Weighing, Entry}
use Rattle.rule.specs.Step.{Step}
use Rattle.rule.specs.History.{Fate, Line, live, Seen}
use Rattle.rule.specs.Exact.{number_of}
use Rattle.rule.specs.Literal.{ListLiteral, NumbersLiteral, BitLiteral, SlotLiteral, GuardLiteral, CallLiteral, EntryLiteral, HistoryLiteral, EndsLiteral, FiledLiteral}
use Rattle.rule.proofs.Lists.{some-parts, parts-some, every-parts, parts-every, keep_append, length-numbers}
use Rattle.rule.proofs.Exact.{bit-zero, bit-suc, against}

pub list-literal : {A : Type 0} (p : A → Bool) (x : A) (xs : List A) → ListLiteral p x xs
list-literal p x xs =
    record {
      every' = (λ h before y behind e. every-parts p before y behind (rw e at h), parts-every p xs);
      some' = (some-parts p xs, λ h. rw h.3 (parts-some p h.0 h.1 h.2 h.4));
      keep_none = refl;
      kept = λ h. keep_append p xs (x ∷ []) ∙ rw h refl;
      left = λ h. keep_append p xs (x ∷ []) ∙ rw (h, append-nil (keep p xs)) refl;
    }

numbers-each : (first count i other : ℕ) → i < count → get_or (numbers first count) i other ≡ first + i
numbers-each first zero i other h = absurd (omega arith)
numbers-each first (suc count) zero other h = omega arith
numbers-each first (suc count) (suc i) other h = numbers-each (suc first) count i other (omega arith) ∙ omega arith

pub numbers-literal : (first count : ℕ) → NumbersLiteral first count
numbers-literal first count = record { many = length-numbers first count; each = numbers-each first count }

-- a bit, and a number above it
low_bit : (b : Bool) (n : ℕ) → ((cond b 1 0 + 2 * n) % 2 ≡ cond b 1 0) × ((cond b 1 0 + 2 * n) / 2 ≡ n)
low_bit true n = (omega arith, omega arith)
low_bit false n = (omega arith, omega arith)

pub bit-literal : (n i u : ℕ) (chosen : ℕ → Bool) → BitLiteral n i u chosen
bit-literal n i u chosen =
    let above = number_of u (λ (j : ℕ). chosen (suc j)) in
    record {
      lowest = bit-zero n;
      higher = bit-suc n i;
      nothing = refl;
      chosen_lowest = (low_bit (chosen 0) above).0;
      chosen_higher = (low_bit (chosen 0) above).1;
    }

pub slot-literal : {G E : Type 0} (t u n : ℕ) (g : G) (e : E) (d : Decision) (xs : List (Slot G E)) → SlotLiteral t u n g e d xs
slot-literal t u n g e d xs =
    record {
      none_undecided = refl;
      one_undecided = refl;
      one_committed = refl;
      none_applied = refl;
      one_applied = refl;
      one_always = refl;
      names = refl;
      names_undecided = refl;
      names_committed = refl;
      marks = rw (eq-eqb t t refl) refl;
      leaves = λ differ. rw (ne_eqb u t differ) refl;
    }

pub guard-literal : {S E B : Type 0} (R : Rule S E B) (e : E) (s : S) (n : ℕ) (reason : Option ℕ) → GuardLiteral R e s n reason
unfolding guard
guard-literal R e s n reason = record { holds = (holds (R.reason e s), λ h. rw h refl); fails = (against R e s, λ h. rw h.1 refl); absences = refl; reasons = refl }
  where
    holds : (o : Option ℕ) → absent o ≡ true → o ≡ none
    holds none h = refl
    holds (some k) h = absurd (true≢false (sym h))

pub call-literal : {G S E B : Type 0} (R : Rule S E B) (n t : ℕ) (g : G) (e : E) (d : Decision) (xs : List (Entry G E B)) (a : Account G S E) (step : Step G S E B) → CallLiteral R n t g e d xs a step
call-literal R n t g e d xs a step =
    record { unweighed' = refl; refused_writes = refl; taken_writes = refl; refused_call = refl; taken_call = refl; new = refl; drops = refl }

pub entry-literal : {G E B : Type 0} (t n k : ℕ) (g h : G) (e c : E) (b : B) (lines : List (Line G E)) → EntryLiteral t n k g h e c b lines
entry-literal t n k g h e c b lines =
    record {
      transactions = refl;
      fates = refl;
      ends = refl;
      votes = refl;
      lives = refl;
      applied_turns = rw (eq-eqb t t refl) refl;
      noted_turns = rw (eq-eqb t t refl) refl;
      dropped_turns = rw (eq-eqb t t refl) refl;
      ended_stays = refl;
      another_stays = λ u f differ. rw (ne_eqb t u differ, never (live f)) refl;
    }
  where
    never : (b : Bool) → (b && false) ≡ false
    never true = refl
    never false = refl

pub history-literal : {G E B : Type 0} (t n : ℕ) (g : G) (e : E) (m : Message G E) (x : Entry G E B) (xs : List (Entry G E B)) (lines : List (Line G E)) (seen : Seen G E B) (rest : List (Seen G E B))
    → HistoryLiteral t n g e m x xs lines seen rest
history-literal t n g e m x xs lines seen rest =
    record {
      no_notes = refl;
      more_notes = refl;
      refused_begins = refl;
      request_begins = refl;
      commit_begins = refl;
      abort_begins = refl;
      refused_after = refl;
      request_after = refl;
      commit_after = refl;
      abort_after = refl;
      no_calls = refl;
      more_calls = refl;
      no_entries = refl;
      more_entries = refl;
      refused_entries = refl;
    }

pub ends-literal : {G E B : Type 0} (asked : ℕ → G → E → Fate → Bool) (t n k : ℕ) (g : G) (e : E) (b : B) (xs : List (Entry G E B)) (lines : List (Line G E)) → EndsLiteral asked t n k g e b xs lines
ends-literal asked t n k g e b xs lines =
    record {
      entries = refl;
      lines' = refl;
      none_written = refl;
      vote = λ w. refl;
      noting = refl;
      applying = refl;
      dropping' = refl;
      none_owned = refl;
      more_owned = λ f. refl;
    }

pub filed-literal : {G H S E B : Type 0} (f : G → H) (t n : ℕ) (g : G) (e : E) (d : Decision) (w : Weighing) (b : B) (s : S) (xs : List (Entry G E B)) (progress held : List (Slot G E))
    → FiledLiteral f t n g e d w b s xs progress held
filed-literal f t n g e d w b s xs progress held =
    record {
      slots = refl;
      requests = refl;
      commits = refl;
      aborts = refl;
      votes = refl;
      notings = refl;
      applications = refl;
      drops = refl;
      refusals = refl;
      takings = refl;
      accounts = refl;
    }
