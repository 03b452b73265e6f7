-- The words in which the rule and its history are told, each said a second time: of lists by what stands in them, of numbers bit by bit, of entries and lines case by case
-- (docs/REGISTER.md, 4, 5.7 and 13). A word that stands in a statement cannot be changed with it.
-- Assumes nothing.
use Rattle.std.specs.Prelude.{ℕ, suc, ◌+◌, ◌/◌, ◌%◌, ◌<◌, ◌≡◌, ◌↔◌, Bool, true, false, cond, List, [], ◌∷◌, ◌++◌, map, eqb, length, get_or}
use Rattle.std.proofs.Math.Option.{Option, none, some}
use Rattle.rule.specs.Lists.{every, some_of, keep, numbers}
use Rattle.rule.specs.Rule.{Rule, absent, guard, Decision, undecided, committed, Slot, slot, Account, Message, request, commit, abort, Verdict, accept, reject, hold, Weighing, Entry, voted, noted, applied, dropped, new_account}
use Rattle.rule.specs.Outcome.{undecided_of, applied_in, bit}
use Rattle.rule.specs.Exact.{number_of}
use Rattle.rule.specs.Weigh.{unweighed, reason_by}
use Rattle.rule.specs.Step.{Step, named, mark_one, dropping}
use Rattle.rule.specs.Call.{named_committed, refused, taken, written, call_by}
use Rattle.rule.specs.History.{Fate, waiting, voted_no, ongoing, was_applied, was_dropped, Line, line, live, fate_by, transaction_of, brings, is_end, note, notes, begun, after_call, Seen, lines_from, all_entries}
use Rattle.rule.specs.Demand.{ended_line, end_entry, ends_owned, ends_written}
use Rattle.rule.specs.Filed.{slot_through, message_through, entry_through, answer_through, account_through}

-- every, some, kept: by what stands where in a list of any length
pub record ListLiteral {A : Type 0} (p : A → Bool) (x : A) (xs : List A) : Type 0 where
  pub every' : (every p xs ≡ true) ↔ ((before : List A) (y : A) (behind : List A) → xs ≡ before ++ (y ∷ behind) → p y ≡ true)
  pub some' : (some_of p xs ≡ true) ↔ ((before : List A) × (y : A) × (behind : List A) × (xs ≡ before ++ (y ∷ behind)) × (p y ≡ true))
  pub keep_none : keep p [] ≡ []
  pub kept : p x ≡ true → keep p (xs ++ (x ∷ [])) ≡ keep p xs ++ (x ∷ [])
  pub left : p x ≡ false → keep p (xs ++ (x ∷ [])) ≡ keep p xs

-- the numbers from one on, each at its place
pub record NumbersLiteral (first count : ℕ) : Type 0 where
  pub many : length (numbers first count) ≡ count
  pub each : (i other : ℕ) → i < count → get_or (numbers first count) i other ≡ first + i

-- bits: the lowest tells odd from even, those above it are the half's; and the number of a choice, from its lowest bit on
pub record BitLiteral (n i u : ℕ) (chosen : ℕ → Bool) : Type 0 where
  pub lowest : bit n 0 ≡ eqb (n % 2) 1
  pub higher : bit n (suc i) ≡ bit (n / 2) i
  pub nothing : number_of 0 chosen ≡ 0
  pub chosen_lowest : number_of (suc u) chosen % 2 ≡ cond (chosen 0) 1 0
  pub chosen_higher : number_of (suc u) chosen / 2 ≡ number_of u (λ (j : ℕ). chosen (suc j))

module _ {G E : Type 0} where
  -- how many are undecided and how many of them a number applies; a slot by its transaction, committed, dropped
  pub record SlotLiteral (t u n : ℕ) (g : G) (e : E) (d : Decision) (xs : List (Slot G E)) : Type 0 where
    pub none_undecided : undecided_of {G = G} {E = E} [] ≡ 0
    pub one_undecided : undecided_of (slot t g e undecided ∷ xs) ≡ suc (undecided_of xs)
    pub one_committed : undecided_of (slot t g e committed ∷ xs) ≡ undecided_of xs
    pub none_applied : applied_in {G = G} {E = E} [] n ≡ 0
    pub one_applied : applied_in (slot t g e undecided ∷ xs) n ≡ n % 2 + applied_in xs (n / 2)
    pub one_always : applied_in (slot t g e committed ∷ xs) n ≡ applied_in xs n
    pub names : named u (slot t g e d) ≡ eqb u t
    pub names_undecided : named_committed u (slot t g e undecided) ≡ false
    pub names_committed : named_committed u (slot t g e committed) ≡ eqb u t
    pub marks : mark_one t (slot t g e d) ≡ slot t g e committed
    pub leaves : (u ≡ t → ⊥) → mark_one u (slot t g e d) ≡ slot t g e d

-- a guard and the reason against it; the reason that each verdict takes over
module _ {S E B : Type 0} (R : Rule S E B) where
  pub record GuardLiteral (e : E) (s : S) (n : ℕ) (reason : Option ℕ) : Type 0 where
    pub holds : (guard R e s ≡ true) ↔ (R.reason e s ≡ none)
    pub fails : (guard R e s ≡ false) ↔ ((k : ℕ) × (R.reason e s ≡ some k))
    pub absences : map absent (none ∷ some n ∷ []) ≡ true ∷ false ∷ []
    pub reasons : map (λ (v : Verdict). reason_by v reason) (accept ∷ reject ∷ hold ∷ []) ≡ none ∷ reason ∷ none ∷ []

-- an unweighed request; the entries of an answer; a new account; what is dropped
module _ {G S E B : Type 0} (R : Rule S E B) where
  pub record CallLiteral (n t : ℕ) (g : G) (e : E) (d : Decision) (xs : List (Entry G E B)) (a : Account G S E) (step : Step G S E B) : Type 0 where
    pub unweighed' : unweighed ≡ record { verdict = hold; weighed = 0; reason = none }
    pub refused_writes : written {G = G} {E = E} {B = B} (refused n) ≡ []
    pub taken_writes : written (taken xs) ≡ xs
    pub refused_call : call_by (some n) a step ≡ record { account = a; answer = refused n }
    pub taken_call : call_by none a step ≡ record { account = step.account; answer = taken step.entries }
    pub new : new_account R G ≡ record { state = R.fresh; progress = []; held = [] }
    pub drops : dropping {B = B} (slot t g e d) ≡ dropped t g e

-- what an entry does to the lines: it turns those of its transaction that are in progress or held, and leaves every other
module _ {G E B : Type 0} where
  -- an entry of each kind, and of each verdict, in this order: accepted, rejected, held, noted, applied, dropped
  abbrev pub of_each : (t n : ℕ) → G → E → B → List (Entry G E B)
  of_each t n g e b =
      voted t g e (record { verdict = accept; weighed = n; reason = none }) ∷ voted t g e (record { verdict = reject; weighed = n; reason = some n }) ∷ voted t g e (record { verdict = hold; weighed = n; reason = none }) ∷
      noted t g ∷ applied t g e b ∷ dropped t g e ∷ []

  pub record EntryLiteral (t n k : ℕ) (g h : G) (e c : E) (b : B) (lines : List (Line G E)) : Type 0 where
    pub transactions : map transaction_of (of_each t n g e b) ≡ t ∷ t ∷ t ∷ t ∷ t ∷ t ∷ []
    pub fates : map brings (of_each t n g e b) ≡ ongoing undecided ∷ voted_no ∷ waiting ∷ ongoing committed ∷ was_applied ∷ was_dropped ∷ []
    pub ends : map is_end (of_each t n g e b) ≡ 0 ∷ 0 ∷ 0 ∷ 0 ∷ 1 ∷ 1 ∷ []
    pub votes : map fate_by (accept ∷ reject ∷ hold ∷ []) ≡ ongoing undecided ∷ voted_no ∷ waiting ∷ []
    pub lives : map live (waiting ∷ voted_no ∷ ongoing undecided ∷ ongoing committed ∷ was_applied ∷ was_dropped ∷ []) ≡ true ∷ false ∷ true ∷ true ∷ false ∷ false ∷ []
    pub applied_turns : note (line t h c (ongoing committed) k ∷ lines) (applied t g e b) ≡ line t h c was_applied (k + 1) ∷ note lines (applied t g e b)
    pub noted_turns : note {B = B} (line t h c (ongoing undecided) k ∷ lines) (noted t g) ≡ line t h c (ongoing committed) (k + 0) ∷ note {B = B} lines (noted t g)
    pub dropped_turns : note {B = B} (line t h c waiting k ∷ lines) (dropped t g e) ≡ line t h c was_dropped (k + 1) ∷ note {B = B} lines (dropped t g e)
    pub ended_stays : note (line t h c was_applied k ∷ lines) (applied t g e b) ≡ line t h c was_applied k ∷ note lines (applied t g e b)
    pub another_stays : (u : ℕ) (f : Fate) → (t ≡ u → ⊥) → note (line u h c f k ∷ lines) (applied t g e b) ≡ line u h c f k ∷ note lines (applied t g e b)

  -- the lines of a history, call by call and entry by entry, and its entries
  pub record HistoryLiteral (t n : ℕ) (g : G) (e : E) (m : Message G E) (x : Entry G E B) (xs : List (Entry G E B)) (lines : List (Line G E)) (seen : Seen G E B) (rest : List (Seen G E B)) : Type 0 where
    pub no_notes : notes {B = B} lines [] ≡ lines
    pub more_notes : notes lines (x ∷ xs) ≡ notes (note lines x) xs
    pub refused_begins : begun {B = B} lines m (refused n) ≡ lines
    pub request_begins : begun lines (request t g e) (taken xs) ≡ lines ++ (line t g e waiting 0 ∷ [])
    pub commit_begins : begun lines (commit t g) (taken xs) ≡ lines
    pub abort_begins : begun lines (abort t g) (taken xs) ≡ lines
    pub refused_after : after_call {B = B} lines m (refused n) ≡ lines
    pub request_after : after_call lines (request t g e) (taken xs) ≡ notes (lines ++ (line t g e waiting 0 ∷ [])) xs
    pub commit_after : after_call lines (commit t g) (taken xs) ≡ notes lines xs
    pub abort_after : after_call lines (abort t g) (taken xs) ≡ notes lines xs
    pub no_calls : lines_from {B = B} lines [] ≡ lines
    pub more_calls : lines_from lines (seen ∷ rest) ≡ lines_from (after_call lines seen.message seen.answer) rest
    pub no_entries : all_entries {G = G} {E = E} {B = B} [] ≡ []
    pub more_entries : all_entries (record { message = m; answer = taken xs } ∷ rest) ≡ xs ++ all_entries rest
    pub refused_entries : all_entries (record { message = m; answer = refused n } ∷ rest) ≡ all_entries rest

  -- the ends that are counted, whatever is asked for of them
  pub record EndsLiteral (asked : ℕ → G → E → Fate → Bool) (t n k : ℕ) (g : G) (e : E) (b : B) (xs : List (Entry G E B)) (lines : List (Line G E)) : Type 0 where
    pub entries : map (end_entry asked) (of_each t n g e b) ≡ false ∷ false ∷ false ∷ false ∷ asked t g e was_applied ∷ asked t g e was_dropped ∷ []
    pub lines' : map (λ (f : Fate). ended_line asked (line t g e f k)) (waiting ∷ voted_no ∷ ongoing undecided ∷ ongoing committed ∷ was_applied ∷ was_dropped ∷ [])
        ≡ false ∷ false ∷ false ∷ false ∷ asked t g e was_applied ∷ asked t g e was_dropped ∷ []
    pub none_written : ends_written {G = G} {E = E} {B = B} [] ≡ 0
    pub vote : (w : Weighing) → ends_written (voted t g e w ∷ xs) ≡ 0 + ends_written xs
    pub noting : ends_written (noted t g ∷ xs) ≡ 0 + ends_written xs
    pub applying : ends_written (applied t g e b ∷ xs) ≡ 1 + ends_written xs
    pub dropping' : ends_written (dropped t g e ∷ xs) ≡ 1 + ends_written xs
    pub none_owned : ends_owned {G = G} {E = E} [] ≡ 0
    pub more_owned : (f : Fate) → ends_owned (line t g e f k ∷ lines) ≡ k + ends_owned lines

-- what is filed, put through a function: in slot, message, entry, answer and account it alone is changed
module _ {G H S E B : Type 0} (f : G → H) where
  pub record FiledLiteral (t n : ℕ) (g : G) (e : E) (d : Decision) (w : Weighing) (b : B) (s : S) (xs : List (Entry G E B)) (progress held : List (Slot G E)) : Type 0 where
    pub slots : slot_through f (slot t g e d) ≡ slot t (f g) e d
    pub requests : message_through f (request t g e) ≡ request t (f g) e
    pub commits : message_through {E = E} f (commit t g) ≡ commit t (f g)
    pub aborts : message_through {E = E} f (abort t g) ≡ abort t (f g)
    pub votes : entry_through {B = B} f (voted t g e w) ≡ voted t (f g) e w
    pub notings : entry_through {E = E} {B = B} f (noted t g) ≡ noted t (f g)
    pub applications : entry_through f (applied t g e b) ≡ applied t (f g) e b
    pub drops : entry_through {B = B} f (dropped t g e) ≡ dropped t (f g) e
    pub refusals : answer_through {E = E} {B = B} f (refused n) ≡ refused n
    pub takings : answer_through f (taken xs) ≡ taken (map (entry_through f) xs)
    pub accounts : account_through f (record { state = s; progress = progress; held = held }) ≡ record { state = s; progress = map (slot_through f) progress; held = map (slot_through f) held }
