-- What can be seen from outside: the messages sent and the entries written, told as a line for each request taken, in arrival order (docs/REGISTER.md, 5.7).
-- A line is known by its place alone; an entry belongs to the line that has its transaction and, at the moment of writing, is in progress or held.
-- Assumes nothing.
use Rattle.std.specs.Prelude.{ℕ, ◌+◌, Bool, true, false, cond, ◌&&◌, List, [], ◌∷◌, ◌++◌, map, eqb}
use Rattle.rule.specs.Lists.{keep}
use Rattle.rule.specs.Rule.{Rule, Decision, undecided, committed, Account, Message, request, commit, abort, Verdict, accept, reject, hold, Entry, voted, noted, applied, dropped}
use Rattle.rule.specs.Call.{Answer, refused, taken, written, call}

-- what has become of a request
pub data Fate : Type 0 where
  waiting : Fate
  voted_no : Fate
  ongoing : Decision → Fate
  was_applied : Fate
  was_dropped : Fate

-- a request taken: its transaction, what is filed with it, its event, its fate, and the number of entries of its end that belong to it
pub data Line (G E : Type 0) : Type 0 where
  line : ℕ → G → E → Fate → ℕ → Line G E

-- in progress or held
abbrev pub live : Fate → Bool
live waiting = true
live voted_no = false
live (ongoing d) = true
live was_applied = false
live was_dropped = false

-- the fate that a vote brings
abbrev pub fate_by : Verdict → Fate
fate_by accept = ongoing undecided
fate_by reject = voted_no
fate_by hold = waiting

module _ {G E B : Type 0} where
  -- the transaction of an entry, the fate that it brings, and whether it is the entry of an end
  abbrev pub transaction_of : Entry G E B → ℕ
  transaction_of (voted t g e w) = t
  transaction_of (noted t g) = t
  transaction_of (applied t g e b) = t
  transaction_of (dropped t g e) = t

  abbrev pub brings : Entry G E B → Fate
  brings (voted t g e w) = fate_by w.verdict
  brings (noted t g) = ongoing committed
  brings (applied t g e b) = was_applied
  brings (dropped t g e) = was_dropped

  abbrev pub is_end : Entry G E B → ℕ
  is_end (voted t g e w) = 0
  is_end (noted t g) = 0
  is_end (applied t g e b) = 1
  is_end (dropped t g e) = 1

module _ {G E : Type 0} where
  -- whether an entry of this transaction, written now, belongs to the line
  abbrev pub owns : ℕ → Line G E → Bool
  owns u (line t g e f k) = live f && eqb u t

  -- the line with the entry's fate, if the entry belongs to it
  abbrev pub touch : ℕ → Fate → ℕ → Line G E → Line G E
  touch u f' j (line t g e f k) = cond (owns u (line t g e f k)) (line t g e f' (k + j)) (line t g e f k)

  -- the lines to which an entry of this transaction, written now, belongs
  abbrev pub owners : ℕ → List (Line G E) → List (Line G E)
  owners u lines = keep (owns u) lines

module _ {G E B : Type 0} where
  -- the lines after one entry
  abbrev pub note : List (Line G E) → Entry G E B → List (Line G E)
  note lines x = map (touch (transaction_of x) (brings x) (is_end x)) lines

  -- the lines after some entries
  abbrev pub notes : List (Line G E) → List (Entry G E B) → List (Line G E)
  notes lines [] = lines
  notes lines (x ∷ xs) = notes (note lines x) xs

  -- the lines as a call's entries find them: a request that is taken has its line at the end
  abbrev pub begun : List (Line G E) → Message G E → Answer G E B → List (Line G E)
  begun lines m (refused n) = lines
  begun lines (request t g e) (taken xs) = lines ++ (line t g e waiting 0 ∷ [])
  begun lines (commit t g) (taken xs) = lines
  begun lines (abort t g) (taken xs) = lines

  -- the lines after a call
  abbrev pub after_call : List (Line G E) → Message G E → Answer G E B → List (Line G E)
  after_call lines m answer = notes (begun lines m answer) (written answer)

-- a call as it can be seen: the message sent and the answer
pub record Seen (G E B : Type 0) : Type 0 where
  pub message : Message G E
  pub answer : Answer G E B

module _ {G S E B : Type 0} (R : Rule S E B) where
  -- what is seen of the messages sent, one after the other, to an account
  abbrev pub history : Account G S E → List (Message G E) → List (Seen G E B)
  history a [] = []
  history a (m ∷ ms) = record { message = m; answer = (call R a m).answer } ∷ history (call R a m).account ms

module _ {G E B : Type 0} where
  -- the lines that a history tells, on from these
  abbrev pub lines_from : List (Line G E) → List (Seen G E B) → List (Line G E)
  lines_from lines [] = lines
  lines_from lines (seen ∷ rest) = lines_from (after_call lines seen.message seen.answer) rest

  -- the entries of all calls
  abbrev pub all_entries : List (Seen G E B) → List (Entry G E B)
  all_entries [] = []
  all_entries (seen ∷ rest) = written seen.answer ++ all_entries rest
