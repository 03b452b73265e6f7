-- Demand 3, over what can be seen of an account: the messages sent to it and the entries written (docs/REGISTER.md, 13.3).
-- Assumes nothing.
use Rattle.std.specs.Prelude.{ℕ, ◌+◌, ◌<◌, ◌^◌, ◌≡◌, ◌⊎◌, Bool, true, false, List, [], ◌∷◌, ◌++◌, length}
use Rattle.rule.specs.Lists.{keep}
use Rattle.rule.specs.Rule.{Rule, guard, Decision, undecided, committed, Slot, slot, Account, Message, hold, Weighing, Entry, voted, noted, applied, dropped, new_account}
use Rattle.rule.specs.Outcome.{undecided_of, bit}
use Rattle.rule.specs.Exact.{chosen_state}
use Rattle.rule.specs.Run.{run, GuardsHold}
use Rattle.rule.specs.Call.{Answer, refused, taken, written, reached}
use Rattle.rule.specs.History.{Fate, waiting, voted_no, ongoing, was_applied, was_dropped, Line, line, fate_by, owners, note, begun, after_call, Seen, history, lines_from, all_entries, is_end}
use Rattle.rule.specs.Vote.{Vote}
use Rattle.rule.specs.Written.{Writes}

-- how many entries of its end a request of that fate has to have (13.3 d)
abbrev pub ends_of : Fate → ℕ
ends_of waiting = 0
ends_of voted_no = 0
ends_of (ongoing d) = 0
ends_of was_applied = 1
ends_of was_dropped = 1

module _ {G E : Type 0} where
  -- the lines in progress, as the account has them
  abbrev pub in_progress : List (Line G E) → List (Slot G E)
  in_progress [] = []
  in_progress (line t g e waiting k ∷ lines) = in_progress lines
  in_progress (line t g e voted_no k ∷ lines) = in_progress lines
  in_progress (line t g e (ongoing d) k ∷ lines) = slot t g e d ∷ in_progress lines
  in_progress (line t g e was_applied k ∷ lines) = in_progress lines
  in_progress (line t g e was_dropped k ∷ lines) = in_progress lines

  -- the lines held, as the account has them
  abbrev pub on_hold : List (Line G E) → List (Slot G E)
  on_hold [] = []
  on_hold (line t g e waiting k ∷ lines) = slot t g e undecided ∷ on_hold lines
  on_hold (line t g e voted_no k ∷ lines) = on_hold lines
  on_hold (line t g e (ongoing d) k ∷ lines) = on_hold lines
  on_hold (line t g e was_applied k ∷ lines) = on_hold lines
  on_hold (line t g e was_dropped k ∷ lines) = on_hold lines

  -- the events of the serial run: accepted and committed, up to the first that is undecided (13.3 a)
  abbrev pub serial : List (Line G E) → List E
  serial [] = []
  serial (line t g e waiting k ∷ lines) = serial lines
  serial (line t g e voted_no k ∷ lines) = serial lines
  serial (line t g e (ongoing undecided) k ∷ lines) = []
  serial (line t g e (ongoing committed) k ∷ lines) = e ∷ serial lines
  serial (line t g e was_applied k ∷ lines) = e ∷ serial lines
  serial (line t g e was_dropped k ∷ lines) = serial lines

  -- the events applied so far, in arrival order
  abbrev pub applied_events : List (Line G E) → List E
  applied_events [] = []
  applied_events (line t g e waiting k ∷ lines) = applied_events lines
  applied_events (line t g e voted_no k ∷ lines) = applied_events lines
  applied_events (line t g e (ongoing d) k ∷ lines) = applied_events lines
  applied_events (line t g e was_applied k ∷ lines) = e ∷ applied_events lines
  applied_events (line t g e was_dropped k ∷ lines) = applied_events lines

  -- the accepted events that count or may come to count: those applied as committed, those in progress as they are decided
  abbrev pub course : List (Line G E) → List (Slot G E)
  course [] = []
  course (line t g e waiting k ∷ lines) = course lines
  course (line t g e voted_no k ∷ lines) = course lines
  course (line t g e (ongoing d) k ∷ lines) = slot t g e d ∷ course lines
  course (line t g e was_applied k ∷ lines) = slot t g e committed ∷ course lines
  course (line t g e was_dropped k ∷ lines) = course lines

  -- the number beside each line, of the entries of its end, is that of its fate
  abbrev pub OneEnd : List (Line G E) → Type 0
  OneEnd [] = Unit {0}
  OneEnd (line t g e f k ∷ lines) = (k ≡ ends_of f) × OneEnd lines

  -- how many entries of ends belong to the lines
  abbrev pub ends_owned : List (Line G E) → ℕ
  ends_owned [] = 0
  ends_owned (line t g e f k ∷ lines) = k + ends_owned lines

  -- one line turns into another in its place and every other line stays as it is; no other line in progress or held has its transaction
  pub record Turns (t : ℕ) (l l' : Line G E) (lines lines' : List (Line G E)) : Type 0 where
    pub before : List (Line G E)
    pub behind : List (Line G E)
    pub is : lines ≡ before ++ (l ∷ behind)
    pub becomes : lines' ≡ before ++ (l' ∷ behind)
    pub alone : owners t lines ≡ l ∷ []

  -- whether the line has ended, and its transaction, its filing, its event and its end are asked for
  abbrev pub ended_line : (ℕ → G → E → Fate → Bool) → Line G E → Bool
  ended_line asked (line t g e waiting k) = false
  ended_line asked (line t g e voted_no k) = false
  ended_line asked (line t g e (ongoing d) k) = false
  ended_line asked (line t g e was_applied k) = asked t g e was_applied
  ended_line asked (line t g e was_dropped k) = asked t g e was_dropped

-- whether the entry is of an end, and its transaction, its filing, its event and the end are asked for
abbrev pub end_entry : {G E B : Type 0} → (ℕ → G → E → Fate → Bool) → Entry G E B → Bool
end_entry asked (voted t g e w) = false
end_entry asked (noted t g) = false
end_entry asked (applied t g e b) = asked t g e was_applied
end_entry asked (dropped t g e) = asked t g e was_dropped

-- how many entries are entries of ends
abbrev pub ends_written : {G E B : Type 0} → List (Entry G E B) → ℕ
ends_written [] = 0
ends_written (x ∷ xs) = is_end x + ends_written xs

module _ {G S E B : Type 0} (R : Rule S E B) where
  -- The lines are right.
  pub record Right (a : Account G S E) (lines : List (Line G E)) : Type 0 where
    -- the account has in progress and held what the lines say, in their order
    pub progress : a.progress ≡ in_progress lines
    pub held : a.held ≡ on_hold lines
    -- the applied state is the one that the serial run leads to (13.3 a),
    pub state : a.state ≡ run R (serial lines) R.fresh
    -- in which each event finds its guard true (13.3 b)
    pub guards : GuardsHold R (serial lines) R.fresh
    -- the guard of an event in progress is true whichever of the undecided ones before it come to be applied (13.3 c),
    pub ahead :
        (before behind : List (Line G E)) (t : ℕ) (g : G) (e : E) (d : Decision) (k : ℕ)
        → lines ≡ before ++ (line t g e (ongoing d) k ∷ behind)
        → (n : ℕ) → n < 2 ^ undecided_of (course before) → guard R e (chosen_state R (course before) (bit n) R.fresh) ≡ true
    -- where those before any place are the events applied, and then those in progress
    pub along :
        (before behind : List (Line G E)) (chosen : ℕ → Bool)
        → lines ≡ before ++ behind
        → chosen_state R (course before) chosen R.fresh ≡ chosen_state R (in_progress before) chosen (run R (applied_events before) R.fresh)
    -- nothing passes a held request (5.8): behind one that waits there are only such as wait, or were dropped
    pub passing :
        (before between behind : List (Line G E)) (t t' : ℕ) (g g' : G) (e e' : E) (f : Fate) (k k' : ℕ)
        → lines ≡ before ++ (line t g e waiting k ∷ (between ++ (line t' g' e' f k' ∷ behind)))
        → (f ≡ waiting) ⊎ (f ≡ was_dropped)
    -- an account with no event in progress holds no request (13.3 e)
    pub idle : a.progress ≡ [] → a.held ≡ []
    -- nothing is left to apply: what is oldest in progress is undecided (6.6)
    pub oldest :
        (behind : List (Slot G E)) (t : ℕ) (g : G) (e : E) (d : Decision)
        → in_progress lines ≡ slot t g e d ∷ behind
        → d ≡ undecided
    -- and nothing to decide: the oldest held request, decided with nothing held before it, is held again (6.7)
    pub stays :
        (behind : List (Slot G E)) (t : ℕ) (g : G) (e : E) (d : Decision)
        → on_hold lines ≡ slot t g e d ∷ behind
        → (w : Weighing) × (w.verdict ≡ hold) × Vote R [] (in_progress lines) (run R (applied_events lines) R.fresh) e w

  -- A vote has its owner, a line that waits, and is the vote on the lines as they stand: behind those held before it, over what is in progress, from the run of what is applied.
  abbrev pub Voted : List (Line G E) → ℕ → G → E → Weighing → Type 0
  Voted lines t g e w =
      (owner : Turns t (line t g e waiting 0) (line t g e (fate_by w.verdict) 0) lines (note {B = B} lines (voted t g e w)))
      × Vote R (on_hold owner.before) (in_progress lines) (run R (applied_events lines) R.fresh) e w

  -- The entry has its owner: when it is written, exactly one line in progress or held has its transaction, with the entry's event and what is filed with it,
  -- and of the fate that the entry's kind asks. That line turns into what the entry says, and no other line changes.
  abbrev pub Owned : List (Line G E) → Entry G E B → Type 0
  Owned lines (voted t g e w) = Voted lines t g e w
  Owned lines (noted t g) =
      (g' : G) × (e : E) × Turns t (line t g' e (ongoing undecided) 0) (line t g' e (ongoing committed) 0) lines (note {B = B} lines (noted t g))
  -- an event applied is the oldest in progress, and its entry shows the state after it
  Owned lines (applied t g e b) =
      (owner : Turns t (line t g e (ongoing committed) 0) (line t g e was_applied 1) lines (note lines (applied t g e b)))
      × (in_progress owner.before ≡ [])
      × (b ≡ R.shown (run R (applied_events lines ++ (e ∷ [])) R.fresh))
  Owned lines (dropped t g e) =
      Turns t (line t g e (ongoing undecided) 0) (line t g e was_dropped 1) lines (note {B = B} lines (dropped t g e))
      ⊎ Turns t (line t g e waiting 0) (line t g e was_dropped 1) lines (note {B = B} lines (dropped t g e))

  -- so each of some entries, one after the other,
  abbrev pub AllOwned : List (Line G E) → List (Entry G E B) → Type 0
  AllOwned lines [] = Unit {0}
  AllOwned lines (x ∷ xs) = Owned lines x × AllOwned (note lines x) xs

  -- A message that is taken writes what it asks for and nothing else: a request its own vote; a commit `noted`, an abort one `dropped`, each of its own transaction,
  -- and behind it only events applied and then only votes of yes or no. So nothing is decided or dropped without its message, and no message is taken in silence.
  abbrev pub Answers : List (Line G E) → Message G E → Answer G E B → Type 0
  Answers lines m (refused n) = Unit {0}
  Answers lines m (taken xs) = Writes (length (in_progress lines)) (length (on_hold lines)) m xs

  -- and of each call of a history
  abbrev pub HistoryOwned : List (Line G E) → List (Seen G E B) → Type 0
  HistoryOwned lines [] = Unit {0}
  HistoryOwned lines (seen ∷ rest) =
      AllOwned (begun lines seen.message seen.answer) (written seen.answer)
      × Answers lines seen.message seen.answer
      × HistoryOwned (after_call lines seen.message seen.answer) rest

  -- Demand 3 of one account and what has been seen of it since it was new:
  pub record Demand3 (a : Account G S E) (seen : List (Seen G E B)) : Type 0 where
    -- the lines are right,
    pub right : Right a (lines_from [] seen)
    -- every entry has its owner, and every message that is taken is answered by its own entries,
    pub owned : HistoryOwned [] seen
    -- there is one entry for each end and no other, counted over the entries of every call (13.3 d): whatever transaction, filing, event and end are asked for,
    -- as many entries have them as lines that have so ended,
    pub ended :
        (asked : ℕ → G → E → Fate → Bool) → length (keep (end_entry asked) (all_entries seen)) ≡ length (keep (ended_line asked) (lines_from [] seen))
    -- and line by line: beside each line that has ended stands the number 1, and 0 beside any other. This alone says little, since `note` keeps that number in step with the fate
    -- whatever is written; that it counts entries is said by `owned`, as each entry turns exactly one line,
    pub one_end : OneEnd (lines_from [] seen)
    -- and by this: there is no entry of an end beyond these
    pub no_other : ends_written (all_entries seen) ≡ ends_owned (lines_from [] seen)

  -- after every list of messages to a new account, taken or refused
  abbrev pub Demand3After : List (Message G E) → Type 0
  Demand3After ms = Demand3 (reached R (new_account R G) ms) (history R (new_account R G) ms)
