-- What the commit rule is about: an event with a guard and an effect, an account, a message, an entry (docs/REGISTER.md, 2 to 5).
-- Everything is over any state `S`, any event `E`, anything `G` that is filed with an event and never looked at, and anything `B` that is shown of a state.
-- Assumes nothing.
use Rattle.std.specs.Prelude.{ℕ, Bool, true, false, List, []}
use Rattle.std.proofs.Math.Option.{Option, none, some}

-- the reason against an event in a state, if there is one; the effect of the events, the state of a new account, what an entry shows of a state, which states are in order,
-- and how many events may be in progress and how many requests held on one account
pub record Rule (S E B : Type 0) : Type 0 where
  pub reason : E → S → Option ℕ
  pub effect : E → S → S
  pub fresh : S
  pub shown : S → B
  pub fits : S → Bool
  pub progress_limit : ℕ
  pub held_limit : ℕ

-- whether there is no number
abbrev pub absent : Option ℕ → Bool
absent none = true
absent (some n) = false

module _ {S E B : Type 0} (R : Rule S E B) where
  -- the guard of an event is true exactly if there is no reason against it (3.4)
  unfoldable pub guard : E → S → Bool
  guard e s = absent (R.reason e s)

-- whether the decision on an event in progress has come (2.4)
pub data Decision : Type 0 where
  undecided committed : Decision

-- an event in progress, or a request held: its transaction, what is filed with it, the event, the decision
pub data Slot (G E : Type 0) : Type 0 where
  slot : ℕ → G → E → Decision → Slot G E

-- the applied state (2.2), the events in progress and the requests held, each list oldest first (2.3)
pub record Account (G S E : Type 0) : Type 0 where
  pub state : S
  pub progress : List (Slot G E)
  pub held : List (Slot G E)

-- a message to an account: its transaction, what is filed with it, and the event of a request
pub data Message (G E : Type 0) : Type 0 where
  request : ℕ → G → E → Message G E
  commit : ℕ → G → Message G E
  abort : ℕ → G → Message G E

-- how a request is decided
pub data Verdict : Type 0 where
  accept reject hold : Verdict

-- a decision, the number of outcomes that were weighed for it, and the reason of a rejection
pub record Weighing : Type 0 where
  pub verdict : Verdict
  pub weighed : ℕ
  pub reason : Option ℕ

-- an entry: of a vote, with its weighing; of a commit; of an event applied, with what is shown of the state after it; of one dropped
pub data Entry (G E B : Type 0) : Type 0 where
  voted : ℕ → G → E → Weighing → Entry G E B
  noted : ℕ → G → Entry G E B
  applied : ℕ → G → E → B → Entry G E B
  dropped : ℕ → G → E → Entry G E B

module _ {S E B : Type 0} (R : Rule S E B) where
  -- a new account, with nothing in progress or held
  abbrev pub new_account : (G : Type 0) → Account G S E
  new_account G = record { state = R.fresh; progress = []; held = [] }
