-- The seconds never matter (docs/REGISTER.md, 13.2): which sequences of calls are the same but for the seconds in their messages, and what is the same in their replies and
-- entries. Messages are compared within their whole length, so that this is said of the calls of a run too.
-- Assumes nothing.
use Rattle.std.specs.Prelude.{ℕ, ◌≤◌, ◌≡◌, ◌↔◌, List, [], ◌∷◌, ◌++◌, length, take, drop}
use Rattle.std.proofs.Math.Seq.{slice}
use Rattle.rule.specs.Rule.{Rule}
use Rattle.events.specs.declared.Event.{Event}
use Rattle.events.specs.declared.State.{State}
use Rattle.filing.specs.declared.Entry.{Entry}
use Rattle.entry.specs.Bytes.{bytes_of_entry}
use Rattle.register.specs.Register.{fresh_by}
use Rattle.register.specs.Call.{written_of}
use Rattle.register.specs.Sequence.{Input, Exchange, exchanges}
use Rattle.register.specs.Whole.{Whole}

-- two strings that differ at most in the four bytes of the second, behind kind, transaction and account
pub record OtherSecond (bytes bytes' : List ℕ) : Type 0 where
  pub size : length bytes ≡ length bytes'
  pub front : take 7 bytes ≡ take 7 bytes'
  pub back : drop 11 bytes ≡ drop 11 bytes'

-- two strings that begin with messages which differ at most in the second: equal before it, and behind it up to the whole length, which both reach or neither;
-- what stands behind a whole message plays no part
pub record SameMessage (bytes bytes' : List ℕ) : Type 0 where
  pub front : take 7 bytes ≡ take 7 bytes'
  pub back : (whole : ℕ) → Whole bytes whole → slice 11 whole bytes ≡ slice 11 whole bytes'
  pub reached : (whole : ℕ) → Whole bytes whole → (whole ≤ length bytes) ↔ (whole ≤ length bytes')

-- strings that differ so as wholes are among them
abbrev pub WholeStrings : Type 0
WholeStrings = (bytes bytes' : List ℕ) → OtherSecond bytes bytes' → SameMessage bytes bytes'

-- sequences whose messages are the same but for their seconds, and whose buffers are equal
pub data OtherSeconds : List Input → List Input → Type 0 where
  none : OtherSeconds [] []
  one_more : {x y : Input} {xs ys : List Input} → SameMessage x.message y.message → x.buffer ≡ y.buffer → OtherSeconds xs ys → OtherSeconds (x ∷ xs) (y ∷ ys)

-- entries one after the other, the same but for their seconds
pub data SameEntries : List ℕ → List ℕ → Type 0 where
  nothing_written : SameEntries [] []
  entry : (account : ℕ) (e e' : Entry) {rest rest' : List ℕ} → OtherSecond (bytes_of_entry account e) (bytes_of_entry account e') → SameEntries rest rest'
      → SameEntries (bytes_of_entry account e ++ rest) (bytes_of_entry account e' ++ rest')

-- the same reply, the same entries but for their seconds, and the rest of the buffers equal
pub record SameExchange (x y : Exchange) : Type 0 where
  pub replies : x.reply ≡ y.reply
  pub entries : SameEntries (take (written_of x.reply) x.buffer) (take (written_of y.reply) y.buffer)
  pub rest : drop (written_of x.reply) x.buffer ≡ drop (written_of y.reply) y.buffer

pub data SameExchanges : List Exchange → List Exchange → Type 0 where
  none_seen : SameExchanges [] []
  one_seen : {x y : Exchange} {xs ys : List Exchange} → SameExchange x y → SameExchanges xs ys → SameExchanges (x ∷ xs) (y ∷ ys)

-- of two sequences to fresh registers that are the same but for their seconds, the replies are the same, and the entries but for their seconds
abbrev pub SecondsNeverMatter : Rule State Event ℕ → Type 0
SecondsNeverMatter R =
    (inputs inputs' : List Input) → OtherSeconds inputs inputs'
    → SameExchanges (exchanges R (fresh_by R) inputs) (exchanges R (fresh_by R) inputs')
