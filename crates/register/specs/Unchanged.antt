-- What a message that is sent and a call leave (docs/REGISTER.md, 13.1): all of it where it is refused; where it is taken, every other account and the rest of the buffer.
-- Both by what the answer says.
-- Assumes nothing.
use Rattle.std.specs.Prelude.{ℕ, ◌≤◌, ◌≡◌, List, [], length, get_or, drop}
use Rattle.std.proofs.Math.Option.{some}
use Rattle.rule.specs.Rule.{Rule}
use Rattle.events.specs.declared.Event.{Event}
use Rattle.events.specs.declared.State.{State}
use Rattle.filing.specs.Entries.{entries_of}
use Rattle.account.specs.Steps as steps
use Rattle.account.specs.Steps.{refusal_in}
use Rattle.message.specs.declared.Message.{Message}
use Rattle.message.specs.Bytes.{heading_of}
use Rattle.register.specs.declared.Register.{Register}
use Rattle.register.specs.Register.{sent_by}
use Rattle.register.specs.Call.{Reply, refusal_of, consumed_of, written_of, called_by}
use Rattle.register.specs.Refusals.{account_in, length_by, standing_at}

module _ (R : Rule State Event ℕ) (r : Register) (m : Message) where
  -- a message that is refused changes nothing and brings no entry; one that is taken changes the account that it names alone
  pub record SendLeaves : Type 0 where
    pub refused : (n : ℕ) → refusal_in (sent_by R r m).answer ≡ some n → ((sent_by R r m).register ≡ r) × (steps.entries_in (sent_by R r m).answer ≡ entries_of [])
    pub count : length (sent_by R r m).register.accounts ≡ length r.accounts
    pub others : (j : ℕ) → (j ≡ (heading_of m).account → ⊥) → standing_at (sent_by R r m).register j ≡ standing_at r j

module _ (R : Rule State Event ℕ) (r : Register) (bytes buffer : List ℕ) where
  -- a refusal has a number of the list, consumed and written length 0, and changes neither register nor buffer
  pub record Refusal (n : ℕ) : Type 0 where
    pub lowest : 1 ≤ n
    pub highest : n ≤ 11
    pub consumed : consumed_of (called_by R r bytes buffer).reply ≡ 0
    pub written : written_of (called_by R r bytes buffer).reply ≡ 0
    pub register : (called_by R r bytes buffer).register ≡ r
    pub buffer' : (called_by R r bytes buffer).buffer ≡ buffer

  -- what is taken changes one account and the beginning of the buffer, and nothing else
  pub record Taking : Type 0 where
    -- the consumed length is the kind's, and there are so many bytes
    pub consumed : consumed_of (called_by R r bytes buffer).reply ≡ length_by (get_or bytes 0 0)
    pub whole : length_by (get_or bytes 0 0) ≤ length bytes
    -- the written length is within the buffer, which keeps its length, and the bytes after it stay
    pub room : written_of (called_by R r bytes buffer).reply ≤ length buffer
    pub size : length (called_by R r bytes buffer).buffer ≡ length buffer
    pub rest : drop (written_of (called_by R r bytes buffer).reply) (called_by R r bytes buffer).buffer ≡ drop (written_of (called_by R r bytes buffer).reply) buffer
    -- as many accounts, and all but one as they were
    pub count : length (called_by R r bytes buffer).register.accounts ≡ length r.accounts
    pub others : (j : ℕ) → (j ≡ account_in bytes → ⊥) → standing_at (called_by R r bytes buffer).register j ≡ standing_at r j

-- what is said of a reply tells the replies apart
abbrev pub RepliesApart : Type 0
RepliesApart = (x y : Reply) → refusal_of x ≡ refusal_of y → consumed_of x ≡ consumed_of y → written_of x ≡ written_of y → x ≡ y
