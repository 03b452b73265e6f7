-- The entry that a call writes first, its own, byte by byte beside the bytes of its message (docs/REGISTER.md, 9.3 and 9.4): what is filed is what the message brings.
-- Assumes nothing.
use Rattle.std.specs.Prelude.{ℕ, ◌≤◌, ◌≡◌, ◌⊎◌, List, [], ◌∷◌, get_or, take, drop}
use Rattle.std.proofs.Math.Option.{none}
use Rattle.rule.specs.Rule as rule
use Rattle.events.specs.declared.Event.{Event}
use Rattle.events.specs.declared.State.{State}
use Rattle.filing.specs.declared.Filed.{Filed}
use Rattle.layout.specs.Number.{AreBytes}
use Rattle.message.specs.declared.Message.TheVariants.{Request, Commit, Abort}
use Rattle.register.specs.declared.Register.{Register}
use Rattle.register.specs.Register.{rule_message}
use Rattle.register.specs.Call.{refusal_of, written_of, called_by}

-- a message of kind `get_or bytes 0 0`, and the entries that were written for it
pub record OwnEntry (bytes : List ℕ) (written : ℕ) (entries : List ℕ) : Type 0 where
  -- transaction and account are the message's, of every kind,
  pub heading : take 6 (drop 1 entries) ≡ take 6 (drop 1 bytes)
  -- and what is filed too, behind them, but of an abort, of which nothing is filed
  pub filed : get_or bytes 0 0 ≤ 5 → take 4 (drop 7 entries) ≡ take 4 (drop 7 bytes)
  -- a request has one entry, a vote of 18 bytes, or of 19 if it is a rejection, with its event's kind and amount; Close brings no amount and has 0
  pub vote :
      get_or bytes 0 0 ≤ 4
      → ((get_or entries 0 0 ≡ 17) × (written ≡ 18)) ⊎ (((get_or entries 0 0 ≡ 19) × (written ≡ 18)) ⊎ ((get_or entries 0 0 ≡ 23) × (written ≡ 19)))
  pub event : get_or bytes 0 0 ≤ 4 → get_or entries 11 0 ≡ get_or bytes 0 0
  pub amount : get_or bytes 0 0 ≤ 3 → take 4 (drop 12 entries) ≡ take 4 (drop 11 bytes)
  pub close : get_or bytes 0 0 ≡ 4 → take 4 (drop 12 entries) ≡ 0 ∷ 0 ∷ 0 ∷ 0 ∷ []
  -- a commit is noted, an abort drops
  pub noted : get_or bytes 0 0 ≡ 5 → get_or entries 0 0 ≡ 20
  pub dropped : get_or bytes 0 0 ≡ 6 → get_or entries 0 0 ≡ 22

-- of every message that is taken
abbrev pub EachOwnEntry : rule.Rule State Event ℕ → Type 0
EachOwnEntry R =
    (r : Register) (bytes buffer : List ℕ) → AreBytes bytes → refusal_of (called_by R r bytes buffer).reply ≡ none
    → OwnEntry bytes (written_of (called_by R r bytes buffer).reply) (called_by R r bytes buffer).buffer

-- a message as the rule has it: its own transaction, its own filing, its own event
pub record Brings (t i : ℕ) (g : Filed) : Type 0 where
  pub request : (e : Event) → rule_message (Request (record { transaction = t; account = i; filed = g }) e) ≡ rule.request t g e
  pub commit : rule_message (Commit (record { transaction = t; account = i; filed = g })) ≡ rule.commit t g
  pub abort : rule_message (Abort (record { transaction = t; account = i; filed = g })) ≡ rule.abort t g
