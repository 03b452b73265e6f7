-- What entries speak of: only events that messages brought, states that runs lead to, counts of outcomes, and reasons that the rule gives. `P` is asked of every event with its transaction and filing,
-- `Q` of every commit's transaction and filing, `K` of every state, `W` of what is shown of one.
-- Assumes nothing.
use Rattle.std.specs.Prelude.{ℕ, ◌≤◌, ◌^◌, ◌≡◌, List, [], ◌∷◌}
use Rattle.std.proofs.Math.Option.{none, some}
use Rattle.rule.specs.Rule.{Rule, Slot, slot, Account, Message, request, commit, abort, reject, Weighing, Entry, voted, noted, applied, dropped}

module _ {G E : Type 0} (P : ℕ → G → E → Type 0) where
  -- so of every slot
  abbrev pub SlotsSay : List (Slot G E) → Type 0
  SlotsSay [] = Unit {0}
  SlotsSay (slot t g e d ∷ xs) = P t g e × SlotsSay xs

module _ {G E : Type 0} (P : ℕ → G → E → Type 0) (Q : ℕ → G → Type 0) where
  -- so of a message
  abbrev pub MessageSays : Message G E → Type 0
  MessageSays (request t g e) = P t g e
  MessageSays (commit t g) = Q t g
  MessageSays (abort t g) = Unit {0}

module _ {S E B : Type 0} (R : Rule S E B) where
  -- so of a vote: its count of outcomes is within 2 to the power of the limit on events in progress, its reason, if it has one, is the rule's against that event in some state,
  -- and no vote but a rejection has one
  pub record WeighingSays (e : E) (w : Weighing) : Type 0 where
    pub few : w.weighed ≤ 2 ^ R.progress_limit
    pub given : (n : ℕ) → w.reason ≡ some n → (s : S) × (R.reason e s ≡ some n)
    pub alone : (w.verdict ≡ reject → ⊥) → w.reason ≡ none

module _ {G S E B : Type 0} (R : Rule S E B) (P : ℕ → G → E → Type 0) (Q : ℕ → G → Type 0) (K : S → Type 0) (W : B → Type 0) where
  -- so of an account
  pub record AccountSays (a : Account G S E) : Type 0 where
    pub state : K a.state
    pub progress : SlotsSay P a.progress
    pub held : SlotsSay P a.held

  -- so of an entry
  abbrev pub EntrySays : Entry G E B → Type 0
  EntrySays (voted t g e w) = P t g e × WeighingSays R e w
  EntrySays (noted t g) = Q t g
  EntrySays (applied t g e b) = P t g e × W b
  EntrySays (dropped t g e) = P t g e

  abbrev pub EntriesSay : List (Entry G E B) → Type 0
  EntriesSay [] = Unit {0}
  EntriesSay (x ∷ xs) = EntrySays x × EntriesSay xs
