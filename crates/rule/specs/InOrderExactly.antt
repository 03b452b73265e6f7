-- In order, neither weaker nor stronger than its clauses: the test is true exactly if each of them holds, said by places in the lists and by the outcomes' numbers
-- (docs/REGISTER.md, 6; 6.3 is said where there are places).
-- Assumes nothing.
use Rattle.std.specs.Prelude.{ℕ, ◌≤◌, ◌<◌, ◌^◌, ◌≡◌, ◌↔◌, ◌⊎◌, true, false, List, ◌∷◌, ◌++◌, length}
use Rattle.rule.specs.Rule.{Rule, guard, Decision, undecided, Slot, slot, Account, Message, new_account}
use Rattle.rule.specs.Outcome.{undecided_of, bit}
use Rattle.rule.specs.Exact.{chosen_state}
use Rattle.rule.specs.Call.{call, reached}
use Rattle.rule.specs.InOrder.{is_in_order, Sound}

module _ {G S E B : Type 0} (R : Rule S E B) where
  pub record Ordered (a : Account G S E) : Type 0 where
    -- neither too many in progress nor too many held (6.1),
    pub few : length a.progress ≤ R.progress_limit
    pub few_held : length a.held ≤ R.held_limit
    -- its state is one of those in order (6.1 and 6.2),
    pub state : R.fits a.state ≡ true
    -- the transactions at any two places, in progress or held, differ (6.4),
    pub differ :
        (before between behind : List (Slot G E)) (t t' : ℕ) (g g' : G) (e e' : E) (d d' : Decision)
        → a.progress ++ a.held ≡ before ++ (slot t g e d ∷ (between ++ (slot t' g' e' d' ∷ behind)))
        → t ≡ t' → ⊥
    -- a held request has no decision (6.4),
    pub undecided_held :
        (before behind : List (Slot G E)) (t : ℕ) (g : G) (e : E) (d : Decision)
        → a.held ≡ before ++ (slot t g e d ∷ behind)
        → d ≡ undecided
    -- an event in progress has its guard true in each outcome of the events before it (6.5),
    pub guards :
        (before behind : List (Slot G E)) (t : ℕ) (g : G) (e : E) (d : Decision)
        → a.progress ≡ before ++ (slot t g e d ∷ behind)
        → (n : ℕ) → n < 2 ^ undecided_of before → guard R e (chosen_state R before (bit n) a.state) ≡ true
    -- what is oldest in progress is undecided (6.6),
    pub oldest :
        (behind : List (Slot G E)) (t : ℕ) (g : G) (e : E) (d : Decision)
        → a.progress ≡ slot t g e d ∷ behind
        → d ≡ undecided
    -- and the oldest held request is one to be held: no place is free, or its guard holds in some outcome and fails in some other (6.7)
    pub stays :
        (behind : List (Slot G E)) (t : ℕ) (g : G) (e : E) (d : Decision)
        → a.held ≡ slot t g e d ∷ behind
        → (R.progress_limit ≤ length a.progress)
        ⊎ (((n : ℕ) × (n < 2 ^ undecided_of a.progress) × (guard R e (chosen_state R a.progress (bit n) a.state) ≡ true))
        × ((n : ℕ) × (n < 2 ^ undecided_of a.progress) × (guard R e (chosen_state R a.progress (bit n) a.state) ≡ false)))

  abbrev pub InOrderExactly : Account G S E → Type 0
  InOrderExactly a = (is_in_order R a ≡ true) ↔ Ordered a

  -- so is every account that messages lead to from a new one, if the rule's states in order are those that runs lead to; and a call leaves an account in order
  abbrev pub ReachedInOrder : List (Message G E) → Type 0
  ReachedInOrder ms = Sound R → Ordered (reached R (new_account R G) ms)

  abbrev pub CallsKeepOrder : Account G S E → Message G E → Type 0
  CallsKeepOrder a m = Sound R → Ordered a → Ordered (call R a m).account
