-- The table of events (3.1) row by row, over all amounts and balances and every life, in plain numbers: each guard exactly if, each reason against it (3.4) exactly if, each effect as an
-- equation; what else the first panel's rule has; the kinds and amounts (9.2) and the blank's event (2.5).
-- Assumes nothing.
use Rattle.std.specs.Prelude.{ℕ, ◌+◌, ◌-◌, ◌≤◌, ◌<◌, ◌≡◌, ◌↔◌, ◌⊎◌, true, false, ◌&&◌, List, [], ◌∷◌, map, leb}
use Rattle.std.proofs.Math.Option.{some}
use Rattle.rule.specs.Rule.{guard}
use Rattle.events.specs.declared.Event.{Event}
use Rattle.events.specs.declared.Event.TheVariants.{Open, Withdraw, Deposit, Close}
use Rattle.events.specs.declared.Life.TheVariants.{New, Opened, Closed}
use Rattle.events.specs.declared.State.{State}
use Rattle.events.specs.Events.{is_blank_event}
use Rattle.events.specs.Kinds.{event_kind, amount_of, event_of}
use Rattle.events.specs.Panel.{first_panel, first_table}

module _ (progress_limit held_limit : ℕ) (s : State) (a : ℕ) where
  -- the column of guards
  pub record Guards : Type 0 where
    pub opens : (guard (first_panel progress_limit held_limit) (Open a) s ≡ true) ↔ ((s.life ≡ New) × (a ≤ 1_000_000))
    pub withdraws : (guard (first_panel progress_limit held_limit) (Withdraw a) s ≡ true) ↔ ((s.life ≡ Opened) × (1 ≤ a) × (a ≤ s.balance))
    pub deposits : (guard (first_panel progress_limit held_limit) (Deposit a) s ≡ true) ↔ ((s.life ≡ Opened) × (1 ≤ a) × (s.balance + a ≤ 1_000_000))
    pub closes : (guard (first_panel progress_limit held_limit) Close s ≡ true) ↔ (s.life ≡ Opened)

  -- the reason against each event, exactly if: 1 the wrong life; then 2, of a withdrawal or a deposit of 0; then 3, of a withdrawal of more than there is, and 4, of an open or a deposit
  -- over the limit; and there is no other
  pub record Reasons : Type 0 where
    pub open_life : ((first_panel progress_limit held_limit).reason (Open a) s ≡ some 1) ↔ (s.life ≡ New → ⊥)
    pub open_over : ((first_panel progress_limit held_limit).reason (Open a) s ≡ some 4) ↔ ((s.life ≡ New) × (1_000_000 < a))
    pub withdraw_life : ((first_panel progress_limit held_limit).reason (Withdraw a) s ≡ some 1) ↔ (s.life ≡ Opened → ⊥)
    pub withdraw_zero : ((first_panel progress_limit held_limit).reason (Withdraw a) s ≡ some 2) ↔ ((s.life ≡ Opened) × (a ≡ 0))
    pub withdraw_few : ((first_panel progress_limit held_limit).reason (Withdraw a) s ≡ some 3) ↔ ((s.life ≡ Opened) × (s.balance < a))
    pub deposit_life : ((first_panel progress_limit held_limit).reason (Deposit a) s ≡ some 1) ↔ (s.life ≡ Opened → ⊥)
    pub deposit_zero : ((first_panel progress_limit held_limit).reason (Deposit a) s ≡ some 2) ↔ ((s.life ≡ Opened) × (a ≡ 0))
    pub deposit_over : ((first_panel progress_limit held_limit).reason (Deposit a) s ≡ some 4) ↔ ((s.life ≡ Opened) × (1 ≤ a) × (1_000_000 < s.balance + a))
    pub close_life : ((first_panel progress_limit held_limit).reason Close s ≡ some 1) ↔ (s.life ≡ Opened → ⊥)
    pub open_others : (n : ℕ) → (first_panel progress_limit held_limit).reason (Open a) s ≡ some n → (n ≡ 1) ⊎ (n ≡ 4)
    pub withdraw_others : (n : ℕ) → (first_panel progress_limit held_limit).reason (Withdraw a) s ≡ some n → (n ≡ 1) ⊎ ((n ≡ 2) ⊎ (n ≡ 3))
    pub deposit_others : (n : ℕ) → (first_panel progress_limit held_limit).reason (Deposit a) s ≡ some n → (n ≡ 1) ⊎ ((n ≡ 2) ⊎ (n ≡ 4))
    pub close_others : (n : ℕ) → (first_panel progress_limit held_limit).reason Close s ≡ some n → n ≡ 1

  -- the column of effects, where the guard holds; where it does not, nothing changes
  pub record Effects : Type 0 where
    pub opens : guard (first_panel progress_limit held_limit) (Open a) s ≡ true → (first_panel progress_limit held_limit).effect (Open a) s ≡ record { life = Opened; balance = a }
    pub withdraws : guard (first_panel progress_limit held_limit) (Withdraw a) s ≡ true → (first_panel progress_limit held_limit).effect (Withdraw a) s ≡ record { life = Opened; balance = s.balance - a }
    pub deposits : guard (first_panel progress_limit held_limit) (Deposit a) s ≡ true → (first_panel progress_limit held_limit).effect (Deposit a) s ≡ record { life = Opened; balance = s.balance + a }
    pub closes : guard (first_panel progress_limit held_limit) Close s ≡ true → (first_panel progress_limit held_limit).effect Close s ≡ record { life = Closed; balance = 0 }
    pub otherwise : (e : Event) → (guard (first_panel progress_limit held_limit) e s ≡ true → ⊥) → (first_panel progress_limit held_limit).effect e s ≡ s

  -- the same column as the table has it, whatever the guard says
  pub record TableEffects : Type 0 where
    pub opens : (first_table progress_limit held_limit).effect (Open a) s ≡ record { life = Opened; balance = a }
    pub withdraws : (first_table progress_limit held_limit).effect (Withdraw a) s ≡ record { life = s.life; balance = s.balance - a }
    pub deposits : (first_table progress_limit held_limit).effect (Deposit a) s ≡ record { life = s.life; balance = s.balance + a }
    pub closes : (first_table progress_limit held_limit).effect Close s ≡ record { life = Closed; balance = 0 }

  -- what else the rule has: a new account, what an applied entry shows, the states in order, the places
  pub record Fields : Type 0 where
    pub fresh : (first_panel progress_limit held_limit).fresh ≡ record { life = New; balance = 0 }
    pub shown : (first_panel progress_limit held_limit).shown s ≡ s.balance
    pub fits : ((first_panel progress_limit held_limit).fits s ≡ true) ↔ ((s.balance ≤ 1_000_000) × ((s.life ≡ Opened → ⊥) → s.balance ≡ 0))
    pub progress_limit' : (first_panel progress_limit held_limit).progress_limit ≡ progress_limit
    pub held_limit' : (first_panel progress_limit held_limit).held_limit ≡ held_limit

  pub record Table : Type 0 where
    pub guards : Guards
    pub reasons : Reasons
    pub effects : Effects
    pub table_effects : TableEffects
    pub fields : Fields

abbrev pub TableHolds : Type 0
TableHolds = (progress_limit held_limit : ℕ) (s : State) (a : ℕ) → Table progress_limit held_limit s a

-- the four events in the order of their kinds 1 to 4; a close has the amount 0
abbrev pub events : (amount : ℕ) → List Event
events amount = Open amount ∷ Withdraw amount ∷ Deposit amount ∷ Close ∷ []

pub record Kinds (amount : ℕ) : Type 0 where
  pub kinds : map event_kind (events amount) ≡ 1 ∷ 2 ∷ 3 ∷ 4 ∷ []
  pub amounts : map amount_of (events amount) ≡ amount ∷ amount ∷ amount ∷ 0 ∷ []
  pub back : map (λ (kind : ℕ). event_of kind amount) (1 ∷ 2 ∷ 3 ∷ 4 ∷ []) ≡ events amount
  pub other : (kind : ℕ) → leb 1 kind && leb kind 3 ≡ false → event_of kind amount ≡ Close

abbrev pub KindsHold : Type 0
KindsHold = (amount : ℕ) → Kinds amount

-- the blank's event is Open 0 and no other
abbrev pub BlankIsOpenZero : Type 0
BlankIsOpenZero = (e : Event) → (is_blank_event e ≡ true) ↔ (e ≡ Open 0)
