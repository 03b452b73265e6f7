-- An account in order by a rule of the events, neither weaker nor stronger than its clauses (docs/REGISTER.md, 6): the test is true exactly if each of them holds,
-- said of the account's own places and by the outcomes' numbers; and what breaks one clause, whatever the others say, is not in order.
-- Assumes nothing.
use Rattle.std.specs.Prelude.{ℕ, ◌≤◌, ◌<◌, ◌^◌, ◌≡◌, ◌↔◌, ◌⊎◌, Bool, true, false, List, ◌∷◌, ◌++◌, map, length, take, drop}
use Rattle.rule.specs.Rule.{Rule, guard}
use Rattle.rule.specs.Outcome.{undecided_of, bit}
use Rattle.rule.specs.Exact.{chosen_state}
use Rattle.events.specs.declared.Event.{Event}
use Rattle.events.specs.declared.Event.TheVariants.{Open}
use Rattle.events.specs.declared.State.{State}
use Rattle.filing.specs.declared.Decision.TheVariants.{Undecided, Committed}
use Rattle.filing.specs.declared.Slot.{Slot}
use Rattle.filing.specs.Slots.{slot_of}
use Rattle.account.specs.declared.Account.{Account}
use Rattle.account.specs.InOrder.{in_order_by}

-- the used places, in arrival order, and the unused ones
module _ (a : Account) where
  abbrev pub events : List Slot
  events = take a.progressing a.progress

  abbrev pub requests : List Slot
  requests = take a.holding a.held

  abbrev pub unused : List Slot
  unused = drop a.progressing a.progress

  abbrev pub unused_held : List Slot
  unused_held = drop a.holding a.held

-- an outcome of these events has a number below
abbrev pub many : List Slot → ℕ
many xs = 2 ^ undecided_of (map slot_of xs)

module _ (R : Rule State Event ℕ) where
  -- the state after these events, applied as the bits of the number say
  abbrev pub after : State → List Slot → ℕ → State
  after s xs n = chosen_state R (map slot_of xs) (bit n) s

  -- in some outcome of these events the guard is so
  abbrev pub GuardSomewhere : State → List Slot → Event → Bool → Type 0
  GuardSomewhere s xs e b = (n : ℕ) × (n < many xs) × (guard R e (after s xs n) ≡ b)

-- where so many events may be in progress and so many requests held; `Fits` says in plain words which states are in order
module _ (R : Rule State Event ℕ) (progress_limit held_limit : ℕ) (Fits : State → Type 0) where
  pub record InOrder (a : Account) : Type 0 where
    -- the counts (6.1)
    pub progressing : a.progressing ≤ progress_limit
    pub holding : a.holding ≤ held_limit
    -- and the state within their limits (6.1, 6.2),
    pub state : Fits a.state
    -- no transaction at two used places, in progress or held (6.4),
    pub differ :
        (before between behind : List Slot) (x y : Slot)
        → events a ++ requests a ≡ before ++ (x ∷ (between ++ (y ∷ behind)))
        → x.transaction ≡ y.transaction → ⊥
    -- nothing left in an unused place (6.3),
    pub blanks : (before behind : List Slot) (x : Slot) → unused a ≡ before ++ (x ∷ behind) → x ≡ record { transaction = 0; filed = record { second = 0 }; event = Open 0; decision = Undecided }
    pub blanks_held : (before behind : List Slot) (x : Slot) → unused_held a ≡ before ++ (x ∷ behind) → x ≡ record { transaction = 0; filed = record { second = 0 }; event = Open 0; decision = Undecided }
    -- the guard of an event in progress true, whatever becomes of the older ones (6.5),
    pub guards :
        (before behind : List Slot) (x : Slot)
        → events a ≡ before ++ (x ∷ behind)
        → (n : ℕ) → n < many before → guard R x.event (after R a.state before n) ≡ true
    -- the oldest event undecided (6.6),
    pub oldest : (behind : List Slot) (x : Slot) → events a ≡ x ∷ behind → x.decision ≡ Undecided
    -- no decision on a held request (6.4),
    pub undecided_held : (before behind : List Slot) (x : Slot) → requests a ≡ before ++ (x ∷ behind) → x.decision ≡ Undecided
    -- and the oldest held request to stay held: no place is free in progress, or its guard is true in some outcome and false in some other (6.7)
    pub stays :
        (behind : List Slot) (x : Slot)
        → requests a ≡ x ∷ behind
        → (progress_limit ≤ length (events a)) ⊎ (GuardSomewhere R a.state (events a) x.event true × GuardSomewhere R a.state (events a) x.event false)

  abbrev pub InOrderExactlyBy : Type 0
  InOrderExactlyBy = (a : Account) → (in_order_by R a ≡ true) ↔ InOrder a

  -- each clause broken: the account is not in order
  pub record OutOfOrder (a : Account) : Type 0 where
    pub progressing : progress_limit < a.progressing → in_order_by R a ≡ false
    pub holding : held_limit < a.holding → in_order_by R a ≡ false
    pub state : (Fits a.state → ⊥) → in_order_by R a ≡ false
    pub same :
        (before between behind : List Slot) (x y : Slot)
        → events a ++ requests a ≡ before ++ (x ∷ (between ++ (y ∷ behind)))
        → x.transaction ≡ y.transaction → in_order_by R a ≡ false
    pub left :
        (before behind : List Slot) (x : Slot)
        → (unused a ≡ before ++ (x ∷ behind)) ⊎ (unused_held a ≡ before ++ (x ∷ behind))
        → (x ≡ record { transaction = 0; filed = record { second = 0 }; event = Open 0; decision = Undecided } → ⊥) → in_order_by R a ≡ false
    pub unguarded :
        (before behind : List Slot) (x : Slot)
        → events a ≡ before ++ (x ∷ behind)
        → GuardSomewhere R a.state before x.event false → in_order_by R a ≡ false
    pub oldest : (behind : List Slot) (x : Slot) → events a ≡ x ∷ behind → x.decision ≡ Committed → in_order_by R a ≡ false
    pub decided_held : (before behind : List Slot) (x : Slot) → requests a ≡ before ++ (x ∷ behind) → x.decision ≡ Committed → in_order_by R a ≡ false
    -- a place is free, and the oldest held request would be accepted, or rejected
    pub decides :
        (b : Bool) (behind : List Slot) (x : Slot)
        → requests a ≡ x ∷ behind → length (events a) < progress_limit
        → ((n : ℕ) → n < many (events a) → guard R x.event (after R a.state (events a) n) ≡ b) → in_order_by R a ≡ false

  abbrev pub BrokenClausesBy : Type 0
  BrokenClausesBy = (a : Account) → OutOfOrder a
