-- Kinds and amounts, the tests of a life, and what is known of many states at a glance, each said a second time row by row over all numbers (docs/REGISTER.md, 3.1, 4.5 and 9.2).
-- A word that stands in a statement cannot be changed with it.
-- Assumes nothing.
use Rattle.std.specs.Prelude.{ℕ, ◌+◌, ◌-◌, ◌≤◌, ◌<◌, min, max, ◌≡◌, Bool, true, false, cond, ◌&&◌, ◌||◌, not, ◌↔◌, List, [], ◌∷◌, ◌++◌, map, leb, Option, Some, None}
use Rattle.std.proofs.Math.Option.{none, some}
use Rattle.rule.specs.Rule.{Slot, slot, undecided, committed}
use Rattle.events.specs.declared.Event.{Event}
use Rattle.events.specs.declared.Event.TheVariants.{Open, Withdraw, Deposit, Close}
use Rattle.events.specs.declared.Life.{Life}
use Rattle.events.specs.declared.Life.TheVariants.{New, Opened, Closed}
use Rattle.events.specs.declared.State.{State}
use Rattle.events.specs.declared.Range.{Range}
use Rattle.events.specs.declared.reasons.Reason.{Reason}
use Rattle.events.specs.declared.reasons.Reason.TheVariants.{WrongLife, ZeroAmount, TooFew, OverLimit}
use Rattle.events.specs.Reasons.{number_of, numbers_of, told_by}
use Rattle.events.specs.Events.{limit, is_new, is_opened, is_closed, reason_byte, reason_from}
use Rattle.events.specs.Kinds.{event_kind, amount_of, event_of}
use Rattle.events.specs.Table.{events}
use Rattle.events.specs.Glance.{Occurs}
use Rattle.events.specs.Range.{range_of, range_of_one, joined, every_in, some_in, range_after, range_perhaps, stored_after, stored_perhaps, range_through}

-- the four events by kind and amount; the lives; the limit; the reasons and their numbers, and back both ways
pub record EventLiteral (a : ℕ) : Type 0 where
  pub four : events a ≡ Open a ∷ Withdraw a ∷ Deposit a ∷ Close ∷ []
  pub kinds : map event_kind (Open a ∷ Withdraw a ∷ Deposit a ∷ Close ∷ []) ≡ 1 ∷ 2 ∷ 3 ∷ 4 ∷ []
  pub amounts : map amount_of (Open a ∷ Withdraw a ∷ Deposit a ∷ Close ∷ []) ≡ a ∷ a ∷ a ∷ 0 ∷ []
  pub opens : event_of 1 a ≡ Open a
  pub withdraws : event_of 2 a ≡ Withdraw a
  pub deposits : event_of 3 a ≡ Deposit a
  pub closes : event_of 4 a ≡ Close
  pub new : map is_new (New ∷ Opened ∷ Closed ∷ []) ≡ true ∷ false ∷ false ∷ []
  pub opened : map is_opened (New ∷ Opened ∷ Closed ∷ []) ≡ false ∷ true ∷ false ∷ []
  pub closed : map is_closed (New ∷ Opened ∷ Closed ∷ []) ≡ false ∷ false ∷ true ∷ []
  pub highest : limit ≡ 1_000_000
  pub reason_bytes : map reason_byte (none ∷ some a ∷ []) ≡ 0 ∷ a ∷ []
  pub reason_none : reason_from 0 ≡ none
  pub reason_some : (a ≡ 0 → ⊥) → reason_from a ≡ some a
  pub reasons : map numbers_of (None ∷ Some WrongLife ∷ Some ZeroAmount ∷ Some TooFew ∷ Some OverLimit ∷ []) ≡ none ∷ some 1 ∷ some 2 ∷ some 3 ∷ some 4 ∷ []
  pub reason_numbers : map number_of (WrongLife ∷ ZeroAmount ∷ TooFew ∷ OverLimit ∷ []) ≡ 1 ∷ 2 ∷ 3 ∷ 4 ∷ []
  pub reasons_back : map told_by (none ∷ some 1 ∷ some 2 ∷ some 3 ∷ some 4 ∷ []) ≡ None ∷ Some WrongLife ∷ Some ZeroAmount ∷ Some TooFew ∷ Some OverLimit ∷ []
  pub reason_told : (r : Option Reason) → told_by (numbers_of r) ≡ r
  pub number_told : 0 < a → a ≤ 4 → numbers_of (told_by (some a)) ≡ some a

-- the range of one state
pub record OneLiteral (b : ℕ) : Type 0 where
  pub new : range_of_one (record { life = New; balance = b }) ≡ record { lowest = 0; highest = 0; new = true; opened = false; closed = false }
  pub opened : range_of_one (record { life = Opened; balance = b }) ≡ record { lowest = b; highest = b; new = false; opened = true; closed = false }
  pub closed : range_of_one (record { life = Closed; balance = b }) ≡ record { lowest = 0; highest = 0; new = false; opened = false; closed = true }
  pub new_list : range_of (record { life = New; balance = b } ∷ []) ≡ record { lowest = 0; highest = 0; new = true; opened = false; closed = false }
  pub opened_list : range_of (record { life = Opened; balance = b } ∷ []) ≡ record { lowest = b; highest = b; new = false; opened = true; closed = false }
  pub closed_list : range_of (record { life = Closed; balance = b } ∷ []) ≡ record { lowest = 0; highest = 0; new = false; opened = false; closed = true }
  pub none : range_of [] ≡ record { lowest = 0; highest = 0; new = false; opened = false; closed = false }

-- what each event asks of a range, in all states and in some, and what it makes of it
module _ (l h : ℕ) (n o c : Bool) where
  abbrev pub range : Range
  range = record { lowest = l; highest = h; new = n; opened = o; closed = c }

  pub record RangeLiteral (a : ℕ) : Type 0 where
    pub every_open : every_in (Open a) range ≡ (not (o || c) && leb a 1_000_000) && leb 0 l
    pub every_withdraw : every_in (Withdraw a) range ≡ (not (n || c) && leb 1 a) && leb a l
    pub every_deposit : every_in (Deposit a) range ≡ (not (n || c) && (leb 1 a && leb a 1_000_000)) && leb h (1_000_000 - a)
    pub every_close : every_in Close range ≡ (not (n || c) && true) && leb 0 l
    pub some_open : some_in (Open a) range ≡ (n && leb a 1_000_000) && leb 0 h
    pub some_withdraw : some_in (Withdraw a) range ≡ (o && leb 1 a) && leb a h
    pub some_deposit : some_in (Deposit a) range ≡ (o && (leb 1 a && leb a 1_000_000)) && leb l (1_000_000 - a)
    pub some_close : some_in Close range ≡ (o && true) && leb 0 h
    pub after_open : range_after (Open a) range ≡ record { lowest = a; highest = a; new = false; opened = true; closed = false }
    pub after_withdraw : range_after (Withdraw a) range ≡ record { lowest = l - a; highest = h - a; new = false; opened = true; closed = false }
    pub after_deposit : range_after (Deposit a) range ≡ record { lowest = l + a; highest = h + a; new = false; opened = true; closed = false }
    pub after_close : range_after Close range ≡ record { lowest = 0; highest = 0; new = false; opened = false; closed = true }
    pub perhaps : (e : Event) → range_perhaps e range ≡ joined range (range_after e range)

  -- what is stored: the same, but for a balance that four bytes have no room for, and so the same where the guard holds in all states
  pub record StoredLiteral (a : ℕ) : Type 0 where
    pub stored_open : stored_after (Open a) range ≡ range_after (Open a) range
    pub stored_withdraw : stored_after (Withdraw a) range ≡ range_after (Withdraw a) range
    pub stored_deposit :
        stored_after (Deposit a) range
        ≡ record { lowest = cond (leb (l + a) 4_294_967_295) (l + a) l; highest = cond (leb (h + a) 4_294_967_295) (h + a) h; new = false; opened = true; closed = false }
    pub stored_close : stored_after Close range ≡ range_after Close range
    pub perhaps : (e : Event) → stored_perhaps e range ≡ joined range (stored_after e range)
    pub guarded : (e : Event) → l ≤ h → h ≤ 4_294_967_295 → every_in e range ≡ true → stored_after e range ≡ range_after e range

-- two ranges together: of the lowest balances those of opened states count
pub record JoinedLiteral (l h k j : ℕ) (n m c d : Bool) : Type 0 where
  pub both : joined (range l h n true c) (range k j m true d) ≡ record { lowest = min l k; highest = max h j; new = n || m; opened = true; closed = c || d }
  pub first : joined (range l h n true c) (range k j m false d) ≡ record { lowest = l; highest = max h j; new = n || m; opened = true; closed = c || d }
  pub second : joined (range l h n false c) (range k j m true d) ≡ record { lowest = k; highest = max h j; new = n || m; opened = true; closed = c || d }

-- a life that occurs among states: at some place
pub record OccursMeans (states : List State) (life : Life) : Type 0 where
  pub occurs : Occurs states life ↔ ((before : List State) × (s : State) × (behind : List State) × (states ≡ before ++ (s ∷ behind)) × (s.life ≡ life))

-- through events in progress, one after the other
pub record ThroughLiteral {G : Type 0} (t : ℕ) (g : G) (e : Event) (xs : List (Slot G Event)) (x : Range) : Type 0 where
  pub none : range_through {G = G} [] x ≡ x
  pub undecided' : range_through (slot t g e undecided ∷ xs) x ≡ range_through xs (range_perhaps e x)
  pub committed' : range_through (slot t g e committed ∷ xs) x ≡ range_through xs (range_after e x)

pub record LiteralHolds : Type 0 where
  pub event : (a : ℕ) → EventLiteral a
  pub one : (b : ℕ) → OneLiteral b
  pub row : (l h : ℕ) (n o c : Bool) (a : ℕ) → RangeLiteral l h n o c a
  pub stored : (l h : ℕ) (n o c : Bool) (a : ℕ) → StoredLiteral l h n o c a
  pub occurring : (states : List State) (life : Life) → OccursMeans states life
  pub together : (l h k j : ℕ) (n m c d : Bool) → JoinedLiteral l h k j n m c d
