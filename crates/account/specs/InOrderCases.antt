-- Accounts in order, and for each clause accounts that break it alone: one table of literal accounts, one statement (docs/REGISTER.md, 6).
-- Assumes nothing.
use Rattle.std.specs.Prelude.{ℕ, zero, suc, ◌+◌, ◌-◌, ◌≡◌, Bool, true, false, List, [], ◌∷◌, ◌++◌, map, length, take, replicate}
use Rattle.events.specs.declared.Event.{Event}
use Rattle.events.specs.declared.Event.TheVariants.{Open, Withdraw, Deposit, Close}
use Rattle.events.specs.declared.Life.{Life}
use Rattle.events.specs.declared.Life.TheVariants.{New, Opened, Closed}
use Rattle.filing.specs.declared.Decision.{Decision}
use Rattle.filing.specs.declared.Decision.TheVariants.{Undecided, Committed}
use Rattle.filing.specs.declared.Slot.{Slot}
use Rattle.account.specs.declared.Account.{Account}
use Rattle.account.specs.First.{in_order_of}

abbrev pub slot : (transaction second : ℕ) → Event → Decision → Slot
slot t g e d = record { transaction = t; filed = record { second = g }; event = e; decision = d }

abbrev pub unused_place : Slot
unused_place = slot 0 0 (Open 0) Undecided

-- an event, or a request, at second 100
abbrev pub undecided : ℕ → Event → Slot
undecided t e = slot t 100 e Undecided

abbrev pub committed : ℕ → Event → Slot
committed t e = slot t 100 e Committed

-- so many withdrawals of 1, under transactions from this one on
abbrev pub withdrawals : (first count : ℕ) → List Slot
withdrawals t zero = []
withdrawals t (suc n) = undecided t (Withdraw 1) ∷ withdrawals (suc t) n

-- the eight places that begin with these; the last of them, if it is unused, is the one named
abbrev pub eight : List Slot → Slot → List Slot
eight xs last = take 8 (xs ++ replicate (7 - length xs) unused_place ++ (last ∷ []))

-- an account of that state, with these in progress and these held, whose last places are the ones named, if they are unused
abbrev pub ending : Life → ℕ → (progress held : List Slot) → (last last_held : Slot) → Account
ending life balance progress held last last_held =
    record {
      state = record { life = life; balance = balance };
      progress = eight progress last;
      progressing = length progress;
      held = eight held last_held;
      holding = length held;
    }

abbrev pub account_with : Life → ℕ → (progress held : List Slot) → Account
account_with life balance progress held = ending life balance progress held unused_place unused_place

-- of balance 100, with these in progress and these held,
abbrev pub hundred : (progress held : List Slot) → Account
hundred progress held = account_with Opened 100 progress held

-- and with nothing, but that something was left in a place
abbrev pub left_behind : (last last_held : Slot) → Account
left_behind last last_held = ending Opened 100 [] [] last last_held

-- the account with counts that are so much too high
abbrev pub counted : (more more_held : ℕ) → Account → Account
counted more more_held a =
    record { state = a.state; progress = a.progress; progressing = a.progressing + more; held = a.held; holding = a.holding + more_held }

pub record Row : Type 0 where
  pub account : Account
  pub ordered : Bool

abbrev pub row : Account → Bool → Row
row a b = record { account = a; ordered = b }

unfoldable pub table : List Row
table =
    -- in order: idle, and with several in progress and held; nothing is asked of a held request behind the oldest (6.8)
    row (account_with New 0 [] []) true
    ∷ row (account_with Closed 0 [] []) true
    ∷ row (account_with Opened 1_000_000 [] []) true
    ∷ row (hundred (undecided 2 (Withdraw 60) ∷ committed 3 (Withdraw 40) ∷ []) (undecided 4 (Withdraw 60) ∷ undecided 5 (Withdraw 0) ∷ [])) true
    ∷ row (account_with New 0 (undecided 2 (Open 10) ∷ []) (undecided 3 (Withdraw 5) ∷ [])) true
    ∷ row (hundred (undecided 2 Close ∷ []) (undecided 3 (Deposit 1) ∷ [])) true
    -- with no place free a request stays held that would be accepted, and one that would be rejected (6.7)
    ∷ row (hundred (withdrawals 1 8) (withdrawals 9 8)) true
    ∷ row (hundred (withdrawals 1 8) (undecided 9 (Withdraw 101) ∷ [])) true
    -- counts (6.1)
    ∷ row (counted 1 0 (hundred (withdrawals 1 8) (withdrawals 9 8))) false
    ∷ row (counted 0 1 (hundred (withdrawals 1 8) (withdrawals 9 8))) false
    -- balance (6.1 and 6.2)
    ∷ row (account_with Opened 1_000_001 [] []) false
    ∷ row (account_with New 1 [] []) false
    ∷ row (account_with Closed 1 [] []) false
    -- transactions (6.4)
    ∷ row (hundred (undecided 2 (Withdraw 1) ∷ undecided 3 (Withdraw 1) ∷ undecided 2 (Withdraw 1) ∷ []) []) false
    ∷ row (hundred (undecided 2 (Withdraw 60) ∷ []) (undecided 3 (Withdraw 60) ∷ undecided 2 (Withdraw 60) ∷ [])) false
    ∷ row (hundred (undecided 2 (Withdraw 60) ∷ []) (undecided 3 (Withdraw 60) ∷ undecided 3 (Withdraw 60) ∷ [])) false
    -- blanks, by each field, in progress and held (6.3)
    ∷ row (left_behind unused_place unused_place) true
    ∷ row (left_behind (slot 1 0 (Open 0) Undecided) unused_place) false
    ∷ row (left_behind (slot 0 1 (Open 0) Undecided) unused_place) false
    ∷ row (left_behind (slot 0 0 (Open 1) Undecided) unused_place) false
    ∷ row (left_behind (slot 0 0 (Withdraw 0) Undecided) unused_place) false
    ∷ row (left_behind (slot 0 0 (Deposit 0) Undecided) unused_place) false
    ∷ row (left_behind (slot 0 0 Close Undecided) unused_place) false
    ∷ row (left_behind (slot 0 0 (Open 0) Committed) unused_place) false
    ∷ row (left_behind unused_place (slot 1 0 (Open 0) Undecided)) false
    ∷ row (left_behind unused_place (slot 0 1 (Open 0) Undecided)) false
    ∷ row (left_behind unused_place (slot 0 0 (Open 1) Undecided)) false
    ∷ row (left_behind unused_place (slot 0 0 (Open 0) Committed)) false
    -- a held request has no decision (6.4)
    ∷ row (hundred (undecided 2 (Withdraw 60) ∷ []) (undecided 3 (Withdraw 60) ∷ committed 4 (Withdraw 60) ∷ [])) false
    -- guards (6.5): in one outcome of four it fails; where the first is not applied it holds
    ∷ row (hundred (undecided 2 (Withdraw 60) ∷ undecided 3 (Withdraw 20) ∷ undecided 4 (Withdraw 21) ∷ []) []) false
    ∷ row (hundred (undecided 2 (Withdraw 60) ∷ undecided 3 (Withdraw 20) ∷ undecided 4 (Withdraw 20) ∷ []) []) true
    ∷ row (hundred (undecided 2 (Withdraw 101) ∷ []) []) false
    -- the oldest event (6.6)
    ∷ row (hundred (committed 2 (Withdraw 60) ∷ undecided 3 (Withdraw 40) ∷ []) []) false
    -- the oldest held request (6.7): accepted, held, rejected
    ∷ row (hundred (undecided 2 (Withdraw 60) ∷ []) (undecided 3 (Withdraw 40) ∷ [])) false
    ∷ row (hundred (undecided 2 (Withdraw 60) ∷ []) (undecided 3 (Withdraw 41) ∷ [])) true
    ∷ row (hundred (undecided 2 (Withdraw 60) ∷ []) (undecided 3 (Withdraw 101) ∷ [])) false
    ∷ []

-- the test answers as is said, row by row
abbrev pub InOrderCasesHold : Type 0
InOrderCasesHold = map (λ (r : Row). in_order_of r.account) table ≡ map (λ (r : Row). r.ordered) table
