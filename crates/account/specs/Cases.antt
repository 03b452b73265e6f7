-- The cases close to the line (docs/REGISTER.md, 14.1 to 14.9 and the outcomes below them), and rows for what no case has: one table, one statement of a rule.
-- Assumes nothing.
use Rattle.std.specs.Prelude.{ℕ, suc, ◌-◌, ◌^◌, ◌≡◌, List, [], ◌∷◌, ◌++◌, map, replicate}
use Rattle.std.proofs.Math.Option.{Option, none, some}
use Rattle.rule.specs.Lists.{numbers}
use Rattle.rule.specs.Rule.{Rule, undecided, slot, Message, request, commit, abort, Verdict, accept, reject, hold, Weighing, Entry, voted, noted, applied, dropped, new_account}
use Rattle.rule.specs.Outcome.{undecided_of, applied_in, outcomes}
use Rattle.rule.specs.Call.{Answer, refused, taken, call, reached}
use Rattle.events.specs.declared.Event.{Event}
use Rattle.events.specs.declared.Event.TheVariants.{Open, Withdraw, Deposit, Close}
use Rattle.events.specs.declared.Life.TheVariants.{Opened}
use Rattle.events.specs.declared.State.{State}
use Rattle.filing.specs.declared.Filed.{Filed}
use Rattle.filing.specs.Slots.{RuleSlot}
use Rattle.account.specs.Places.{RuleAccount}

-- what is asked in a case: how an event is weighed; what the outcomes are; what a message writes
pub data Question : Type 0 where
  asks : Event → Question
  outlook : Question
  sends : Message Filed Event → Question

-- what is found: a vote with its weighing; the balances of the outcomes with the numbers applied; entries; the number of a refusal
pub data Finding : Type 0 where
  votes : Weighing → Finding
  outcomes_are : List ℕ → List ℕ → Finding
  writes : List (Entry Filed Event ℕ) → Finding
  refuses : ℕ → Finding

abbrev pub weighing : Verdict → ℕ → Option ℕ → Weighing
weighing verdict weighed reason = record { verdict = verdict; weighed = weighed; reason = reason }

-- a vote of yes or to hold, which has no reason, and a vote of no with its reason
abbrev pub vote : Verdict → ℕ → Finding
vote verdict weighed = votes (weighing verdict weighed none)

abbrev pub rejects : (weighed reason : ℕ) → Finding
rejects weighed reason = votes (weighing reject weighed (some reason))

-- a row: the messages sent to a new account before, the question, and what is to be found
pub record Row : Type 0 where
  pub before : List (Message Filed Event)
  pub question : Question
  pub said : Finding

-- the vote among the entries of a request
abbrev pub vote_in : List (Entry Filed Event ℕ) → Finding
vote_in [] = writes []
vote_in (voted t g e w ∷ xs) = votes w
vote_in (noted t g ∷ xs) = writes []
vote_in (applied t g e b ∷ xs) = writes []
vote_in (dropped t g e ∷ xs) = writes []

-- the entries of an answer, as `told` has them, or its refusal
abbrev pub finding_in : (List (Entry Filed Event ℕ) → Finding) → Answer Filed Event ℕ → Finding
finding_in told (refused n) = refuses n
finding_in told (taken xs) = told xs

-- everything is sent at second 100
abbrev pub filed : Filed
filed = record { second = 100 }

module _ (R : Rule State Event ℕ) where
  -- what an account answers; a request is sent under transaction 99
  abbrev pub answers : RuleAccount → Question → Finding
  answers a (asks e) = finding_in vote_in (call R a (request 99 filed e)).answer
  answers a outlook =
      outcomes_are (map (λ (s : State). s.balance) (outcomes R a.progress a.state))
      (map (applied_in a.progress) (numbers 0 (2 ^ undecided_of a.progress)))
  answers a (sends m) = finding_in writes (call R a m).answer

  abbrev pub found : Row → Finding
  found row = answers (reached R (new_account R Filed) row.before) row.question

abbrev pub row : List (Message Filed Event) → Question → Finding → Row
row before question said = record { before = before; question = question; said = said }

-- requests of these events, under transactions from this one on
abbrev pub requests : ℕ → List Event → List (Message Filed Event)
requests t [] = []
requests t (e ∷ es) = request t filed e ∷ requests (suc t) es

-- an account of that balance with nothing in progress,
abbrev pub opened : ℕ → List (Message Filed Event)
opened a = request 1 filed (Open a) ∷ commit 1 filed ∷ []

-- and with these requests sent since, under transactions from 2 on
abbrev pub opened_with : ℕ → List Event → List (Message Filed Event)
opened_with a es = opened a ++ requests 2 es

abbrev pub case3 : List (Message Filed Event)
case3 = opened_with 100 (Withdraw 60 ∷ [])

abbrev pub case5 : List (Message Filed Event)
case5 = opened_with 100 (Withdraw 60 ∷ Withdraw 40 ∷ [])

abbrev pub case6 : List (Message Filed Event)
case6 = case5 ++ (commit 3 filed ∷ [])

abbrev pub case7 : List (Message Filed Event)
case7 = requests 1 (Open 10 ∷ [])

abbrev pub case8 : List (Message Filed Event)
case8 = opened_with 100 (Close ∷ [])

abbrev pub case9 : List (Message Filed Event)
case9 = opened_with 100 (replicate 7 (Withdraw 1))

-- case 9 with the eighth in progress, and then with that many requests held
abbrev pub case9_full : ℕ → List (Message Filed Event)
case9_full held = case9 ++ requests 9 (Deposit 1 ∷ replicate held (Withdraw 1))

-- all applied and none applied are two outcomes of these four
abbrev pub look_alike : List (Message Filed Event)
look_alike = opened_with 100 (Deposit 50 ∷ Withdraw 50 ∷ [])

-- the second of two withdrawals is held, under transaction 3
abbrev pub waiting : List (Message Filed Event)
waiting = opened_with 100 (Withdraw 60 ∷ Withdraw 60 ∷ [])

abbrev pub closed : List (Message Filed Event)
closed = case8 ++ (commit 2 filed ∷ [])

unfoldable pub table : List Row
table =
    -- 14.1, new
    row [] (asks (Deposit 5)) (rejects 1 1)
    ∷ row [] (asks (Open 0)) (vote accept 1)
    ∷ row [] (asks (Open 1_000_000)) (vote accept 1)
    ∷ row [] (asks (Open 1_000_001)) (rejects 1 4)
    -- 14.2, balance 100
    ∷ row (opened 100) (asks (Withdraw 100)) (vote accept 1)
    ∷ row (opened 100) (asks (Withdraw 101)) (rejects 1 3)
    ∷ row (opened 100) (asks (Withdraw 0)) (rejects 1 2)
    -- 14.3, there with Withdraw 60 undecided
    ∷ row case3 (asks (Withdraw 40)) (vote accept 2)
    ∷ row case3 (asks (Withdraw 41)) (vote hold 2)
    ∷ row case3 (asks (Withdraw 101)) (rejects 2 3)
    -- 14.4, balance 999,990, without and with Withdraw 1 undecided
    ∷ row (opened 999_990) (asks (Deposit 10)) (vote accept 1)
    ∷ row (opened 999_990) (asks (Deposit 11)) (rejects 1 4)
    ∷ row (opened 999_990 ++ (request 2 filed (Withdraw 1) ∷ [])) (asks (Deposit 11)) (vote hold 2)
    -- 14.5, balance 100 with Withdraw 60 and Withdraw 40 undecided
    ∷ row case5 outlook (outcomes_are (100 ∷ 40 ∷ 60 ∷ 0 ∷ []) (0 ∷ 1 ∷ 1 ∷ 2 ∷ []))
    ∷ row case5 (asks (Withdraw 1)) (vote hold 4)
    ∷ row case5 (asks (Deposit 1)) (vote accept 4)
    -- 14.6, the same: the 40 is committed, then the 60 aborted
    ∷ row case5 (sends (commit 3 filed)) (writes (noted 3 filed ∷ []))
    ∷ row case6 outlook (outcomes_are (60 ∷ 0 ∷ []) (0 ∷ 1 ∷ []))
    ∷ row case6 (sends (abort 2 filed)) (writes (dropped 2 filed (Withdraw 60) ∷ applied 3 filed (Withdraw 40) 60 ∷ []))
    ∷ row (case6 ++ (abort 2 filed ∷ [])) outlook (outcomes_are (60 ∷ []) (0 ∷ []))
    -- 14.7, new with Open 10 undecided
    ∷ row case7 (asks (Open 1)) (vote hold 2)
    ∷ row case7 (asks (Withdraw 5)) (vote hold 2)
    ∷ row case7 (asks (Withdraw 11)) (rejects 2 1)
    -- 14.8, balance 100 with Close undecided
    ∷ row case8 (asks (Withdraw 101)) (rejects 2 3)
    ∷ row case8 (asks (Deposit 1)) (vote hold 2)
    -- 14.9, balance 100 with seven Withdraw 1 undecided
    ∷ row case9 (asks (Deposit 1)) (vote accept 128)
    ∷ row (case9_full 0) (asks (Withdraw 1)) (vote hold 0)
    ∷ row (case9_full 7) (asks (Withdraw 1)) (vote hold 0)
    ∷ row (case9_full 8) (asks (Withdraw 1)) (refuses 7)
    -- Deposit 50 and Withdraw 50 undecided on 100
    ∷ row look_alike outlook (outcomes_are (100 ∷ 150 ∷ 50 ∷ 100 ∷ []) (0 ∷ 1 ∷ 1 ∷ 2 ∷ []))
    ∷ row look_alike (asks (Withdraw 80)) (vote hold 4)
    -- the other events of the table on a new account and on an opened one
    ∷ row [] (asks (Withdraw 1)) (rejects 1 1)
    ∷ row [] (asks Close) (rejects 1 1)
    ∷ row (opened 100) (asks (Open 1)) (rejects 1 1)
    ∷ row (opened 100) (asks (Deposit 0)) (rejects 1 2)
    ∷ row (opened 100) (asks (Deposit 1)) (vote accept 1)
    ∷ row (opened 100) (asks Close) (vote accept 1)
    ∷ row (opened_with 100 (Deposit 50 ∷ [])) (sends (commit 2 filed)) (writes (noted 2 filed ∷ applied 2 filed (Deposit 50) 150 ∷ []))
    ∷ row case8 (sends (commit 2 filed)) (writes (noted 2 filed ∷ applied 2 filed Close 0 ∷ []))
    -- the first reason that applies: the wrong life ahead of the amount and of the limit, an amount of zero ahead of what else there is; a withdrawal is never over the limit
    ∷ row [] (asks (Withdraw 0)) (rejects 1 1)
    ∷ row [] (asks (Deposit 0)) (rejects 1 1)
    ∷ row (opened 100) (asks (Open 1_000_001)) (rejects 1 1)
    ∷ row (opened 0) (asks (Withdraw 0)) (rejects 1 2)
    ∷ row (opened 1_000_000) (asks (Deposit 0)) (rejects 1 2)
    ∷ row (opened 100) (asks (Withdraw 1_000_001)) (rejects 1 3)
    ∷ row (opened 100) (asks (Deposit 4_294_967_295)) (rejects 1 4)
    -- where outcomes have different reasons, that of outcome 0: an undecided close is not applied there, a committed withdrawal is
    ∷ row case8 (asks (Open 1)) (rejects 2 1)
    ∷ row case8 (asks (Deposit 1_000_000)) (rejects 2 4)
    ∷ row case6 (asks (Withdraw 61)) (rejects 2 3)
    -- a request that was held is rejected for the reason that there is on its turn: the close before it is committed
    ∷ row (opened_with 100 (Close ∷ Deposit 1 ∷ [])) (sends (commit 2 filed)) (writes (noted 2 filed ∷ applied 2 filed Close 0 ∷ voted 3 filed (Deposit 1) (weighing reject 1 (some 1)) ∷ []))
    -- and nothing is kept from when it was held: there the account was new without the undecided open, reason 1; on its turn it has too few steps
    ∷ row (requests 1 (Open 10 ∷ Withdraw 5 ∷ Withdraw 8 ∷ []) ++ (commit 1 filed ∷ [])) (sends (commit 2 filed)) (writes (noted 2 filed ∷ applied 2 filed (Withdraw 5) 5 ∷ voted 3 filed (Withdraw 8) (weighing reject 1 (some 3)) ∷ []))
    -- every event on a closed account
    ∷ row closed outlook (outcomes_are (0 ∷ []) (0 ∷ []))
    ∷ row closed (asks (Open 1)) (rejects 1 1)
    ∷ row closed (asks (Withdraw 1)) (rejects 1 1)
    ∷ row closed (asks (Deposit 1)) (rejects 1 1)
    ∷ row closed (asks Close) (rejects 1 1)
    -- a request behind one that is held; what becomes of the held one
    ∷ row waiting (asks (Deposit 1)) (vote hold 0)
    ∷ row waiting (sends (abort 2 filed)) (writes (dropped 2 filed (Withdraw 60) ∷ voted 3 filed (Withdraw 60) (weighing accept 1 none) ∷ []))
    ∷ row waiting (sends (commit 2 filed)) (writes (noted 2 filed ∷ applied 2 filed (Withdraw 60) 40 ∷ voted 3 filed (Withdraw 60) (weighing reject 1 (some 3)) ∷ []))
    ∷ row waiting (sends (abort 3 filed)) (writes (dropped 3 filed (Withdraw 60) ∷ []))
    -- refusals 6 and 8 to 11
    ∷ row waiting (sends (request 2 filed Close)) (refuses 6)
    ∷ row waiting (sends (request 3 filed Close)) (refuses 6)
    ∷ row waiting (sends (commit 4 filed)) (refuses 8)
    ∷ row waiting (sends (abort 4 filed)) (refuses 8)
    ∷ row waiting (sends (commit 3 filed)) (refuses 9)
    ∷ row case6 (sends (commit 3 filed)) (refuses 10)
    ∷ row case6 (sends (abort 3 filed)) (refuses 11)
    ∷ []

-- withdrawals of 1, 2, 4 and so on up to 128 undecided on 255: each has a bit of its own, the oldest the lowest, so that the outcome of number n has n steps less (4.2)
abbrev pub powers : List RuleSlot
powers = map (λ (i : ℕ). slot i filed (Withdraw (2 ^ i)) undecided) (numbers 0 8)

module _ (R : Rule State Event ℕ) where
  -- what is found is what is said, row by row
  abbrev pub CasesHoldBy : Type 0
  CasesHoldBy = map (found R) table ≡ map (λ (r : Row). r.said) table

  abbrev pub BitsHoldBy : Type 0
  BitsHoldBy =
      map (λ (s : State). s.balance) (outcomes R powers (record { life = Opened; balance = 255 })) ≡ map (λ (n : ℕ). 255 - n) (numbers 0 256)
