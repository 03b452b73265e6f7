-- The kinds of messages by their numbers (docs/REGISTER.md, 8.1), and back.
-- Assumes nothing.
use Rattle.std.specs.Prelude.{ℕ, cond, eqb, Result, Ok, Err}
use Rattle.refusal.specs.declared.Refusal.{Refusal}
use Rattle.refusal.specs.declared.Refusal.TheVariants.{UnknownKind}
use Rattle.message.specs.declared.kinds.Kind.{Kind}
use Rattle.message.specs.declared.kinds.Kind.TheVariants.{Open, Withdraw, Deposit, Close, Commit, Abort}

abbrev pub number_in : Kind → ℕ
number_in Open = 1
number_in Withdraw = 2
number_in Deposit = 3
number_in Close = 4
number_in Commit = 5
number_in Abort = 6

-- the kind of a number; any other number is an unknown kind
abbrev pub kind_numbered : ℕ → Result Kind Refusal
kind_numbered n =
    cond (eqb n 1) (Ok Open)
    (cond (eqb n 2) (Ok Withdraw)
    (cond (eqb n 3) (Ok Deposit)
    (cond (eqb n 4) (Ok Close)
    (cond (eqb n 5) (Ok Commit)
    (cond (eqb n 6) (Ok Abort) (Err UnknownKind))))))
