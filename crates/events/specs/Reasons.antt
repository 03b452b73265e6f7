-- The numbers of reasons (3.4): a reason as the table of reasons has it, and back.
-- Assumes nothing.
use Rattle.std.specs.Prelude.{ℕ, Option, Some, None, cond, eqb}
use Rattle.std.proofs.Math.Option as number
use Rattle.events.specs.declared.reasons.Reason.{Reason}
use Rattle.events.specs.declared.reasons.Reason.TheVariants.{WrongLife, ZeroAmount, TooFew, OverLimit}

abbrev pub number_of : Reason → ℕ
number_of WrongLife = 1
number_of ZeroAmount = 2
number_of TooFew = 3
number_of OverLimit = 4

abbrev pub numbers_of : Option Reason → number.Option ℕ
numbers_of None = number.none
numbers_of (Some reason) = number.some (number_of reason)

-- the reason of a number; of one that none has, as of 4
abbrev pub numbered : ℕ → Reason
numbered n =
    cond (eqb n 1) WrongLife
    (cond (eqb n 2) ZeroAmount
    (cond (eqb n 3) TooFew OverLimit))

abbrev pub told_by : number.Option ℕ → Option Reason
told_by number.none = None
told_by (number.some n) = Some (numbered n)
