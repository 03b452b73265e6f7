-- The numbers of refusals (docs/REGISTER.md, 10.1), and back.
-- Assumes nothing.
use Rattle.std.specs.Prelude.{ℕ, cond, eqb}
use Rattle.refusal.specs.declared.Refusal.{Refusal}
use Rattle.refusal.specs.declared.Refusal.TheVariants.{Torn, UnknownKind, UnknownAccount, NoRoom, NotInOrder, KnownTransaction, AllHeld, UnknownTransaction, HeldTransaction, CommittedAlready, CommittedBefore, NoSuchOutcome}

-- the number that a caller is told
abbrev pub number_of : Refusal → ℕ
number_of Torn = 1
number_of UnknownKind = 2
number_of UnknownAccount = 3
number_of NoRoom = 4
number_of NotInOrder = 5
number_of KnownTransaction = 6
number_of AllHeld = 7
number_of UnknownTransaction = 8
number_of HeldTransaction = 9
number_of CommittedAlready = 10
number_of CommittedBefore = 11
number_of NoSuchOutcome = 12

-- a number by itself is told as it is, whichever it is
abbrev pub itself : ℕ → ℕ
itself n = n

-- the refusal of a number; of one that none has, as of 12
abbrev pub numbered : ℕ → Refusal
numbered n =
    cond (eqb n 1) Torn
    (cond (eqb n 2) UnknownKind
    (cond (eqb n 3) UnknownAccount
    (cond (eqb n 4) NoRoom
    (cond (eqb n 5) NotInOrder
    (cond (eqb n 6) KnownTransaction
    (cond (eqb n 7) AllHeld
    (cond (eqb n 8) UnknownTransaction
    (cond (eqb n 9) HeldTransaction
    (cond (eqb n 10) CommittedAlready
    (cond (eqb n 11) CommittedBefore NoSuchOutcome))))))))))
