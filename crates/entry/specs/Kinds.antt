-- The kinds of entries by their numbers (docs/REGISTER.md, 9.1), and back.
-- Assumes nothing.
use Rattle.std.specs.Prelude.{ℕ, cond, eqb, Result, Ok, Err}
use Rattle.refusal.specs.declared.Refusal.{Refusal}
use Rattle.refusal.specs.declared.Refusal.TheVariants.{UnknownKind}
use Rattle.entry.specs.declared.kinds.Kind.{Kind}
use Rattle.entry.specs.declared.kinds.Kind.TheVariants.{Accepted, OlderRejected, Held, Noted, Applied, Dropped, Rejected}

abbrev pub number_in : Kind → ℕ
number_in Accepted = 17
number_in OlderRejected = 18
number_in Held = 19
number_in Noted = 20
number_in Applied = 21
number_in Dropped = 22
number_in Rejected = 23

-- the kind of a number; any other number is an unknown kind
abbrev pub kind_numbered : ℕ → Result Kind Refusal
kind_numbered n =
    cond (eqb n 17) (Ok Accepted)
    (cond (eqb n 18) (Ok OlderRejected)
    (cond (eqb n 19) (Ok Held)
    (cond (eqb n 20) (Ok Noted)
    (cond (eqb n 21) (Ok Applied)
    (cond (eqb n 22) (Ok Dropped)
    (cond (eqb n 23) (Ok Rejected) (Err UnknownKind)))))))
