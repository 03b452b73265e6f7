-- By computing.
-- Assumes nothing.
use mathlib.Core.Path.{refl}
use borrow.Author.Tests.{eqb-true, eq-eqb, ne_eqb}
use Rattle.filing.specs.Literal.{LiteralHolds}

pub literal-holds : LiteralHolds
literal-holds =
    record {
      blanks =
          record {
            eight = refl;
            seventeen = refl;
            filed = refl;
            place = refl;
            entry = refl;
            is_filed = λ second. (eqb-true second 0, eq-eqb second 0);
          };
      both =
          λ t n k g e d.
          record {
            decisions = refl;
            decisions_back = refl;
            verdicts = refl;
            verdicts_back = refl;
            undecided = refl;
            committed = refl;
            commits = refl;
            accepts = refl;
            rejects = λ h. rw (ne_eqb k 0 h) refl;
            holds = refl;
            accepts_back = refl;
            rejects_back = refl;
            holds_back = refl;
          };
    }
