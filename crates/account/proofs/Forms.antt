-- The forms of an account and of its answers: the laws on a list that is filled up to a size, and on an account in order; the rest by computing.
-- Assumes nothing.
use mathlib.Core.Path.{refl, sym}
use mathlib.Core.List.{List}
use lib.ListN.{length}
use Rattle.filing.specs.Slots.{RuleSlot, place_of, blank}
use Rattle.filing.proofs.Filled.{first-filled, rest-filled, length-filled}
use Rattle.filing.specs.Entries.{entries_of}
use Rattle.account.specs.Places.{padded, account_of}
use Rattle.account.specs.Forms.{RowForm, FormsHold}
use Rattle.account.proofs.Padded.{lists-account}
use Rattle.account.proofs.Ordered.{ordered}
use Rattle.account.proofs.First.{first-ranged}

row-form : (xs : List RuleSlot) → RowForm (padded 8 xs) (length xs) xs
row-form xs =
    record {
      number = refl;
      used = first-filled place_of blank 8 xs;
      unused = rest-filled place_of blank 8 xs;
      eight = length-filled place_of blank 8 xs;
    }

pub forms-hold : FormsHold
unfolding account_of entries_of
forms-hold =
    record {
      accounts = λ a. record { state = refl; progress = row-form a.progress; held = row-form a.held; forth = lists-account a };
      nothing_else = λ a p q h. sym (ordered _ a first-ranged p q h).lists;
      answers = record { refused = λ r. refl; silent = λ r. refl; taken = λ entries. refl; written = λ entries. refl; question_refused = λ r. refl; question_answered = λ s n. refl };
    }
