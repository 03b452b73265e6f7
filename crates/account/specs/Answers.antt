-- What is said of an answer tells the answers apart.
-- Assumes nothing.
use Rattle.std.specs.Prelude.{◌≡◌, Result}
use Rattle.filing.specs.declared.Entries.{Entries}
use Rattle.refusal.specs.declared.Refusal.{Refusal}
use Rattle.account.specs.declared.Outlook.{Outlook}
use Rattle.account.specs.Steps.{refusal_in, entries_in, shown_by}

abbrev pub AnswersApart : Type 0
AnswersApart = (x y : Result Entries Refusal) → refusal_in x ≡ refusal_in y → entries_in x ≡ entries_in y → x ≡ y

abbrev pub OutlooksApart : Type 0
OutlooksApart = (x y : Result Outlook Refusal) → shown_by x ≡ shown_by y → x ≡ y
