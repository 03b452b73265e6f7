-- The forms in which an account and its answers are kept, literally: an account and its lists, what is said of each answer; and that nothing is lost from one form to the other
-- (docs/REGISTER.md, 2). The forms of a place and of an entry are filing's.
-- Assumes nothing.
use Rattle.std.specs.Prelude.{ℕ, ◌-◌, ◌≤◌, ◌≡◌, true, List, map, length, take, drop, replicate, Ok, Err}
use Rattle.std.proofs.Math.Option.{none, some}
use Rattle.events.specs.declared.Event.TheVariants.{Open}
use Rattle.events.specs.declared.State.{State}
use Rattle.filing.specs.declared.Decision.TheVariants.{Undecided}
use Rattle.filing.specs.declared.Slot.{Slot}
use Rattle.filing.specs.declared.Entries.{Entries}
use Rattle.filing.specs.declared.Told.TheVariants.{Noted}
use Rattle.filing.specs.Slots.{RuleSlot, place_of}
use Rattle.refusal.specs.declared.Refusal.{Refusal}
use Rattle.refusal.specs.Numbers.{number_of}
use Rattle.account.specs.declared.Account.{Account}
use Rattle.account.specs.Places.{RuleAccount, lists_of, account_of}
use Rattle.account.specs.Steps.{refusal_in, entries_in, shown_by}
use Rattle.account.specs.First.{in_order_of}

-- the list from the first place on, then blanks, 8 in all
pub record RowForm (row : List Slot) (count : ℕ) (xs : List RuleSlot) : Type 0 where
  pub number : count ≡ length xs
  pub used : take (length xs) row ≡ map place_of xs
  pub unused : drop (length xs) row ≡ replicate (8 - length xs) (record { transaction = 0; filed = record { second = 0 }; event = Open 0; decision = Undecided })
  pub eight : length xs ≤ 8 → length row ≡ 8

pub record AccountForm (a : RuleAccount) : Type 0 where
  pub state : (account_of a).state ≡ a.state
  pub progress : RowForm (account_of a).progress (account_of a).progressing a.progress
  pub held : RowForm (account_of a).held (account_of a).holding a.held
  pub forth : lists_of (account_of a) ≡ a

-- an account in order is the account of its lists
abbrev pub NothingElse : Type 0
NothingElse = (a : Account) → length a.progress ≡ 8 → length a.held ≡ 8 → in_order_of a ≡ true → account_of (lists_of a) ≡ a

-- what is said of each answer
pub record AnswerForm : Type 0 where
  pub refused : (r : Refusal) → refusal_in (Err r) ≡ some (number_of r)
  pub silent : (r : Refusal) → entries_in (Err r) ≡ record { at = replicate 17 (record { transaction = 0; filed = record { second = 0 }; told = Noted }); count = 0 }
  pub taken : (entries : Entries) → refusal_in (Ok entries) ≡ none
  pub written : (entries : Entries) → entries_in (Ok entries) ≡ entries
  pub question_refused : (r : Refusal) → shown_by (Err r) ≡ record { refusal = some (number_of r); state = none; applied = 0 }
  pub question_answered : (s : State) (n : ℕ) → shown_by (Ok (record { state = s; applied = n })) ≡ record { refusal = none; state = some s; applied = n }

pub record FormsHold : Type 0 where
  pub accounts : (a : RuleAccount) → AccountForm a
  pub nothing_else : NothingElse
  pub answers : AnswerForm
