-- By computing, refusal by refusal.
-- Assumes nothing.
use Rattle.std.proofs.Common.{◌≡◌, ℕ, ◌<◌, ◌≤◌, arith, refl, sym, ap, ◌∙◌}
use Rattle.std.proofs.lemmas.Bool.Decides.{nat_tests}
use Rattle.refusal.specs.declared.Refusal.{Refusal}
use Rattle.refusal.specs.declared.Refusal.TheVariants.{Torn, UnknownKind, UnknownAccount, NoRoom, NotInOrder, KnownTransaction, AllHeld, UnknownTransaction, HeldTransaction, CommittedAlready, CommittedBefore, NoSuchOutcome}
use Rattle.refusal.specs.Numbers.{number_of, numbered}
use Rattle.refusal.specs.Literal.{LiteralHolds}

told : (r : Refusal) → numbered (number_of r) ≡ r
told Torn = refl
told UnknownKind = refl
told UnknownAccount = refl
told NoRoom = refl
told NotInOrder = refl
told KnownTransaction = refl
told AllHeld = refl
told UnknownTransaction = refl
told HeldTransaction = refl
told CommittedAlready = refl
told CommittedBefore = refl
told NoSuchOutcome = refl

none_else : (r : Refusal) → (0 < number_of r) × (number_of r ≤ 12)
none_else Torn = (omega arith, omega arith)
none_else UnknownKind = (omega arith, omega arith)
none_else UnknownAccount = (omega arith, omega arith)
none_else NoRoom = (omega arith, omega arith)
none_else NotInOrder = (omega arith, omega arith)
none_else KnownTransaction = (omega arith, omega arith)
none_else AllHeld = (omega arith, omega arith)
none_else UnknownTransaction = (omega arith, omega arith)
none_else HeldTransaction = (omega arith, omega arith)
none_else CommittedAlready = (omega arith, omega arith)
none_else CommittedBefore = (omega arith, omega arith)
none_else NoSuchOutcome = (omega arith, omega arith)

numbers : (n : ℕ) → 0 < n → n ≤ 12 → number_of (numbered n) ≡ n
numbers n low high = grind (arith, nat_tests)

pub literal-holds : LiteralHolds
literal-holds =
    record {
      of_messages = refl;
      of_requests = refl;
      of_decisions = refl;
      of_questions = refl;
      told = told;
      numbers = numbers;
      by_itself = λ n. refl;
      none_else = none_else;
    }

-- a number tells refusals apart
pub same-refusal : (r s : Refusal) → number_of r ≡ number_of s → r ≡ s
same-refusal r s e = sym (told r) ∙ ap numbered e ∙ told s
