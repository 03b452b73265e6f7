-- The twelve numbers, said a second time, that a number tells its refusal, and that a number by itself is told as it is (docs/REGISTER.md, 10.1).
-- A word that stands in a statement cannot be changed with it.
-- Assumes nothing.
use Rattle.std.specs.Prelude.{ℕ, ◌≡◌, ◌<◌, ◌≤◌, [], ◌∷◌, map}
use Rattle.refusal.specs.declared.Refusal.{Refusal}
use Rattle.refusal.specs.declared.Refusal.TheVariants.{Torn, UnknownKind, UnknownAccount, NoRoom, NotInOrder, KnownTransaction, AllHeld, UnknownTransaction, HeldTransaction, CommittedAlready, CommittedBefore, NoSuchOutcome}
use Rattle.refusal.specs.Numbers.{number_of, itself, numbered}

pub record LiteralHolds : Type 0 where
  pub of_messages : map number_of (Torn ∷ UnknownKind ∷ UnknownAccount ∷ NoRoom ∷ NotInOrder ∷ []) ≡ 1 ∷ 2 ∷ 3 ∷ 4 ∷ 5 ∷ []
  pub of_requests : map number_of (KnownTransaction ∷ AllHeld ∷ []) ≡ 6 ∷ 7 ∷ []
  pub of_decisions : map number_of (UnknownTransaction ∷ HeldTransaction ∷ CommittedAlready ∷ CommittedBefore ∷ []) ≡ 8 ∷ 9 ∷ 10 ∷ 11 ∷ []
  pub of_questions : number_of NoSuchOutcome ≡ 12
  pub told : (r : Refusal) → numbered (number_of r) ≡ r
  pub numbers : (n : ℕ) → 0 < n → n ≤ 12 → number_of (numbered n) ≡ n
  pub by_itself : (n : ℕ) → itself n ≡ n
  pub none_else : (r : Refusal) → (0 < number_of r) × (number_of r ≤ 12)
