-- What the outcome question promises: by cases on whether the account is in order and whether there is an outcome of that number. By any rule of the events whose outcomes are the table's.
-- Assumes nothing.
use Prim.Native.Nat.{ℕ, ◌^◌}
use mathlib.Core.Path.{◌≡◌, refl, sym, ap₂}
use mathlib.Core.Bool.{Bool, true, false}
use mathlib.Core.Option.{none, some}
use native.Mathlib.Omega.{arith}
use lib.Count.{ones}
use lib.Dec.{ltb}
use borrow.Author.Tests.{ltb-true}
use Rattle.std.specs.Prelude.{Ok, Err}
use Rattle.rule.specs.Rule.{Rule}
use Rattle.rule.specs.Outcome.{undecided_of, bit}
use Rattle.rule.specs.Exact.{chosen_state}
use Rattle.rule.specs.Tests.{first_of}
use Rattle.rule.proofs.Exact.{applied-ones}
use Rattle.events.specs.declared.Event.{Event}
use Rattle.events.specs.declared.State.{State}
use Rattle.refusal.specs.declared.Refusal.{Refusal}
use Rattle.refusal.specs.declared.Refusal.TheVariants.{NotInOrder, NoSuchOutcome}
use Rattle.refusal.specs.Numbers.{number_of}
use Rattle.account.specs.declared.Account.{Account}
use Rattle.account.specs.Places.{lists_of}
use Rattle.account.specs.InOrder.{in_order_by}
use Rattle.account.specs.Steps.{outlook_by}
use Rattle.account.specs.Questions.{question_tests_by, QuestionAnsweredBy, QuestionPromiseBy}
use Rattle.account.specs.Table.{OutcomesOfTheTableBy}

not-both : {A : Type 0} (n : ℕ) → none ≡ some n → A
not-both n h = let z : ◌≡◌ {A = ℕ} 0 1 = cc in absurd (omega arith)

module _ (R T : Rule State Event ℕ) (table : OutcomesOfTheTableBy R T) where
  -- the outcome question, by what its two tests lead to
  module _ (a : Account) (n : ℕ) where
    refused : (r : Refusal) → outlook_by R a n ≡ Err r → first_of (question_tests_by R T a n) ≡ some (number_of r) → QuestionAnsweredBy R T a n
    refused r e f =
        record {
          refusal = rw e (sym f);
          nothing = λ k h. let z : number_of r ≡ k = (let y = rw e at h in cc) in rw (e, z);
          told = λ h. not-both (number_of r) (sym (rw e at h));
        }

    answered : outlook_by R a n ≡ Ok (record { state = chosen_state T (lists_of a).progress (bit n) a.state; applied = ones n }) → first_of (question_tests_by R T a n) ≡ none → QuestionAnsweredBy R T a n
    answered e f =
        record {
          refusal = rw e (sym f);
          nothing = λ k h. not-both k (rw e at h);
          told = λ h. rw e;
        }

    by_tests : (o b : Bool) → in_order_by R a ≡ o → ltb n (2 ^ undecided_of (lists_of a).progress) ≡ b → QuestionAnsweredBy R T a n
    unfolding outlook_by lists_of
    by_tests false b p q = refused NotInOrder (rw p) (rw p)
    by_tests true false p q = refused NoSuchOutcome (rw (p, q)) (rw (p, q))
    by_tests true true p q =
        answered
        (rw (p, q)
        (ap₂ (λ (s : State) (k : ℕ). Ok (record { state = s; applied = k })) (table a p n).1 (applied-ones (lists_of a).progress n (ltb-true n (2 ^ undecided_of (lists_of a).progress) q))))
        (rw (p, q))

  pub question-promise : QuestionPromiseBy R T
  question-promise a n = by_tests a n (in_order_by R a) (ltb n (2 ^ undecided_of (lists_of a).progress)) refl refl
