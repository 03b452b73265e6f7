-- By the tests of a step and of the question, one after the other; the state of an outcome by its number's bits.
-- Assumes nothing.
use Prim.Native.Nat.{ℕ, ◌^◌}
use mathlib.Core.Path.{refl, ap₂}
use mathlib.Core.List.{List, map}
use borrow.Author.Tests.{lt-ltb, le-ltb}
use lib.ListN.{take}
use Rattle.std.specs.Prelude.{Ok}
use Rattle.rule.specs.Rule as rule
use Rattle.rule.specs.Outcome.{undecided_of}
use Rattle.rule.proofs.Exact.{numbered, applied-ones}
use Rattle.events.specs.declared.Event.{Event}
use Rattle.events.specs.declared.State.{State}
use Rattle.filing.specs.declared.Filed.{Filed}
use Rattle.filing.specs.Slots.{RuleSlot, slot_of}
use Rattle.filing.specs.Entries.{entries_of}
use Rattle.account.specs.declared.Account.{Account}
use Rattle.account.specs.Places.{lists_of}
use Rattle.account.specs.InOrder.{in_order_by}
use Rattle.account.specs.Steps.{step_by, outlook_by}
use Rattle.account.specs.Plain.{StepPlain, QuestionPlain, PlainHolds}
use Rattle.account.proofs.Refused.{refused-number}

step-plain : (R : rule.Rule State Event ℕ) (a : Account) (m : rule.Message Filed Event) → StepPlain R a m
unfolding step_by entries_of
step-plain R a m =
    record {
      out_of_order = λ order. rw order refl;
      refused = λ n order answer. (rw (order, answer) refl, refused-number R (lists_of a) m n answer);
      taken = λ xs order answer. rw (order, answer) refl;
    }

question-plain : (R : rule.Rule State Event ℕ) (a : Account) (n : ℕ) → QuestionPlain R a n
unfolding outlook_by lists_of
question-plain R a n =
    let xs : List RuleSlot = map slot_of (take a.progressing a.progress) in
    record {
      out_of_order = λ order. rw order refl;
      no_outcome = λ order high. rw (order, le-ltb n (2 ^ undecided_of xs) high) refl;
      answered = λ order low. rw (order, lt-ltb n (2 ^ undecided_of xs) low) (ap₂ (λ (s : State) (k : ℕ). Ok (record { state = s; applied = k })) ((numbered R xs a.state).bits n) (applied-ones xs n low));
    }

pub plain-holds : PlainHolds
unfolding lists_of in_order_by
plain-holds = record { lists = λ a. refl; order = λ R a. refl; step = step-plain; question = question-plain }
