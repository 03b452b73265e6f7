-- By computing; what is stored where the guard holds, by the law on it.
-- Assumes nothing.
use Prim.Native.Nat.{ℕ, ◌≤◌, ◌<◌}
use native.Mathlib.Nat.{max-zero}
use native.Mathlib.Omega.{arith}
use mathlib.Core.Path.{◌≡◌, refl, sym, ◌∙◌, ap}
use mathlib.Core.List.{List}
use mathlib.Core.Option.{some}
use Rattle.std.specs.Prelude.{Option}
use Rattle.std.proofs.lemmas.Bool.Decides.{nat_tests}
use borrow.Author.Tests.{ne_eqb}
use Rattle.rule.specs.Rule.{Slot}
use Rattle.events.specs.declared.Event.{Event}
use Rattle.events.specs.declared.Range.{Range}
use Rattle.events.specs.declared.reasons.Reason.{Reason}
use Rattle.events.specs.Reasons.{numbers_of, told_by}
use Rattle.events.specs.Kinds.{event_of}
use Rattle.events.specs.Range.{range_of}
use Rattle.events.specs.Literal.{range, ThroughLiteral, LiteralHolds}
use Rattle.events.proofs.Guards.{stored-after}

-- a reason by its number, and back
reason-told : (r : Option Reason) → told_by (numbers_of r) ≡ r
reason-told r = grind (arith, nat_tests)

number-told : (n : ℕ) → 0 < n → n ≤ 4 → numbers_of (told_by (some n)) ≡ some n
number-told n low high = grind (arith, nat_tests)

pub literal-holds : LiteralHolds
unfolding event_of range_of
literal-holds =
    record {
      event =
          λ a.
          record {
            four = refl;
            kinds = refl;
            amounts = refl;
            opens = refl;
            withdraws = refl;
            deposits = refl;
            closes = refl;
            new = refl;
            opened = refl;
            closed = refl;
            highest = refl;
            reason_bytes = refl;
            reason_none = refl;
            reason_some = λ h. rw (ne_eqb a 0 h) refl;
            reasons = refl;
            reason_numbers = refl;
            reasons_back = refl;
            reason_told = reason-told;
            number_told = number-told a;
          };
      one = λ b. record { new = refl; opened = refl; closed = refl; new_list = refl; opened_list = rw (max-zero b) refl; closed_list = refl; none = refl };
      row =
          λ l h n o c a.
          record {
            every_open = refl;
            every_withdraw = refl;
            every_deposit = refl;
            every_close = refl;
            some_open = refl;
            some_withdraw = refl;
            some_deposit = refl;
            some_close = refl;
            after_open = refl;
            after_withdraw = refl;
            after_deposit = refl;
            after_close = refl;
            perhaps = λ e. refl;
          };
      stored =
          λ l h n o c a.
          record {
            stored_open = refl;
            stored_withdraw = refl;
            stored_deposit = refl;
            stored_close = refl;
            perhaps = λ e. refl;
            guarded = λ e ordered few all. stored-after e (range l h n o c) ordered few all;
          };
      occurring = λ states life. record { occurs = (λ x. x, λ x. x) };
      together = λ l h k j n m c d. record { both = refl; first = refl; second = refl };
    }

pub through-literal : {G : Type 0} (t : ℕ) (g : G) (e : Event) (xs : List (Slot G Event)) (x : Range) → ThroughLiteral t g e xs x
through-literal t g e xs x = record { none = refl; undecided' = refl; committed' = refl }

-- a number tells reasons apart, and none from all of them
pub same-reason : (r s : Option Reason) → numbers_of r ≡ numbers_of s → r ≡ s
same-reason r s e = sym (reason-told r) ∙ ap told_by e ∙ reason-told s
