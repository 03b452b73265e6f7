-- By the definitions.
-- Assumes nothing.
use native.Mathlib.Omega.{arith}
use mathlib.Core.Path.{refl}
use Rattle.register.specs.Forms.{FormsHold}
use Rattle.register.proofs.Passing.{over-skips, passed-skips}

pub forms-hold : FormsHold
forms-hold =
    record {
      answers = record { refused = λ n. (refl, refl, refl); taken = λ c w. (refl, refl, refl) };
      passed =
          λ whole.
          record {
            taken = λ c w. refl;
            first = refl;
            second = refl;
            others = λ n. over-skips n whole;
            number = λ n. refl;
            no_number = λ c w. refl;
            taken' = λ c w. refl;
            no_number' = λ c w. refl;
            first_refusal = refl;
            second_refusal = refl;
            other_refusals = λ n. passed-skips n whole;
            number_of_refusal = λ n. refl;
          };
      sums = λ message buffer seen. record { none = (refl, refl); refused = λ n. (refl, refl); taken = λ c w. (omega arith, refl) };
      exported = λ messages entries. record { answer = λ counts. refl; entries' = λ counts. refl; counts = λ a b c d rest. refl; three = λ a b c. refl; two = λ a b. refl; one = λ a. refl; none' = refl };
    }
