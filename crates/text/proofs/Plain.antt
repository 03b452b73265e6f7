-- By the tests and by computing.
-- Assumes nothing.
use Prim.Native.Nat.{ℕ}
use mathlib.Core.Path.{refl}
use mathlib.Core.List.{List}
use borrow.Author.Tests.{lt-ltb, le-ltb, eq-eqb, ne_eqb}
use lib.ListN.{length}
use Rattle.text.specs.declared.program.Served.{Served}
use Rattle.text.specs.Text.{write_line_of}
use Rattle.text.specs.Quoted.{quoted}
use Rattle.text.specs.Output.{longest_input, first_line, too_long}
use Rattle.text.specs.Program.{serve_text, serve_of}
use Rattle.text.specs.Plain.{StepsPlain, PlainHolds}
use Rattle.text.proofs.Decimals.{value-last, decimal-plain}
use Rattle.text.proofs.OutputCalls.{other-lines-plain}

steps-plain : (s : Served) (input : List ℕ) → StepsPlain s input
unfolding quoted first_line too_long serve_text serve_of
steps-plain s input =
    record {
      begins = λ h. rw (le-ltb longest_input (length input) h) refl;
      too_long = λ h. rw (lt-ltb longest_input (length input) h) refl;
      begun = λ h. rw (le-ltb longest_input (length input) h) refl;
      begun_too_long = λ h. rw (lt-ltb longest_input (length input) h) refl;
      served = λ h k j. rw (lt-ltb s.from (length input) h, lt-ltb s.met longest_input k, lt-ltb s.refused longest_input j) refl;
      serves = λ h. rw (lt-ltb s.from (length input) h) refl;
      nothing = λ h. rw (le-ltb s.from (length input) h) refl;
      still = λ h. rw (le-ltb s.from (length input) h) refl;
      ends = λ h. rw (le-ltb longest_input (length input) h) (other-lines-plain 0 s.met s.refused).end;
      ends_not = λ h. rw (lt-ltb longest_input (length input) h) refl;
    }

pub plain-holds : PlainHolds
unfolding write_line_of
plain-holds =
    record {
      decimals = decimal-plain;
      values = λ sofar digit digits. record { none = refl; more = value-last sofar digit digits };
      lines = λ e kind account buffer. record { short = λ h. rw (lt-ltb (length buffer) 72 h) refl; older = λ h is. rw (le-ltb (length buffer) 72 h, eq-eqb kind 18 is) refl; enough = λ h other. rw (le-ltb (length buffer) 72 h, ne_eqb kind 18 other) refl };
      steps = steps-plain;
      contracts =
          λ s r input text before after at most next.
          record {
            served = λ c. c.state;
            buffer = λ c. c.text.stored;
            ends = λ c. c.place;
            within = λ c. c.within;
            stored = λ c. c.stored;
          };
      longest = record { line = refl; text = refl; input = refl };
    }
