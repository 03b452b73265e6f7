-- The text of an input by its run: the messages stand beside the calls, each says its entries or its refusal, and the run's numbers are those of its calls.
-- Assumes nothing.
use Prim.Native.Nat.{ℕ}
use native.Mathlib.Omega.{arith}
use mathlib.Core.Path.{◌≡◌, refl, ap}
use mathlib.Core.List.{List, [], ◌∷◌, ◌++◌, append-nil, append_assoc}
use borrow.Author.Tests.{lt-ltb, le-ltb}
use lib.ListN.{length}
use Rattle.register.specs.declared.runs.Ran.{Ran}
use Rattle.register.specs.First.{fresh_register, exchanges}
use Rattle.text.specs.Text.{decimal}
use Rattle.text.specs.Quoted.{quoted}
use Rattle.text.specs.Output.{longest_input, first_line, too_long, last_line, texts_of, turns_of, output_of}
use Rattle.text.specs.OutputCalls.{OtherLinesPlain, OutputIsItsRun, LongerIsTooLong}
use Rattle.text.proofs.Beside.{refused-plain, Beside, Reached, beside, beside-said, beside-length, beside-refused}

last-plain : (met refused : ℕ) → last_line met refused ≡ quoted "end " ++ (decimal met ++ (quoted " " ++ (decimal refused ++ quoted "\n")))
unfolding quoted last_line
last-plain met refused = rw (append-nil (decimal refused), append_assoc (decimal met) (32 ∷ decimal refused) (10 ∷ []))

pub other-lines-plain : OtherLinesPlain
other-lines-plain number met refused = record { refusal = refused-plain number; end = last-plain met refused }

pub output-is-its-run : OutputIsItsRun
unfolding output_of first_line
output-is-its-run bytes buffer b l k calls =
    let seen = exchanges fresh_register calls.inputs in
    let fresh : Reached fresh_register = record { done = []; strings = tt; same = refl } in
    let alike : Beside (turns_of bytes) seen = beside calls.calls fresh_register fresh b refl (length bytes) (omega arith) k in
    let met = ap (λ (x : Ran). x.met) calls.sums.counts in
    let refused = ap (λ (x : Ran). x.refused) calls.sums.counts in
    let text = texts_of (turns_of bytes) in
    record {
      answers = text;
      each = beside-said alike;
      whole =
          rw (le-ltb longest_input (length bytes) l, beside-length alike, beside-refused alike, met, refused)
          (ap (λ (x : List ℕ). quoted "register 1\n" ++ (text ++ x)) (last-plain (length seen) _));
    }

pub longer-is-too-long : LongerIsTooLong
unfolding output_of first_line too_long quoted
longer-is-too-long bytes h = rw (lt-ltb longest_input (length bytes) h)
