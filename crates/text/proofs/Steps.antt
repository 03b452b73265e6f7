-- A step of the program is a message, its text and where the next message starts: the pieces of the code put together. That it goes on and never past
-- the end is what a message does to the lengths.
-- Assumes nothing.
use Prim.Native.Nat.{ℕ, ◌+◌, ◌-◌, ◌≤◌, ◌<◌}
use native.Mathlib.Omega.{arith}
use mathlib.Core.Path.{◌≡◌, refl, ◌∙◌}
use mathlib.Core.Bool.{Bool, true, false, cond}
use mathlib.Core.List.{List}
use borrow.Author.Tests.{lt-ltb, le-ltb}
use borrow.Author.Rules.{part_to_end}
use lib.ListN.{length, get_or, take, drop, length-drop}
use Rattle.layout.specs.Fields.{row_of_kind, whole_of}
use Rattle.message.specs.Bytes.{messages}
use Rattle.register.specs.declared.Register.{Register}
use Rattle.register.specs.Call.{Reply}
use Rattle.register.specs.declared.runs.Passed.{Passed}
use Rattle.register.specs.Run.{passed_of}
use Rattle.text.specs.declared.program.Served.{Served}
use Rattle.text.specs.Output.{turn_at}
use Rattle.text.specs.Program.{longest_text, next_turn, next_passed, start_after, counted, serve_text, serve_of, Serves}
use Rattle.text.specs.Text.{Put}
use Rattle.register.proofs.Whole.{first_byte}
use Rattle.text.proofs.Pieces.{put-length, put-nothing}
use Rattle.text.proofs.Turning.{Moves, turn-moves}

module _ (s : Served) (input : List ℕ) where
  -- what the next message does to the lengths
  moved : Moves s.register (drop s.from input) (next_passed s input)
  moved = turn-moves s.register (drop s.from input)

  pub once : (next_passed s input).refused ≤ 1
  once = moved.once

  pub within : s.from < length input → s.from + (next_passed s input).consumed ≤ length input
  within h = omega (arith, moved.within, length-drop s.from input)

  pub further : s.from < length input → s.from < start_after s.from (next_passed s input) (length input)
  further h = go (next_passed s input).stops refl
    where
      go : (b : Bool) → (next_passed s input).stops ≡ b → s.from < cond b (length input) (s.from + (next_passed s input).consumed)
      go true q = h
      go false q = omega (arith, moved.forward q)

  -- the rest of the input is lent to the turn, and the length of its message goes by its first byte
  pub passed_is : (whole : ℕ) (reply : Reply) (passed : Passed)
      → whole ≡ whole_of (row_of_kind messages (get_or (take (length input - s.from) (drop s.from input)) 0 0))
      → reply ≡ (turn_at s.register (take (length input - s.from) (drop s.from input))).reply
      → passed ≡ passed_of reply whole
      → passed ≡ next_passed s input
  passed_is whole reply passed w a p = p ∙ rw (w, a, part_to_end input s.from, first_byte (drop s.from input))

  -- no message
  pub serves-none : (l : List ℕ) → length input ≤ s.from
      → Serves s input l (record { register = s.register; from = s.from; met = s.met; refused = s.refused; written = 0 }) l
  unfolding serve_text serve_of
  serves-none l h =
      let t = le-ltb s.from (length input) h in
      record { state = rw t; text = rw t (put-nothing longest_text l); further = λ k. absurd (omega arith) }

  -- one message
  pub serves-one : (register : Register) (passed : Passed) (start met refused written : ℕ) (l l₁ : List ℕ) → s.from < length input
      → register ≡ (turn_at s.register (take (length input - s.from) (drop s.from input))).register
      → Put (turn_at s.register (take (length input - s.from) (drop s.from input))).text 0 longest_text l written l₁
      → passed ≡ next_passed s input → start ≡ start_after s.from passed (length input)
      → met ≡ counted s.met 1 → refused ≡ counted s.refused passed.refused
      → Serves s input l (record { register = register; from = start; met = met; refused = refused; written = written }) l₁
  unfolding serve_text serve_of
  serves-one register passed start met refused written l l₁ h r put p f m k =
      let t = lt-ltb s.from (length input) h in
      let rest = part_to_end input s.from in
      let text : Put (next_turn s input).text 0 longest_text l written l₁ = rw rest at put in
      let w = put-length (next_turn s input).text longest_text written l l₁ text in
      record {
        state = rw (t, r, rest, f, p, m, k, p, w);
        text = rw t text;
        further = λ x. rw (f, p) (further x);
      }
