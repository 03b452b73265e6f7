-- What the program prints, step by step, is the whole text of its input: by induction on the bound, each step by what its message does. The counts never
-- come to their bound, since there are no more messages than bytes.
-- Assumes nothing.
use Prim.Native.Nat.{ℕ, zero, suc, ◌+◌, ◌-◌, ◌≤◌, ◌<◌}
use native.Mathlib.Nat.{add-zero, zero-add}
use native.Mathlib.Omega.{arith}
use mathlib.Core.Path.{◌≡◌, refl, sym, ◌∙◌, ap, ap₂}
use mathlib.Core.Bool.{Bool, true, false, cond}
use mathlib.Core.List.{List, [], ◌∷◌, ◌++◌, append_assoc, append-nil}
use borrow.Author.Tests.{lt-ltb, le-ltb, ltb-true, ltb-false, eq-eqb, ne_eqb}
use lib.Dec.{leb, ltb}
use lib.ListN.{length, take, drop, length-drop}
use lib.Seq.{drop-drop, take_all, length-take-le}
use Rattle.register.specs.declared.Register.{Register}
use Rattle.std.specs.Prelude.{Ok, Err}
use Rattle.refusal.specs.Numbers.{number_of}
use Rattle.register.specs.Call.{Reply}
use Rattle.register.specs.declared.runs.Passed.{Passed}
use Rattle.register.specs.Run.{length_at, passed_of}
use Rattle.register.specs.RunCalls.{refusals}
use Rattle.text.specs.declared.program.Served.{Served}
use Rattle.text.specs.Output.{longest_input, first_line, too_long, last_line, Turn, turn_at, passed_at, turns_from, texts_of, refused_of, output_of}
use Rattle.text.specs.Program.{begin_of, next_turn, next_passed, start_after, counted, serve_text, serve_of, finish_text, printed_from, printed_of, PrintsTheOutput, PrintingEnds, OneByteMore}
use Rattle.text.proofs.Steps.{once, within, further}

-- ---- the messages of an input

pub turns-none : (most : ℕ) (r : Register) (bytes : List ℕ) → length bytes ≡ 0 → turns_from most r bytes ≡ []
unfolding turns_from
turns-none zero r bytes h = refl
turns-none (suc most) r bytes h = rw (eq-eqb (length bytes) 0 h)

pub turns_more : (most : ℕ) (r : Register) (bytes : List ℕ) → 0 < length bytes
    → let turn = turn_at r bytes in
    let passed = passed_at r bytes in
    turns_from (suc most) r bytes ≡ turn ∷ cond passed.stops [] (turns_from most turn.register (drop passed.consumed bytes))
unfolding turns_from
turns_more most r bytes h = rw (ne_eqb (length bytes) 0 (λ z. omega arith))

-- ---- the text of messages, behind so many met and refused

text_on : (met refused : ℕ) → List Turn → List ℕ
text_on met refused turns = texts_of turns ++ last_line (met + length turns) (refused + refused_of turns)

told_more : (met refused : ℕ) (turn : Turn) (turns : List Turn) → text_on met refused (turn ∷ turns) ≡ turn.text ++ text_on (met + 1) (refused + refusals turn.reply) turns
unfolding text_on
told_more met refused turn turns =
    let m : met + suc (length turns) ≡ met + 1 + length turns = omega arith in
    let k : refused + (refusals turn.reply + refused_of turns) ≡ refused + refusals turn.reply + refused_of turns = omega arith in
    rw (m, k) (append_assoc turn.text (texts_of turns) (last_line (met + 1 + length turns) (refused + refusals turn.reply + refused_of turns)))

-- a message that is refused counts among the refused
passed-refused : (reply : Reply) (whole : ℕ) → (passed_of reply whole).refused ≡ refusals reply
passed-refused (Ok taken) whole = refl
passed-refused (Err n) whole = go (leb (number_of n) 2)
  where
    go : (b : Bool) → (cond {A = Passed} b (record { refused = 1; consumed = 0; written = 0; stops = true }) (record { refused = 1; consumed = whole; written = 0; stops = false })).refused ≡ 1
    go true = refl
    go false = refl

-- ---- a step

module _ (s : Served) (input : List ℕ) (more : s.from < length input) where
  rest : List ℕ
  rest = drop s.from input

  some_left : 0 < length rest
  unfolding rest
  some_left = omega (arith, length-drop s.from input)

  serve_is : serve_of s input ≡ record {
    register = (next_turn s input).register;
    from = start_after s.from (next_passed s input) (length input);
    met = counted s.met 1;
    refused = counted s.refused (next_passed s input).refused;
    written = length (serve_text s input);
  }
  unfolding serve_of
  serve_is = rw (lt-ltb s.from (length input) more)

  text-is : serve_text s input ≡ (next_turn s input).text
  unfolding serve_text
  text-is = rw (lt-ltb s.from (length input) more)

  printed-more : (most : ℕ) → printed_from (suc most) s input ≡ serve_text s input ++ printed_from most (serve_of s input) input
  unfolding printed_from
  printed-more most = rw (lt-ltb s.from (length input) more)

  start-low : start_after s.from (next_passed s input) (length input) ≤ length input
  start-low = go (next_passed s input).stops
    where
      go : (b : Bool) → cond b (length input) (s.from + (next_passed s input).consumed) ≤ length input
      go true = omega arith
      go false = within s input more

  -- the messages that follow, from where the next one starts
  turns-on : (most : ℕ) (r : Register) (b : Bool) → (next_passed s input).stops ≡ b
      → turns_from most r (drop (cond b (length input) (s.from + (next_passed s input).consumed)) input) ≡ cond b [] (turns_from most r (drop (next_passed s input).consumed rest))
  unfolding rest
  turns-on most r true q = turns-none most r (drop (length input) input) (length-drop (length input) input ∙ omega arith)
  turns-on most r false q = rw (drop-drop (next_passed s input).consumed s.from input)

printed-none : (most : ℕ) (s : Served) (input : List ℕ) → length input ≤ s.from → printed_from most s input ≡ finish_text s input
unfolding printed_from
printed-none zero s input h = refl
printed-none (suc most) s input h = rw (le-ltb s.from (length input) h)

-- what has been served of an input that is not too long
record Within (s : Served) (input : List ℕ) : Type 0 where
  taken : length input ≤ longest_input
  start : s.from ≤ length input
  met : s.met ≤ s.from
  refused : s.refused ≤ s.met

turns_left : (most : ℕ) → Served → (input : List ℕ) → List Turn
turns_left most s input = turns_from most s.register (drop s.from input)

counted_is : (count by : ℕ) → count < longest_input → counted count by ≡ count + by
counted_is count by h = rw (lt-ltb count longest_input h)

ends-told : (most : ℕ) (s : Served) (input : List ℕ) → Within s input → turns_from most s.register (drop s.from input) ≡ []
    → finish_text s input ≡ text_on s.met s.refused (turns_left most s input)
unfolding text_on turns_left
ends-told most s input w none = rw (none, le-ltb longest_input (length input) w.taken, add-zero s.met, add-zero s.refused)

module _ (most : ℕ) (h : (s : Served) (input : List ℕ) → Within s input → printed_from most s input ≡ text_on s.met s.refused (turns_left most s input))
    (s : Served) (input : List ℕ) (w : Within s input) where
  module _ (more : s.from < length input) where
    counts : (counted s.met 1 ≡ s.met + 1) × (counted s.refused (next_passed s input).refused ≡ s.refused + (next_passed s input).refused)
    counts = (counted_is s.met 1 (omega (arith, w.met, w.taken)), counted_is s.refused (next_passed s input).refused (omega (arith, w.met, w.refused, w.taken)))

    -- after the message
    rest-told : printed_from most (serve_of s input) input
        ≡ text_on (s.met + 1) (s.refused + refusals (next_turn s input).reply)
        (cond (next_passed s input).stops [] (turns_from most (next_turn s input).register (drop (next_passed s input).consumed (rest s input more))))
    unfolding turns_left
    rest-told =
        let p = next_passed s input in
        let r = (next_turn s input).register in
        rw (serve_is s input more)
        (h _ input
        (record {
          taken = w.taken;
          start = start-low s input more;
          met = omega (arith, counts.0, further s input more, w.met);
          refused = omega (arith, counts.0, counts.1, once s input, w.refused);
        })
        ∙ rw (counts.0, counts.1, passed-refused (next_turn s input).reply (length_at (drop s.from input)), turns-on s input more most r p.stops refl))

    one_told : printed_from (suc most) s input ≡ text_on s.met s.refused (turns_left (suc most) s input)
    unfolding turns_left rest
    one_told =
        printed-more s input more most
        ∙ ap₂ (λ (x y : List ℕ). x ++ y) (text-is s input more) rest-told
        ∙ rw (turns_more most s.register (drop s.from input) (some_left s input more)) (sym (told_more s.met s.refused _ _))

  step-told : printed_from (suc most) s input ≡ text_on s.met s.refused (turns_left (suc most) s input)
  step-told = go (ltb s.from (length input)) refl
    where
      go : (b : Bool) → ltb s.from (length input) ≡ b → printed_from (suc most) s input ≡ text_on s.met s.refused (turns_left (suc most) s input)
      go true q = one_told (ltb-true s.from (length input) q)
      go false q =
          let e : length input ≤ s.from = ltb-false s.from (length input) q in
          printed-none (suc most) s input e
          ∙ ends-told (suc most) s input w (turns-none (suc most) s.register (drop s.from input) (length-drop s.from input ∙ omega arith))

printed-told : (most : ℕ) (s : Served) (input : List ℕ) → Within s input → printed_from most s input ≡ text_on s.met s.refused (turns_left most s input)
unfolding turns_from printed_from
printed-told zero s input w = ends-told zero s input w refl
printed-told (suc most) s input w = step-told most (printed-told most) s input w

pub prints-the-output : PrintsTheOutput
unfolding printed_of output_of text_on turns_left
prints-the-output input = go (ltb longest_input (length input)) refl
  where
    go : (b : Bool) → ltb longest_input (length input) ≡ b → printed_of input ≡ output_of input
    go true q =
        let none : printed_from (length input) (begin_of input) input ≡ [] = printed-none (length input) (begin_of input) input (rw q (omega arith)) ∙ rw q in
        rw (none, q) (append-nil (first_line ++ too_long))
    go false q =
        let w : Within (begin_of input) input = record { taken = ltb-false longest_input (length input) q; start = rw q (omega arith); met = omega arith; refused = omega arith } in
        rw (printed-told (length input) (begin_of input) input w, q, append-nil first_line) (simp zero-add)

-- ---- the bound, and what is read of an input

two-bounds : (most other : ℕ) (s : Served) (input : List ℕ) → length input - s.from ≤ most → length input - s.from ≤ other → printed_from most s input ≡ printed_from other s input
two-bounds zero other s input h k = printed-none zero s input (omega arith) ∙ sym (printed-none other s input (omega arith))
two-bounds (suc most) zero s input h k = printed-none (suc most) s input (omega arith) ∙ sym (printed-none zero s input (omega arith))
two-bounds (suc most) (suc other) s input h k = go (ltb s.from (length input)) refl (λ x y. two-bounds most other (serve_of s input) input x y)
  where
    go : (b : Bool) → ltb s.from (length input) ≡ b
        → (length input - (serve_of s input).from ≤ most → length input - (serve_of s input).from ≤ other → printed_from most (serve_of s input) input ≡ printed_from other (serve_of s input) input)
        → printed_from (suc most) s input ≡ printed_from (suc other) s input
    go true q on =
        let more = ltb-true s.from (length input) q in
        let f = further s input more in
        let e : (serve_of s input).from ≡ start_after s.from (next_passed s input) (length input) = ap (λ (x : Served). x.from) (serve_is s input more) in
        printed-more s input more most ∙ ap (λ (l : List ℕ). serve_text s input ++ l) (on (omega (arith, e, f)) (omega (arith, e, f))) ∙ sym (printed-more s input more other)
    go false q on =
        let e : length input ≤ s.from = ltb-false s.from (length input) q in
        printed-none (suc most) s input e ∙ sym (printed-none (suc other) s input e)

pub printing-ends : PrintingEnds
printing-ends most s input h = two-bounds most (length input) s input (omega arith) (omega arith)

pub one-byte-more : OneByteMore
unfolding output_of
one-byte-more input = go (ltb longest_input (length input)) refl
  where
    go : (b : Bool) → ltb longest_input (length input) ≡ b → output_of (take 65_537 input) ≡ output_of input
    go true q =
        let long = ltb-true longest_input (length input) q in
        let n : length (take 65_537 input) ≡ 65_537 = length-take-le 65_537 input (omega arith) in
        rw (q, n)
    go false q = rw (take_all 65_537 input (omega (arith, ltb-false longest_input (length input) q)))
