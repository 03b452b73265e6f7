-- The pieces of the program's text, stored from the beginning of a buffer on: a refusal, the last line, the lines of a call's entries. Those are
-- put in a loop: what is put are the lines of the entries passed.
-- Assumes nothing.
use Prim.Native.Nat.{ℕ, ◌+◌, ◌*◌, ◌≤◌, ◌<◌}
use native.Mathlib.Nat.{zero-add, le_trans}
use native.Mathlib.Omega.{arith}
use mathlib.Core.Path.{◌≡◌, refl, sym, ◌∙◌}
use mathlib.Core.List.{List, [], ◌∷◌, ◌++◌, append-nil, append_assoc}
use borrow.Author.Tests.{le-ltb}
use lib.Dec.{lit≤}
use lib.ListN.{length, get_or, take, drop, length-append}
use lib.Seq.{sets, take_all, take-append_seam, drop-append_seam}
use Rattle.std.proofs.lemmas.List.{take_more}
use Rattle.filing.specs.declared.Entry.{Entry}
use Rattle.layout.proofs.Stores.{sets_more, laid-over}
use Rattle.text.specs.declared.program.Served.{Served}
use Rattle.text.specs.Text.{decimal, spaced, line_of, lines_of, longest_line, kept, Put}
use Rattle.text.specs.Quoted.{quoted}
use Rattle.text.specs.Output.{longest_input, refused_line, last_line}
use Rattle.text.specs.Program.{longest_text, finish_text, TextAtTheBeginning}
use Rattle.text.proofs.Texts.{grown, fields_grown}
use Rattle.text.proofs.Lines.{places-length}

-- text from the beginning of a buffer on ends at its length
pub put-length : (text : List ℕ) (most next : ℕ) (l l₁ : List ℕ) → Put text 0 most l next l₁ → next ≡ length text
put-length text most next l l₁ p = p.place ∙ zero-add (length text)

pub text-at-the-beginning : TextAtTheBeginning
text-at-the-beginning text most before next after p room =
    let n = put-length text most next before after p in
    let h : next ≤ most = omega (arith, p.within) in
    let laid : after ≡ text ++ drop (length text) before = p.stored ∙ laid-over text before (omega arith) in
    (h, rw (laid, n) (take-append_seam text (drop (length text) before)), rw (laid, n) (drop-append_seam text (drop (length text) before)))

-- text that was stored from the beginning of a buffer on
pub put_stored : (text : List ℕ) (most next : ℕ) (l l₁ : List ℕ) → next ≡ length text → next ≤ most → l₁ ≡ sets l 0 text → Put text 0 most l next l₁
put_stored text most next l l₁ n h stored = record { place = n ∙ sym (zero-add (length text)); within = omega arith; stored = stored }

-- none
pub put-nothing : (most : ℕ) (l : List ℕ) → Put [] 0 most l 0 l
put-nothing most l = put_stored [] most 0 l l refl (omega arith) refl

-- ---- a refusal, and the last line: a word, numbers, and the newline

pub word-line : (word : List ℕ) (fields : List (List ℕ)) (l₀ l₁ l₂ l₃ : List ℕ) → l₀ ≡ [] → l₁ ≡ kept (l₀ ++ word) → l₂ ≡ kept (l₁ ++ spaced fields)
    → l₃ ≡ kept (l₂ ++ 10 ∷ []) → length (word ++ (spaced fields ++ (10 ∷ []))) ≤ longest_line → l₃ ≡ word ++ (spaced fields ++ (10 ∷ []))
word-line word fields l₀ l₁ l₂ l₃ p₀ p₁ p₂ p₃ short =
    let first : l₁ ≡ kept ([] ++ word) = rw p₀ at p₁ in
    let all : l₃ ≡ kept ([] ++ (word ++ (spaced fields ++ (10 ∷ [])))) =
    grown word (spaced fields ++ (10 ∷ [])) [] l₁ l₃ first (grown (spaced fields) (10 ∷ []) l₁ l₂ l₃ p₂ p₃) in
    all ∙ take_all longest_line (word ++ (spaced fields ++ (10 ∷ []))) short

pub refusal-length : (number : ℕ) → length (refused_line number) ≤ 19
unfolding refused_line quoted
refusal-length number = let n = places-length 10 number in simp length-append (omega arith)

pub last-length : (met refused : ℕ) → length (last_line met refused) ≤ 26
unfolding last_line quoted
last-length met refused = let m = places-length 10 met in let n = places-length 10 refused in simp length-append (omega arith)

-- a refusal's word and number, and the newline behind them, are its line
pub refusal-put : (number a b : ℕ) (l l₁ l₂ : List ℕ) → Put (quoted "refused" ++ spaced (decimal number ∷ [])) 0 18 l a l₁ → Put (10 ∷ []) a 1 l₁ b l₂
    → Put (refused_line number) 0 longest_text l b l₂
unfolding refused_line quoted
refusal-put number a b l l₁ l₂ p q =
    let text = quoted "refused" ++ spaced (decimal number ∷ []) in
    rw (← append_assoc (quoted "refused") (spaced (decimal number ∷ [])) (10 ∷ []))
    record {
      place = rw length-append (omega (arith, p.place, q.place));
      within = omega (arith, p.within, q.within);
      stored = sets_more text (10 ∷ []) l l₁ l₂ 0 (length text) refl p.stored (rw p.place at q.stored);
    }

-- the letters of the words stand here as in the code
pub refusal_grown : (number : ℕ) (l₀ l₁ l₂ l₃ : List ℕ) → l₀ ≡ [] → l₁ ≡ kept (l₀ ++ (114 ∷ 101 ∷ 102 ∷ 117 ∷ 115 ∷ 101 ∷ 100 ∷ [])) → l₂ ≡ kept (l₁ ++ spaced (decimal number ∷ []))
    → l₃ ≡ kept (l₂ ++ 10 ∷ []) → (l₃ ≡ refused_line number) × (length (refused_line number) ≤ 19)
unfolding refused_line quoted
refusal_grown number l₀ l₁ l₂ l₃ p₀ p₁ p₂ p₃ =
    let short = refusal-length number in
    (word-line (quoted "refused") (decimal number ∷ []) l₀ l₁ l₂ l₃ p₀ p₁ p₂ p₃ (le_trans short (lit≤ tt)), short)

pub last-line : (met refused : ℕ) (l₀ l₁ l l₂ l₃ : List ℕ) → l₀ ≡ [] → l₁ ≡ kept (l₀ ++ (101 ∷ 110 ∷ 100 ∷ [])) → l ≡ kept (l₁ ++ spaced (decimal met ∷ []))
    → l₂ ≡ kept (l ++ spaced (decimal refused ∷ [])) → l₃ ≡ kept (l₂ ++ 10 ∷ []) → l₃ ≡ last_line met refused
unfolding last_line quoted
last-line met refused l₀ l₁ l l₂ l₃ p₀ p₁ q r p₃ =
    word-line (quoted "end") (decimal met ∷ decimal refused ∷ []) l₀ l₁ l₂ l₃ p₀ p₁ (fields_grown (decimal met ∷ []) (decimal refused ∷ []) l₁ l l₂ q r) p₃
    (le_trans (last-length met refused) (lit≤ tt))

module _ (s : Served) (input : List ℕ) where
  pub finishes : (next : ℕ) (l l₁ : List ℕ) → length input ≤ longest_input → next ≡ length (last_line s.met s.refused) → l₁ ≡ sets l 0 (last_line s.met s.refused)
      → Put (finish_text s input) 0 26 l next l₁
  finishes next l l₁ h n stored =
      let fits = last-length s.met s.refused in
      rw (le-ltb longest_input (length input) h) (put_stored (last_line s.met s.refused) 26 next l l₁ n (omega arith) stored)

-- ---- the lines of a call

lines-append : (account : ℕ) (xs ys : List Entry) → lines_of account (xs ++ ys) ≡ lines_of account xs ++ lines_of account ys
unfolding lines_of
lines-append account [] ys = refl
lines-append account (x ∷ xs) ys = rw (append_assoc, lines-append account xs ys)

-- after i of the entries: where the next line goes, and what is put
pub record Lined (entries : List Entry) (account : ℕ) (before after : List ℕ) (at i : ℕ) : Type 0 where
  pub room : at ≤ 72 * i
  pub place : at ≡ length (lines_of account (take i entries))
  pub stored : after ≡ sets before 0 (lines_of account (take i entries))

pub lined-start : (entries : List Entry) (account : ℕ) (before : List ℕ) → Lined entries account before before 0 0
unfolding lines_of
lined-start entries account before = record { room = omega arith; place = refl; stored = refl }

module _ (entries : List Entry) (account : ℕ) (before after : List ℕ) (at i : ℕ) (u : Lined entries account before after at i) where
  -- one line more
  pub lined-more : (d : Entry) (size : ℕ) (after' : List ℕ) → i < length entries → size ≡ length (line_of account (get_or entries i d)) → size ≤ longest_line
      → after' ≡ sets after at (line_of account (get_or entries i d)) → Lined entries account before after' (at + size) (i + 1)
  unfolding lines_of
  lined-more d size after' h n short stored =
      let done = lines_of account (take i entries) in
      let line = line_of account (get_or entries i d) in
      let more : lines_of account (take (i + 1) entries) ≡ done ++ line = rw (take_more entries i d h, lines-append, append-nil) in
      record {
        room = omega (arith, short, u.room);
        place = rw (more, length-append) (omega (arith, u.place, n));
        stored = rw more (sets_more done line before after after' 0 at (sym u.place) u.stored (rw (sym (zero-add at)) at stored));
      }
