-- A line as it grows: what is put behind what it keeps is put behind all that was put before, and stored text is a run of stores.
-- Assumes nothing.
use Prim.Native.Nat.{ℕ, zero, suc, ◌+◌, ◌-◌, ◌/◌, ◌%◌, ◌<◌, ◌≤◌, min}
use native.Mathlib.Nat.{add-zero}
use native.Mathlib.Numerals.{add-one}
use native.Mathlib.Omega.{arith}
use mathlib.Core.Path.{◌≡◌, refl, sym, ◌∙◌, ap}
use mathlib.Core.List.{List, [], ◌∷◌, ◌++◌, append-nil, append_assoc}
use borrow.Author.Tests.{lt-ltb, le-ltb}
use lib.Dec.{lit≤, lit<}
use lib.ListN.{length, get_or, take, set, length-append}
use lib.Seq.{sets, take-suc, take-length, take_all, take-append-add, length-take-le}
use borrow.Rule.Slice.PartMut.{put_mid}
use Rattle.std.proofs.lemmas.List.{take-take, take-append-le, take_more_set}
use Rattle.std.proofs.lemmas.Slice.{take-put_mid}
use Rattle.layout.specs.Number.{bytes_of}
use Rattle.layout.proofs.Stores.{least_part, sets_more}
use Rattle.layout.proofs.Numbers.{bytes_of-one}
use Rattle.text.specs.Text.{decimal_in, spaced, longest_line, kept, Put}

-- ---- growing

take-more : (n : ℕ) (xs ys : List ℕ) → take n (take n xs ++ ys) ≡ take n (xs ++ ys)
take-more zero xs ys = refl
take-more (suc n) [] ys = refl
take-more (suc n) (x ∷ xs) ys = ap (λ (l : List ℕ). x ∷ l) (take-more n xs ys)

-- one piece behind the other
pub grown : (xs ys l l₁ l₂ : List ℕ) → l₁ ≡ kept (l ++ xs) → l₂ ≡ kept (l₁ ++ ys) → l₂ ≡ kept (l ++ (xs ++ ys))
grown xs ys l l₁ l₂ p q =
    let more : take longest_line (kept (l ++ xs) ++ ys) ≡ kept ((l ++ xs) ++ ys) = take-more longest_line (l ++ xs) ys in
    rw (← append_assoc l xs ys) (q ∙ rw p more)

-- nothing more
pub kept-still : (xs l : List ℕ) → l ≡ kept xs → l ≡ kept (l ++ [])
kept-still xs l p = rw (append-nil l, p) (sym (take-take longest_line longest_line xs (lit≤ tt)))

-- letters laid behind those that are there, as many as there is room for
pub letters_put : (letters part line : List ℕ) (size count : ℕ) → length line ≡ longest_line → size ≤ longest_line → count ≡ min (length letters) (longest_line - size) → part ≡ take count letters
    → take (size + count) (put_mid size (size + count - size) line part) ≡ kept (take size line ++ letters)
letters_put letters part line size count whole h least is =
    let n : length part ≡ count = rw is (length-take-le count letters (omega arith)) in
    let first : length (take size line) ≡ size = length-take-le size line (omega arith) in
    let room : length (take size line) + (longest_line - size) ≡ longest_line = omega arith in
    let these : part ≡ take (longest_line - size) letters = is ∙ rw least (least_part letters (longest_line - size)) in
    take-put_mid size (size + count - size) line part (size + count) (omega arith) (omega arith)
    ∙ ap (λ (x : List ℕ). take size line ++ x) these
    ∙ sym (take-append-add (take size line) letters (longest_line - size))
    ∙ ap (λ (k : ℕ). take k (take size line ++ letters)) room

-- a letter laid behind those that are there, where there is room for one; where there is none nothing more is kept
pub letter_put : (letter : ℕ) (line : List ℕ) (size : ℕ) → length line ≡ longest_line → size < longest_line
    → take (size + 1) (set line size letter) ≡ kept (take size line ++ (letter ∷ []))
letter_put letter line size whole h =
    let short : length (take size line ++ (letter ∷ [])) ≤ longest_line = rw length-append (omega (arith, length-take-le size line (omega arith))) in
    take_more_set line size letter (omega arith) ∙ sym (take_all longest_line (take size line ++ (letter ∷ [])) short)

pub letter_past : (letter : ℕ) (line : List ℕ) (size : ℕ) → length line ≡ longest_line → size ≤ longest_line → longest_line ≤ size
    → take size line ≡ kept (take size line ++ (letter ∷ []))
letter_past letter line size whole h past =
    let n : length (take size line) ≡ longest_line = length-take-le size line (omega arith) ∙ omega arith in
    sym (take-append-le longest_line (take size line) (letter ∷ []) (omega arith) ∙ take_all longest_line (take size line) (omega arith))

-- ---- fields with a space before each

pub spaced-append : (xs ys : List (List ℕ)) → spaced (xs ++ ys) ≡ spaced xs ++ spaced ys
spaced-append [] ys = refl
spaced-append (x ∷ xs) ys = rw (spaced-append xs ys) (ap (λ (r : List ℕ). 32 ∷ r) (sym (append_assoc x (spaced xs) (spaced ys))))

-- fields behind fields
pub fields_grown : (xs ys : List (List ℕ)) (l l₁ l₂ : List ℕ) → l₁ ≡ kept (l ++ spaced xs) → l₂ ≡ kept (l₁ ++ spaced ys) → l₂ ≡ kept (l ++ spaced (xs ++ ys))
fields_grown xs ys l l₁ l₂ p q = rw (spaced-append xs ys) (grown (spaced xs) (spaced ys) l l₁ l₂ p q)

-- a space and a field
pub field_grown : (field l l₁ l₂ : List ℕ) → l₁ ≡ kept (l ++ 32 ∷ []) → l₂ ≡ kept (l₁ ++ field) → l₂ ≡ kept (l ++ spaced (field ∷ []))
field_grown field l l₁ l₂ p q = rw (append-nil field) (grown (32 ∷ []) field l l₁ l₂ p q)

-- a space and a field, and another field
pub event_grown : (name amount l l₁ l₂ l₃ : List ℕ) → l₁ ≡ kept (l ++ 32 ∷ []) → l₂ ≡ kept (l₁ ++ name) → l₃ ≡ kept (l₂ ++ spaced (amount ∷ []))
    → l₃ ≡ kept (l ++ spaced (name ∷ amount ∷ []))
event_grown name amount l l₁ l₂ l₃ p q r = fields_grown (name ∷ []) (amount ∷ []) l l₂ l₃ (field_grown name l l₁ l₂ p q) r

-- ---- stored

pub put-nothing : (at : ℕ) (l : List ℕ) → Put [] at 0 l at l
put-nothing at l = record { place = sym (add-zero at); within = omega arith; stored = refl }

-- one piece after the other
pub put-append : (xs ys : List ℕ) (at m n next next' : ℕ) (l l₁ l₂ : List ℕ) → Put xs at m l next l₁ → Put ys next n l₁ next' l₂ → Put (xs ++ ys) at (m + n) l next' l₂
put-append xs ys at m n next next' l l₁ l₂ p q =
    record {
      place = rw length-append (omega (arith, p.place, q.place));
      within = omega (arith, p.within, q.within);
      stored = sets_more xs ys l l₁ l₂ at (length xs) refl p.stored (rw p.place at q.stored);
    }

-- more room
pub put-room : (xs : List ℕ) (at m n next : ℕ) (l l₁ : List ℕ) → m ≤ n → Put xs at m l next l₁ → Put xs at n l next l₁
put-room xs at m n next l l₁ h p = record { place = p.place; within = omega (arith, p.within); stored = p.stored }

-- as much room as it takes
pub put-within : (xs : List ℕ) (at m n next : ℕ) (l l₁ : List ℕ) → length xs ≤ n → Put xs at m l next l₁ → Put xs at n l next l₁
put-within xs at m n next l l₁ h p = record { place = p.place; within = omega (arith, p.place); stored = p.stored }

-- nothing, where something might be
pub put-none : (at n : ℕ) (l : List ℕ) → Put [] at n l at l
put-none at n l = put-room [] at 0 n at l l (omega arith) (put-nothing at l)

pub put_byte : (byte at : ℕ) (l l₁ : List ℕ) → byte < 256 → l₁ ≡ sets l at (bytes_of 1 byte) → Put (byte ∷ []) at 1 l (at + 1) l₁
put_byte byte at l l₁ h e = record { place = refl; within = omega arith; stored = rw (bytes_of-one byte h) at e }

-- the digits of a number below ten,
pub decimal-small : (places number at : ℕ) (l l₁ : List ℕ) → 0 < places → number < 10 → l₁ ≡ sets l at (bytes_of 1 (48 + number))
    → Put (decimal_in places number) at places l (at + 1) l₁
unfolding decimal_in
decimal-small zero number at l l₁ p h e = absurd (omega arith)
decimal-small (suc places) number at l l₁ p h e =
    rw (lt-ltb number 10 h) (put-room ((48 + number) ∷ []) at 1 (suc places) (at + 1) l l₁ (omega arith) (put_byte (48 + number) at l l₁ (omega arith) e))

-- and of any other: those of a tenth of it, and its last
pub decimal-large : (places number at next : ℕ) (l l₁ l₂ : List ℕ) → 0 < places → 10 ≤ number
    → Put (decimal_in (places - 1) (number / 10)) at (places - 1) l next l₁ → l₂ ≡ sets l₁ next (bytes_of 1 (48 + number % 10))
    → Put (decimal_in places number) at places l (next + 1) l₂
unfolding decimal_in
decimal-large zero number at next l l₁ l₂ p h q e = absurd (omega arith)
decimal-large (suc places) number at next l l₁ l₂ p h q e =
    let k : suc places - 1 ≡ places = omega arith in
    let r : number % 10 < 10 = omega arith in
    let q' : Put (decimal_in places (number / 10)) at places l next l₁ = rw k at q in
    rw (le-ltb number 10 h)
    (put-room (decimal_in places (number / 10) ++ ((48 + number % 10) ∷ [])) at (places + 1) (suc places) (next + 1) l l₂ (omega arith)
    (put-append (decimal_in places (number / 10)) ((48 + number % 10) ∷ []) at places 1 next (next + 1) l l₁ l₂ q' (put_byte (48 + number % 10) next l₁ l₂ (omega arith) e)))

pub decimal-none : (places number at : ℕ) (l : List ℕ) → places ≡ 0 → Put (decimal_in places number) at places l at l
unfolding decimal_in
decimal-none places number at l z = rw z (put-nothing at l)

-- one letter more of a word
pub letter-more : (word : List ℕ) (i at : ℕ) (l l₁ l₂ : List ℕ) → i < length word → get_or word i 0 < 256 → l₁ ≡ sets l at (take i word)
    → l₂ ≡ sets l₁ (at + i) (bytes_of 1 (get_or word i 0)) → l₂ ≡ sets l at (take (i + 1) word)
letter-more word i at l l₁ l₂ h b e₁ e₂ =
    rw (add-one, take-suc word i 0 h)
    (sets_more (take i word) (get_or word i 0 ∷ []) l l₁ l₂ at i (length-take-le i word (omega arith)) e₁ (rw (bytes_of-one (get_or word i 0) b) at e₂))

-- a whole word
pub word-put : (word : List ℕ) (i at : ℕ) (l l₁ : List ℕ) → i ≡ length word → l₁ ≡ sets l at (take i word) → Put word at (length word) l (at + i) l₁
word-put word i at l l₁ h e =
    record { place = rw h; within = omega arith; stored = rw (← take-length word, ← h) e }

-- a space and a field
pub put-field : (field : List ℕ) (at m next : ℕ) (l l₁ l₂ : List ℕ) → l₁ ≡ sets l at (bytes_of 1 32) → Put field (at + 1) m l₁ next l₂
    → Put (spaced (field ∷ [])) at (1 + m) l next l₂
put-field field at m next l l₁ l₂ e p =
    rw append-nil (put-append (32 ∷ []) field at 1 m (at + 1) next l l₁ l₂ (put_byte 32 at l l₁ (lit< tt) e) p)

-- fields after fields
pub put-fields : (xs ys : List (List ℕ)) (at m n next next' : ℕ) (l l₁ l₂ : List ℕ) → Put (spaced xs) at m l next l₁ → Put (spaced ys) next n l₁ next' l₂
    → Put (spaced (xs ++ ys)) at (m + n) l next' l₂
put-fields xs ys at m n next next' l l₁ l₂ p q = rw (spaced-append xs ys) (put-append (spaced xs) (spaced ys) at m n next next' l l₁ l₂ p q)
