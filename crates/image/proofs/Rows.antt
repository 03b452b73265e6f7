-- A row of places in words, a place at a time: what the loops over a row keep, and one step of them. For a row of any size.
-- Assumes nothing.
use Prim.Native.Nat.{ℕ, zero, suc, ◌+◌, ◌-◌, ◌*◌, ◌≤◌, ◌<◌}
use native.Mathlib.Nat.{zero-add}
use native.Mathlib.Omega.{arith}
use mathlib.Core.Path.{◌≡◌, refl, ap, sym, ◌∙◌}
use mathlib.Core.Bool.{Bool, true, ◌&&◌, and_assoc, and-true}
use mathlib.Core.List.{List, [], ◌∷◌, ◌++◌, map, append_assoc}
use borrow.Author.Tests.{eqb-true}
use borrow.Rule.Slice.PartMut.{put_mid, mid_of}
use lib.Dec.{eqb}
use lib.ListN.{length, get_or, take, drop, set, replicate, length-append, length-drop, take-append-drop}
use lib.Seq.{sets, sets-eq, get_or-drop, drop-cons, drop-drop, drop-append-le, length-take-le}
use Rattle.std.specs.Simd.{first_chunks}
use Rattle.std.proofs.lemmas.List.{get_or-take, set_at, take_more, length-map, append-nil}
use Rattle.rule.specs.Lists.{every}
use Rattle.rule.proofs.Lists.{and_left, and_right, map-append}
use Rattle.layout.proofs.Stores.{sets-append}
use Rattle.events.specs.Kinds.{event_of}
use Rattle.filing.specs.declared.Slot.{Slot}
use Rattle.filing.specs.Slots.{blank}
use Rattle.image.specs.Words.{place_words, event_place, amount_place, decision_place, words_of_slot, words_of_slots}
use Rattle.image.specs.Reading.{slot_from, is_slot, slots_from, are_slots, are_zero}

-- ---- words that are all 0: one more of them

pub zeros-go-on : (words : List ℕ) (from count i : ℕ) (known : Bool) → i < count → from + count ≤ length words
    → known && are_zero (take (count - i) (drop (from + i) words)) ≡ are_zero (take count (drop from words))
    → known && eqb (get_or words (from + i) 0) 0 && are_zero (take (count - (i + 1)) (drop (from + (i + 1)) words)) ≡ are_zero (take count (drop from words))
zeros-go-on words from count i known h room e =
    let left : count - i ≡ suc (count - (i + 1)) = omega arith in
    let next : from + (i + 1) ≡ suc (from + i) = omega arith in
    let there : from + i < length words = omega arith in
    rw (next, and_assoc) (rw (left, drop-cons words (from + i) 0 there) at e)

-- and what they read as: blanks

zero-at : (k : ℕ) (words : List ℕ) → are_zero (take k words) ≡ true → (i : ℕ) → i < k → get_or words i 0 ≡ 0
zero-at zero words z i h = absurd (omega arith)
zero-at (suc k) [] z i h = refl
zero-at (suc k) (w ∷ words) z zero h = eqb-true w 0 (and_left (eqb w 0) (are_zero (take k words)) z)
zero-at (suc k) (w ∷ words) z (suc i) h = zero-at k words (and_right (eqb w 0) (are_zero (take k words)) z) i (omega arith)

module _ (words : List ℕ) (z : (i : ℕ) → i < place_words → get_or words i 0 ≡ 0) where
  slot-blank : slot_from words ≡ blank
  unfolding slot_from event_of
  slot-blank = rw (z 0 (omega arith), get_or-drop 1 words 0 0, z 1 (omega arith), z event_place (omega arith), z amount_place (omega arith), z decision_place (omega arith)) refl

  is-slot-blank : is_slot words ≡ true
  unfolding is_slot event_of
  is-slot-blank = rw (z event_place (omega arith), z amount_place (omega arith), z decision_place (omega arith)) refl

slots-blank : (n : ℕ) (words : List ℕ) → ((i : ℕ) → i < n * place_words → get_or words i 0 ≡ 0) → (slots_from n words ≡ replicate n blank) × (are_slots n words ≡ true)
unfolding slots_from are_slots
slots-blank zero words z = (refl, refl)
slots-blank (suc n) words z =
    let own : (i : ℕ) → i < place_words → get_or words i 0 ≡ 0 = λ i h. z i (omega arith) in
    let rest = slots-blank n (drop place_words words) (λ i h. get_or-drop place_words words i 0 ∙ z (place_words + i) (omega arith)) in
    (rw (slot-blank words own, rest.0) refl, rw (is-slot-blank words own, rest.1) refl)

-- ---- reading: the places one by one,

module _ (words : List ℕ) where
  own : (i : ℕ) → i < place_words → get_or (take place_words words) i 0 ≡ get_or words i 0
  own i h = get_or-take place_words words i 0 h

  pub slot-first : slot_from (take place_words words) ≡ slot_from words
  unfolding slot_from
  slot-first =
      rw (
        own 0 (omega arith),
        get_or-drop 1 (take place_words words) 0 0,
        own 1 (omega arith),
        get_or-drop 1 words 0 0,
        own event_place (omega arith),
        own amount_place (omega arith),
        own decision_place (omega arith),
      )
      refl

  pub is-slot-first : is_slot (take place_words words) ≡ is_slot words
  unfolding is_slot
  is-slot-first = rw (own event_place (omega arith), own amount_place (omega arith), own decision_place (omega arith)) refl

chunks-read : (n k : ℕ) (words : List ℕ) → n ≤ k
    → (map slot_from (take n (first_chunks place_words k words)) ≡ slots_from n words) × (every is_slot (take n (first_chunks place_words k words)) ≡ are_slots n words)
unfolding slots_from are_slots
chunks-read zero k words h = (refl, refl)
chunks-read (suc n) zero words h = absurd (omega arith)
chunks-read (suc n) (suc k) words h =
    let rest = chunks-read n k (drop place_words words) (omega arith) in
    (rw (slot-first words, rest.0) refl, rw (is-slot-first words, rest.1) refl)

-- so many, and as many more
rows-split : (n m : ℕ) (words : List ℕ)
    → (slots_from (n + m) words ≡ slots_from n words ++ slots_from m (drop (n * place_words) words))
    × (are_slots (n + m) words ≡ are_slots n words && are_slots m (drop (n * place_words) words))
unfolding slots_from are_slots
rows-split zero m words = (rw zero-add refl, rw zero-add refl)
rows-split (suc n) m words =
    let rest = rows-split n m (drop place_words words) in
    let more : suc n + m ≡ suc (n + m) = omega arith in
    let next : suc n * place_words ≡ place_words + n * place_words = omega arith in
    let far : drop (suc n * place_words) words ≡ drop (n * place_words) (drop place_words words) = rw next (sym (drop-drop (n * place_words) place_words words)) in
    (rw (more, far, rest.0) refl, rw (more, far, rest.1, and_assoc) refl)

-- where all words behind are 0, the rest of the places are blank as they stand
pub row-read : (size n k : ℕ) (words : List ℕ) → n ≤ size → size ≤ k → are_zero (take ((size - n) * place_words) (drop (n * place_words) words)) ≡ true
    → (map slot_from (take n (first_chunks place_words k words)) ++ replicate (size - n) blank ≡ slots_from size words)
    × (every is_slot (take n (first_chunks place_words k words)) ≡ are_slots size words)
row-read size n k words h few z =
    let apart : size ≡ n + (size - n) = omega arith in
    let front = chunks-read n k words (omega arith) in
    let blanks = slots-blank (size - n) (drop (n * place_words) words) (zero-at ((size - n) * place_words) (drop (n * place_words) words) z) in
    let whole = rows-split n (size - n) words in (
      rw (front.0, ← blanks.0) (sym whole.0 ∙ ap (λ (m : ℕ). slots_from m words) (sym apart)),
      rw front.1 (sym (rw (blanks.1, and-true) at whole.1) ∙ ap (λ (m : ℕ). are_slots m words) (sym apart)),
    )

every-append : {A : Type 0} (p : A → Bool) (xs ys : List A) → every p (xs ++ ys) ≡ every p xs && every p ys
every-append p [] ys = refl
every-append p (x ∷ xs) ys = rw (every-append p xs ys) (sym (and_assoc (p x) (every p xs) (every p ys)))

-- one more
pub row-more : (size i : ℕ) (row : List Slot) (chunks : List (List ℕ)) (chunk : List ℕ) (valid : Bool) → i < length chunks → length chunks ≤ size
    → row ≡ map slot_from (take i chunks) ++ replicate (size - i) blank → valid ≡ every is_slot (take i chunks) → chunk ≡ get_or chunks i []
    → (set row i (slot_from chunk) ≡ map slot_from (take (i + 1) chunks) ++ replicate (size - (i + 1)) blank)
    × (valid && is_slot chunk ≡ every is_slot (take (i + 1) chunks))
row-more size i row chunks chunk valid h few e f g =
    let front = take i chunks in
    let one : take (i + 1) chunks ≡ front ++ chunk ∷ [] = rw g (take_more chunks i [] h) in
    let size-front : length (map slot_from front) ≡ i = length-map front slot_from ∙ length-take-le i chunks (omega arith) in
    let left : size - i ≡ suc (size - (i + 1)) = omega arith in
    let begun : row ≡ map slot_from front ++ blank ∷ replicate (size - (i + 1)) blank = rw left at e in (
      rw (begun, one, map-append slot_from front (chunk ∷ []), set_at (map slot_from front) blank (replicate (size - (i + 1)) blank) (slot_from chunk) i size-front)
          (sym (append_assoc (map slot_from front) (slot_from chunk ∷ []) (replicate (size - (i + 1)) blank))),
      rw (one, f) (sym (every-append is_slot front (chunk ∷ []) ∙ rw and-true refl)),
    )

-- ---- storing

pub length-slot : (x : Slot) → length (words_of_slot x) ≡ place_words
unfolding words_of_slot
length-slot x = refl

pub length-slots : (xs : List Slot) → length (words_of_slots xs) ≡ length xs * place_words
unfolding words_of_slots
length-slots [] = refl
length-slots (x ∷ xs) = omega (arith, length-append (words_of_slot x) (words_of_slots xs), length-slot x, length-slots xs)

pub words_append : (xs ys : List Slot) → words_of_slots (xs ++ ys) ≡ words_of_slots xs ++ words_of_slots ys
unfolding words_of_slots
words_append [] ys = refl
words_append (x ∷ xs) ys = rw (words_append xs ys) (sym (append_assoc (words_of_slot x) (words_of_slots xs) (words_of_slots ys)))

words-one : (x : Slot) → words_of_slots (x ∷ []) ≡ words_of_slot x
unfolding words_of_slots
words-one x = append-nil (words_of_slot x)

-- a part of a list that was written is a run of stores
pub part-stored : {A : Type 0} (a k : ℕ) (xs ys : List A) → length ys ≡ k → a + k ≤ length xs → put_mid a k xs ys ≡ sets xs a ys
part-stored a k xs ys e h =
    rw (sets-eq ys xs a (omega arith), e, ← drop-drop k a xs) (sym (append_assoc (take a xs) ys (drop k (drop a xs))))

-- and so is one of which the beginning was
part-begun : {A : Type 0} (a k : ℕ) (xs ys : List A) → length ys ≤ k → a + k ≤ length xs → put_mid a k xs (sets (mid_of a k xs) 0 ys) ≡ sets xs a ys
part-begun a k xs ys e h =
    let part = mid_of a k xs in
    let size : length part ≡ k = length-take-le k (drop a xs) (omega (arith, length-drop a xs)) in
    let behind : drop (length ys) part ++ drop k (drop a xs) ≡ drop (a + length ys) xs =
    sym (drop-append-le (length ys) part (drop k (drop a xs)) (omega arith)) ∙ ap (drop (length ys)) (take-append-drop k (drop a xs)) ∙ drop-drop (length ys) a xs in
    rw (sets-eq ys part 0 (omega arith), sets-eq ys xs a (omega arith), zero-add)
    (ap (λ (l : List _). take a xs ++ l) (append_assoc ys (drop (length ys) part) (drop k (drop a xs)) ∙ ap (λ (l : List _). ys ++ l) behind)
    ∙ sym (append_assoc (take a xs) ys (drop (a + length ys) xs)))

pub rest-begun : {A : Type 0} (a : ℕ) (xs xs₀ ys part : List A) → xs ≡ xs₀ → a + length ys ≤ length xs₀ → part ≡ sets (mid_of a (length xs - a) xs) 0 ys
    → put_mid a (length xs - a) xs part ≡ sets xs₀ a ys
rest-begun a xs xs₀ ys part e h f =
    let same : length xs ≡ length xs₀ = ap length e in
    rw f (part-begun a (length xs - a) xs ys (omega arith) (omega arith) ∙ ap (λ (l : List _). sets l a ys) e)

-- one more place
pub place-stored : (row : List Slot) (words : List ℕ) (i : ℕ) (x : Slot) → i < length row → length row * place_words ≤ length words → x ≡ get_or row i blank
    → sets (sets words 0 (words_of_slots (take i row))) (i * place_words) (words_of_slot x) ≡ sets words 0 (words_of_slots (take (i + 1) row))
place-stored row words i x h room e =
    let front = take i row in
    let size : length (words_of_slots front) ≡ i * place_words = length-slots front ∙ ap (λ (n : ℕ). n * place_words) (length-take-le i row (omega arith)) in
    let one : take (i + 1) row ≡ front ++ x ∷ [] = rw e (take_more row i blank h) in
    rw (one, words_append front (x ∷ []), words-one x, ← size, ← zero-add (length (words_of_slots front))) (sets-append (words_of_slots front) (words_of_slot x) words 0)
