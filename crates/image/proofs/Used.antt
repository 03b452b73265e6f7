-- Storing as many places as are used before or after: behind them the words are a blank's already.
-- Assumes nothing.
use Prim.Native.Nat.{ℕ, zero, suc, ◌+◌, ◌-◌, ◌*◌, ◌≤◌}
use native.Mathlib.Nat.{add_assoc}
use native.Mathlib.Omega.{arith}
use mathlib.Core.Path.{◌≡◌, refl, ap, sym, ◌∙◌}
use mathlib.Core.Bool.{true}
use mathlib.Core.List.{List, [], ◌∷◌, ◌++◌, append_assoc}
use borrow.Author.Tests.{le-leb}
use lib.ListN.{length, take, drop, replicate, length-append, length-drop, take-append-drop}
use lib.Seq.{sets, sets-eq, length-sets, length-take-le, take-add, drop-drop, drop_at, drop-append-add}
use Rattle.rule.specs.Lists.{every}
use Rattle.rule.specs.Rule.{Rule}
use Rattle.rule.proofs.Lists.{and_left, and_right}
use Rattle.events.specs.declared.Event.{Event}
use Rattle.events.specs.declared.State.{State}
use Rattle.filing.specs.declared.Slot.{Slot}
use Rattle.filing.specs.Slots.{places, blank, is_blank}
use Rattle.filing.proofs.Slots.{blank-place}
use Rattle.account.specs.declared.Account.{Account}
use Rattle.account.specs.InOrder.{in_order_by}
use Rattle.account.proofs.Clauses.{clauses}
use Rattle.layout.proofs.Stores.{sets-append}
use Rattle.image.specs.Words.{place_words, words_of_slots, head_words, row_words, account_words, head_of, stored_in, stored_to}
use Rattle.image.specs.Reading.{slots_from, are_slots, fields_from, account_from}
use Rattle.image.specs.Images.{UsedSuffice}
use Rattle.image.proofs.Rows.{length-slots, words_append}
use Rattle.image.proofs.Accounts.{rows-stored}
use Rattle.image.proofs.WrittenBack.{slots-written, length-slots_from, parts, ordered, ordered-room, read-so}

-- ---- blanks

all-blank : (xs : List Slot) → every is_blank xs ≡ true → xs ≡ replicate (length xs) blank
all-blank [] h = refl
all-blank (x ∷ xs) h =
    let first = blank-place x (and_left (is_blank x) (every is_blank xs) h) in
    let rest = all-blank xs (and_right (is_blank x) (every is_blank xs) h) in
    ap (λ (y : Slot). y ∷ xs) first ∙ ap (◌∷◌ blank) rest

every-behind : (k : ℕ) (xs : List Slot) → every is_blank xs ≡ true → every is_blank (drop k xs) ≡ true
every-behind zero xs h = h
every-behind (suc k) [] h = refl
every-behind (suc k) (x ∷ xs) h = every-behind k xs (and_right (is_blank x) (every is_blank xs) h)

-- behind a count that is high enough a row has nothing but blanks
blanks-behind : (xs : List Slot) (count n : ℕ) → every is_blank (drop count xs) ≡ true → count ≤ n → length xs ≡ places → drop n xs ≡ replicate (places - n) blank
blanks-behind xs count n h k size =
    let from : n ≡ count + (n - count) = omega arith in
    let behind : every is_blank (drop n xs) ≡ true = rw (from, ← drop-drop (n - count) count xs) (every-behind (n - count) (drop count xs) h) in
    all-blank (drop n xs) behind ∙ ap (λ (m : ℕ). replicate m blank) (length-drop n xs ∙ ap (λ (m : ℕ). m - n) size)

-- ---- words of places, and stores of what stands there already

-- the first places, and the others
words-split : (n : ℕ) (xs : List Slot) → words_of_slots xs ≡ words_of_slots (take n xs) ++ words_of_slots (drop n xs)
words-split n xs = ap words_of_slots (sym (take-append-drop n xs)) ∙ words_append (take n xs) (drop n xs)

length-split : (n : ℕ) (xs : List Slot) → length (words_of_slots xs) ≡ length (words_of_slots (take n xs)) + length (words_of_slots (drop n xs))
length-split n xs = ap length (words-split n xs) ∙ length-append (words_of_slots (take n xs)) (words_of_slots (drop n xs))

-- what stands behind stores is as it was
drop-sets : (vs l : List ℕ) (i k : ℕ) → i + length vs ≤ length l → i + length vs ≤ k → drop k (sets l i vs) ≡ drop k l
drop-sets vs l i k room h =
    let front = take i l ++ vs in
    let size : length front ≡ i + length vs = length-append (take i l) vs ∙ ap (λ (n : ℕ). n + length vs) (length-take-le i l (omega arith)) in
    let far : k ≡ length front + (k - (i + length vs)) = omega arith in
    let back : i + length vs + (k - (i + length vs)) ≡ k = omega arith in
    ap (drop k) (sets-eq vs l i room)
    ∙ ap (λ (n : ℕ). drop n (front ++ drop (i + length vs) l)) far
    ∙ drop-append-add front (drop (i + length vs) l) (k - (i + length vs))
    ∙ drop-drop (k - (i + length vs)) (i + length vs) l
    ∙ ap (λ (n : ℕ). drop n l) back

-- a store of what stands there changes nothing
same-sets : (vs l : List ℕ) (i : ℕ) → i + length vs ≤ length l → take (length vs) (drop i l) ≡ vs → sets l i vs ≡ l
same-sets vs l i room e =
    let behind : vs ++ drop (i + length vs) l ≡ drop i l =
    ap (λ (x : List ℕ). x ++ drop (i + length vs) l) (sym e)
    ∙ ap (λ (x : List ℕ). take (length vs) (drop i l) ++ x) (sym (drop-drop (length vs) i l))
    ∙ take-append-drop (length vs) (drop i l) in
    sets-eq vs l i room ∙ append_assoc (take i l) vs (drop (i + length vs) l) ∙ ap (λ (x : List ℕ). take i l ++ x) behind ∙ take-append-drop i l

-- a row of which the words behind so many places stand there already
row-stored : (slots : List Slot) (n at : ℕ) (l : List ℕ) → at + length (words_of_slots slots) ≤ length l
    → take (length (words_of_slots (drop n slots))) (drop (at + length (words_of_slots (take n slots))) l) ≡ words_of_slots (drop n slots)
    → sets l at (words_of_slots (take n slots)) ≡ sets l at (words_of_slots slots)
row-stored slots n at l room e =
    let first = words_of_slots (take n slots) in
    let others = words_of_slots (drop n slots) in
    let size = length-split n slots in
    let left : drop (at + length first) (sets l at first) ≡ drop (at + length first) l = drop-sets first l at (at + length first) (omega arith) (omega arith) in
    let stored : sets (sets l at first) (at + length first) others ≡ sets l at first =
    same-sets others (sets l at first) (at + length first) (omega (arith, length-sets l at first)) (ap (take (length others)) left ∙ e) in
    sym stored ∙ sets-append first others l at ∙ ap (sets l at) (sym (words-split n slots))

-- the words of one row stand there, and behind so many places another row has the same
row-stands : (xs ys : List Slot) (n at : ℕ) (l : List ℕ) → length xs ≡ length ys → drop n xs ≡ drop n ys → at + length (words_of_slots xs) ≤ length l
    → take (length (words_of_slots xs)) (drop at l) ≡ words_of_slots xs
    → take (length (words_of_slots (drop n ys))) (drop (at + length (words_of_slots (take n ys))) l) ≡ words_of_slots (drop n ys)
row-stands xs ys n at l same rest room e =
    let t = length (words_of_slots (take n ys)) in
    let k = length (words_of_slots (drop n ys)) in
    let others : words_of_slots (drop n xs) ≡ words_of_slots (drop n ys) = ap words_of_slots rest in
    let as_long : length (words_of_slots xs) ≡ length (words_of_slots ys) = length-slots xs ∙ ap (λ (m : ℕ). m * place_words) same ∙ sym (length-slots ys) in
    let size : length (words_of_slots xs) ≡ t + k = as_long ∙ length-split n ys in
    let first : length (words_of_slots (take n xs)) ≡ t = omega (arith, length-split n xs, size, ap length others) in
    let within : length (take t (drop at l)) ≡ t = length-take-le t (drop at l) (omega (arith, length-drop at l)) in
    ap (take k) (sym (drop-drop t at l))
    ∙ sym (drop_at (take t (drop at l)) (take k (drop t (drop at l))) t within)
    ∙ ap (drop t) (sym (take-add t k (drop at l)) ∙ ap (λ (m : ℕ). take m (drop at l)) (sym size) ∙ e ∙ words-split n xs)
    ∙ drop_at (words_of_slots (take n xs)) (words_of_slots (drop n xs)) t first
    ∙ others

-- ---- an account

module _ (R : Rule State Event ℕ) (few : R.progress_limit ≤ places) where
  module _ (words : List ℕ) (from n m : ℕ) (a : Account) (h : in_order_by R (account_from words from) ≡ true) (g : in_order_by R a ≡ true)
      (p : length a.progress ≡ places) (q : length a.held ≡ places) where
    abbrev read : List ℕ → List Slot
    read behind = slots_from places behind

    abbrev head : List ℕ
    head = sets words from (head_of a)

    abbrev progress : List ℕ
    progress = sets head (from + head_words) (words_of_slots a.progress)

    room : from + account_words ≤ length words
    room = ordered-room R few words from h

    row-size : (xs : List Slot) → length xs ≡ places → length (words_of_slots xs) ≡ row_words
    row-size xs e = length-slots xs ∙ ap (λ (k : ℕ). k * place_words) e

    -- the words of each row are those of the places that are read from them
    row_written : (at : ℕ) → from + at + row_words ≤ length words → are_slots places (drop at (drop from words)) ≡ true
        → take (length (words_of_slots (read (drop at (drop from words))))) (drop (from + at) words) ≡ words_of_slots (read (drop at (drop from words)))
    row_written at there valid =
        let behind = drop at (drop from words) in
        rw (row-size (read behind) (length-slots_from places behind), ← drop-drop at from words)
        (slots-written places behind (omega (arith, length-drop at (drop from words), length-drop from words)) valid)

    abbrev known : Account
    known = account_from words from

    read-progress : known.progress ≡ read (drop head_words (drop from words))
    unfolding fields_from
    read-progress = ap (λ (x : Account). x.progress) (read-so R few words from h)

    read_held : known.held ≡ read (drop (head_words + row_words) (drop from words))
    unfolding fields_from
    read_held = ap (λ (x : Account). x.held) (read-so R few words from h)

    -- so behind the places that either uses the words of the other stand there already
    row-left : (at k count other : ℕ) (own row : List Slot) → from + at + row_words ≤ length words → are_slots places (drop at (drop from words)) ≡ true
        → own ≡ read (drop at (drop from words)) → every is_blank (drop count own) ≡ true → count ≤ k
        → length row ≡ places → every is_blank (drop other row) ≡ true → other ≤ k
        → take (length (words_of_slots (drop k row))) (drop (from + at + length (words_of_slots (take k row))) words) ≡ words_of_slots (drop k row)
    row-left at k count other own row there valid e blanks low size blanks' low' =
        let behind = drop at (drop from words) in
        let length-read = length-slots_from places behind in
        let same : drop k (read behind) ≡ drop k row =
        blanks-behind (read behind) count k (rw e at blanks) low length-read ∙ sym (blanks-behind row other k blanks' low' size) in
        row-stands (read behind) row k (from + at) words (length-read ∙ sym size) same (omega (arith, there, row-size (read behind) length-read)) (row_written at there valid)

    used-stored : known.progressing ≤ n → a.progressing ≤ n → known.holding ≤ m → a.holding ≤ m → stored_to words from a n m ≡ stored_in words from a
    unfolding stored_to stored_in
    used-stored k₁ k₂ k₃ k₄ =
        let valid = parts (drop from words) (ordered R few words from h).1 in
        let before = clauses R known h in
        let after = clauses R a g in
        let at : ℕ = from + head_words in
        let at_held : ℕ = from + (head_words + row_words) in
        let first = words_of_slots (take n a.progress) in
        let second = words_of_slots (take m a.held) in
        let size-head = length-sets words from (head_of a) in
        let size-progress = length-sets head at (words_of_slots a.progress) in
        let size = row-size a.progress p in
        let size-held = row-size a.held q in
        let head-left : drop (at + length first) head ≡ drop (at + length first) words = drop-sets (head_of a) words from (at + length first) (omega (arith, room)) (omega arith) in
        let progress-stands = row-left head_words n known.progressing a.progressing known.progress a.progress (omega (arith, room)) valid.progress read-progress before.blanks k₁ p after.blanks k₂ in
        let progress-stored : sets head at first ≡ progress =
        row-stored a.progress n at head (omega (arith, room, size-head, size)) (ap (take (length (words_of_slots (drop n a.progress)))) head-left ∙ progress-stands) in
        let held-left : drop (at_held + length second) progress ≡ drop (at_held + length second) words =
        drop-sets (words_of_slots a.progress) head at (at_held + length second) (omega (arith, room, size-head, size)) (omega (arith, size))
        ∙ drop-sets (head_of a) words from (at_held + length second) (omega (arith, room)) (omega arith) in
        let held-stands = row-left (head_words + row_words) m known.holding a.holding known.held a.held (omega (arith, room)) valid.held read_held before.blanks_held k₃ q after.blanks_held k₄ in
        let held-stored : sets progress at_held second ≡ sets progress at_held (words_of_slots a.held) =
        row-stored a.held m at_held progress (omega (arith, room, size-head, size-progress, size-held)) (ap (take (length (words_of_slots (drop m a.held)))) held-left ∙ held-stands) in
        rw (le-leb (from + account_words) (length words) room, progress-stored, add_assoc) (held-stored ∙ rw add_assoc at (rows-stored a words from p))

pub used-suffice : (R : Rule State Event ℕ) → R.progress_limit ≤ 8 → UsedSuffice R
used-suffice R few words from n m a h g p q k₁ k₂ k₃ k₄ = used-stored R few words from n m a h g p q k₁ k₂ k₃ k₄
