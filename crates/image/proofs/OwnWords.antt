-- What stands behind an account's words is not looked at: place by place, and then the account.
-- Assumes nothing.
use Prim.Native.Nat.{ℕ, zero, suc, ◌+◌, ◌*◌, ◌≤◌, ◌<◌}
use native.Mathlib.Omega.{arith}
use mathlib.Core.Path.{◌≡◌, refl, ap, sym, ◌∙◌}
use mathlib.Core.Bool.{Bool, true, false, cond}
use mathlib.Core.List.{List, ◌++◌}
use borrow.Author.Tests.{le-leb, leb-true, leb-false, lt-leb}
use lib.Dec.{leb}
use lib.ListN.{length, get_or, take, drop, length-drop, take-append-drop, get_or-append}
use lib.Seq.{drop-append-le, take-append-le, length-take-le, take_all}
use Rattle.filing.specs.Slots.{places}
use Rattle.image.specs.Words.{place_words, head_words, row_words, account_words}
use Rattle.image.specs.Reading.{slot_from, is_slot, slots_from, are_slots, is_account, fields_from, no_account, account_from}
use Rattle.image.specs.Images.{OwnWords}
use Rattle.image.proofs.Rows.{slot-first, is-slot-first}

-- ---- a place

module _ (own rest : List ℕ) (h : place_words ≤ length own) where
  slot-own : slot_from (own ++ rest) ≡ slot_from own
  slot-own = sym (slot-first (own ++ rest)) ∙ ap slot_from (take-append-le place_words own rest h) ∙ slot-first own

  is-slot-own : is_slot (own ++ rest) ≡ is_slot own
  is-slot-own = sym (is-slot-first (own ++ rest)) ∙ ap is_slot (take-append-le place_words own rest h) ∙ is-slot-first own

-- ---- a row

slots-own : (n : ℕ) (own rest : List ℕ) → n * place_words ≤ length own → slots_from n (own ++ rest) ≡ slots_from n own
unfolding slots_from
slots-own zero own rest h = refl
slots-own (suc n) own rest h =
    rw (slot-own own rest (omega arith), drop-append-le place_words own rest (omega arith), slots-own n (drop place_words own) rest (omega (arith, length-drop place_words own))) refl

are-slots-own : (n : ℕ) (own rest : List ℕ) → n * place_words ≤ length own → are_slots n (own ++ rest) ≡ are_slots n own
unfolding are_slots
are-slots-own zero own rest h = refl
are-slots-own (suc n) own rest h =
    rw (is-slot-own own rest (omega arith), drop-append-le place_words own rest (omega arith), are-slots-own n (drop place_words own) rest (omega (arith, length-drop place_words own))) refl

-- ---- an account

module _ (own rest : List ℕ) (h : account_words ≤ length own) where
  head-own : (i : ℕ) → i < head_words → get_or (own ++ rest) i 0 ≡ get_or own i 0
  head-own i k = get_or-append own rest 0 i (omega arith)

  progress-own : drop head_words (own ++ rest) ≡ drop head_words own ++ rest
  progress-own = drop-append-le head_words own rest (omega arith)

  held-own : drop (head_words + row_words) (own ++ rest) ≡ drop (head_words + row_words) own ++ rest
  held-own = drop-append-le (head_words + row_words) own rest (omega arith)

  is-account-own : is_account (own ++ rest) ≡ is_account own
  unfolding is_account
  is-account-own =
      rw (
        head-own 0 (omega arith),
        progress-own,
        held-own,
        are-slots-own places (drop head_words own) rest (omega (arith, length-drop head_words own)),
        are-slots-own places (drop (head_words + row_words) own) rest (omega (arith, length-drop (head_words + row_words) own)),
      )
      refl

  fields-own : fields_from (own ++ rest) ≡ fields_from own
  unfolding fields_from
  fields-own =
      rw (
        is-account-own,
        head-own 0 (omega arith),
        head-own 1 (omega arith),
        head-own 2 (omega arith),
        head-own 3 (omega arith),
        progress-own,
        held-own,
        slots-own places (drop head_words own) rest (omega (arith, length-drop head_words own)),
        slots-own places (drop (head_words + row_words) own) rest (omega (arith, length-drop (head_words + row_words) own)),
      )
      refl

-- so an account is read from so many words alone
own-account : (words : List ℕ) (from : ℕ) → account_from words from ≡ account_from (take account_words (drop from words)) 0
unfolding account_from
own-account words from = go (leb (from + account_words) (length words)) refl
  where
    own : List ℕ
    own = take account_words (drop from words)

    go : (b : Bool) → leb (from + account_words) (length words) ≡ b
        → cond b (fields_from (drop from words)) no_account ≡ cond (leb account_words (length own)) (fields_from own) no_account
    go true e =
        let room : account_words ≤ length (drop from words) = omega (arith, length-drop from words, leb-true (from + account_words) (length words) e) in
        let size : length own ≡ account_words = length-take-le account_words (drop from words) room in
        rw (le-leb account_words (length own) (omega arith))
        (ap fields_from (sym (take-append-drop account_words (drop from words))) ∙ fields-own own (drop account_words (drop from words)) (omega arith))
    go false e =
        let short : length (drop from words) < account_words = omega (arith, length-drop from words, leb-false (from + account_words) (length words) e) in
        rw (take_all account_words (drop from words) (omega arith), lt-leb account_words (length (drop from words)) short) refl

pub own-words : OwnWords
own-words words other from at e = own-account words from ∙ ap (λ (own : List ℕ). account_from own 0) e ∙ sym (own-account other at)
