-- An account stored in an image: it reads as that account there, and every other account as before.
-- Assumes nothing.
use Prim.Native.Nat.{ℕ, zero, suc, ◌+◌, ◌-◌, ◌≤◌, ◌<◌}
use native.Mathlib.Nat.{add-zero}
use native.Mathlib.Omega.{arith}
use mathlib.Core.Path.{◌≡◌, refl, ap, sym, ◌∙◌}
use mathlib.Core.Logic.{◌⊎◌, inl, inr}
use mathlib.Core.List.{List, ◌++◌, append_assoc}
use lib.ListN.{length, take, drop, set, length-append, length-drop, take-append-drop}
use lib.Seq.{length-take-le, take-append-le, drop-append-le, drop-append-add, drop-drop, take_at, drop_at}
use Rattle.account.specs.declared.Account.{Account}
use Rattle.image.specs.Words.{account_words, words_of, stored_in}
use Rattle.image.specs.Reading.{account_from}
use Rattle.image.specs.Images.{Kept}
use Rattle.image.proofs.Images.{images-hold}
use Rattle.live.specs.Registers.{word_at, accounts_from}

-- past the front of a list
past : (front behind : List ℕ) (from k : ℕ) → length front ≡ k → k ≤ from → drop from (front ++ behind) ≡ drop (from - k) behind
past front behind from k e h =
    let split : from ≡ length front + (from - k) = omega arith in
    ap (λ (n : ℕ). drop n (front ++ behind)) split ∙ drop-append-add front behind (from - k)

-- what stands in a list before and behind a part of it does not go by the part
module _ (before own other behind : List ℕ) (same : length own ≡ length other) where
  part-before : (from size : ℕ) → from + size ≤ length before → take size (drop from (before ++ own ++ behind)) ≡ take size (drop from (before ++ other ++ behind))
  part-before from size h =
      let at_most : size ≤ length (drop from before) = omega (arith, length-drop from before) in
      let one : drop from (before ++ own ++ behind) ≡ drop from before ++ (own ++ behind) = rw append_assoc (drop-append-le from before (own ++ behind) (omega arith)) in
      let two : drop from (before ++ other ++ behind) ≡ drop from before ++ (other ++ behind) = rw append_assoc (drop-append-le from before (other ++ behind) (omega arith)) in
      rw (one, two) (take-append-le size (drop from before) (own ++ behind) at_most ∙ sym (take-append-le size (drop from before) (other ++ behind) at_most))

  part-behind : (from : ℕ) → length before + length own ≤ from → drop from (before ++ own ++ behind) ≡ drop from (before ++ other ++ behind)
  part-behind from h =
      let k = length before + length own in
      past (before ++ own) behind from k (length-append before own) h
      ∙ sym (past (before ++ other) behind from k (length-append before other ∙ ap (◌+◌ (length before)) (sym same)) h)

module _ (words : List ℕ) (at : ℕ) (a : Account) (k : Kept a) (room : at + account_words ≤ length words) where
  abbrev before : List ℕ
  before = take at words

  abbrev own : List ℕ
  own = take account_words (drop at words)

  abbrev behind : List ℕ
  behind = drop (at + account_words) words

  stored_is : stored_in words at a ≡ before ++ words_of a ++ behind
  stored_is = (images-hold.stores words at a k.progress k.held).room room

  words_are : words ≡ before ++ own ++ behind
  words_are =
      sym (take-append-drop at words) ∙ ap (λ (l : List ℕ). before ++ l) (sym (take-append-drop account_words (drop at words)) ∙ ap (λ (l : List ℕ). own ++ l) (drop-drop account_words at words))
      ∙ sym (append_assoc before own behind)

  length_before : length before ≡ at
  length_before = length-take-le at words (omega arith)

  as_many : length (words_of a) ≡ length own
  as_many = (images-hold.read a k).size ∙ sym (length-take-le account_words (drop at words) (omega (arith, length-drop at words)))

  -- the account itself,
  pub stored-reads : account_from (stored_in words at a) at ≡ a
  stored-reads = rw stored_is (ap (account_from (before ++ words_of a ++ behind)) (sym length_before) ∙ (images-hold.read a k).back before behind)

  -- and the words of every other one, before it and behind it
  pub stored-others : (from : ℕ) → (from + account_words ≤ at) ⊎ (at + account_words ≤ from) → take account_words (drop from (stored_in words at a)) ≡ take account_words (drop from words)
  stored-others from (inl h) =
      rw stored_is (part-before before (words_of a) own behind as_many from account_words (omega (arith, length_before)) ∙ ap (λ (l : List ℕ). take account_words (drop from l)) (sym words_are))
  stored-others from (inr h) =
      let past : length before + length (words_of a) ≤ from = omega (arith, length_before, (images-hold.read a k).size) in
      rw stored_is (ap (take account_words) (part-behind before (words_of a) own behind as_many from past) ∙ ap (λ (l : List ℕ). take account_words (drop from l)) (sym words_are))

  pub stored_other : (from : ℕ) → (from + account_words ≤ at) ⊎ (at + account_words ≤ from) → account_from (stored_in words at a) from ≡ account_from words from
  stored_other from h = images-hold.own (stored_in words at a) words from from (stored-others from h)

  pub stored-before : take at (stored_in words at a) ≡ take at words
  stored-before = rw (stored_is, append_assoc) (take_at before (words_of a ++ behind) at length_before)

  pub stored-behind : drop (at + account_words) (stored_in words at a) ≡ drop (at + account_words) words
  stored-behind =
      rw stored_is (drop_at (before ++ words_of a) behind (at + account_words) (length-append before (words_of a) ∙ omega (arith, length_before, (images-hold.read a k).size)))

  pub stored-size : length (stored_in words at a) ≡ length words
  stored-size = rw stored_is (omega (arith, length-append (before ++ words_of a) behind, length-append before (words_of a), length_before, (images-hold.read a k).size, length-drop (at + account_words) words))

  pub stored-own : take account_words (drop at (stored_in words at a)) ≡ words_of a
  stored-own =
      rw (stored_is, append_assoc) (ap (take account_words) (drop_at before (words_of a ++ behind) at length_before) ∙ take_at (words_of a) behind account_words (images-hold.read a k).size)

-- among the accounts from `from` on
others-behind : (n : ℕ) (words : List ℕ) (from at : ℕ) (a : Account) → Kept a → at + account_words ≤ length words → at + account_words ≤ from
    → accounts_from n (stored_in words at a) from ≡ accounts_from n words from
unfolding accounts_from
others-behind zero words from at a k room h = refl
others-behind (suc n) words from at a k room h =
    rw (stored_other words at a k room from (inr h), others-behind n words (from + account_words) at a k room (omega arith)) refl

pub stored_at : (n : ℕ) (words : List ℕ) (from i : ℕ) (a : Account) → Kept a → i < n → from + word_at i + account_words ≤ length words
    → accounts_from n (stored_in words (from + word_at i) a) from ≡ set (accounts_from n words from) i a
unfolding accounts_from
stored_at zero words from i a k h room = absurd (omega arith)
stored_at (suc n) words from zero a k h room =
    rw (add-zero, stored-reads words from a k (omega arith), others-behind n words (from + account_words) from a k (omega arith) (omega arith)) refl
stored_at (suc n) words from (suc i) a k h room =
    let place : from + word_at (suc i) ≡ from + account_words + word_at i = omega arith in
    rw (stored_other words (from + word_at (suc i)) a k room from (inl (omega arith)), place, stored_at n words (from + account_words) i a k (omega arith) (omega arith)) refl
