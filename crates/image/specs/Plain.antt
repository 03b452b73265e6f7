-- The image of any account, word by word, and what contents that no account has read as (docs/REGISTER.md, 15.2 and 15.3): the definitions of this crate said a second time, in plain
-- numbers and over all values. A word that stands elsewhere, or another number in it, would be seen here.
-- Assumes nothing.
use Rattle.std.specs.Prelude.{ℕ, ◌+◌, ◌*◌, ◌≤◌, ◌<◌, min, ◌≡◌, ◌↔◌, ◌⊎◌, List, [], ◌∷◌, ◌++◌, map, length, get_or, replicate}
use Rattle.events.specs.declared.Event.TheVariants.{Open, Withdraw, Deposit, Close}
use Rattle.events.specs.declared.Life.TheVariants.{New, Opened, Closed}
use Rattle.filing.specs.declared.Decision.TheVariants.{Undecided, Committed}
use Rattle.filing.specs.declared.Slot.{Slot}
use Rattle.account.specs.declared.Account.{Account}
use Rattle.image.specs.Words.{most_word, life_word, decision_word, filed_words, event_place, amount_place, decision_place, place_words, head_words, row_words, account_words, words_of_slot, words_of_slots, words_of}
use Rattle.image.specs.Reading.{too_many, account_from}
use Rattle.image.specs.Images.{AreWords, Kept}

-- a place: transaction, second, event, amount, decision
pub record PlacePlain (t s a : ℕ) : Type 0 where
  pub opens : words_of_slot (record { transaction = t; filed = record { second = s }; event = Open a; decision = Undecided }) ≡ t ∷ s ∷ 0 ∷ a ∷ 0 ∷ []
  pub withdraws : words_of_slot (record { transaction = t; filed = record { second = s }; event = Withdraw a; decision = Undecided }) ≡ t ∷ s ∷ 1 ∷ a ∷ 0 ∷ []
  pub deposits : words_of_slot (record { transaction = t; filed = record { second = s }; event = Deposit a; decision = Undecided }) ≡ t ∷ s ∷ 2 ∷ a ∷ 0 ∷ []
  pub closes : words_of_slot (record { transaction = t; filed = record { second = s }; event = Close; decision = Undecided }) ≡ t ∷ s ∷ 3 ∷ 0 ∷ 0 ∷ []
  pub opens_committed : words_of_slot (record { transaction = t; filed = record { second = s }; event = Open a; decision = Committed }) ≡ t ∷ s ∷ 0 ∷ a ∷ 1 ∷ []
  pub withdraws_committed : words_of_slot (record { transaction = t; filed = record { second = s }; event = Withdraw a; decision = Committed }) ≡ t ∷ s ∷ 1 ∷ a ∷ 1 ∷ []
  pub deposits_committed : words_of_slot (record { transaction = t; filed = record { second = s }; event = Deposit a; decision = Committed }) ≡ t ∷ s ∷ 2 ∷ a ∷ 1 ∷ []
  pub closes_committed : words_of_slot (record { transaction = t; filed = record { second = s }; event = Close; decision = Committed }) ≡ t ∷ s ∷ 3 ∷ 0 ∷ 1 ∷ []

-- a row of places, used and unused ones alike, in their order
pub record RowPlain (x : Slot) (row : List Slot) : Type 0 where
  pub none : words_of_slots [] ≡ []
  pub more : words_of_slots (x ∷ row) ≡ words_of_slot x ++ words_of_slots row

-- an account: life, balance, the counts, the row in progress and then the row of those held; a count that no word holds is the highest word
pub record AccountPlain (b n m : ℕ) (progress held : List Slot) : Type 0 where
  pub new : words_of (record { state = record { life = New; balance = b }; progress = progress; progressing = n; held = held; holding = m })
      ≡ 0 ∷ b ∷ min n 4_294_967_295 ∷ min m 4_294_967_295 ∷ (words_of_slots progress ++ words_of_slots held)
  pub opened : words_of (record { state = record { life = Opened; balance = b }; progress = progress; progressing = n; held = held; holding = m })
      ≡ 1 ∷ b ∷ min n 4_294_967_295 ∷ min m 4_294_967_295 ∷ (words_of_slots progress ++ words_of_slots held)
  pub closed : words_of (record { state = record { life = Closed; balance = b }; progress = progress; progressing = n; held = held; holding = m })
      ≡ 2 ∷ b ∷ min n 4_294_967_295 ∷ min m 4_294_967_295 ∷ (words_of_slots progress ++ words_of_slots held)

-- too few words read as a fresh account with nine events in progress; nine are in progress too where a word is none of its field's, in any place of either row, used or not
pub record NinePlain (words : List ℕ) (from : ℕ) : Type 0 where
  pub short : length words < from + 84
      → let blank : Slot = record { transaction = 0; filed = record { second = 0 }; event = Open 0; decision = Undecided } in
      account_from words from ≡ record { state = record { life = New; balance = 0 }; progress = replicate 8 blank; progressing = 9; held = replicate 8 blank; holding = 0 }
  pub life : from + 84 ≤ length words → 2 < get_or words from 0 → (account_from words from).progressing ≡ 9
  pub event : (row i : ℕ) → from + 84 ≤ length words → (row ≡ 4) ⊎ (row ≡ 44) → i < 8 → 3 < get_or words (from + row + 5 * i + 2) 0 → (account_from words from).progressing ≡ 9
  pub amount : (row i : ℕ) → from + 84 ≤ length words → (row ≡ 4) ⊎ (row ≡ 44) → i < 8 → get_or words (from + row + 5 * i + 2) 0 ≡ 3 → 0 < get_or words (from + row + 5 * i + 3) 0
      → (account_from words from).progressing ≡ 9
  pub decision : (row i : ℕ) → from + 84 ≤ length words → (row ≡ 4) ⊎ (row ≡ 44) → i < 8 → 1 < get_or words (from + row + 5 * i + 4) 0 → (account_from words from).progressing ≡ 9

-- every word is one of its field's: the life, and in each place of either row the event, the amount of a Close, and the decision
pub record EachFits (words : List ℕ) (from : ℕ) : Type 0 where
  pub life : get_or words from 0 ≤ 2
  pub event : (row i : ℕ) → (row ≡ 4) ⊎ (row ≡ 44) → i < 8 → get_or words (from + row + 5 * i + 2) 0 ≤ 3
  pub amount : (row i : ℕ) → (row ≡ 4) ⊎ (row ≡ 44) → i < 8 → get_or words (from + row + 5 * i + 2) 0 ≡ 3 → get_or words (from + row + 5 * i + 3) 0 ≡ 0
  pub decision : (row i : ℕ) → (row ≡ 4) ⊎ (row ≡ 44) → i < 8 → get_or words (from + row + 5 * i + 4) 0 ≤ 1

-- there both counts are their words, however high they are, and the balance is always its word
pub record CountsPlain (words : List ℕ) (from : ℕ) : Type 0 where
  pub progressing : from + 84 ≤ length words → EachFits words from → (account_from words from).progressing ≡ get_or words (from + 2) 0
  pub holding : from + 84 ≤ length words → (account_from words from).holding ≡ get_or words (from + 3) 0
  pub balance : from + 84 ≤ length words → (account_from words from).state.balance ≡ get_or words (from + 1) 0

-- an account as it is kept, both ways: eight places in each row, and counts that are words, whatever words
abbrev pub KeptPlain : Type 0
KeptPlain =
    (a : Account)
    → Kept a ↔ ((length a.progress ≡ 8) × (length a.held ≡ 8) × (a.progressing ≤ 4_294_967_295) × (a.holding ≤ 4_294_967_295))

-- a list of numbers up to the highest word is one of words
pub record Word : Type 0 where
  pub none : AreWords []
  pub more : (word : ℕ) (words : List ℕ) → word ≤ 4_294_967_295 → AreWords words → AreWords (word ∷ words)

-- the words of a life; how many words there are, and where in a place they stand
pub record SizesPlain : Type 0 where
  pub lives : map life_word (New ∷ Opened ∷ Closed ∷ []) ≡ 0 ∷ 1 ∷ 2 ∷ []
  pub decisions : map decision_word (Undecided ∷ Committed ∷ []) ≡ 0 ∷ 1 ∷ []
  pub words : head_words ∷ place_words ∷ row_words ∷ account_words ∷ [] ≡ 4 ∷ 5 ∷ 40 ∷ 84 ∷ []
  pub places : filed_words ∷ event_place ∷ amount_place ∷ decision_place ∷ [] ≡ 1 ∷ 2 ∷ 3 ∷ 4 ∷ []
  pub most : most_word ∷ too_many ∷ [] ≡ 4_294_967_295 ∷ 9 ∷ []

pub record PlainHolds : Type 0 where
  pub sizes : SizesPlain
  pub place : (t s a : ℕ) → PlacePlain t s a
  pub row : (x : Slot) (row : List Slot) → RowPlain x row
  pub account : (b n m : ℕ) (progress held : List Slot) → AccountPlain b n m progress held
  pub nine : (words : List ℕ) (from : ℕ) → NinePlain words from
  pub counts : (words : List ℕ) (from : ℕ) → CountsPlain words from
  pub kept : KeptPlain
  pub words : Word
