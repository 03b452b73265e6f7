-- Account and image (docs/REGISTER.md, 15): the one is the other's, and what is no image reads as no account in order.
-- Assumes nothing.
use Rattle.std.specs.Prelude.{ℕ, ◌+◌, ◌≤◌, ◌<◌, ◌≡◌, true, false, List, ◌++◌, length, get_or, take, drop, replicate}
use Rattle.rule.specs.Rule.{Rule}
use Rattle.events.specs.declared.Event.{Event}
use Rattle.events.specs.declared.Event.TheVariants.{Open}
use Rattle.events.specs.declared.Life.TheVariants.{New}
use Rattle.events.specs.declared.State.{State}
use Rattle.filing.specs.declared.Decision.TheVariants.{Undecided}
use Rattle.filing.specs.declared.Slot.{Slot}
use Rattle.account.specs.declared.Account.{Account}
use Rattle.account.specs.InOrder.{in_order_by}
use Rattle.image.specs.Words.{words_of, stored_in, stored_to}
use Rattle.image.specs.Reading.{account_from}

-- each of them is a word
abbrev pub AreWords : List ℕ → Type 0
AreWords words = (i : ℕ) → get_or words i 0 ≤ 4_294_967_295

-- an account as it is kept, with eight places in each row, whose counts are words
pub record Kept (a : Account) : Type 0 where
  pub progress : length a.progress ≡ 8
  pub held : length a.held ≡ 8
  pub progressing : a.progressing ≤ 4_294_967_295
  pub holding : a.holding ≤ 4_294_967_295

-- an image has 84 words, and reads back as its account, whatever stands before and after it;
pub record ReadsBack (a : Account) : Type 0 where
  pub size : length (words_of a) ≡ 84
  pub back : (before after : List ℕ) → account_from (before ++ words_of a ++ after) (length before) ≡ a

-- so no two accounts have one image
abbrev pub OneAccount : Type 0
OneAccount = (a b : Account) → Kept a → Kept b → words_of a ≡ words_of b → a ≡ b

-- an account is read from its own 84 words, and from no others
abbrev pub OwnWords : Type 0
OwnWords = (words other : List ℕ) (from at : ℕ) → take 84 (drop from words) ≡ take 84 (drop at other) → account_from words from ≡ account_from other at

-- what reads as an account in order, by any rule with no more in progress than there are places, is that account's image; so no two contents read as one account in order,
-- and one that is no account's image reads as an account that is not in order
pub record WrittenBack (R : Rule State Event ℕ) (words : List ℕ) (from : ℕ) : Type 0 where
  pub room : in_order_by R (account_from words from) ≡ true → from + 84 ≤ length words
  pub kept : in_order_by R (account_from words from) ≡ true → Kept (account_from words from)
  pub image : in_order_by R (account_from words from) ≡ true → take 84 (drop from words) ≡ words_of (account_from words from)
  pub none : ((a : Account) → Kept a → take 84 (drop from words) ≡ words_of a → ⊥) → in_order_by R (account_from words from) ≡ false

-- zeroed words are the image of a fresh account
abbrev pub blanks : List Slot
blanks = replicate 8 (record { transaction = 0; filed = record { second = 0 }; event = Open 0; decision = Undecided })

abbrev pub fresh : Account
fresh =
    record { state = record { life = New; balance = 0 }; progress = blanks; progressing = 0; held = blanks; holding = 0 }

pub record Zeroed : Type 0 where
  pub image : words_of fresh ≡ replicate 84 0
  pub reads : (size from : ℕ) → from + 84 ≤ size → account_from (replicate size 0) from ≡ fresh

-- the 84 words from `from` on are the image, and no other word changes; without room for all of them none does. So of every account with eight places in each row, whatever its counts are:
-- one that no word holds is no reason not to store
pub record Stores (words : List ℕ) (from : ℕ) (a : Account) : Type 0 where
  pub room : from + 84 ≤ length words → stored_in words from a ≡ take from words ++ words_of a ++ drop (from + 84) words
  pub none : length words < from + 84 → stored_in words from a ≡ words

-- where the words read as an account in order, another one in order is stored whole if so many places of it are stored as either of the two uses: behind them both have blanks
abbrev pub UsedSuffice : Rule State Event ℕ → Type 0
UsedSuffice R = (words : List ℕ) (from n m : ℕ) (a : Account)
    → in_order_by R (account_from words from) ≡ true → in_order_by R a ≡ true → length a.progress ≡ 8 → length a.held ≡ 8
    → (account_from words from).progressing ≤ n → a.progressing ≤ n → (account_from words from).holding ≤ m → a.holding ≤ m
    → stored_to words from a n m ≡ stored_in words from a

pub record ImagesHold : Type 0 where
  pub read : (a : Account) → Kept a → ReadsBack a
  pub one : OneAccount
  pub own : OwnWords
  pub written : (R : Rule State Event ℕ) → R.progress_limit ≤ 8 → (words : List ℕ) (from : ℕ) → AreWords words → WrittenBack R words from
  pub zeroed : Zeroed
  pub stores : (words : List ℕ) (from : ℕ) (a : Account) → length a.progress ≡ 8 → length a.held ≡ 8 → Stores words from a
  pub used : (R : Rule State Event ℕ) → R.progress_limit ≤ 8 → UsedSuffice R
