-- The image of a register, and the register of an image (docs/REGISTER.md, 15.1, 15.3 and 15.4).
-- Assumes nothing.
use Rattle.std.specs.Prelude.{ℕ, zero, suc, ◌+◌, ◌*◌, List, [], ◌∷◌, ◌++◌}
use Rattle.account.specs.declared.Account.{Account}
use Rattle.image.specs.Words.{account_words, words_of}
use Rattle.image.specs.Reading.{account_from}
use Rattle.register.specs.declared.Register.{Register}
use Rattle.register.specs.Register.{accounts_of_register}

-- where the words of an account begin, and how many a register has
abbrev pub word_at : ℕ → ℕ
word_at i = i * account_words

abbrev pub register_words : ℕ
register_words = accounts_of_register * account_words

-- one account after the other
unfoldable pub words_of_accounts : List Account → List ℕ
words_of_accounts [] = []
words_of_accounts (a ∷ accounts) = words_of a ++ words_of_accounts accounts

abbrev pub image_of : Register → List ℕ
image_of r = words_of_accounts r.accounts

-- and back: every content reads as some register
unfoldable pub accounts_from : (count : ℕ) (words : List ℕ) (from : ℕ) → List Account
accounts_from zero words from = []
accounts_from (suc count) words from = account_from words from ∷ accounts_from count words (from + account_words)

abbrev pub register_of : List ℕ → Register
register_of words = record { accounts = accounts_from accounts_of_register words 0 }
