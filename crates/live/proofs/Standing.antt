-- The accounts of the register that an image is: as many as a register has, each where its words begin.
-- Assumes nothing.
use Prim.Native.Nat.{ℕ, zero, suc, ◌+◌, ◌<◌}
use native.Mathlib.Nat.{add-zero, zero-add}
use native.Mathlib.Omega.{arith}
use mathlib.Core.Path.{◌≡◌, refl, ap, ◌∙◌}
use mathlib.Core.List.{List}
use lib.ListN.{length, get_or}
use Rattle.image.specs.Words.{account_words}
use Rattle.image.specs.Reading.{account_from}
use Rattle.register.specs.Register.{accounts_of_register, nowhere, account_at}
use Rattle.live.specs.Registers.{word_at, accounts_from, register_of}

pub length-accounts_from : (n : ℕ) (words : List ℕ) (from : ℕ) → length (accounts_from n words from) ≡ n
unfolding accounts_from
length-accounts_from zero words from = refl
length-accounts_from (suc n) words from = ap suc (length-accounts_from n words (from + account_words))

pub account-stands : (n : ℕ) (words : List ℕ) (from i : ℕ) → i < n → get_or (accounts_from n words from) i nowhere ≡ account_from words (from + word_at i)
unfolding accounts_from
account-stands zero words from i h = absurd (omega arith)
account-stands (suc n) words from zero h = rw add-zero refl
account-stands (suc n) words from (suc i) h =
    let behind : from + account_words + word_at i ≡ from + word_at (suc i) = omega arith in
    account-stands n words (from + account_words) i (omega arith) ∙ ap (account_from words) behind

-- the account of a number
pub account-of-image : (words : List ℕ) (i : ℕ) → i < accounts_of_register → account_at (register_of words) i ≡ account_from words (word_at i)
account-of-image words i h = account-stands accounts_of_register words 0 i h ∙ rw zero-add refl
