-- An account with a value of its own in every field, and its image, word by word; and contents that no account has (docs/REGISTER.md, 15.2 and 15.3).
-- Assumes nothing.
use Rattle.std.specs.Prelude.{ℕ, ◌≡◌, true, false, List, [], ◌∷◌, ◌++◌, set, replicate}
use Rattle.events.specs.declared.Event.{Event}
use Rattle.events.specs.declared.Event.TheVariants.{Open, Withdraw, Deposit, Close}
use Rattle.events.specs.declared.Life.TheVariants.{Closed}
use Rattle.filing.specs.declared.Decision.{Decision}
use Rattle.filing.specs.declared.Decision.TheVariants.{Undecided, Committed}
use Rattle.filing.specs.declared.Slot.{Slot}
use Rattle.account.specs.declared.Account.{Account}
use Rattle.account.specs.First.{in_order_of}
use Rattle.image.specs.Words.{words_of, stored_in}
use Rattle.image.specs.Reading.{account_from}

abbrev pub place : (transaction second : ℕ) → Event → Decision → Slot
place t s e d = record { transaction = t; filed = record { second = s }; event = e; decision = d }

abbrev pub progress : List Slot
progress =
    place 1001 1101 (Open 1201) Undecided ∷
    place 1002 1102 (Withdraw 1202) Undecided ∷
    place 1003 1103 (Deposit 1203) Committed ∷
    place 1004 1104 Close Committed ∷
    place 1005 1105 (Open 1205) Undecided ∷
    place 1006 1106 (Withdraw 1206) Undecided ∷
    place 1007 1107 (Deposit 1207) Committed ∷
    place 1008 1108 Close Committed ∷
    []

abbrev pub held : List Slot
held =
    place 2001 2101 (Withdraw 2201) Undecided ∷
    place 2002 2102 (Deposit 2202) Committed ∷
    place 2003 2103 Close Committed ∷
    place 2004 2104 (Open 2204) Undecided ∷
    place 2005 2105 (Withdraw 2205) Undecided ∷
    place 2006 2106 (Deposit 2206) Committed ∷
    place 2007 2107 Close Committed ∷
    place 2008 2108 (Open 2208) Undecided ∷
    []

abbrev pub account : Account
account = record { state = record { life = Closed; balance = 900 }; progress = progress; progressing = 5; held = held; holding = 6 }

abbrev pub words : List ℕ
words =
    2 ∷ 900 ∷ 5 ∷ 6 ∷
    1001 ∷ 1101 ∷ 0 ∷ 1201 ∷ 0 ∷
    1002 ∷ 1102 ∷ 1 ∷ 1202 ∷ 0 ∷
    1003 ∷ 1103 ∷ 2 ∷ 1203 ∷ 1 ∷
    1004 ∷ 1104 ∷ 3 ∷ 0 ∷ 1 ∷
    1005 ∷ 1105 ∷ 0 ∷ 1205 ∷ 0 ∷
    1006 ∷ 1106 ∷ 1 ∷ 1206 ∷ 0 ∷
    1007 ∷ 1107 ∷ 2 ∷ 1207 ∷ 1 ∷
    1008 ∷ 1108 ∷ 3 ∷ 0 ∷ 1 ∷
    2001 ∷ 2101 ∷ 1 ∷ 2201 ∷ 0 ∷
    2002 ∷ 2102 ∷ 2 ∷ 2202 ∷ 1 ∷
    2003 ∷ 2103 ∷ 3 ∷ 0 ∷ 1 ∷
    2004 ∷ 2104 ∷ 0 ∷ 2204 ∷ 0 ∷
    2005 ∷ 2105 ∷ 1 ∷ 2205 ∷ 0 ∷
    2006 ∷ 2106 ∷ 2 ∷ 2206 ∷ 1 ∷
    2007 ∷ 2107 ∷ 3 ∷ 0 ∷ 1 ∷
    2008 ∷ 2108 ∷ 0 ∷ 2208 ∷ 0 ∷
    []

-- zeroed words, with one changed
abbrev pub zeroed : List ℕ
zeroed = replicate 84 0

abbrev pub NotInOrder : List ℕ → Type 0
NotInOrder content = in_order_of (account_from content 0) ≡ false

pub record VectorsHold : Type 0 where
  pub image : words_of account ≡ words
  pub reads : account_from (7 ∷ 8 ∷ (words ++ (9 ∷ []))) 2 ≡ account
  pub stores : stored_in (7 ∷ 8 ∷ (zeroed ++ (9 ∷ []))) 2 account ≡ 7 ∷ 8 ∷ (words ++ (9 ∷ []))
  -- a count that no word holds
  pub high : words_of (record { state = account.state; progress = []; progressing = 4_294_967_296; held = []; holding = 0 }) ≡ 2 ∷ 900 ∷ 4_294_967_295 ∷ 0 ∷ []
  -- zeroed words are in order; with a life above 2, an event above 3, a Close with an amount, or a decision above 1 they are not, nor with a word too few
  pub fresh : in_order_of (account_from zeroed 0) ≡ true
  pub life : NotInOrder (set zeroed 0 3)
  pub event : NotInOrder (set zeroed 6 4)
  pub amount : NotInOrder (set (set zeroed 6 3) 7 1)
  pub decision : NotInOrder (set zeroed 8 2)
  pub last_decision : NotInOrder (set zeroed 83 2)
  pub short : NotInOrder (replicate 83 0)
