-- Calls on zeroed memory, word by word (docs/REGISTER.md, 15.2 and 15.6 to 15.9): antt computes them from the definitions alone.
-- Assumes nothing.
use Rattle.std.specs.Prelude.{ℕ, ◌≡◌, List, [], ◌∷◌, ◌++◌, take, replicate}
use Rattle.text.specs.Quoted.{quoted}
use Rattle.live.specs.First.{exported_call_of, exported_look_of, exported_line_of}
use Rattle.live.specs.Exports.{ExportedCall}

-- on account 2 at second 101: Open 258 under 7, its commit, Withdraw 5 under 9, Withdraw 259 under 9
abbrev pub opening : List ℕ
opening = 1 ∷ 0 ∷ 0 ∷ 0 ∷ 7 ∷ 0 ∷ 2 ∷ 0 ∷ 0 ∷ 0 ∷ 101 ∷ 0 ∷ 0 ∷ 1 ∷ 2 ∷ []

abbrev pub commit : List ℕ
commit = 5 ∷ 0 ∷ 0 ∷ 0 ∷ 7 ∷ 0 ∷ 2 ∷ 0 ∷ 0 ∷ 0 ∷ 101 ∷ []

abbrev pub withdrawal : List ℕ
withdrawal = 2 ∷ 0 ∷ 0 ∷ 0 ∷ 9 ∷ 0 ∷ 2 ∷ 0 ∷ 0 ∷ 0 ∷ 101 ∷ 0 ∷ 0 ∷ 0 ∷ 5 ∷ []

abbrev pub overdrawal : List ℕ
overdrawal = 2 ∷ 0 ∷ 0 ∷ 0 ∷ 9 ∷ 0 ∷ 2 ∷ 0 ∷ 0 ∷ 0 ∷ 101 ∷ 0 ∷ 0 ∷ 1 ∷ 3 ∷ []

-- an image in which account 2 begins with these words, and everything else is 0
abbrev pub beginning : List ℕ → List ℕ
beginning words = replicate 168 0 ++ words ++ replicate 1_163 0

abbrev pub called : (image message : List ℕ) → ExportedCall
called image message = exported_call_of image message (replicate 323 165) (8 ∷ 9 ∷ 10 ∷ [])

-- life, balance, in progress, held; then the first place: transaction, second, event, amount, decision; then the transaction of the second place, and three words more
abbrev pub opened : List ℕ
opened = beginning (0 ∷ 0 ∷ 1 ∷ 0 ∷ 7 ∷ 101 ∷ 0 ∷ 258 ∷ 0 ∷ 0 ∷ 0 ∷ 0 ∷ 0 ∷ [])

abbrev pub committed : List ℕ
committed = beginning (1 ∷ 258 ∷ 0 ∷ 0 ∷ 0 ∷ 0 ∷ 0 ∷ 0 ∷ 0 ∷ 0 ∷ 0 ∷ 0 ∷ 0 ∷ [])

abbrev pub withdrawn : List ℕ
withdrawn = beginning (1 ∷ 258 ∷ 1 ∷ 0 ∷ 9 ∷ 101 ∷ 1 ∷ 5 ∷ 0 ∷ 0 ∷ 0 ∷ 0 ∷ 0 ∷ [])

-- kind, transaction, account, second, event, amount, outcomes weighed, and the reason of a rejection
abbrev pub accepted : List ℕ
accepted = 17 ∷ 0 ∷ 0 ∷ 0 ∷ 7 ∷ 0 ∷ 2 ∷ 0 ∷ 0 ∷ 0 ∷ 101 ∷ 1 ∷ 0 ∷ 0 ∷ 1 ∷ 2 ∷ 0 ∷ 1 ∷ []

abbrev pub rejected : List ℕ
rejected = 23 ∷ 0 ∷ 0 ∷ 0 ∷ 9 ∷ 0 ∷ 2 ∷ 0 ∷ 0 ∷ 0 ∷ 101 ∷ 2 ∷ 0 ∷ 0 ∷ 1 ∷ 3 ∷ 0 ∷ 1 ∷ 3 ∷ []

abbrev pub older_rejected : List ℕ
older_rejected = 18 ∷ 0 ∷ 0 ∷ 0 ∷ 9 ∷ 0 ∷ 2 ∷ 0 ∷ 0 ∷ 0 ∷ 101 ∷ 2 ∷ 0 ∷ 0 ∷ 1 ∷ 3 ∷ 0 ∷ 1 ∷ []

pub record VectorsHold : Type 0 where
  pub opens : (called (replicate 1_344 0) opening).image ≡ opened
  pub open_counts : (called (replicate 1_344 0) opening).counts ≡ 15 ∷ 18 ∷ 10 ∷ []
  pub commits : (called opened commit).image ≡ committed
  pub commit_counts : (called opened commit).counts ≡ 11 ∷ 31 ∷ 10 ∷ []
  pub withdraw : (called committed withdrawal).image ≡ withdrawn
  -- once more: refused with 6, and no word changes
  pub again : called withdrawn withdrawal ≡ record { answer = 6; image = withdrawn; entries = replicate 323 165; counts = 0 ∷ 0 ∷ 10 ∷ [] }
  -- an image that ends before the account's last word: 5
  pub short : (called (take 251 withdrawn) withdrawal).answer ≡ 5
  -- the outcomes: opened, 253 steps and one applied; there is no third
  pub look : exported_look_of withdrawn 2 1 (9 ∷ 9 ∷ 9 ∷ 9 ∷ []) ≡ record { answer = 0; state = 1 ∷ 253 ∷ 1 ∷ 9 ∷ [] }
  pub no_third : exported_look_of withdrawn 2 2 (9 ∷ 9 ∷ []) ≡ record { answer = 12; state = 9 ∷ 9 ∷ [] }
  -- the entry of the opening, and its line
  pub entry : take 18 (called (replicate 1_344 0) opening).entries ≡ accepted
  pub line : exported_line_of (accepted ++ (20 ∷ [])) (replicate 74 0) (8 ∷ 9 ∷ [])
      ≡ record { answer = 28; line = quoted "accepted 7 2 101 open 258 1\n" ++ replicate 46 0; counts = 18 ∷ 28 ∷ [] }
  -- a withdrawal of more than there is: rejected with reason 3, no word changes; its line, and that of the same entry in kind 18
  pub overdraws : (called committed overdrawal).image ≡ committed
  pub entry3 : take 19 (called committed overdrawal).entries ≡ rejected
  pub line3 : (exported_line_of rejected (replicate 72 0) []).line ≡ quoted "rejected 9 2 101 withdraw 259 1 3\n" ++ replicate 38 0
  pub older : (exported_line_of older_rejected (replicate 72 0) []).line ≡ quoted "rejected 9 2 101 withdraw 259 1\n" ++ replicate 40 0
  pub no_account : (exported_look_of withdrawn 16 0 []).answer ≡ 3
