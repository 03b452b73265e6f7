-- Rows and lists: the row of a list has that list in its used places and blanks behind them; an account of lists has these lists.
-- Assumes nothing.
use Prim.Native.Nat.{ℕ, ◌-◌}
use mathlib.Core.Path.{◌≡◌, ap, ◌∙◌}
use mathlib.Core.List.{List, map}
use lib.ListN.{length, drop, replicate}
use Rattle.filing.specs.declared.Slot.{Slot}
use Rattle.filing.specs.Slots.{RuleSlot, slot_of, place_of, places, blank}
use Rattle.filing.proofs.Slots.{slots-places}
use Rattle.filing.proofs.Filled.{first-filled, rest-filled}
use Rattle.account.specs.declared.Account.{Account}
use Rattle.account.specs.Places.{RuleAccount, used, padded, lists_of, account_of}

used-padded : (size : ℕ) (xs : List RuleSlot) → used (padded size xs) (length xs) ≡ xs
used-padded size xs = ap (map slot_of) (first-filled place_of blank size xs) ∙ slots-places xs

-- the lists of the account of some lists are these lists
pub lists-account : (a : RuleAccount) → lists_of (account_of a) ≡ a
unfolding lists_of account_of
lists-account a = λ i. record { state = a.state; progress = used-padded places a.progress i; held = used-padded places a.held i }

-- a row that is its list's: the list, its length, the blanks
pub record RowOf (row : List Slot) (count : ℕ) (xs : List RuleSlot) : Type 0 where
  pub places' : row ≡ padded places xs
  pub count' : count ≡ length xs
  pub list : used row count ≡ xs
  pub blanks : drop count row ≡ replicate (places - count) blank

row_of : (row : List Slot) (count : ℕ) (xs : List RuleSlot) → row ≡ padded places xs → count ≡ length xs → RowOf row count xs
row_of row count xs p q =
    record { places' = p; count' = q; list = rw (p, q) (used-padded places xs); blanks = rw (p, q) (rest-filled place_of blank places xs) }

-- the rows of an account that is its lists',
module _ (a : Account) (x : RuleAccount) (lists : a ≡ account_of x) where
  pub progress-row : RowOf a.progress a.progressing x.progress
  unfolding account_of
  progress-row = row_of a.progress a.progressing x.progress (ap (λ (b : Account). b.progress) lists) (ap (λ (b : Account). b.progressing) lists)

  pub held-row : RowOf a.held a.holding x.held
  unfolding account_of
  held-row = row_of a.held a.holding x.held (ap (λ (b : Account). b.held) lists) (ap (λ (b : Account). b.holding) lists)

  pub state-is : a.state ≡ x.state
  unfolding account_of
  state-is = ap (λ (b : Account). b.state) lists

-- and an account of such rows is its lists'
pub account-is : (a : Account) (x : RuleAccount) → a.state ≡ x.state → a.progress ≡ padded places x.progress → a.progressing ≡ length x.progress
    → a.held ≡ padded places x.held → a.holding ≡ length x.held → a ≡ account_of x
unfolding account_of
account-is a x s p n h m = λ i. record { state = s i; progress = p i; progressing = n i; held = h i; holding = m i }
