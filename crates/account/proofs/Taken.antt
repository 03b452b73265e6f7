-- A step that is taken, in places: its account and its entries, and the entries one after the other.
-- Assumes nothing.
use Prim.Native.Nat.{◌+◌, ◌<◌}
use mathlib.Core.Path.{◌≡◌, sym, ap}
use mathlib.Core.List.{List, [], ◌∷◌, ◌++◌, append_assoc}
use lib.ListN.{set, length-append}
use Rattle.rule.specs.Rule as rule
use Rattle.rule.specs.Step.{Step, after}
use Rattle.filing.specs.declared.Entry.{Entry}
use Rattle.filing.specs.declared.Entries.{Entries}
use Rattle.filing.specs.Entries.{RuleEntry, entry_of, entries_of, most, blank_entry}
use Rattle.filing.proofs.Filled.{fill-next}
use Rattle.account.specs.declared.Account.{Account}
use Rattle.account.specs.Places.{RuleAccount, account_of}
use Rattle.account.specs.Steps.{taken_step}
use Rattle.account.specs.inside.Taken.{taken_as}

-- entries of a list, with one more
pub entries_with : (entries : Entries) (entry : Entry) (xs : List RuleEntry) (x : RuleEntry) → entries.count < most → entries ≡ entries_of xs → entry ≡ entry_of x
    → ◌≡◌ {A = Entries} (record { at = set entries.at entries.count entry; count = entries.count + 1 }) (entries_of (xs ++ (x ∷ [])))
unfolding entries_of
entries_with entries entry xs x h e same =
    rw (e, same)
    (λ i. record { at = fill-next entry_of blank_entry most xs x (rw e at h) i; count = sym (length-append xs (x ∷ [])) i })

-- an account of lists, with entries of a list
pub taken_is : (a : Account) (entries : Entries) (x : RuleAccount) (xs : List RuleEntry) → a ≡ account_of x → entries ≡ entries_of xs
    → taken_step a entries ≡ (taken_as (record { account = x; entries = xs }))
unfolding taken_as
taken_is a entries x xs p q = λ i. taken_step (p i) (q i)

-- entries that are written first
module _ {G S E B : Type 0} where
  pub after-after : (xs ys : List (rule.Entry G E B)) (step : Step G S E B) → after (xs ++ ys) step ≡ after xs (after ys step)
  after-after xs ys step = ap (λ (es : List (rule.Entry G E B)). record { account = step.account; entries = es }) (append_assoc xs ys step.entries)
