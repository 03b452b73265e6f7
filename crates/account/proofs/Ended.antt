-- A commit and an abort that are taken, in places: the event that was found is the transaction's, and what is left of an account without a transaction is the account of what is left of its lists. By any rule of the events.
-- Assumes nothing.
use Prim.Native.Nat.{ℕ, ◌≤◌, ◌<◌}
use mathlib.Core.Path.{◌≡◌, refl, sym, ap, ◌∙◌}
use mathlib.Core.Bool.{Bool, true, false, cond, not}
use mathlib.Core.List.{List, [], ◌∷◌, ◌++◌, map}
use mathlib.Core.Option.{none}
use native.Mathlib.Omega.{arith}
use lib.ListN.{length, get_or, length-set}
use lib.Seq.{drop-set-lt}
use Rattle.rule.specs.Lists.{every, some_of, keep}
use Rattle.rule.specs.Rule as rule
use Rattle.rule.specs.Step.{named, mark, without, dropping, after, settle, committing, aborting}
use Rattle.rule.specs.Call.{named_committed, refusal}
use Rattle.rule.specs.InOrder.{without_decision}
use Rattle.rule.proofs.Lists.{and_left, and_right, and_both}
use Rattle.rule.proofs.Apart.{length-keep, apart-left}
use Rattle.rule.proofs.Taken.{free-abort}
use Rattle.events.specs.declared.Event.{Event}
use Rattle.events.specs.declared.State.{State}
use Rattle.filing.specs.declared.Filed.{Filed}
use Rattle.filing.specs.declared.Slot.{Slot}
use Rattle.filing.specs.declared.Entry.{Entry}
use Rattle.filing.specs.declared.Entries.{Entries}
use Rattle.filing.specs.Slots.{RuleSlot, slot_of, committed_slot, is_blank, places, blank}
use Rattle.filing.specs.Entries.{entry_of}
use Rattle.account.specs.declared.Account.{Account}
use Rattle.account.specs.Places.{RuleAccount, used, padded, lists_of, account_of}
use Rattle.account.specs.Steps.{taken_step}
use Rattle.account.specs.inside.Taken.{taken_as, listed, SettlesBy}
use Rattle.account.proofs.Padded.{RowOf, progress-row, held-row, account-is}
use Rattle.account.proofs.Ordered.{Ordered, padded-row, marked-guarded, without-guarded}
use Rattle.account.proofs.Marked.{marked_at, marked-used}
use Rattle.account.proofs.Moved.{moved, moved_all}
use Rattle.account.proofs.Places.{count-used}

every-keep : {A : Type 0} (p q : A → Bool) (xs : List A) → every p xs ≡ true → every p (keep q xs) ≡ true
every-keep p q [] h = refl
every-keep p q (x ∷ xs) h = go (q x) (every-keep p q xs (and_right (p x) (every p xs) h))
  where
    go : (b : Bool) → every p (keep q xs) ≡ true → every p (cond b (x ∷ keep q xs) (keep q xs)) ≡ true
    go true k = and_both (p x) (every p (keep q xs)) (and_left (p x) (every p xs) h) k
    go false k = k

module _ (R : rule.Rule State Event ℕ) (a : Account) (many : length a.progress ≡ places) (own : Ordered R a) (t : ℕ) (g : Filed) where
  -- a commit, with the event marked at the place that was found
  module _ (at : ℕ) (there : at < a.progressing) (is : (get_or a.progress at blank).transaction ≡ t) where
    abbrev pub marked_account : Account
    marked_account = record { state = a.state; progress = marked_at at a.progress; progressing = a.progressing; held = a.held; holding = a.holding }

    abbrev marked_lists : RuleAccount
    marked_lists = listed (lists_of a).state (mark t (lists_of a).progress) (lists_of a).held

    marked-is : marked_account ≡ account_of marked_lists
    unfolding lists_of
    marked-is =
        let here = committed_slot (get_or a.progress at blank) in
        let within : a.progressing ≤ length a.progress = omega (arith, own.progressing) in
        let size : length (marked_at at a.progress) ≡ places = length-set a.progress at here ∙ many in
        let marks = marked-used t a.progress a.progressing at there within is (apart-left (lists_of a).progress (lists_of a).held own.transactions) in
        let requests = held-row a (lists_of a) own.lists in
        account-is marked_account marked_lists refl
        (padded-row (marked_at at a.progress) a.progressing size own.progressing (ap (every is_blank) (drop-set-lt a.progressing a.progress at here there) ∙ own.blanks) ∙ ap (padded places) marks)
        (sym (count-used (marked_at at a.progress) a.progressing (omega arith)) ∙ ap length marks)
        requests.places' requests.count'

    pub commit-settled : (first : Entry) → first ≡ entry_of (rule.noted t g) → (next : Account) (entries : Entries) → SettlesBy R marked_account first next entries
        → taken_step next entries ≡ taken_as (committing R (lists_of a) t g)
    unfolding committing
    commit-settled first e next entries settles =
        settles marked_lists (rule.noted t g) marked-is own.decisions e (marked-guarded R (lists_of a).state (lists_of a).progress own.guards t)

  -- what an abort leaves
  abbrev pub left_lists : RuleAccount
  left_lists = listed (lists_of a).state (without t (lists_of a).progress) (without t (lists_of a).held)

  fewer : (xs : List RuleSlot) → length (without t xs) ≤ length xs
  fewer xs = length-keep (λ (x : RuleSlot). not (named t x)) xs

  -- a row whose used places are without the transaction
  row-left : (row : List Slot) (count : ℕ) (xs : List RuleSlot) → RowOf row count xs → count ≤ places → moved (without t (used row count)) count row ≡ padded places (without t xs)
  row-left row count xs whole few =
      let same : without t (used row count) ≡ without t xs = ap (without t) whole.list in
      rw same (moved_all (without t xs) count row (omega (arith, fewer xs, whole.count')) places few whole.blanks)

  module _ (rest : Account) (state : rest.state ≡ a.state)
      (progress : rest.progress ≡ moved (without t (used a.progress a.progressing)) a.progressing a.progress) (progressing : rest.progressing ≡ length (without t (used a.progress a.progressing)))
      (held : rest.held ≡ moved (without t (used a.held a.holding)) a.holding a.held) (holding : rest.holding ≡ length (without t (used a.held a.holding))) where
    rest-is : rest ≡ account_of left_lists
    unfolding lists_of
    rest-is =
        let events = progress-row a (lists_of a) own.lists in
        let requests = held-row a (lists_of a) own.lists in
        account-is rest left_lists state
        (progress ∙ row-left a.progress a.progressing (lists_of a).progress events own.progressing) progressing
        (held ∙ row-left a.held a.holding (lists_of a).held requests own.holding) holding

    -- an abort, with the slot that was found
    pub abort-settled : refusal R (lists_of a) (rule.abort t g) ≡ none → (found : Slot)
        → keep (named t) (lists_of a).progress ++ keep (named t) (lists_of a).held ≡ slot_of found ∷ []
        → (first : Entry) → first ≡ entry_of (dropping (slot_of found)) → (next : Account) (entries : Entries) → SettlesBy R rest first next entries → taken_step next entries ≡ taken_as (aborting R (lists_of a) t)
    unfolding aborting
    abort-settled taken found slot first is next entries settles =
        let p = some_of (named t) (lists_of a).progress in
        let h = some_of (named t) (lists_of a).held in
        let free = free-abort p h (some_of (named_committed t) (lists_of a).progress) taken in
        let guards = without-guarded R (lists_of a).state (lists_of a).progress own.guards t free.1 in
        let decisions = every-keep without_decision (λ (x : RuleSlot). not (named t x)) (lists_of a).held own.decisions in
        settles left_lists (dropping (slot_of found)) rest-is decisions is guards
        ∙ ap (λ (xs : List RuleSlot). taken_as (after (map dropping xs) (settle R (lists_of a).state (without t (lists_of a).progress) (without t (lists_of a).held)))) (sym slot)
