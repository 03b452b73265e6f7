-- A request that is taken, in places: it stands behind the events in progress, behind the requests held, or nowhere, by its verdict. By any rule of the events.
-- Assumes nothing.
use Prim.Native.Nat.{ℕ, ◌+◌, ◌<◌}
use mathlib.Core.Path.{◌≡◌, refl, sym, ap, ◌∙◌}
use mathlib.Core.Bool.{Bool, true, false, cond}
use mathlib.Core.List.{List, [], ◌∷◌, ◌++◌}
use mathlib.Core.Option.{Option, none, some}
use native.Mathlib.Omega.{arith}
use lib.Dec.{leb}
use lib.ListN.{length, get_or, set, length-append}
use borrow.Author.Tests.{leb-false}
use Rattle.std.specs.Prelude.{Ok}
use Rattle.rule.specs.Lists.{some_of}
use Rattle.rule.specs.Rule as rule
use Rattle.rule.specs.Weigh.{decide_behind}
use Rattle.rule.specs.Step.{named, asked_by, asked}
use Rattle.rule.specs.Call as Rule-Call
use Rattle.rule.specs.Call.{refusal}
use Rattle.rule.proofs.Taken.{free-request}
use Rattle.events.specs.declared.Event.{Event}
use Rattle.events.specs.declared.State.{State}
use Rattle.filing.specs.declared.Filed.{Filed}
use Rattle.filing.specs.declared.Slot.{Slot}
use Rattle.filing.specs.declared.Decision.TheVariants.{Undecided}
use Rattle.filing.specs.declared.Verdict.{Verdict}
use Rattle.filing.specs.declared.Verdict.TheVariants.{Accepted, Rejected, Held}
use Rattle.filing.specs.declared.Weighing.{Weighing}
use Rattle.filing.specs.declared.Entry.{Entry}
use Rattle.filing.specs.declared.Entries.{Entries}
use Rattle.filing.specs.Slots.{RuleSlot, slot_of, place_of, places, blank}
use Rattle.filing.specs.Entries.{is_accepted, verdict_of, weighing_of, entry_of, entries_of, only_entry}
use Rattle.filing.proofs.Slots.{place-slot}
use Rattle.filing.proofs.Filled.{fill-next}
use Rattle.refusal.specs.declared.Refusal.TheVariants.{NotInOrder}
use Rattle.account.specs.declared.Account.{Account}
use Rattle.account.specs.declared.outcomes.Outcomes.{Outcomes}
use Rattle.account.specs.Places.{RuleAccount, padded, lists_of, account_of}
use Rattle.account.specs.InOrder.{in_order_by}
use Rattle.account.specs.Steps.{taken_step, refused_step, entries_in, stepped_by, step_by}
use Rattle.account.specs.inside.Known.{KnowsBy, DecidesBy}
use Rattle.account.specs.inside.Taken.{taken_as, begun}
use Rattle.account.proofs.Padded.{RowOf, progress-row, held-row, state-is, account-is}
use Rattle.account.proofs.Ranged.{Ranged}
use Rattle.account.proofs.Ordered.{ordered}
use Rattle.account.proofs.Taken.{taken_is}

-- a row with one place more
row_more : (row : List Slot) (count : ℕ) (xs : List RuleSlot) (x : Slot) → RowOf row count xs → count < places
    → (set row count x ≡ padded places (xs ++ (slot_of x ∷ []))) × (count + 1 ≡ length (xs ++ (slot_of x ∷ [])))
row_more row count xs x whole free = (
  ap (λ (l : List Slot). set l count x) whole.places'
      ∙ ap (λ (n : ℕ). set (padded places xs) n x) whole.count'
      ∙ ap (set (padded places xs) (length xs)) (sym (place-slot x))
      ∙ fill-next place_of blank places xs (slot_of x) (rw whole.count' at free),
  ap (λ (n : ℕ). n + 1) whole.count' ∙ sym (length-append xs (slot_of x ∷ [])),
)

module _ (R : rule.Rule State Event ℕ) (a : Account) (x : RuleAccount) (lists : a ≡ account_of x) (t : ℕ) (g : Filed) (e : Event) (w : Weighing)
    (decided : weighing_of w ≡ decide_behind R x.held e x.state x.progress) where
  abbrev pub request_slot : Slot
  request_slot = record { transaction = t; filed = g; event = e; decision = Undecided }

  -- what stands behind the vote
  voted-step : (next : Account) (entries : Entries) → entries ≡ only_entry (entry_of (rule.voted t g e (weighing_of w)))
      → next ≡ account_of (asked_by (verdict_of w.verdict) x.state x.progress x.held (slot_of request_slot))
      → taken_step next entries ≡ taken_as (asked R x t g e)
  unfolding asked entries_of
  voted-step next entries only is =
      taken_is next entries (asked_by (verdict_of w.verdict) x.state x.progress x.held (slot_of request_slot)) (rule.voted t g e (weighing_of w) ∷ []) is only
      ∙ ap taken_as (rw (← decided))

  abbrev following : Verdict → RuleAccount
  following v = asked_by (verdict_of v) x.state x.progress x.held (slot_of request_slot)

  module _ (entries : Entries) (only : entries ≡ only_entry (entry_of (rule.voted t g e (weighing_of w)))) where
    pub asked-accept : w.verdict ≡ Accepted → a.progressing < places
        → taken_step (begun a request_slot) entries
        ≡ taken_as (asked R x t g e)
    asked-accept v free =
        let more = row_more a.progress a.progressing x.progress request_slot (progress-row a x lists) free in
        let requests = held-row a x lists in
        voted-step _ entries only
        (account-is _ (following Accepted) (state-is a x lists) more.0 more.1 requests.places' requests.count'
        ∙ ap (λ (z : Verdict). account_of (following z)) (sym v))

    pub asked-reject : w.verdict ≡ Rejected → taken_step a entries ≡ taken_as (asked R x t g e)
    asked-reject v = voted-step a entries only (lists ∙ ap (λ (z : Verdict). account_of (following z)) (sym v))

    pub asked-hold : w.verdict ≡ Held → a.holding < places
        → taken_step (record { state = a.state; progress = a.progress; progressing = a.progressing; held = set a.held a.holding request_slot; holding = a.holding + 1 }) entries
        ≡ taken_as (asked R x t g e)
    asked-hold v free =
        let more = row_more a.held a.holding x.held request_slot (held-row a x lists) free in
        let events = progress-row a x lists in
        voted-step _ entries only
        (account-is _ (following Held) (state-is a x lists) events.places' events.count' more.0 more.1
        ∙ ap (λ (z : Verdict). account_of (following z)) (sym v))

-- what is known where a request is taken: its weighing is the rule's, and there is a place for it
pub record Weighed (R : rule.Rule State Event ℕ) (a : Account) (e : Event) (w : Weighing) : Type 0 where
  pub lists : a ≡ account_of (lists_of a)
  pub decided : weighing_of w ≡ decide_behind R (lists_of a).held e (lists_of a).state (lists_of a).progress
  pub free : is_accepted w.verdict ≡ true → a.progressing < places
  pub room : a.holding < places

pub request-weighed : (R : rule.Rule State Event ℕ) → Ranged R → (a : Account) → length a.progress ≡ places → length a.held ≡ places → (t : ℕ) (g : Filed) (e : Event) → in_order_by R a ≡ true → refusal R (lists_of a) (rule.request t g e) ≡ none
    → (o : Outcomes) → KnowsBy R a.state (lists_of a).progress o → (w : Weighing) → ((requests : List RuleSlot) → a.holding ≡ length requests → DecidesBy R requests e a.progressing o w)
    → Weighed R a e w
unfolding lists_of
request-weighed R ranged a many many_held t g e ok taken o known w decides =
    let own = ordered R a ranged many many_held ok in
    let events = progress-row a (lists_of a) own.lists in
    let requests = held-row a (lists_of a) own.lists in
    let by = decides (lists_of a).held requests.count' in
    let places-left = (free-request (some_of (named t) (lists_of a).progress) (some_of (named t) (lists_of a).held) (leb R.held_limit (length (lists_of a).held)) taken).2 in
    record {
      lists = own.lists;
      decided = by.decided a.state (lists_of a).progress known (known.guards ∙ own.guards) (sym events.count');
      free = λ v. omega (arith, by.free v, ranged.few);
      room = omega (arith, requests.count', leb-false R.held_limit (length (lists_of a).held) places-left, ranged.few_held);
    }

-- a request that is taken has its vote as its only entry
module _ (R : rule.Rule State Event ℕ) (a : Account) (t : ℕ) (g : Filed) (e : Event) (past : Entry) (entries : Entries) where
  abbrev called : Option ℕ → Rule-Call.Called Filed State Event ℕ
  called refused = Rule-Call.call_by refused (lists_of a) (asked R (lists_of a) t g e)

  pub vote-alone : (step_by R a (rule.request t g e)).answer ≡ Ok entries → entries ≡ only_entry (get_or entries.at 0 past)
  unfolding step_by Rule-Call.call asked entries_of
  vote-alone = by (in_order_by R a) (refusal R (lists_of a) (rule.request t g e))
    where
      by : (ordered : Bool) (refused : Option ℕ)
          → (cond ordered (stepped_by a (called refused).account (called refused).answer) (refused_step a NotInOrder)).answer ≡ Ok entries
          → entries ≡ only_entry (get_or entries.at 0 past)
      by false refused h = let z : ◌≡◌ {A = ℕ} 0 1 = cc in absurd (omega arith)
      by true (some n) h = let z : ◌≡◌ {A = ℕ} 0 1 = cc in absurd (omega arith)
      by true none h = let own = ap entries_in h in rw (← own) refl
