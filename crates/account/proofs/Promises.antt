-- What the steps of an account promise: by cases on the account's order and on the rule's refusal; a test of the rule's slots is one of the places' own fields. By any rule of the events.
-- Assumes nothing.
use Prim.Native.Nat.{ℕ}
use mathlib.Core.Path.{◌≡◌, refl, sym, ◌∙◌, ap, fun_ext}
use mathlib.Core.Bool.{Bool, true, false, cond, ◌&&◌, not}
use mathlib.Core.List.{List, map}
use mathlib.Core.Option.{Option, none, some}
use lib.Dec.{eqb}
use lib.ListN.{take, length-map}
use Rattle.rule.specs.Lists.{some_of}
use Rattle.rule.specs.Rule as rule
use Rattle.rule.specs.Step.{named, step}
use Rattle.rule.specs.Call as Rule-Call
use Rattle.rule.specs.Tests.{first_of}
use Rattle.rule.proofs.Lists.{some-map}
use Rattle.rule.proofs.Refusals.{ended}
use Rattle.events.specs.declared.Event.{Event}
use Rattle.events.specs.declared.State.{State}
use Rattle.filing.specs.declared.Filed.{Filed}
use Rattle.filing.specs.declared.Decision.{Decision}
use Rattle.filing.specs.declared.Decision.TheVariants.{Undecided, Committed}
use Rattle.filing.specs.declared.Slot.{Slot}
use Rattle.filing.specs.Slots.{slot_of, decision_of}
use Rattle.filing.specs.Entries.{RuleEntry, entry_of, most, blank_entry, entries_of}
use Rattle.filing.proofs.Filled.{first-filled}
use Rattle.account.specs.declared.Account.{Account}
use Rattle.account.specs.Places.{lists_of}
use Rattle.account.specs.InOrder.{in_order_by}
use Rattle.account.specs.Steps.{Stepped, refusal_in, entries_in, refused_by, step_by}
use Rattle.account.specs.inside.Taken.{taken_as}
use Rattle.account.specs.Promises.{is_committed, stands, stands_committed, step_tests_by, StepPromiseBy}
use Rattle.account.proofs.Ranged.{Ranged}
use Rattle.account.proofs.Padded.{lists-account}
use Rattle.account.proofs.Refused.{by, step-answer, refusal-same}
use Rattle.account.proofs.Kept.{step-few}

-- a step's answer by the rule's refusal, whatever the rule
module _ (R : rule.Rule State Event ℕ) (a : Account) (m : rule.Message Filed Event) where
  -- a step that is not refused is the rule's, in places
  step-taken : refusal_in (step_by R a m).answer ≡ none
      → step_by R a m ≡ taken_as (record { account = (Rule-Call.call R (lists_of a) m).account; entries = Rule-Call.written (Rule-Call.call R (lists_of a) m).answer })
  unfolding step_by Rule-Call.call taken_as
  step-taken h = go (in_order_by R a) (Rule-Call.refusal R (lists_of a) m) (sym (step-answer R a m) ∙ h)
    where
      go : (b : Bool) (o : Option ℕ) → cond (not b) (some 5) o ≡ none
          → cond b (by R a m o) (refused_by a 5)
          ≡ taken_as
          (record {
            account = (Rule-Call.call_by o (lists_of a) (step R (lists_of a) m)).account;
            entries = Rule-Call.written (Rule-Call.call_by o (lists_of a) (step R (lists_of a) m)).answer;
          })
      go true none k = refl
      go true (some n) k = absurd (ended n (sym k))
      go false o k = absurd (ended 5 (sym k))

-- a test of the rule's slots is one of the places' own fields
module _ (t : ℕ) (row : List Slot) (count : ℕ) where
  stands-named : some_of (named t) (map slot_of (take count row)) ≡ stands t row count
  stands-named = some-map (named t) slot_of (take count row)

  committed-test : (x : Slot) → Rule-Call.named_committed t (slot_of x) ≡ (eqb t x.transaction && is_committed x.decision)
  committed-test x = by-decision (eqb t x.transaction) x.decision refl
    where
      by-decision : (b : Bool) (d : Decision) → eqb t x.transaction ≡ b → Rule-Call.named_committed t (rule.slot x.transaction x.filed x.event (decision_of d)) ≡ (b && is_committed d)
      by-decision true Undecided h = refl
      by-decision true Committed h = h
      by-decision false Undecided h = refl
      by-decision false Committed h = h

  stands-committed : some_of (Rule-Call.named_committed t) (map slot_of (take count row)) ≡ stands_committed t row count
  stands-committed = some-map (Rule-Call.named_committed t) slot_of (take count row) ∙ ap (λ (p : Slot → Bool). some_of p (take count row)) (fun_ext committed-test)

-- so the rule's refusals are the tests behind the first
first-test : (R : rule.Rule State Event ℕ) (a : Account) (m : rule.Message Filed Event)
    → cond (not (in_order_by R a)) (some 5) (Rule-Call.refusal R (lists_of a) m) ≡ first_of (step_tests_by R R.held_limit a m)
unfolding lists_of
first-test R a (rule.request t g e) =
    rw (stands-named t a.progress a.progressing, stands-named t a.held a.holding, length-map (take a.holding a.held) slot_of)
first-test R a (rule.commit t g) =
    rw (stands-named t a.progress a.progressing, stands-named t a.held a.holding, stands-committed t a.progress a.progressing)
first-test R a (rule.abort t g) =
    rw (stands-named t a.progress a.progressing, stands-named t a.held a.holding, stands-committed t a.progress a.progressing)

-- the entries of a list are the first of the places
entries-list : (xs : List RuleEntry) → take (entries_of xs).count (entries_of xs).at ≡ map entry_of xs
unfolding entries_of
entries-list xs = first-filled entry_of blank_entry most xs

pub step-promise : (R : rule.Rule State Event ℕ) → Ranged R → StepPromiseBy R R.held_limit
unfolding entries_of taken_as
step-promise R ranged a m =
    let called = Rule-Call.call R (lists_of a) m in
    record {
      refusal = step-answer R a m ∙ first-test R a m;
      unchanged = λ n h. ap (λ (c : Stepped). c.account) (refusal-same R a m n h);
      silent = λ n h. ap (λ (c : Stepped). entries_in c.answer) (refusal-same R a m n h);
      lists = λ h. ap (λ (c : Stepped). lists_of c.account) (step-taken R a m h) ∙ lists-account called.account;
      entries = λ h. ap (λ (c : Stepped). take (entries_in c.answer).count (entries_in c.answer).at) (step-taken R a m h) ∙ entries-list (Rule-Call.written called.answer);
      few = step-few R ranged.few ranged.few_held a m;
    }
