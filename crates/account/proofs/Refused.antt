-- The number of a step's refusal is the rule's, with 5 in front, and a refusal returns the account that came in: by cases on the account's order and on the rule's refusal. By any rule of the events.
-- Assumes nothing.
use Prim.Native.Nat.{ℕ}
use mathlib.Core.Path.{◌≡◌, refl, sym, ap, ◌∙◌}
use mathlib.Core.Bool.{Bool, true, false, cond, not, ◌||◌}
use mathlib.Core.Option.{Option, none, some, some-injective}
use lib.Dec.{leb}
use lib.ListN.{length}
use Rattle.rule.specs.Lists.{some_of}
use Rattle.rule.specs.Rule as rule
use Rattle.rule.specs.Step as rule-step
use Rattle.rule.specs.Call as Rule-Call
use Rattle.rule.proofs.Refusals.{ended, gives}
use Rattle.events.specs.declared.Event.{Event}
use Rattle.events.specs.declared.State.{State}
use Rattle.filing.specs.declared.Filed.{Filed}
use Rattle.refusal.specs.Numbers.{number_of, numbered}
use Rattle.refusal.proofs.Literal.{literal-holds}
use Rattle.account.specs.declared.Account.{Account}
use Rattle.account.specs.Places.{RuleAccount, lists_of}
use Rattle.account.specs.InOrder.{in_order_by}
use Rattle.account.specs.Steps.{Stepped, refusal_in, refused_step, refused_by, stepped_by, step_by}

-- each number of the rule is that of a refusal
abbrev told : Option ℕ → Option ℕ
told none = none
told (some n) = some (number_of (numbered n))

refusal-told : (R : rule.Rule State Event ℕ) (x : RuleAccount) (m : rule.Message Filed Event) → told (Rule-Call.refusal R x m) ≡ Rule-Call.refusal R x m
refusal-told R x (rule.request t g e) = go (some_of (rule-step.named t) x.progress || some_of (rule-step.named t) x.held) (leb R.held_limit (length x.held))
  where
    go : (b c : Bool) → told (cond b (some 6) (cond c (some 7) none)) ≡ cond b (some 6) (cond c (some 7) none)
    go true c = refl
    go false true = refl
    go false false = refl
refusal-told R x (rule.commit t g) =
    go (some_of (rule-step.named t) x.progress || some_of (rule-step.named t) x.held) (some_of (rule-step.named t) x.held) (some_of (Rule-Call.named_committed t) x.progress)
  where
    go : (b c d : Bool) → told (cond (not b) (some 8) (cond c (some 9) (cond d (some 10) none))) ≡ cond (not b) (some 8) (cond c (some 9) (cond d (some 10) none))
    go false c d = refl
    go true true d = refl
    go true false true = refl
    go true false false = refl
refusal-told R x (rule.abort t g) = go (some_of (rule-step.named t) x.progress || some_of (rule-step.named t) x.held) (some_of (Rule-Call.named_committed t) x.progress)
  where
    go : (b c : Bool) → told (cond (not b) (some 8) (cond c (some 11) none)) ≡ cond (not b) (some 8) (cond c (some 11) none)
    go false c = refl
    go true true = refl
    go true false = refl

-- so a refusal of the rule's number has that number
pub refused-number : (R : rule.Rule State Event ℕ) (x : RuleAccount) (m : rule.Message Filed Event) (n : ℕ) → (Rule-Call.call R x m).answer ≡ Rule-Call.refused n → number_of (numbered n) ≡ n
refused-number R x m n h = let given = (gives R x m n).0 h in some-injective (number_of (numbered n)) n (ap told (sym given) ∙ refusal-told R x m ∙ given)

module _ (R : rule.Rule State Event ℕ) (a : Account) (m : rule.Message Filed Event) where
  -- the rule's call by its refusal
  abbrev pub by : Option ℕ → Stepped
  by o = stepped_by a (Rule-Call.call_by o (lists_of a) (rule-step.step R (lists_of a) m)).account (Rule-Call.call_by o (lists_of a) (rule-step.step R (lists_of a) m)).answer

  by-told : (o : Option ℕ) → refusal_in (by o).answer ≡ told o
  by-told none = refl
  by-told (some n) = refl

  by-same : (o : Option ℕ) (n : ℕ) → refusal_in (by o).answer ≡ some n → by o ≡ refused_by a n
  by-same none n h = absurd (ended n h)
  by-same (some k) n h = ap (refused_step a) (sym (literal-holds.told (numbered k)) ∙ ap numbered (let z : number_of (numbered k) ≡ n = cc in z))

  -- 5 where the account is not in order, else the rule's number
  pub step-answer : refusal_in (step_by R a m).answer ≡ cond (not (in_order_by R a)) (some 5) (Rule-Call.refusal R (lists_of a) m)
  unfolding step_by Rule-Call.call
  step-answer = go (in_order_by R a)
    where
      go : (b : Bool) → refusal_in (cond b (by (Rule-Call.refusal R (lists_of a) m)) (refused_by a 5)).answer ≡ cond (not b) (some 5) (Rule-Call.refusal R (lists_of a) m)
      go true = by-told (Rule-Call.refusal R (lists_of a) m) ∙ refusal-told R (lists_of a) m
      go false = refl

  -- a refusal returns the account that came in, and nothing else
  pub refusal-same : (n : ℕ) → refusal_in (step_by R a m).answer ≡ some n → step_by R a m ≡ refused_by a n
  unfolding step_by Rule-Call.call
  refusal-same n h = same (in_order_by R a) h
    where
      same : (b : Bool) → refusal_in (cond b (by (Rule-Call.refusal R (lists_of a) m)) (refused_by a 5)).answer ≡ some n
          → cond b (by (Rule-Call.refusal R (lists_of a) m)) (refused_by a 5) ≡ refused_by a n
      same true k = by-same (Rule-Call.refusal R (lists_of a) m) n k
      same false k = ap (refused_by a) (let z : 5 ≡ n = cc in z)
