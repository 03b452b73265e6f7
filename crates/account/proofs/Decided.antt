-- The decision by what is known of the outcomes is the rule's, where each event in progress finds its guard; with no free place it is to hold. Of any rule that a range answers for.
-- Assumes nothing.
use Prim.Native.Nat.{ℕ, ◌≤◌, ◌<◌}
use mathlib.Core.Path.{◌≡◌, refl, ap, ◌∙◌}
use mathlib.Core.Bool.{Bool, true, false, cond, false≢true}
use mathlib.Core.List.{List, []}
use borrow.Author.Tests.{le-leb, lt-leb}
use Rattle.rule.specs.Rule as rule
use Rattle.rule.specs.Outcome.{outcome, outcomes}
use Rattle.rule.specs.Weigh.{reason_by, weigh, decide}
use Rattle.events.specs.declared.Event.{Event}
use Rattle.events.specs.declared.State.{State}
use Rattle.events.specs.Events.{reason_byte, reason_from}
use Rattle.events.specs.Range.{range_of, every_in, some_in}
use Rattle.events.proofs.Answers.{outcomes-every, outcomes-some}
use Rattle.filing.specs.declared.Verdict.{Verdict}
use Rattle.filing.specs.declared.Verdict.TheVariants.{Held}
use Rattle.filing.specs.declared.Weighing.{Weighing}
use Rattle.filing.specs.Slots.{RuleSlot}
use Rattle.filing.specs.Entries.{verdict_of}
use Rattle.filing.proofs.Slots.{reason-forth}
use Rattle.account.specs.declared.outcomes.Outcomes.{Outcomes}
use Rattle.account.specs.inside.Known.{DecidesBy, verdict_by}
use Rattle.account.proofs.Ranged.{Ranged}

by_tests : (a b : Bool) → verdict_of (verdict_by a b) ≡ cond a rule.accept (cond b rule.hold rule.reject)
by_tests true b = refl
by_tests false true = refl
by_tests false false = refl

abbrev unweighed : Weighing
unweighed = record { verdict = Held; weighed = 0; reason = 0 }

module _ (R : rule.Rule State Event ℕ) (e : Event) (n : ℕ) (o : Outcomes) where
  -- no place is free in progress
  pub decided-full : R.progress_limit ≤ n → DecidesBy R [] e n o unweighed
  unfolding decide
  decided-full h = record { free = λ v. absurd (false≢true v); decided = λ s xs k g q. rw (q, le-leb R.progress_limit n h) }

  -- else the verdict by what is known of the outcomes is the rule's,
  by-outcomes : Ranged R → (s : State) (xs : List RuleSlot) → o.range ≡ range_of (outcomes R xs s)
      → verdict_of (verdict_by (every_in e o.range) (some_in e o.range)) ≡ weigh R e (outcomes R xs s)
  unfolding weigh
  by-outcomes ranged s xs range =
      rw (by_tests (every_in e o.range) (some_in e o.range), range, outcomes-every R ranged.tells s xs e, outcomes-some R ranged.tells s xs e) refl

  -- and so is the reason by outcome 0
  pub decided-known : Ranged R → n < R.progress_limit → (v : Verdict) (r : ℕ) → v ≡ verdict_by (every_in e o.range) (some_in e o.range)
      → r ≡ reason_byte (reason_by (verdict_of v) (R.reason e o.first)) → DecidesBy R [] e n o (record { verdict = v; weighed = o.number; reason = r })
  unfolding decide
  decided-known ranged h v r is why =
      record {
        free = λ _. h;
        decided = λ s xs k g q.
            let verdict : verdict_of v ≡ weigh R e (outcomes R xs s) = ap verdict_of is ∙ by-outcomes ranged s xs (k.range g) in
            let first : R.reason e o.first ≡ R.reason e (outcome R xs 0 s) = ap (R.reason e) k.first in
            rw (q, lt-leb R.progress_limit n h, why, reason_kept ranged (verdict_of v) o.first, verdict, k.number, first);
      }
    where
      -- no reason is 0, so that its number tells it
      reason_kept : Ranged R → (w : rule.Verdict) (s : State) → reason_from (reason_byte (reason_by w (R.reason e s))) ≡ reason_by w (R.reason e s)
      reason_kept ranged rule.accept s = refl
      reason_kept ranged rule.reject s = reason-forth (R.reason e s) (ranged.reasoned e s)
      reason_kept ranged rule.hold s = refl
