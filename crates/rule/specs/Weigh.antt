-- How a request is decided (docs/REGISTER.md, 4.4, 4.5 and 4.7).
-- Assumes nothing.
use Rattle.std.specs.Prelude.{ℕ, cond, List, [], ◌∷◌, leb, length}
use Rattle.std.proofs.Math.Option.{Option, none}
use Rattle.rule.specs.Lists.{every, some_of}
use Rattle.rule.specs.Rule.{Rule, guard, Slot, Verdict, accept, reject, hold, Weighing}
use Rattle.rule.specs.Outcome.{outcome, outcomes}

-- a request held unweighed has the count 0 and no reason (4.4)
abbrev pub unweighed : Weighing
unweighed = record { verdict = hold; weighed = 0; reason = none }

-- a rejection has its reason, and no other verdict has one (4.7)
abbrev pub reason_by : Verdict → Option ℕ → Option ℕ
reason_by accept reason = none
reason_by reject reason = reason
reason_by hold reason = none

module _ {S E B : Type 0} (R : Rule S E B) where
  -- the verdict on an event by the states in all outcomes (4.5)
  unfoldable pub weigh : E → List S → Verdict
  weigh e states = cond (every (guard R e) states) accept (cond (some_of (guard R e) states) hold reject)

module _ {G S E B : Type 0} (R : Rule S E B) where
  -- a request that is weighed: its count is the length of the list of outcomes (4.5), and the reason of a rejection is the one in outcome 0 (4.7)
  abbrev pub weighing : E → S → List (Slot G E) → Weighing
  weighing e s progress =
      record {
        verdict = weigh R e (outcomes R progress s);
        weighed = length (outcomes R progress s);
        reason = reason_by (weigh R e (outcomes R progress s)) (R.reason e (outcome R progress 0 s));
      }

  -- a request with nothing held before it: unweighed if no place is free in progress (4.4), else weighed
  unfoldable pub decide : E → S → List (Slot G E) → Weighing
  decide e s progress =
      cond (leb R.progress_limit (length progress)) unweighed (weighing e s progress)

  -- behind a held request no request is weighed (4.4)
  abbrev pub decide_behind : List (Slot G E) → E → S → List (Slot G E) → Weighing
  decide_behind [] e s progress = decide e s progress
  decide_behind (x ∷ held) e s progress = unweighed
