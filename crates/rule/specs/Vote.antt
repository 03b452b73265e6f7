-- The vote on a request, plainly: its verdict, its number of outcomes and its reason, by the outcomes' numbers, with no word of how a request is weighed (docs/REGISTER.md, 4.4, 4.5 and 4.7).
-- Assumes nothing.
use Rattle.std.specs.Prelude.{ℕ, ◌≤◌, ◌<◌, ◌^◌, ◌≡◌, ◌↔◌, true, false, List, [], length}
use Rattle.std.proofs.Math.Option.{some}
use Rattle.rule.specs.Rule.{Rule, guard, Slot, accept, reject, hold, Weighing}
use Rattle.rule.specs.Outcome.{undecided_of, bit}
use Rattle.rule.specs.Weigh.{decide_behind}
use Rattle.rule.specs.Exact.{chosen_state}

module _ {G S E B : Type 0} (R : Rule S E B) where
  -- the vote on an event behind these held requests, over these events in progress, from this applied state
  pub record Vote (ahead progress : List (Slot G E)) (s : S) (e : E) (w : Weighing) : Type 0 where
    -- behind another held request, or with no place free, it is held with 0;
    pub behind : (ahead ≡ [] → ⊥) → (w.verdict ≡ hold) × (w.weighed ≡ 0)
    pub full : R.progress_limit ≤ length progress → (w.verdict ≡ hold) × (w.weighed ≡ 0)
    -- else it is accepted exactly if its guard is true in all outcomes,
    pub accepted :
        ahead ≡ [] → length progress < R.progress_limit
        → (w.verdict ≡ accept) ↔ ((k : ℕ) → k < 2 ^ undecided_of progress → guard R e (chosen_state R progress (bit k) s) ≡ true)
    -- rejected exactly if it is false in all,
    pub rejected :
        ahead ≡ [] → length progress < R.progress_limit
        → (w.verdict ≡ reject) ↔ ((k : ℕ) → k < 2 ^ undecided_of progress → guard R e (chosen_state R progress (bit k) s) ≡ false)
    -- held exactly if it is true in one and false in another,
    pub held :
        ahead ≡ [] → length progress < R.progress_limit
        → (w.verdict ≡ hold)
        ↔ (((k : ℕ) × (k < 2 ^ undecided_of progress) × (guard R e (chosen_state R progress (bit k) s) ≡ true))
        × ((k : ℕ) × (k < 2 ^ undecided_of progress) × (guard R e (chosen_state R progress (bit k) s) ≡ false)))
    -- and counts the outcomes, 2 to the power u
    pub weighed : ahead ≡ [] → length progress < R.progress_limit → w.weighed ≡ 2 ^ undecided_of progress
    -- a rejection has a reason,
    pub reasoned : w.verdict ≡ reject → (n : ℕ) × (w.reason ≡ some n)
    -- and a number is the reason exactly if the vote is a rejection and that is the reason against the event where every committed event is applied and no undecided one is
    pub reason : (n : ℕ) → (w.reason ≡ some n) ↔ ((w.verdict ≡ reject) × (R.reason e (chosen_state R progress (λ (i : ℕ). false) s) ≡ some n))

  -- and a request is decided so exactly if that is the vote on it
  abbrev pub VoteExactly : (ahead progress : List (Slot G E)) → S → E → Weighing → Type 0
  VoteExactly ahead progress s e w = (decide_behind R ahead e s progress ≡ w) ↔ Vote ahead progress s e w
