-- Sequences told from their end: a run of events and a sequence of messages, with one more behind them (docs/REGISTER.md, 13.3).
-- Assumes nothing.
use Rattle.std.specs.Prelude.{◌≡◌, ◌↔◌, true, List, [], ◌∷◌, ◌++◌}
use Rattle.rule.specs.Rule.{Rule, guard, Account, Message}
use Rattle.rule.specs.Run.{run, GuardsHold}
use Rattle.rule.specs.Call.{call, reached}
use Rattle.rule.specs.History.{history}

module _ {S E B : Type 0} (R : Rule S E B) where
  pub record RunsOn (es : List E) (s : S) : Type 0 where
    -- no event leaves the state; each one has its effect on the state that those before it lead to,
    pub none : run R [] s ≡ s
    pub more : (e : E) → run R (es ++ (e ∷ [])) s ≡ R.effect e (run R es s)
    -- and finds its guard true there
    pub guards : GuardsHold R es s ↔ ((before behind : List E) (e : E) → es ≡ before ++ (e ∷ behind) → guard R e (run R before s) ≡ true)

module _ {G S E B : Type 0} (R : Rule S E B) where
  pub record CallsOn (a : Account G S E) (ms : List (Message G E)) : Type 0 where
    -- no message leaves the account and shows nothing; each one is called on the account that those before it lead to, and its answer is seen behind theirs
    pub none : reached R a [] ≡ a
    pub none_seen : history R a [] ≡ []
    pub more : (m : Message G E) → reached R a (ms ++ (m ∷ [])) ≡ (call R (reached R a ms) m).account
    pub more_seen :
        (m : Message G E) → history R a (ms ++ (m ∷ [])) ≡ history R a ms ++ (record { message = m; answer = (call R (reached R a ms) m).answer } ∷ [])
