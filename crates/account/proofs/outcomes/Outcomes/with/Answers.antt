-- By the decision: the range after the event, or perhaps after it, and outcome 0 after it, are what the helpers ensure.
-- Assumes nothing.
use Rattle.std.proofs.Common.{refl, sym, ◌∙◌, arith}
use Rattle.events.proofs.Guards.{stored-after, stored-perhaps}
use Rattle.account.proofs.First.{first-ranged}
use Rattle.account.proofs.Known.{knows_after, knows-perhaps}
use Rattle.account.proofs.outcomes.Outcomes.with.Goals as goal

pub returns-then-is_undecided : goal.returns-then-is_undecided
returns-then-is_undecided c =
    let a = c.args in
    λ s xs t g k.
    knows-perhaps _ first-ranged s xs a.self k t g a.event a.decision c.perhaps.result a.self.first c.every.result c.every.ensures
    (sym c.is_undecided.ensures ∙ c.if-is_undecided.true) refl
    (λ ordered all. c.perhaps.ensures ∙ stored-perhaps a.event a.self.range ordered (omega (arith, c.well_formed)) all)

pub returns-else-is_undecided : goal.returns-else-is_undecided
returns-else-is_undecided c =
    let a = c.args in
    λ s xs t g k.
    knows_after _ first-ranged s xs a.self k t g a.event a.decision c.after.result c.effect.result c.every-else-is_undecided.result c.every-else-is_undecided.ensures
    (sym c.is_undecided.ensures ∙ c.if-is_undecided.false) c.effect.ensures
    (λ ordered all. c.after.ensures ∙ stored-after a.event a.self.range ordered (omega (arith, c.well_formed)) all)
