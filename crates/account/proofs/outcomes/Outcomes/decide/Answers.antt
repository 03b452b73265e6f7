-- With no free place the request is held, else what is known of the outcomes decides.
-- Assumes nothing.
use Rattle.std.proofs.Common.{◌∙◌, ap₂, arith}
use Rattle.account.specs.inside.Known.{verdict_by}
use Rattle.account.proofs.First.{first-ranged}
use Rattle.account.proofs.Decided.{decided-full, decided-known}
use Rattle.account.proofs.outcomes.Outcomes.decide.Goals as goal

pub returns-then-progressing-ge-PROGRESS : goal.returns-then-progressing-ge-PROGRESS
returns-then-progressing-ge-PROGRESS c = decided-full _ c.args.event c.args.progressing c.args.self.now c.if-progressing-ge-PROGRESS.true

pub returns : goal.returns
returns c =
    let a = c.args in
    decided-known _ a.event a.progressing a.self.now first-ranged (omega arith) c.verdict_of-verdict.result c.reason.result
    (c.verdict_of-verdict.ensures ∙ ap₂ verdict_by c.every.ensures c.some.ensures) c.reason.ensures
