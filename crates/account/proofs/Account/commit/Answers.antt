-- What is refused is refused by what judging found; what is taken is committed where it was found.
-- Assumes nothing.
use Rattle.std.proofs.Common.{ap, sym, ◌∙◌, arith}
use Rattle.std.proofs.lemmas.Result.{err_from_is_err_and}
use Rattle.rule.specs.Rule.{Message, commit}
use Rattle.events.specs.declared.Event.{Event}
use Rattle.filing.specs.declared.Filed.{Filed}
use Rattle.account.specs.Steps.{Stepped}
use Rattle.account.proofs.First.{first-ranged}
use Rattle.account.proofs.Ordered.{ordered}
use Rattle.account.proofs.Judged.{number_in, commit-refusal, marked-there}
use Rattle.account.proofs.Answered.{step-disorder, step-refused, step-taken}
use Rattle.account.proofs.Ended.{commit-settled}
use Rattle.account.proofs.Account.commit.Goals as goal

pub returns-in_err-judge : goal.returns-in_err-judge
returns-in_err-judge c =
    let h = c.in_err-judge.ensures in
    let same = step-disorder _ c.args.self.now (commit c.args.transaction c.args.filed) h.0 in
    let p = err_from_is_err_and c.from_residual.result c.from_residual.ensures.1 in
    record { answer = rw (p.1, p.2, h.1) (ap (λ (s : Stepped). s.answer) same); account = ap (λ (s : Stepped). s.account) same }

pub returns-in_err-at : goal.returns-in_err-at
returns-in_err-at c =
    let a = c.args in
    let self = a.self.now in
    let m : Message Filed Event = commit c.args.transaction c.args.filed in
    let o = c.in_ok-judge.ensures.0 in
    let j = c.in_ok-judge.ensures.1 in
    let found = c.in_ok-judge.field-0.found in
    let r = c.for_commit in
    let own = ordered _ self first-ranged (omega arith) (omega arith) o in
    let says = ap number_in r.ensures ∙ commit-refusal _ self (omega arith) a.transaction a.filed o found j.finds in
    let same = step-refused _ self m o r.result says _ c.in_err-at.was in
    let p = err_from_is_err_and c.from_residual-in_err-at.result c.from_residual-in_err-at.ensures.1 in
    record { answer = rw (p.1, p.2) (ap (λ (s : Stepped). s.answer) same); account = ap (λ (s : Stepped). s.account) same }

pub settle-requires : goal.settle-requires
settle-requires c =
    let own = ordered _ c.args.self.now first-ranged (omega arith) (omega arith) c.in_ok-judge.ensures.0 in
    (own.progressing, own.holding)

pub returns : goal.returns
returns c =
    let a = c.args in
    let self = a.self.now in
    let m : Message Filed Event = commit c.args.transaction c.args.filed in
    let o = c.in_ok-judge.ensures.0 in
    let j = c.in_ok-judge.ensures.1 in
    let found = c.in_ok-judge.field-0.found in
    let r = c.for_commit in
    let own = ordered _ self first-ranged (omega arith) (omega arith) o in
    let says = ap number_in r.ensures ∙ commit-refusal _ self (omega arith) a.transaction a.filed o found j.finds in
    let there = marked-there _ self (omega arith) a.transaction a.filed o found j.finds c.in_ok-at.at (sym r.ensures ∙ c.in_ok-at.was) in
    let same =
    commit-settled _ self (omega arith) own a.transaction a.filed c.in_ok-at.at there.0 there.1 c.noted.result c.noted.ensures c.settle.new.self c.settle.result (rw c.committed.ensures at c.settle.ensures)
    ∙ step-taken _ self m o r.result says _ c.in_ok-at.was in
    record { answer = ap (λ (s : Stepped). s.answer) same; account = ap (λ (s : Stepped). s.account) same }
