-- What is refused is refused by what judging found; of what is taken the transaction is taken out.
-- Assumes nothing.
use Rattle.std.proofs.Common.{◌++◌, drop, refl, ap, sym, ◌∙◌, arith}
use Rattle.std.proofs.lemmas.List.{length-take-le}
use Rattle.std.proofs.lemmas.Result.{err_from_is_err_and}
use Rattle.rule.specs.Rule.{Message, abort}
use Rattle.account.specs.declared.Account.{Account}
use Rattle.account.specs.Places.{lists_of}
use Rattle.events.specs.declared.Event.{Event}
use Rattle.filing.specs.declared.Filed.{Filed}
use Rattle.account.specs.Steps.{Stepped}
use Rattle.account.proofs.First.{first-ranged}
use Rattle.account.proofs.Ordered.{ordered}
use Rattle.account.proofs.Judged.{number_in, abort-refusal, dropped-only}
use Rattle.account.proofs.Answered.{step-disorder, step-refused, is-taken, step-taken}
use Rattle.account.proofs.Ended.{abort-settled}
use Rattle.account.proofs.Account.abort.Goals as goal

pub returns-in_err-judge : goal.returns-in_err-judge
returns-in_err-judge c =
    let h = c.in_err-judge.ensures in
    let same = step-disorder _ c.args.self.now (abort c.args.transaction c.args.filed) h.0 in
    let p = err_from_is_err_and c.from_residual.result c.from_residual.ensures.1 in
    record { answer = rw (p.1, p.2, h.1) (ap (λ (s : Stepped). s.answer) same); account = ap (λ (s : Stepped). s.account) same }

pub returns-in_err-slot : goal.returns-in_err-slot
returns-in_err-slot c =
    let a = c.args in
    let self = a.self.now in
    let m : Message Filed Event = abort c.args.transaction c.args.filed in
    let o = c.in_ok-judge.ensures.0 in
    let j = c.in_ok-judge.ensures.1 in
    let found = c.in_ok-judge.field-0.found in
    let r = c.for_abort in
    let own = ordered _ self first-ranged (omega arith) (omega arith) o in
    let says = ap number_in r.ensures ∙ abort-refusal _ self (omega arith) a.transaction a.filed o found j.finds in
    let same = step-refused _ self m o r.result says _ c.in_err-slot.was in
    let p = err_from_is_err_and c.from_residual-in_err-slot.result c.from_residual-in_err-slot.ensures.1 in
    record { answer = rw (p.1, p.2) (ap (λ (s : Stepped). s.answer) same); account = ap (λ (s : Stepped). s.account) same }

pub slice_bounds-drop_from-end : goal.slice_bounds-drop_from-end
slice_bounds-drop_from-end c =
    let own = ordered _ c.args.self.now first-ranged (omega arith) (omega arith) c.in_ok-judge.ensures.0 in
    omega arith

pub slice_bounds-drop_from-end-3 : goal.slice_bounds-drop_from-end-3
slice_bounds-drop_from-end-3 c =
    let own = ordered _ c.args.self.now first-ranged (omega arith) (omega arith) c.in_ok-judge.ensures.0 in
    omega arith

pub returns : goal.returns
unfolding lists_of
returns c =
    let a = c.args in
    let self = a.self.now in
    let m : Message Filed Event = abort c.args.transaction c.args.filed in
    let o = c.in_ok-judge.ensures.0 in
    let j = c.in_ok-judge.ensures.1 in
    let found = c.in_ok-judge.field-0.found in
    let r = c.for_abort in
    let own = ordered _ self first-ranged (omega arith) (omega arith) o in
    let says = ap number_in r.ensures ∙ abort-refusal _ self (omega arith) a.transaction a.filed o found j.finds in
    let first = c.drop_from-self in
    let second = c.drop_from-self-2 in
    let rest : Account =
    record {
      state = self.state;
      progress = first.new.row ++ drop self.progressing self.progress;
      progressing = first.result;
      held = second.new.row ++ drop self.holding self.held;
      holding = second.result;
    } in
    let size = length-take-le self.progressing self.progress (omega arith) in
    let size_held = length-take-le self.holding self.held (omega arith) in
    let progress = ap (λ l. l ++ drop self.progressing self.progress) (rw size at first.ensures.row) in
    let held = ap (λ l. l ++ drop self.holding self.held) (rw size_held at second.ensures.row) in
    let taken = is-taken _ self m o r.result says _ c.in_ok-slot.was in
    let only = dropped-only _ self (omega arith) a.transaction a.filed o found j.finds c.in_ok-slot.slot (sym r.ensures ∙ c.in_ok-slot.was) in
    let same =
    abort-settled _ self (omega arith) own a.transaction a.filed rest refl progress first.ensures.left held second.ensures.left
    taken c.in_ok-slot.slot only c.dropped.result c.dropped.ensures c.settle.new.self c.settle.result c.settle.ensures
    ∙ step-taken _ self m o r.result says _ c.in_ok-slot.was in
    record { answer = ap (λ (s : Stepped). s.answer) same; account = ap (λ (s : Stepped). s.account) same }
