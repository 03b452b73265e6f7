-- Both ways through the body are laws, and so is the way's end.
-- Assumes nothing.
use Rattle.std.proofs.Common.{◌<◌, refl, ap, ◌∙◌, get_or, arith}
use Rattle.rule.specs.Rule.{applied}
use Rattle.events.specs.declared.State.{State}
use Rattle.filing.specs.Entries.{entry_of, only_entry}
use Rattle.filing.specs.Slots.{blank}
use Rattle.account.proofs.Applying.{applying-stays, applying-next, applying-all}
use Rattle.account.proofs.Voting.{drained-idle}
use Rattle.account.proofs.Account.settle.Goals as goal
use Rattle.account.proofs.Account.settle.Goals.{then-at-ended, else-at-ended}

pub loop-at-preserved : goal.loop-at-preserved
loop-at-preserved c =
    let a = c.args in
    let v = c.loop-at in
    let x = get_or v.self.progress v.at blank in
    let below : v.at < a.self.now.progressing = omega arith in
    elim c.if-at-ended.branch [
      | then-at-ended w ↦
          let first = rw c.is_undecided.ensures at w.if-at-ended.true in
          let entry = w.applied.ensures ∙ ap (λ (s : State). entry_of (applied x.transaction x.filed x.event s.balance)) w.effect-self.ensures in
          rw (w.self-is, w.entries-is, w.ended-is, w.push.ensures, w.effect-self.ensures)
          (applying-next _ a.self.now (only_entry a.first) v.self v.entries v.ended v.at v.invariant below w.applied.result entry first)
      | else-at-ended w ↦
          rw (w.self-is, w.entries-is, w.ended-is)
          (applying-stays _ a.self.now (only_entry a.first) v.self v.entries v.ended v.at v.invariant below (rw c.is_undecided.ensures at w.if-at-ended.false))
    ]

pub returns-then-self-gt0 : goal.returns-then-self-gt0
returns-then-self-gt0 c =
    let a = c.args in
    let v = c.loop-at in
    applying-all _ a.self.now a.first (only_entry a.first) v.self v.entries v.ended v.at v.invariant (omega arith) refl _ _ c.drain.ensures

pub returns-else-self-gt0 : goal.returns-else-self-gt0
returns-else-self-gt0 c =
    let a = c.args in
    let v = c.loop-at in
    applying-all _ a.self.now a.first (only_entry a.first) v.self v.entries v.ended v.at v.invariant (omega arith) refl _ _ (drained-idle _ _ v.entries (omega arith))
