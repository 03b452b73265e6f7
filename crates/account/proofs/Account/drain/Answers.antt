-- Each of the three ways through the body is a law, and so is the way's end; a request is accepted only where a place is free.
-- Assumes nothing.
use Rattle.std.proofs.Common.{◌≡◌, ◌<◌, sym, ◌∙◌, true, arith}
use Rattle.filing.specs.Entries.{is_accepted}
use Rattle.account.proofs.Known.{knows-few}
use Rattle.account.proofs.First.{first-ranged}
use Rattle.account.proofs.Voting.{voting-none, voting-stays, voting-accept, voting-reject, voting-all}
use Rattle.account.proofs.Account.drain.Goals as goal
use Rattle.account.proofs.Account.drain.Goals.{then-at-voted, then-is_accepted, else-is_accepted, else-at-voted}

pub loop-at-init : goal.loop-at-init
loop-at-init c =
    let self = c.args.self.now in
    voting-none _ self c.args.entries.now c.after-outcomes.result c.requires.0 (omega arith) c.requires.1 (omega arith) c.requires.2 c.after-outcomes.ensures

pub with-outcomes-requires : goal.with-outcomes-requires
with-outcomes-requires c =
    let v = c.loop-at in
    let accepted : is_accepted c.decide-weighing.result.verdict ≡ true = sym c.is_accepted.ensures ∙ c.if-is_accepted.true in
    let free : v.self.progressing < 8 = omega (arith, c.decide-weighing.ensures.free accepted) in
    knows-few _ _ v.invariant.events v.outcomes v.invariant.knows (omega (arith, free, v.invariant.number))

pub loop-at-preserved : goal.loop-at-preserved
loop-at-preserved c =
    let weigh = c.decide-weighing in
    let a = c.args in
    let v = c.loop-at in
    let below : v.at < a.self.now.holding = omega arith in
    elim c.if-at-voted.branch [
      | then-at-voted w ↦
          let first = rw c.is_held.ensures at w.if-at-voted.true in
          let entry = w.voted in
          elim w.if-is_accepted.branch [
            | then-is_accepted u ↦
                rw (w.self-is, w.entries-is, w.push.ensures, w.outcomes-is, w.voted-is, u.self-is, u.begin.ensures, u.outcomes-is)
                (voting-accept _ a.self.now a.entries.now v.self v.entries v.outcomes v.voted v.at v.invariant below weigh.result weigh.ensures entry.result entry.ensures first first-ranged u.with-outcomes.result (sym w.is_accepted.ensures ∙ u.if-is_accepted.true) u.with-outcomes.ensures)
            | else-is_accepted u ↦
                rw (w.self-is, w.entries-is, w.push.ensures, w.outcomes-is, w.voted-is, u.self-is, u.outcomes-is)
                (voting-reject _ a.self.now a.entries.now v.self v.entries v.outcomes v.voted v.at v.invariant below weigh.result weigh.ensures entry.result entry.ensures first (sym w.is_accepted.ensures ∙ u.if-is_accepted.false))
          ]
      | else-at-voted w ↦
          rw (w.self-is, w.entries-is, w.outcomes-is, w.voted-is)
          (voting-stays _ a.self.now a.entries.now v.self v.entries v.outcomes v.voted v.at v.invariant below weigh.result weigh.ensures (rw c.is_held.ensures at w.if-at-voted.false))
    ]

pub returns : goal.returns
returns c = voting-all _ c.args.self.now c.args.entries.now c.loop-at.self c.loop-at.entries c.loop-at.outcomes c.loop-at.voted c.loop-at.at c.loop-at.invariant (omega arith)
