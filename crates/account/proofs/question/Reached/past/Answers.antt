-- By the decision, and at an undecided event by the lowest bit.
-- Assumes nothing.
use Rattle.std.proofs.Common.{refl}
use borrow.Author.Tests.{eq-eqb, ne_eqb}
use Rattle.account.specs.inside.Reached.{followed_by}
use Rattle.account.proofs.question.Reached.past.Goals as goal
use Rattle.account.proofs.question.Reached.past.Goals.{then-self-eq1, else-self-eq1}

pub returns-after-self-eq1 : goal.returns-after-self-eq1
unfolding followed_by
returns-after-self-eq1 c =
    elim c.if-self-eq1.branch [
      | then-self-eq1 w ↦ rw (w.result-is, ← c.is_undecided.ensures, c.if-is_undecided.true, eq-eqb _ 1 w.if-self-eq1.true, ← c.effect-applied.ensures) refl
      | else-self-eq1 w ↦ rw (w.result-is, ← c.is_undecided.ensures, c.if-is_undecided.true, ne_eqb _ 1 w.if-self-eq1.false) refl
    ]

pub returns-else-is_undecided : goal.returns-else-is_undecided
unfolding followed_by
returns-else-is_undecided c = rw (← c.is_undecided.ensures, c.if-is_undecided.false, ← c.effect-applied.ensures) refl
