-- The tests that are made are those of an account in order.
-- Assumes nothing.
use Rattle.std.proofs.Common.{◌≡◌, ℕ, ◌≤◌, ◌||◌, false, ltb, sym, ◌∙◌, refl, arith}
use borrow.Author.Tests.{ltb-false}
use Rattle.rule.proofs.Lists.{or_left, or_right}
use Rattle.account.specs.Places.{used, lists_of}
use Rattle.account.specs.First.{progress_limit, held_limit}
use Rattle.account.proofs.Places.{count-used}
use Rattle.account.proofs.Concluded.{beyond, marked-progress, marked-held, tests-order-blank}
use Rattle.account.proofs.Account.judge.Goals as goal

-- where the counts are tested they are within the limits
limits : (progressing holding : ℕ) → (ltb progress_limit progressing || ltb held_limit holding) ≡ false → (progressing ≤ progress_limit) × (holding ≤ held_limit)
limits progressing holding h = (
  ltb-false progress_limit progressing (or_left _ (ltb held_limit holding) h),
  ltb-false held_limit holding (or_right (ltb progress_limit progressing) _ h),
)

pub returns-then-self : goal.returns-then-self
returns-then-self c = (beyond _ c.args.self.now c.if-self.true, refl)

pub returns-then-not-all_blank : goal.returns-then-not-all_blank
returns-then-not-all_blank c =
    (marked-progress _ c.args.self.now (rw (c.all_blank.ensures, c.split_at.ensures.back) at c.if-not-all_blank.true), refl)

pub returns-then-not-all_blank-2 : goal.returns-then-not-all_blank-2
returns-then-not-all_blank-2 c =
    (marked-held _ c.args.self.now (rw (c.all_blank-2.ensures, c.split_at-2.ensures.back) at c.if-not-all_blank-2.true), refl)

pub returns-then-not-in_order : goal.returns-then-not-in_order
returns-then-not-in_order c =
    let self = c.args.self.now in
    let known = rw c.split_at.ensures.front at c.after-outcomes.ensures in
    let tests =
    rw (
      c.fits.ensures,
      c.differ.ensures,
      c.without_decisions.ensures,
      c.oldest_undecided.ensures,
      c.split_at.ensures.front,
      c.split_at-2.ensures.front,
    ) at c.if-not-in_order.true in
    let stays = rw c.split_at-2.ensures.front at c.oldest_stays_held.ensures in
    let few = limits self.progressing self.holding c.if-self.false in
    let blanks = rw (c.all_blank.ensures, c.split_at.ensures.back) at c.if-not-all_blank.false in
    let blanks_held = rw (c.all_blank-2.ensures, c.split_at-2.ensures.back) at c.if-not-all_blank-2.false in
    let same =
    tests-order-blank _ self few.0 few.1 blanks blanks_held c.after-outcomes.result.guarded c.oldest_stays_held.result known.guards
    (λ g. stays self.state (used self.progress self.progressing) known g (count-used self.progress self.progressing (omega arith))) in
    (sym same ∙ tests, refl)

pub returns : goal.returns
unfolding lists_of
returns c =
    let self = c.args.self.now in
    let known = rw c.split_at.ensures.front at c.after-outcomes.ensures in
    let tests =
    rw (
      c.fits.ensures,
      c.differ.ensures,
      c.without_decisions.ensures,
      c.oldest_undecided.ensures,
      c.split_at.ensures.front,
      c.split_at-2.ensures.front,
    ) at c.if-not-in_order.false in
    let stays = rw c.split_at-2.ensures.front at c.oldest_stays_held.ensures in
    let few = limits self.progressing self.holding c.if-self.false in
    let blanks = rw (c.all_blank.ensures, c.split_at.ensures.back) at c.if-not-all_blank.false in
    let blanks_held = rw (c.all_blank-2.ensures, c.split_at-2.ensures.back) at c.if-not-all_blank-2.false in
    let same =
    tests-order-blank _ self few.0 few.1 blanks blanks_held c.after-outcomes.result.guarded c.oldest_stays_held.result known.guards
    (λ g. stays self.state (used self.progress self.progressing) known g (count-used self.progress self.progressing (omega arith))) in
    let finds = rw (c.split_at.ensures.front, c.split_at-2.ensures.front) at c.find.ensures in
    (sym same ∙ tests, record { knows = known; finds = finds })
