-- The library's answer, where the test computes.
-- Assumes nothing.
use Rattle.std.proofs.Common.{sym, ltb, rules, tests}
use Rattle.std.proofs.lemmas.Fn.{always_returns_same}
use borrow.Author.Tests.{ltb-true}
use Rattle.account.proofs.judging.rise.Goals as goal

pub returns : goal.returns
returns c =
    let numbers = c.args.numbers.now in
    λ e k h.
    let all = rw e at (c.is_sorted_by.ensures.cases ltb (always_returns_same _ _ _ (λ a r f' q. search (rules, tests)))) in
    ltb-true _ _ (sym (all k 0 h))
