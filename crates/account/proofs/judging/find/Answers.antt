-- By the place at which it was found in each row.
-- Assumes nothing.
use Rattle.std.proofs.Common.{refl, sym, ◌∙◌}
use Rattle.account.proofs.Sought.{found-there, found-nowhere, no-place}
use Rattle.account.proofs.judging.find.Goals as goal

pub returns-in-Some : goal.returns-in-Some
returns-in-Some c =
    let there = found-there c.args.transaction c.args.events.now c.in-Some.at (sym c.place_of.ensures ∙ c.in-Some.is) in
    (there.0, refl, there.1)

pub returns-in_err-at : goal.returns-in_err-at
returns-in_err-at c =
    let t = c.args.transaction in
    rw c.from_residual.ensures
    (found-nowhere t c.args.events.now (sym c.place_of.ensures ∙ no-place _ c.in_default.not-Some), found-nowhere t c.args.requests.now (sym c.place_of-2.ensures ∙ c.in_err-at.was))

pub returns : goal.returns
returns c =
    let there = found-there c.args.transaction c.args.requests.now c.in_ok-at.at (sym c.place_of-2.ensures ∙ c.in_ok-at.was) in
    (c.in_ok-at.at, there.0, refl, there.1)
