-- Where there is room for the longest of each, there is for the entries; else the room that is left tells.
-- Assumes nothing.
use Rattle.std.proofs.Common.{◌/◌, ◌≤◌, length, refl, arith}
use Rattle.std.proofs.lemmas.Bool.{false≢true}
use Rattle.std.proofs.lemmas.List.{take_all}
use Rattle.entry.specs.Bytes.{wholes_of}
use Rattle.entry.proofs.Stored.{wholes-short, wholes-more, wholes-next}
use Rattle.entry.proofs.writer.has_room.Goals as goal

pub returns-then-entries-length : goal.returns-then-entries-length
returns-then-entries-length c =
    let a = c.args in
    let few : length a.entries.now ≤ a.length / 40 = c.if-entries-length.true in
    (λ t. omega (arith, wholes-short a.entries.now), λ h. refl)

pub loop-entry-init : goal.loop-entry-init
unfolding wholes_of
loop-entry-init c = omega arith

pub returns-in_default : goal.returns-in_default
returns-in_default c =
    let next = wholes-next c.args.entries.now c.loop-entry.entry-index c.loop-entry-test.true in
    (λ t. absurd (false≢true t), λ h. absurd (omega (arith, next, c.in_default.ensures)))

pub loop-entry-preserved : goal.loop-entry-preserved
loop-entry-preserved c =
    rw (wholes-more c.args.entries.now c.loop-entry.entry-index c.loop-entry-test.true) (omega (arith, c.in-Some.ensures))

pub returns : goal.returns
returns c =
    let v = c.loop-entry in
    let left = rw (take_all v.entry-index c.args.entries.now c.loop-entry-test.false) at v.invariant in
    (λ t. omega (arith, left), λ h. refl)
