-- What is known so far, and whether the rest is 0, is whether all of them are.
-- Assumes nothing.
use Rattle.std.proofs.Common.{◌≡◌, ◌&&◌, drop}
use Rattle.image.specs.Reading.{are_zero}
use Rattle.image.proofs.are_zero.Given as goal

abbrev pub invariant-loop-word : goal.invariant-loop-word
invariant-loop-word l = l.zero && are_zero (drop l.word-index l.words) ≡ are_zero l.words
