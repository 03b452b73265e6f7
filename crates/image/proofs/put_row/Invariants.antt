-- The words of the places so far are stored.
-- Assumes nothing.
use Rattle.std.proofs.Common.{◌≡◌, take}
use Rattle.std.proofs.lemmas.List.Edits.{sets}
use Rattle.image.specs.Words.{words_of_slots}
use Rattle.image.proofs.put_row.Given as goal

abbrev pub invariant-loop-i : goal.invariant-loop-i
invariant-loop-i l = l.words ≡ sets l.fn.words 0 (words_of_slots (take l.i l.row))
