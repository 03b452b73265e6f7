-- The buffer holds the entries passed, and `at` is their length.
-- Assumes nothing.
use Rattle.std.proofs.Common.{◌≡◌, take}
use Rattle.std.proofs.lemmas.List.Edits.{sets}
use Rattle.entry.specs.Bytes.{bytes_of_entries, wholes_of}
use Rattle.entry.proofs.writer.write_entries.Given as goal

abbrev pub invariant-loop-entry : goal.invariant-loop-entry
invariant-loop-entry l =
    record {
      place : l.at ≡ wholes_of (take l.entry-index l.entries);
      bytes : l.buffer ≡ sets l.initial.buffer 0 (bytes_of_entries l.account (take l.entry-index l.entries));
    }
