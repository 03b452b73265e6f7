-- Lines of text as literals: only a literal fixes the words, their order and the digits (clauses 12.4 and 12.5 of docs/REGISTER.md). One line for
-- each row of the literal entries, and one statement, which antt computes.
-- Assumes nothing.
use Rattle.std.specs.Prelude.{ℕ, ◌-◌, ◌≡◌, true, List, [], ◌∷◌, ◌++◌, map, length, replicate}
use Prim.Native.String.{String}
use Rattle.std.proofs.Math.Option.{none, some}
use Rattle.filing.specs.declared.Told.TheVariants.{Noted}
use Rattle.layout.specs.Writes.{SaidOfWriting, said_of_writing}
use Rattle.entry.specs.Vectors.{Vector, table, older_table, entry}
use Rattle.text.specs.Text.{line_as, line_of, write_line_of}
use Rattle.text.specs.Quoted.{quoted}

-- the lines of the rows, in their order
unfoldable pub lines : List String
lines =
    "accepted 439041101 15 1584361601 open 2460202181 55015\n" ∷
    "rejected 455884110 14 1600156034 withdraw 2477045190 55272 249\n" ∷
    "held 472727119 13 1348563587 deposit 2493888199 55529\n" ∷
    "noted 489570112 12 1365406596\n" ∷
    "applied 506409025 11 1382249605 withdraw 2510731208 3656055564\n" ∷
    "dropped 522203458 10 1399092614 deposit 2527574217\n" ∷
    "held 0 0 0 close 0 0\n" ∷
    "applied 10 9 200 close 0 0\n" ∷
    "rejected 11 8 201 close 0 1 1\n" ∷
    "rejected 12 7 202 withdraw 0 2 2\n" ∷
    "rejected 13 6 203 deposit 1000001 4 4\n" ∷
    "rejected 14 5 204 open 5 3 0\n" ∷
    []

-- and of those in kind 18
unfoldable pub older_lines : List String
older_lines =
    "rejected 455884110 14 1600156034 withdraw 2477045190 55272\n" ∷
    "rejected 11 8 201 close 0 1\n" ∷
    []

-- what a row comes to: the line, and what the writer of lines answers and leaves of a buffer of 74 bytes
pub record Found : Type 0 where
  pub line : List ℕ
  pub answer : SaidOfWriting
  pub left : List ℕ

abbrev pub found : Vector → Found
found v =
    record {
      line = line_of v.account v.entry;
      answer = said_of_writing (write_line_of v.entry v.kind v.account (replicate 74 0xaa)).answer;
      left = (write_line_of v.entry v.kind v.account (replicate 74 0xaa)).buffer;
    }

-- the same of a row in kind 18
abbrev pub found_older : Vector → Found
found_older v =
    record {
      line = line_as true v.account v.entry;
      answer = said_of_writing (write_line_of v.entry v.kind v.account (replicate 74 0xaa)).answer;
      left = (write_line_of v.entry v.kind v.account (replicate 74 0xaa)).buffer;
    }

abbrev pub said : String → Found
said text =
    let line = quoted text in
    record {
      line = line;
      answer = record { refusal = none; length' = length line };
      left = line ++ replicate (74 - length line) 0xaa;
    }

pub record VectorsHold : Type 0 where
  pub lines : map found table ≡ map said lines
  pub older : map found_older older_table ≡ map said older_lines
  -- a line is refused by 71 bytes
  pub short : said_of_writing (write_line_of (entry 1 2 Noted) 20 3 (replicate 71 0xaa)).answer ≡ record { refusal = some 4; length' = 0 }
