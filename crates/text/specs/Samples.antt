-- Samples, whole: the bytes of messages that go in, and all the text that comes out (clause 12.6 of docs/REGISTER.md is the first of them). The second
-- has refusals 3, 6 and 8 to 11, after each of which the next message is read, and 2, after which nothing is; the third ends in refusal 1.
-- Assumes nothing.
use Rattle.std.specs.Prelude.{ℕ, ◌≡◌, List, [], ◌∷◌, ◌++◌}
use Prim.Native.String.{String}
use Rattle.register.specs.Samples.{sample_messages, refused_messages, torn_messages}
use Rattle.text.specs.Quoted.{quoted}
use Rattle.text.specs.Output.{output_of}

-- the lines of a text, as they are printed
unfoldable pub printed : List String → List ℕ
printed [] = []
printed (line ∷ lines) = quoted line ++ printed lines

abbrev pub sample_lines : List String
sample_lines =
    "register 1\n" ∷
    -- to open, and that settled
    "accepted 1 0 100 open 100 1\n" ∷
    "noted 1 0 100\n" ∷
    "applied 1 0 100 open 100 100\n" ∷
    -- two that cannot both be had: the second waits,
    "accepted 2 0 100 withdraw 60 1\n" ∷
    "held 3 0 100 withdraw 60 2\n" ∷
    -- until the first is given up
    "dropped 2 0 100 withdraw 60\n" ∷
    "accepted 3 0 100 withdraw 60 1\n" ∷
    -- and is settled itself
    "noted 3 0 100\n" ∷
    "applied 3 0 100 withdraw 60 40\n" ∷
    "end 6 0\n" ∷
    []

abbrev pub refused_lines : List String
refused_lines =
    "register 1\n" ∷
    "accepted 16909060 7 269554195 open 500 1\n" ∷
    "refused 3\n" ∷
    "refused 6\n" ∷
    "refused 8\n" ∷
    "noted 16909060 7 539042339\n" ∷
    "applied 16909060 7 269554195 open 500 500\n" ∷
    "accepted 84281096 7 606414375 deposit 855567 1\n" ∷
    "accepted 151653132 7 673786411 close 0 2\n" ∷
    "held 825373492 7 741158447 withdraw 1 4\n" ∷
    "held 892745528 7 1094861636 deposit 2 0\n" ∷
    "refused 9\n" ∷
    "noted 151653132 7 1229605708\n" ∷
    "rejected 825373492 7 741158447 withdraw 1 2 1\n" ∷
    "rejected 892745528 7 1094861636 deposit 2 2 1\n" ∷
    "refused 10\n" ∷
    "refused 11\n" ∷
    "refused 2\n" ∷
    "end 14 7\n" ∷
    []

abbrev pub torn_lines : List String
torn_lines =
    "register 1\n" ∷
    "accepted 1 0 100 open 100 1\n" ∷
    "refused 1\n" ∷
    "end 2 1\n" ∷
    []

pub record SamplesHold : Type 0 where
  pub sample : output_of sample_messages ≡ printed sample_lines
  pub refused : output_of refused_messages ≡ printed refused_lines
  pub torn : output_of torn_messages ≡ printed torn_lines
  pub nothing : output_of [] ≡ quoted "register 1\nend 0 0\n"
