-- What a private function asks: contracts of helpers, which the law does not need.
-- Assumes nothing.
use Rattle.std.specs.Prelude.{◌+◌, ◌<◌, ◌^◌}
use Rattle.register.specs.declared.runs.Ran.{Ran}
use Rattle.register.specs.declared.runs.Passed.{Passed}

-- the counts that fit a machine's word with one message more
pub record Countable (ran : Ran) (passed : Passed) : Type 0 where
  pub met : ran.met + 1 < 2 ^ 64
  pub refused : ran.refused + passed.refused < 2 ^ 64
  pub consumed : ran.consumed + passed.consumed < 2 ^ 64
  pub written : ran.written + passed.written < 2 ^ 64
