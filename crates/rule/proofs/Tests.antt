-- By the definition.
-- Assumes nothing.
use mathlib.Core.Path.{refl}
use Rattle.rule.specs.Tests.{FirstTaken}

pub first_taken : FirstTaken
first_taken = record { none' = refl; taken = λ n ts. refl; passed = λ n ts. refl }
