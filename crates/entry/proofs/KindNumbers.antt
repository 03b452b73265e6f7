-- A number that a kind has is that kind's, and a number that none has stands in no row of the table.
-- Assumes nothing.
use Prim.Native.Nat.{ℕ, ◌<◌}
use native.Mathlib.Omega.{arith}
use mathlib.Core.Path.{◌≡◌}
use mathlib.Core.Option.{none}
use Rattle.std.specs.Prelude.{Ok, Err}
use Rattle.std.proofs.lemmas.Bool.Decides.{nat_tests}
use Rattle.std.proofs.lemmas.Grind.{common_steps}
use Rattle.refusal.specs.declared.Refusal.{Refusal}
use Rattle.layout.specs.Fields.{row_of_kind, whole_of}
use Rattle.entry.specs.declared.kinds.Kind.{Kind}
use Rattle.entry.specs.declared.kinds.Kind.TheVariants.{Accepted, OlderRejected, Held, Noted, Applied, Dropped, Rejected}
use Rattle.entry.specs.Bytes.{entry_rows}
use Rattle.entry.specs.Kinds.{number_in, kind_numbered}

pub kind-known : (n : ℕ) (kind : Kind) → kind_numbered n ≡ Ok kind → number_in kind ≡ n
kind-known n kind h = grind (arith, nat_tests, common_steps)

pub kind-unknown : (n : ℕ) (r : Refusal) → kind_numbered n ≡ Err r → row_of_kind entry_rows n ≡ none
unfolding row_of_kind entry_rows
kind-unknown n r h = grind (arith, nat_tests, common_steps)

pub kind-long : (kind : Kind) → 0 < whole_of (row_of_kind entry_rows (number_in kind))
unfolding row_of_kind entry_rows
kind-long Accepted = omega arith
kind-long OlderRejected = omega arith
kind-long Held = omega arith
kind-long Noted = omega arith
kind-long Applied = omega arith
kind-long Dropped = omega arith
kind-long Rejected = omega arith
