-- What a function knows of an account that it is handed, as the toolchain tells it: each of its two rows has eight places. Said here once, by name.
-- Assumes nothing.
use mathlib.Core.Path.{◌≡◌}
use mathlib.Core.List.{[], ◌∷◌}
use lib.ListN.{length}
use denote.Laws.{Is}
use denote.Struct.Laws.{val}
use Rattle.account.specs.declared.Account.{Account}
use Rattle.account.specs.contracts.Account.{the_type, the_row}
use Rattle.account.proofs.Account.TheLaws.{the_laws}

abbrev pub Handed : Account → Type 0
Handed a = Is the_row a (val the_type the_laws a ∷ [])

pub eight-in-progress : (a : Account) → Handed a → length a.progress ≡ 8
eight-in-progress a known = known.1.1.1.0.1.0.1

pub eight-held : (a : Account) → Handed a → length a.held ≡ 8
eight-held a known = known.1.1.1.1.1.0.1.0.1
