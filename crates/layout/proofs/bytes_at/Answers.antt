-- A byte more is read, by itself: past the end it is 0.
-- Assumes nothing.
use Rattle.std.proofs.Common.{ℕ, ◌≡◌, ◌+◌, ◌-◌, ◌<◌, ◌∙◌, List, length, take, drop, set, get_or, arith, length-drop, length-set}
use Rattle.std.proofs.lemmas.Grind.{get_or-set_at}
use Rattle.std.proofs.lemmas.List.{get_or-set_other}
use lib.Seq.{take_all, get_or-drop}
use Rattle.layout.specs.Number.{number_at}
use Rattle.layout.proofs.Numbers.{number_at-one}
use Rattle.layout.proofs.bytes_at.Invariants.{Found}
use Rattle.layout.proofs.bytes_at.Goals as goal

byte_in : (bytes : List ℕ) (at i : ℕ) → number_at (take (length bytes - at) (drop at bytes)) i 1 ≡ get_or bytes (at + i) 0
byte_in bytes at i = rw (take_all (length bytes - at) (drop at bytes) (rw length-drop (omega arith)), number_at-one) (get_or-drop at bytes i 0)

one_more : (bytes found : List ℕ) (at count i byte : ℕ) → i < count → byte ≡ get_or bytes (at + i) 0 → Found bytes found at count i → Found bytes (set found i byte) at count (i + 1)
one_more bytes found at count i byte h e so_far =
    let size = so_far.places in
    let before = so_far.bytes' in
    record { places = rw length-set size; bytes' = λ k m. grind (arith, get_or-set_at, get_or-set_other, before) }

pub loop-i-preserved : goal.loop-i-preserved
loop-i-preserved g c =
    let a = c.args in
    let v = c.loop-i in
    one_more a.bytes.now v.found a.at g.row.COUNT v.i c.number1.result (omega arith) (c.number1.ensures ∙ byte_in a.bytes.now a.at v.i) v.invariant
