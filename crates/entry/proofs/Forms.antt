-- The answers by the definition; what the writer leaves by its two tests.
-- Assumes nothing.
use Prim.Native.Nat.{ℕ}
use mathlib.Core.Path.{◌≡◌, refl, ap}
use mathlib.Core.Bool.{Bool, true, false, cond}
use mathlib.Core.List.{List, [], ◌∷◌, ◌++◌}
use mathlib.Core.Option.{none}
use lib.Dec.{ltb}
use lib.ListN.{length, take, drop}
use lib.Seq.{take_at}
use Rattle.refusal.specs.declared.Refusal.TheVariants.{NoRoom}
use Rattle.layout.specs.Writes as Writing'
use Rattle.entry.specs.Bytes.{bytes_of_entry, bytes_of_entries}
use Rattle.entry.specs.Answers.{longest_call, write_of}
use Rattle.entry.specs.Forms.{EntryReadingForm, EntriesTogether, WriterLeaves}

pub entry-reading-form : EntryReadingForm
entry-reading-form = record { found = λ e k a n. refl; nothing = refl }

pub entries-together : EntriesTogether
unfolding bytes_of_entries
entries-together account [] = refl
entries-together account (e ∷ es) = ap (λ (l : List ℕ). bytes_of_entry account e ++ l) (entries-together account es)

pub writer-leaves : WriterLeaves
unfolding write_of
writer-leaves entries account buffer h = rw (← entries-together account entries) (go (ltb (length buffer) longest_call) (ltb (length buffer) (length bytes)) h)
  where
    bytes : List ℕ
    bytes = bytes_of_entries account entries

    go : (a b : Bool) → (Writing'.said_of_writing (cond a (Writing'.refused_with NoRoom buffer) (cond b (Writing'.refused_with NoRoom buffer) (Writing'.wrote_over bytes buffer))).answer).refusal ≡ none
        → ((Writing'.said_of_writing (cond a (Writing'.refused_with NoRoom buffer) (cond b (Writing'.refused_with NoRoom buffer) (Writing'.wrote_over bytes buffer))).answer).length' ≡ length bytes)
        × (take (length bytes) (cond a (Writing'.refused_with NoRoom buffer) (cond b (Writing'.refused_with NoRoom buffer) (Writing'.wrote_over bytes buffer))).buffer ≡ bytes)
    go true b e = cc
    go false true e = cc
    go false false e = (refl, take_at bytes (drop (length bytes) buffer) (length bytes) refl)
