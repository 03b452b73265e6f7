-- One more place is stored behind those so far.
-- Assumes nothing.
use Rattle.std.proofs.Common.{◌+◌, ◌-◌, ◌*◌, ◌≡◌, length, get_or, refl, ◌∙◌, ap, arith}
use Rattle.std.proofs.lemmas.List.{take_all}
use Rattle.filing.specs.Slots.{blank}
use Rattle.image.specs.Words.{place_words, words_of_slot, words_of_slots}
use Rattle.image.proofs.Rows.{length-slot, part-stored, place-stored}
use Rattle.image.proofs.put_row.Goals as goal

pub loop-i-init : goal.loop-i-init
unfolding words_of_slots
loop-i-init c = refl

pub loop-i-preserved : goal.loop-i-preserved
loop-i-preserved c =
    let a = c.args in
    let v = c.loop-i in
    let part = c.copy_from_slice.new.self in
    let is_place : part ≡ words_of_slot (get_or a.row.now v.i blank) = c.copy_from_slice.ensures.after ∙ c.place_words.ensures in
    let size : length part ≡ v.i * place_words + place_words - v.i * place_words = omega (arith, ap length is_place, length-slot (get_or a.row.now v.i blank)) in
    part-stored (v.i * place_words) _ v.words part size (omega arith)
    ∙ rw (is_place, v.invariant) (place-stored a.row.now a.words.now v.i _ c.loop-i-test.true c.requires refl)

pub returns : goal.returns
returns c = rw (← take_all c.loop-i.i c.args.row.now c.loop-i-test.false) c.loop-i.invariant
