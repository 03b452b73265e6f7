-- One more place is read; where all words behind are 0, the others are blank already.
-- Assumes nothing.
use Rattle.std.proofs.Common.{rules, ◌-◌, ◌/◌, true, drop, ◌*◌, ◌≡◌, take, length, refl, sym, ◌∙◌, ap, arith}
use Rattle.std.proofs.lemmas.List.{take_all, length-take-le}
use Rattle.std.specs.Simd.{first_chunks}
use Rattle.image.specs.Words.{place_words}
use Rattle.image.specs.Reading.{are_zero}
use Rattle.filing.specs.Slots.{places}
use Rattle.image.proofs.Rows.{row-more, row-read}
use Rattle.image.proofs.read_row.Goals as goal
use Rattle.image.proofs.read_row.Goals.{then-are_zero, else-are_zero}

pub loop-i-preserved : goal.loop-i-preserved
loop-i-preserved c =
    let v = c.loop-i in
    let place = c.read_place-place in
    let next = row-more places v.i v.row (take c.if-are_zero.reach c.as_chunks.result.0.now) _ v.valid c.loop-i-test.true (search rules) v.invariant.read v.invariant.tested refl in
    record { read = rw place.ensures.0 next.0; tested = rw place.ensures.1 next.1 }

pub returns : goal.returns
returns c =
    let a = c.args in
    let v = c.loop-i in
    let reach = c.if-are_zero.reach in
    let all = c.as_chunks.result.0.now in
    let size : length (take reach all) ≡ reach = length-take-le reach all (omega arith) in
    let end : v.i ≡ reach = omega arith in
    let zeros : are_zero (take ((places - reach) * place_words) (drop (reach * place_words) a.words.now)) ≡ true =
    elim c.if-are_zero.branch [
      | then-are_zero w ↦
          let left : (places - reach) * place_words ≡ places * place_words - reach * place_words = omega arith in
          rw (left, w.reach-is) (sym c.are_zero.ensures ∙ w.if-are_zero.true)
      | else-are_zero w ↦ rw w.reach-is refl
    ] in
    let row = row-read places reach (length a.words.now / place_words) a.words.now (omega arith) (omega arith) zeros in
    let here : take v.i (take reach all) ≡ take reach (first_chunks place_words (length a.words.now / place_words) a.words.now) = take_all v.i (take reach all) c.loop-i-test.false ∙ ap (take reach) c.as_chunks.ensures.front in
    (rw (here, end) at v.invariant.read ∙ row.0, rw here at v.invariant.tested ∙ row.1)
