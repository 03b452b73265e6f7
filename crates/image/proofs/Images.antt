-- Zeroed words, stores, and the statements on images together.
-- Assumes nothing.
use Prim.Native.Nat.{ℕ, ◌+◌, ◌-◌, ◌≤◌}
use native.Mathlib.Omega.{arith}
use mathlib.Core.Path.{◌≡◌, refl, ap, sym, ◌∙◌}
use mathlib.Core.List.{List, ◌++◌}
use borrow.Author.Tests.{le-leb, lt-leb}
use lib.Dec.{lit≤}
use lib.ListN.{length, replicate, length-replicate, replicate-append-replicate}
use lib.Seq.{sets-eq}
use Rattle.account.specs.declared.Account.{Account}
use Rattle.image.specs.Words.{account_words, words_of_slot, words_of_slots, words_of, stored_in}
use Rattle.image.specs.Reading.{account_from}
use Rattle.image.specs.Images.{Kept, fresh, Stores, ImagesHold}
use Rattle.image.proofs.ReadBack.{length-of-rows, account-back, reads-back, one-account}
use Rattle.image.proofs.OwnWords.{own-words}
use Rattle.image.proofs.WrittenBack.{written_back}
use Rattle.image.proofs.Used.{used-suffice}

kept_fresh : Kept fresh
kept_fresh = record { progress = refl; held = refl; progressing = lit≤ tt; holding = lit≤ tt }

fresh-image : words_of fresh ≡ replicate 84 0
unfolding words_of words_of_slots words_of_slot
fresh-image = refl

module _ (size from : ℕ) (h : from + 84 ≤ size) where
  abbrev left : ℕ
  left = size - (from + 84)

  abbrev zeros : ℕ → List ℕ
  zeros n = replicate n 0

  zeros-apart : zeros size ≡ zeros from ++ words_of fresh ++ zeros left
  zeros-apart =
      let apart : size ≡ from + 84 + left = omega arith in
      ap zeros apart ∙ sym (replicate-append-replicate {A = ℕ} (from + 84) left 0) ∙ ap (λ (l : List ℕ). l ++ zeros left) (sym (replicate-append-replicate {A = ℕ} from 84 0)) ∙ rw fresh-image refl

  zeros-read : account_from (zeros size) from ≡ fresh
  zeros-read =
      let begins : length (zeros from) ≡ from = length-replicate {A = ℕ} from 0 in
      ap (λ (l : List ℕ). account_from l from) zeros-apart ∙ ap (account_from (zeros from ++ words_of fresh ++ zeros left)) (sym begins) ∙ account-back fresh kept_fresh (zeros from) (zeros left)

stores : (words : List ℕ) (from : ℕ) (a : Account) → length a.progress ≡ 8 → length a.held ≡ 8 → Stores words from a
unfolding stored_in
stores words from a p h =
    record {
      room =
          λ r.
          let size = length-of-rows a p h in
          rw (le-leb (from + account_words) (length words) r) (sets-eq (words_of a) words from (rw size r) ∙ rw size refl);
      none = λ r. rw (lt-leb (from + account_words) (length words) r) refl;
    }

pub images-hold : ImagesHold
images-hold = record { read = reads-back; one = one-account; own = own-words; written = written_back; zeroed = record { image = fresh-image; reads = zeros-read }; stores = stores; used = used-suffice }
