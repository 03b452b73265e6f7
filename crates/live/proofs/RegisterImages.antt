-- The image of a register reads back as that register, one account after the other; zeroed words are the fresh one's.
-- Assumes nothing.
use Prim.Native.Nat.{ℕ, zero, suc, ◌+◌, ◌*◌, ◌≤◌}
use native.Mathlib.Omega.{arith}
use mathlib.Core.Path.{◌≡◌, refl, ap, sym, ◌∙◌}
use mathlib.Core.List.{List, [], ◌∷◌, ◌++◌, append_assoc}
use lib.ListN.{length, replicate, length-append, replicate-append-replicate}
use Rattle.rule.specs.Rule as rule
use Rattle.events.specs.declared.Event.{Event}
use Rattle.events.specs.declared.Life.TheVariants.{New}
use Rattle.events.specs.declared.State.{State}
use Rattle.filing.specs.declared.Filed.{Filed}
use Rattle.account.specs.declared.Account.{Account}
use Rattle.account.specs.Places.{account_of}
use Rattle.image.specs.Words.{account_words, words_of}
use Rattle.image.specs.Reading.{account_from}
use Rattle.image.specs.Images as image
use Rattle.image.proofs.Images as image-proofs
use Rattle.register.specs.declared.Register.{Register}
use Rattle.register.specs.Register.{accounts_of_register, fresh_by}
use Rattle.live.specs.Registers.{words_of_accounts, image_of, accounts_from, register_of}
use Rattle.live.specs.Images.{EachKept, Kept, ReadsBack, OneRegister, Zeroed, ImagesHold}

accounts-back : (accounts : List Account) → EachKept accounts → (before after : List ℕ)
    → accounts_from (length accounts) (before ++ words_of_accounts accounts ++ after) (length before) ≡ accounts
unfolding words_of_accounts accounts_from
accounts-back [] k before after = refl
accounts-back (a ∷ accounts) k before after =
    let own = (image-proofs.images-hold).read a k.0 in
    let words = words_of_accounts accounts in
    let here : before ++ (words_of a ++ words) ++ after ≡ before ++ words_of a ++ (words ++ after) = simp append_assoc in
    let there : before ++ (words_of a ++ words) ++ after ≡ (before ++ words_of a) ++ words ++ after = simp append_assoc in
    let next : length before + account_words ≡ length (before ++ words_of a) = sym (length-append before (words_of a) ∙ ap (◌+◌ (length before)) own.size) in
    let first : account_from (before ++ (words_of a ++ words) ++ after) (length before) ≡ a = rw here (own.back before (words ++ after)) in
    let rest : accounts_from (length accounts) (before ++ (words_of a ++ words) ++ after) (length before + account_words) ≡ accounts =
    rw (there, next) (accounts-back accounts k.1 (before ++ words_of a) after) in
    rw (first, rest) refl

length-accounts : (accounts : List Account) → EachKept accounts → length (words_of_accounts accounts) ≡ length accounts * account_words
unfolding words_of_accounts
length-accounts [] k = refl
length-accounts (a ∷ accounts) k =
    omega (arith, length-append (words_of a) (words_of_accounts accounts), ((image-proofs.images-hold).read a k.0).size, length-accounts accounts k.1)

register-back : (r : Register) → Kept r → (after : List ℕ) → register_of (image_of r ++ after) ≡ r
register-back r k after =
    ap (λ (accounts : List Account). record { accounts = accounts })
    (ap (λ (n : ℕ). accounts_from n (image_of r ++ after) 0) (sym k.sixteen) ∙ accounts-back r.accounts k.each [] after)

reads-back : (r : Register) → Kept r → ReadsBack r
reads-back r k = record { size = length-accounts r.accounts k.each ∙ ap (λ (n : ℕ). n * account_words) k.sixteen; back = register-back r k }

one-register : OneRegister
one-register r s k m e = sym (register-back r k []) ∙ ap (λ (words : List ℕ). register_of (words ++ [])) e ∙ register-back s m []

-- ---- zeroed words

abbrev zeros : ℕ → List ℕ
zeros n = replicate n 0

fresh-words : (n : ℕ) → words_of_accounts (replicate n image.fresh) ≡ zeros (n * account_words)
unfolding words_of_accounts
fresh-words zero = refl
fresh-words (suc n) =
    let more : suc n * account_words ≡ account_words + n * account_words = omega arith in
    rw ((image-proofs.images-hold).zeroed.image, fresh-words n) (replicate-append-replicate {A = ℕ} account_words (n * account_words) 0 ∙ ap zeros (sym more))

zeros-read : (n size from : ℕ) → from + n * account_words ≤ size → accounts_from n (zeros size) from ≡ replicate n image.fresh
unfolding accounts_from
zeros-read zero size from h = refl
zeros-read (suc n) size from h = rw ((image-proofs.images-hold).zeroed.reads size from (omega arith), zeros-read n size (from + account_words) (omega arith)) refl

module _ (R : rule.Rule State Event ℕ) (new : R.fresh ≡ record { life = New; balance = 0 }) where
  fresh-account : account_of (rule.new_account R Filed) ≡ image.fresh
  unfolding account_of
  fresh-account = rw new refl

  fresh-is : fresh_by R ≡ record { accounts = replicate accounts_of_register image.fresh }
  unfolding fresh_by
  fresh-is = rw fresh-account refl

  pub zeroed : Zeroed R
  zeroed =
      record {
        image = ap image_of fresh-is ∙ fresh-words accounts_of_register;
        reads = λ size h. ap (λ (accounts : List Account). record { accounts = accounts }) (zeros-read accounts_of_register size 0 h) ∙ sym fresh-is;
      }

pub images-hold : (R : rule.Rule State Event ℕ) → ImagesHold R
images-hold R = record { read = reads-back; one = one-register; zeroed = zeroed R }
