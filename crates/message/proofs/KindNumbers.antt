-- A kind and its number tell each other, and a number that no kind has is in no row of the table. By computing, number by number.
-- Assumes nothing.
use Prim.Native.Nat.{ℕ, zero, suc, ◌<◌}
use native.Mathlib.Omega.{arith}
use mathlib.Core.Path.{◌≡◌, refl, ap}
use mathlib.Core.Logic.{◌⊎◌, inl, inr}
use mathlib.Core.Option.{none}
use borrow.Author.Tests.{ne_eqb}
use Rattle.std.specs.Prelude.{Result, Ok, Err}
use Rattle.refusal.specs.declared.Refusal.{Refusal}
use Rattle.refusal.specs.declared.Refusal.TheVariants.{UnknownKind}
use Rattle.layout.specs.Fields.{row_of_kind, whole_of}
use Rattle.layout.proofs.Tables.{absent}
use Rattle.message.specs.declared.kinds.Kind.{Kind}
use Rattle.message.specs.declared.kinds.Kind.TheVariants.{Open, Withdraw, Deposit, Close, Commit, Abort}
use Rattle.message.specs.Kinds.{number_in, kind_numbered}
use Rattle.message.specs.Bytes.{messages}

pub numbered-back : (kind : Kind) → kind_numbered (number_in kind) ≡ Ok kind
numbered-back Open = refl
numbered-back Withdraw = refl
numbered-back Deposit = refl
numbered-back Close = refl
numbered-back Commit = refl
numbered-back Abort = refl

pub unnumbered : (number : ℕ) → (number ≡ 0) ⊎ (6 < number) → kind_numbered number ≡ Err UnknownKind
unnumbered number (inl e) = rw e
unnumbered number (inr h) =
    rw (ne_eqb number 1 (λ e. omega arith), ne_eqb number 2 (λ e. omega arith), ne_eqb number 3 (λ e. omega arith), ne_eqb number 4 (λ e. omega arith), ne_eqb number 5 (λ e. omega arith), ne_eqb number 6 (λ e. omega arith))

same-kind : (j k : Kind) → ◌≡◌ {A = Result Kind Refusal} (Ok j) (Ok k) → number_in j ≡ number_in k
same-kind j k e = let f : j ≡ k = cc in ap number_in f

pub number-known : (number : ℕ) (kind : Kind) → kind_numbered number ≡ Ok kind → number ≡ number_in kind
number-known zero kind e = cc
number-known (suc zero) kind e = same-kind _ kind e
number-known (suc (suc zero)) kind e = same-kind _ kind e
number-known (suc (suc (suc zero))) kind e = same-kind _ kind e
number-known (suc (suc (suc (suc zero)))) kind e = same-kind _ kind e
number-known (suc (suc (suc (suc (suc zero))))) kind e = same-kind _ kind e
number-known (suc (suc (suc (suc (suc (suc zero)))))) kind e = same-kind _ kind e
number-known (suc (suc (suc (suc (suc (suc (suc number))))))) kind e = let f : ◌≡◌ {A = Result Kind Refusal} (Err UnknownKind) (Ok kind) = rw (unnumbered (suc (suc (suc (suc (suc (suc (suc number))))))) (inr (omega arith))) at e in cc

pub number_unknown : (number : ℕ) (r : Refusal) → kind_numbered number ≡ Err r → (r ≡ UnknownKind) × (row_of_kind messages number ≡ none)
unfolding row_of_kind messages
number_unknown zero r e = (cc, refl)
number_unknown (suc zero) r e = (cc, cc)
number_unknown (suc (suc zero)) r e = (cc, cc)
number_unknown (suc (suc (suc zero))) r e = (cc, cc)
number_unknown (suc (suc (suc (suc zero)))) r e = (cc, cc)
number_unknown (suc (suc (suc (suc (suc zero))))) r e = (cc, cc)
number_unknown (suc (suc (suc (suc (suc (suc zero)))))) r e = (cc, cc)
number_unknown (suc (suc (suc (suc (suc (suc (suc number))))))) r e =
    let f : ◌≡◌ {A = Result Kind Refusal} (Err UnknownKind) (Err r) = rw (unnumbered (suc (suc (suc (suc (suc (suc (suc number))))))) (inr (omega arith))) at e in
    (cc, absent messages (suc (suc (suc (suc (suc (suc (suc number))))))) (omega arith))

-- each kind has a length
pub kind-long : (kind : Kind) → 0 < whole_of (row_of_kind messages (number_in kind))
unfolding row_of_kind messages
kind-long Open = omega arith
kind-long Withdraw = omega arith
kind-long Deposit = omega arith
kind-long Close = omega arith
kind-long Commit = omega arith
kind-long Abort = omega arith
