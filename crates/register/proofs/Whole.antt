-- The table of messages gives each kind its length: by the kind's two tests, and by the rows one by one.
-- Assumes nothing.
use Prim.Native.Nat.{ℕ, ◌+◌, ◌<◌}
use mathlib.Core.Path.{◌≡◌, refl, sym, ◌∙◌, ap, subst}
use mathlib.Core.Bool.{Bool, true, false}
use mathlib.Core.List.{List}
use mathlib.Core.Option.{none, some}
use native.Mathlib.Nat.{zero-add}
use native.Mathlib.Omega.{arith}
use lib.Dec.{leb}
use lib.ListN.{get_or}
use borrow.Author.Tests.{leb-true, leb-false}
use Rattle.layout.specs.Number.{number_at}
use Rattle.layout.specs.Fields.{KindRow, row_of_kind, whole_of, then_of, total}
use Rattle.layout.proofs.Tables.{present, unknown}
use Rattle.message.specs.Bytes.{messages}
use Rattle.message.proofs.Lengths.{with_amount as kind-with-amount, without_amount as kind-without-amount, below-kinds, above-kinds}
use Rattle.register.specs.Whole.{Whole, with_amount, without_amount}

-- a length is not 0
pub some_bytes : {bytes : List ℕ} {whole : ℕ} → Whole bytes whole → 0 < whole
some_bytes (with_amount l h) = omega arith
some_bytes (without_amount l h) = omega arith

-- the kind is the first byte
pub first_byte : (bytes : List ℕ) → number_at bytes 0 1 ≡ get_or bytes 0 0
unfolding number_at
first_byte bytes = zero-add (get_or bytes 0 0)

-- each row of the table has the length of its kind
pub row-length : (bytes : List ℕ) (r : KindRow) → row_of_kind messages (number_at bytes 0 1) ≡ some r → Whole bytes r.whole
unfolding messages
row-length bytes r e = go (leb 1 kind) (leb kind 3) (leb kind 6) refl refl refl
  where
    kind : ℕ
    kind = number_at bytes 0 1

    same : kind ≡ get_or bytes 0 0
    same = first_byte bytes

    missing : whole_of (row_of_kind messages kind) ≡ 0 → ⊥
    missing q =
        let gone : row_of_kind messages kind ≡ none = unknown messages kind (omega arith) q in
        cc

    go : (a b c : Bool) → leb 1 kind ≡ a → leb kind 3 ≡ b → leb kind 6 ≡ c → Whole bytes r.whole
    go true true c p q s =
        let l = leb-true 1 kind p in
        let h = leb-true kind 3 q in
        subst (Whole bytes) (sym (kind-with-amount kind l h) ∙ ap whole_of e) (with_amount (omega (arith, same)) (omega (arith, same)))
    go true false true p q s =
        let l = leb-false kind 3 q in
        let h = leb-true kind 6 s in
        subst (Whole bytes) (sym (kind-without-amount kind l h) ∙ ap whole_of e) (without_amount (omega (arith, same)) (omega (arith, same)))
    go true false false p q s = absurd (missing (above-kinds kind (leb-false kind 6 s)))
    go false b c p q s = absurd (missing (below-kinds kind (leb-false 1 kind p)))

-- and what follows the heading makes up the rest of it
pub row-total : (bytes : List ℕ) (r : KindRow) → row_of_kind messages (number_at bytes 0 1) ≡ some r → 11 + total r.then ≡ r.whole
unfolding messages row_of_kind
row-total bytes r e =
    let some-length : 0 < whole_of (row_of_kind messages (number_at bytes 0 1)) = rw e (some_bytes (row-length bytes r e)) in
    rw e at
    (present (λ (k : ℕ). 11 + total (then_of (row_of_kind messages k)) ≡ whole_of (row_of_kind messages k)) messages (number_at bytes 0 1) (refl, (refl, (refl, (refl, (refl, (refl, tt)))))) some-length)

-- bytes have one length only, and it goes by the first byte
pub one-length : {bytes : List ℕ} {whole whole' : ℕ} → Whole bytes whole → Whole bytes whole' → whole ≡ whole'
one-length (with_amount l h) (with_amount l' h') = refl
one-length (with_amount l h) (without_amount l' h') = absurd (omega arith)
one-length (without_amount l h) (with_amount l' h') = absurd (omega arith)
one-length (without_amount l h) (without_amount l' h') = refl
