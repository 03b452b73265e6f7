-- Tables of kinds: what holds of every row holds of the row found, and a kind that no row has is not found. By induction on the rows.
-- Assumes nothing.
use Prim.Native.Nat.{ℕ, ◌≤◌, ◌<◌}
use native.Mathlib.Omega.{arith}
use mathlib.Core.Path.{◌≡◌, refl, sym, subst}
use mathlib.Core.Bool.{Bool, true, false, cond}
use mathlib.Core.List.{List, [], ◌∷◌}
use mathlib.Core.Option.{none, some}
use lib.Dec.{eqb}
use borrow.Author.Tests.{eqb-true, ne_eqb}
use Rattle.layout.specs.Fields.{KindRow, row_of_kind, whole_of}

-- what is said of a row holds of every row
abbrev pub Each : (KindRow → Type 0) → List KindRow → Type 0
Each P [] = Unit {0}
Each P (r ∷ rows) = P r × Each P rows

-- a kind that no row has
pub absent : (rows : List KindRow) (kind : ℕ) → Each (λ (r : KindRow). kind ≡ r.kind → ⊥) rows → row_of_kind rows kind ≡ none
unfolding row_of_kind
absent [] kind each = refl
absent (r ∷ rows) kind each = rw (ne_eqb kind r.kind each.0) (absent rows kind each.1)

-- a kind that has a length is that of some row
pub present : (P : ℕ → Type 0) (rows : List KindRow) (kind : ℕ) → Each (λ (r : KindRow). P r.kind) rows → 0 < whole_of (row_of_kind rows kind) → P kind
unfolding row_of_kind
present P [] kind each h = absurd (omega arith)
present P (r ∷ rows) kind each h = go (eqb kind r.kind) refl (present P rows kind each.1) h
  where
    go : (b : Bool) → eqb kind r.kind ≡ b → (0 < whole_of (row_of_kind rows kind) → P kind) → 0 < whole_of (cond b (some r) (row_of_kind rows kind)) → P kind
    go true e rest h = subst P (sym (eqb-true kind r.kind e)) each.0
    go false e rest h = rest h

-- where every row has a length, a kind without one has no row
pub unknown : (rows : List KindRow) (kind : ℕ) → Each (λ (r : KindRow). 0 < r.whole) rows → whole_of (row_of_kind rows kind) ≡ 0 → row_of_kind rows kind ≡ none
unfolding row_of_kind
unknown [] kind each h = refl
unknown (r ∷ rows) kind each h = go (eqb kind r.kind) (unknown rows kind each.1) h
  where
    go : (b : Bool) → (whole_of (row_of_kind rows kind) ≡ 0 → row_of_kind rows kind ≡ none)
        → whole_of (cond b (some r) (row_of_kind rows kind)) ≡ 0 → cond b (some r) (row_of_kind rows kind) ≡ none
    go true rest h = absurd (omega (arith, each.0))
    go false rest h = rest h

-- no length is above one that no row's is above
pub longest : (most : ℕ) (rows : List KindRow) (kind : ℕ) → Each (λ (r : KindRow). r.whole ≤ most) rows → whole_of (row_of_kind rows kind) ≤ most
unfolding row_of_kind
longest most [] kind each = omega arith
longest most (r ∷ rows) kind each = go (eqb kind r.kind) (longest most rows kind each.1)
  where
    go : (b : Bool) → whole_of (row_of_kind rows kind) ≤ most → whole_of (cond b (some r) (row_of_kind rows kind)) ≤ most
    go true rest = each.0
    go false rest = rest
