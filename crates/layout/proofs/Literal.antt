-- A byte among others by the laws of the seam; the rest by computing.
-- Assumes nothing.
use Prim.Native.Nat.{ℕ, ◌+◌}
use native.Mathlib.Omega.{arith}
use mathlib.Core.Path.{◌≡◌, refl}
use mathlib.Core.List.{List, ◌∷◌, ◌++◌}
use borrow.Author.Tests.{eq-eqb, ne_eqb}
use lib.ListN.{length, drop, get_or}
use lib.Seq.{get_or_at, get_or-append-add, take_at, drop_at}
use Rattle.layout.specs.Fields.{KindRow, written, numbers_at, row_of_kind}
use Rattle.layout.specs.Literal.{NumberLiteral, FieldsLiteral, TableLiteral, LiteralHolds}

module _ (before after : List ℕ) where
  -- the byte i behind the others
  byte : (xs : List ℕ) (i : ℕ) → get_or (before ++ xs) (length before + i) 0 ≡ get_or xs i 0
  byte xs i = get_or-append-add before xs i 0

  number-literal : (a b c d n : ℕ) → NumberLiteral before after a b c d n
  number-literal a b c d n =
      record {
        two = rw (get_or_at before a (b ∷ after) 0 (length before) refl, byte (a ∷ b ∷ after) 1) (omega arith);
        four =
            rw (
              get_or_at before a (b ∷ c ∷ d ∷ after) 0 (length before) refl,
              byte (a ∷ b ∷ c ∷ d ∷ after) 1,
              byte (a ∷ b ∷ c ∷ d ∷ after) 2,
              byte (a ∷ b ∷ c ∷ d ∷ after) 3,
            )
            (omega arith);
        two_bytes = refl;
        four_bytes = refl;
      }

fields-literal : (width number at : ℕ) (widths numbers bytes : List ℕ) → FieldsLiteral width number at widths numbers bytes
unfolding written numbers_at
fields-literal width number at widths numbers bytes =
    record { no_bytes = refl; more_bytes = refl; no_numbers = refl; more_numbers = refl; no_total = refl; more_total = refl }

table-literal : (kind other whole : ℕ) (then : List ℕ) (rows : List KindRow) → TableLiteral kind other whole then rows
unfolding row_of_kind
table-literal kind other whole then rows =
    record {
      row = refl;
      empty = refl;
      first = rw (eq-eqb kind kind refl) refl;
      later = λ differ. rw (ne_eqb kind other differ) refl;
      no_whole = refl;
      whole' = refl;
      no_then = refl;
      then' = refl;
      widths = refl;
    }

pub literal-holds : LiteralHolds
literal-holds =
    record {
      number = number-literal;
      heading' =
          λ k t a s.
          record {
            numbers = refl;
            widths = refl;
            bytes = refl;
            from_numbers = λ rest. refl;
            from_bytes = λ t₁ t₂ t₃ t₄ a₁ a₂ s₁ s₂ s₃ s₄ rest. refl;
            fits = λ h. record { second = h };
            last = refl;
          };
      fields = fields-literal;
      table = table-literal;
      buffer =
          λ bytes buffer r.
          record {
            over = refl;
            front = take_at bytes (drop (length bytes) buffer) (length bytes) refl;
            behind = drop_at bytes (drop (length bytes) buffer) (length bytes) refl;
            wrote = refl;
            refused = refl;
          };
    }
