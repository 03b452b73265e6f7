-- By computing; the reader by its list of tests, the writer by its two.
-- Assumes nothing.
use Prim.Native.Nat.{ℕ, ◌+◌, ◌*◌, ◌<◌}
use native.Mathlib.Omega.{arith}
use mathlib.Core.Path.{◌≡◌, refl, ap, ◌∙◌}
use mathlib.Core.Logic.{◌⊎◌, inl, inr}
use mathlib.Core.Bool.{false, ◌&&◌}
use mathlib.Core.List.{List, [], ◌∷◌}
use mathlib.Core.Option.{some}
use borrow.Author.Tests.{lt-ltb, le-ltb, le-leb, lt-leb, ne_eqb}
use lib.Dec.{eqb, leb}
use lib.ListN.{length}
use Rattle.std.specs.Prelude.{Result, Ok, Err}
use Rattle.refusal.specs.declared.Refusal.{Refusal}
use Rattle.refusal.specs.Numbers.{number_of, numbered}
use Rattle.refusal.proofs.Literal as Told
use Rattle.message.specs.declared.Message.{Message}
use Rattle.message.specs.Bytes.{heading_of, length_of_message}
use Rattle.message.specs.Answers.{said_of_reading, read_of, write_of}
use Rattle.message.specs.Literal.{ReaderLiteral, WriterLiteral, LiteralHolds}
use Rattle.message.proofs.KindNumbers.{numbered-back, unnumbered}
use Rattle.message.proofs.Refusals.{reader-refuses}

-- an answer whose refusal has a number is that refusal
refusal_is : (x : Result (Message × ℕ) Refusal) (n : ℕ) → (said_of_reading x).refusal ≡ some n → x ≡ Err (numbered n)
refusal_is (Ok r) n e = cc
refusal_is (Err r) n e = let f : number_of r ≡ n = cc in cc (Told.literal-holds.told r, ap numbered f)

module _ (kind : ℕ) (rest : List ℕ) where
  none_is : (kind ≡ 0) ⊎ (6 < kind) → leb 1 kind && leb kind 6 ≡ false
  none_is (inl e) = rw e refl
  none_is (inr h) = rw (le-leb 1 kind (omega arith), lt-leb kind 6 h) refl

  -- there is a byte
  some_byte : (bytes : List ℕ) → 0 < length bytes → eqb (length bytes) 0 ≡ false
  some_byte bytes h = ne_eqb (length bytes) 0 (λ e. absurd (omega arith))

  reader-literal : ReaderLiteral kind rest
  reader-literal =
      record {
        empty = refusal_is (read_of []) 1 (reader-refuses []);
        unknown = λ h. refusal_is (read_of (kind ∷ rest)) 2 (reader-refuses (kind ∷ rest) ∙ rw (some_byte (kind ∷ rest) (omega arith), none_is h) refl);
        short_amount =
            λ h k s.
            refusal_is (read_of (kind ∷ rest)) 1
            (reader-refuses (kind ∷ rest) ∙ rw (some_byte (kind ∷ rest) (omega arith), le-leb 1 kind h, le-leb kind 6 (omega arith), le-leb kind 3 k, lt-ltb (length (kind ∷ rest)) 15 (omega arith)) refl);
        short =
            λ h k s.
            refusal_is (read_of (kind ∷ rest)) 1
            (reader-refuses (kind ∷ rest) ∙ rw (some_byte (kind ∷ rest) (omega arith), le-leb 1 kind (omega arith), le-leb kind 6 k, lt-leb kind 3 (omega arith), lt-ltb (length (kind ∷ rest)) 11 (omega arith)) refl);
        elsewhere_amount =
            λ t₁ t₂ t₃ t₄ a₁ a₂ h k s far.
            let bytes = kind ∷ t₁ ∷ t₂ ∷ t₃ ∷ t₄ ∷ a₁ ∷ a₂ ∷ rest in
            refusal_is (read_of bytes) 3
            (reader-refuses bytes
            ∙ rw (some_byte bytes (omega arith), le-leb 1 kind h, le-leb kind 6 (omega arith), le-leb kind 3 k, le-ltb (length bytes) 15 (omega arith), lt-ltb 15 (a₁ * 256 + a₂) far) refl);
        elsewhere =
            λ t₁ t₂ t₃ t₄ a₁ a₂ h k s far.
            let bytes = kind ∷ t₁ ∷ t₂ ∷ t₃ ∷ t₄ ∷ a₁ ∷ a₂ ∷ rest in
            refusal_is (read_of bytes) 3
            (reader-refuses bytes
            ∙ rw (some_byte bytes (omega arith), le-leb 1 kind (omega arith), le-leb kind 6 k, lt-leb kind 3 (omega arith), le-ltb (length bytes) 11 (omega arith), lt-ltb 15 (a₁ * 256 + a₂) far) refl);
      }

writer-literal : (m : Message) (buffer : List ℕ) → WriterLiteral m buffer
unfolding write_of
writer-literal m buffer =
    record {
      elsewhere = λ far. rw (lt-ltb 15 (heading_of m).account far) refl;
      roomless = λ near h. rw (le-ltb 15 (heading_of m).account near, lt-ltb (length buffer) (length_of_message m) h) refl;
      written = λ near h. rw (le-ltb 15 (heading_of m).account near, le-ltb (length buffer) (length_of_message m) h) refl;
    }

pub literal-holds : LiteralHolds
literal-holds =
    record {
      numbers = record { numbers = refl; back = numbered-back; none = unnumbered };
      kinds = λ h a. record { each = refl; kinds = refl; headings = refl; amounts = refl; lengths = refl; by_kind = refl; taken' = λ m whole. refl };
      heading = λ kind t₁ t₂ t₃ t₄ a₁ a₂ s₁ s₂ s₃ s₄ rest. refl;
      stands =
          λ bytes h a.
          record {
            opens = (λ x. x, λ x. x);
            withdraws = (λ x. x, λ x. x);
            deposits = (λ x. x, λ x. x);
            closes = (λ x. x, λ x. x);
            commits = (λ x. x, λ x. x);
            aborts = (λ x. x, λ x. x);
          };
      reader = reader-literal;
      writer = writer-literal;
    }
