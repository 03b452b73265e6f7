-- What the reader's answer tells of the bytes: a message that it gives stands whole at their beginning, and so does one that it refuses with 3; 1 and 2 are its other refusals.
-- Assumes nothing.
use Prim.Native.Nat.{ℕ, ◌≤◌}
use mathlib.Core.Path.{◌≡◌, refl, sym, ap}
use mathlib.Core.Logic.{◌⊎◌, inl, inr}
use mathlib.Core.Bool.{Bool, true, false, cond}
use mathlib.Core.List.{List}
use mathlib.Core.Option.{Option, none, some}
use native.Mathlib.Omega.{arith}
use lib.Dec.{eqb, ltb}
use lib.ListN.{length, get_or}
use borrow.Author.Tests.{ltb-false}
use Rattle.refusal.specs.Numbers.{number_of}
use Rattle.message.specs.declared.Message.{Message}
use Rattle.std.specs.Prelude.{Result, Ok, Err}
use Rattle.refusal.specs.declared.Refusal.{Refusal}
use Rattle.refusal.specs.declared.Refusal.TheVariants.{Torn, UnknownAccount}
use Rattle.layout.specs.Number.{number_at}
use Rattle.layout.specs.Fields.{KindRow, row_of_kind, whole_of, widths_of, numbers_at, last_account}
use Rattle.message.specs.Bytes.{messages, message_of}
use Rattle.message.specs.Answers.{read_numbers, read_kind, read_of}
use Rattle.register.specs.Whole.{Whole}
use Rattle.register.specs.Run.{length_at}
use Rattle.register.proofs.Whole.{row-length}

-- the message that the bytes begin with stands there whole
pub record Stands (bytes : List ℕ) : Type 0 where
  pub whole : Whole bytes (length_at bytes)
  pub all_there : length_at bytes ≤ length bytes

-- what a refusal tells of the bytes
abbrev pub Refusable : (bytes : List ℕ) (n : ℕ) → Type 0
Refusable bytes n = ((n ≡ 1) ⊎ (n ≡ 2)) ⊎ ((3 ≤ n) × Stands bytes)

-- and what was read
abbrev pub ReadingTells : (bytes : List ℕ) → Result (Message × ℕ) Refusal → Type 0
ReadingTells bytes (Err n) = Refusable bytes (number_of n)
ReadingTells bytes (Ok (m, consumed)) = (consumed ≡ length_at bytes) × Stands bytes

kind-tells : (bytes : List ℕ) (found : Option KindRow) → row_of_kind messages (number_at bytes 0 1) ≡ found → ReadingTells bytes (read_kind found bytes)
kind-tells bytes none e = inl (inr refl)
kind-tells bytes (some r) e = short (ltb (length bytes) r.whole) refl
  where
    same : length_at bytes ≡ r.whole
    same = ap whole_of e

    numbers : List ℕ
    numbers = numbers_at (widths_of (some r)) bytes 0

    account : Stands bytes → (b : Bool) → ReadingTells bytes (cond b (Err UnknownAccount) (Ok (message_of numbers, r.whole)))
    account w true = inr (omega arith, w)
    account w false = (sym same, w)

    short : (b : Bool) → ltb (length bytes) r.whole ≡ b → ReadingTells bytes (cond b (Err Torn) (read_numbers r.whole numbers))
    short true q = inl (inl refl)
    short false q =
        account
        (record { whole = rw same (row-length bytes r e); all_there = rw same (ltb-false (length bytes) r.whole q) })
        (ltb last_account (get_or numbers 2 0))

pub reading-tells : (bytes : List ℕ) → ReadingTells bytes (read_of bytes)
unfolding read_of
reading-tells bytes = go (eqb (length bytes) 0)
  where
    go : (b : Bool) → ReadingTells bytes (cond b (Err Torn) (read_kind (row_of_kind messages (number_at bytes 0 1)) bytes))
    go true = inl (inl refl)
    go false = kind-tells bytes (row_of_kind messages (number_at bytes 0 1)) refl
