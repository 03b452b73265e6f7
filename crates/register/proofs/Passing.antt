-- What a message comes to, by its reply: the run stops at refusals 1 and 2, and passes a message that got another by its whole length.
-- Assumes nothing.
use Prim.Native.Nat.{ℕ, ◌≤◌}
use mathlib.Core.Path.{◌≡◌, refl}
use mathlib.Core.Logic.{◌⊎◌, inl, inr}
use mathlib.Core.Bool.{Bool, true, false, cond}
use lib.Dec.{leb}
use borrow.Author.Tests.{lt-leb}
use Rattle.std.specs.Prelude.{Ok, Err}
use Rattle.refusal.specs.Numbers.{number_of}
use Rattle.refusal.specs.declared.Refusal.{Refusal}
use Rattle.register.specs.declared.runs.Passed.{Passed}
use Rattle.register.specs.Call.{written_of, Reply}
use Rattle.register.specs.Run.{passed_over, passed_of}

pub passed-stops : (n : Refusal) (whole : ℕ) → (number_of n ≡ 1) ⊎ (number_of n ≡ 2) → passed_of (Err n) whole ≡ record { refused = 1; consumed = 0; written = 0; stops = true }
passed-stops n whole (inl e) = rw e
passed-stops n whole (inr e) = rw e

-- by the number alone, whichever it is
pub over-skips : (number whole : ℕ) → 3 ≤ number → passed_over number whole ≡ record { refused = 1; consumed = whole; written = 0; stops = false }
over-skips number whole h = rw (lt-leb number 2 h)

pub passed-skips : (n : Refusal) (whole : ℕ) → 3 ≤ number_of n → passed_of (Err n) whole ≡ record { refused = 1; consumed = whole; written = 0; stops = false }
passed-skips n whole h = over-skips (number_of n) whole h

-- as much is written as the reply says
pub passed-written : (reply : Reply) (whole : ℕ) → (passed_of reply whole).written ≡ written_of reply
passed-written (Ok taken) whole = refl
passed-written (Err n) whole = go (leb (number_of n) 2)
  where
    go : (b : Bool) → (cond {A = Passed} b (record { refused = 1; consumed = 0; written = 0; stops = true }) (record { refused = 1; consumed = whole; written = 0; stops = false })).written ≡ 0
    go true = refl
    go false = refl
