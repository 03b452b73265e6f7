-- The digits of a number are its decimal. By induction on the places: the last digit is the remainder by 10, and those before it are the digits
-- of the quotient, which has one place fewer.
-- Assumes nothing.
use Prim.Native.Nat.{ℕ, zero, suc, ◌+◌, ◌*◌, ◌-◌, ◌/◌, ◌%◌, ◌^◌, ◌≤◌, ◌<◌}
use native.Mathlib.Nat.{pow-suc, div-lt_iff_lt-mul}
use native.Mathlib.Omega.{arith}
use mathlib.Core.Path.{◌≡◌, refl, ap}
use mathlib.Core.Bool.{Bool, true, false, cond, ◌&&◌}
use mathlib.Core.List.{List, [], ◌∷◌, ◌++◌}
use borrow.Author.Tests.{le-leb, lt-ltb, le-ltb, ltb-true, ltb-false}
use lib.Dec.{leb, ltb, lit<}
use lib.ListN.{get_or}
use Rattle.rule.specs.Lists.{every}
use Rattle.text.specs.Text.{decimal_in, line_as}
use Rattle.text.specs.Plain.{DecimalPlain}
use Rattle.text.specs.Decimal.{value_from, Decimal, Decimals, LongestLineIs}
use Rattle.entry.proofs.Booleans.{both}

pub value-last : (sofar digit : ℕ) (xs : List ℕ) → value_from sofar (xs ++ (digit ∷ [])) ≡ value_from sofar xs * 10 + (digit - 48)
value-last sofar digit [] = refl
value-last sofar digit (x ∷ xs) = value-last (sofar * 10 + (x - 48)) digit xs

every-last : (test : ℕ → Bool) (y : ℕ) (xs : List ℕ) → every test xs ≡ true → test y ≡ true → every test (xs ++ (y ∷ [])) ≡ true
every-last test y [] p q = rw q
every-last test y (x ∷ xs) p q =
    let s = both (test x) (every test xs) p in
    rw s.0 (every-last test y xs s.1 q)

first-stays : (xs ys : List ℕ) → 49 ≤ get_or xs 0 0 → 49 ≤ get_or (xs ++ ys) 0 0
first-stays [] ys h = absurd (omega arith)
first-stays (x ∷ xs) ys h = h

digit-test : (number : ℕ) → number < 10 → leb 48 (48 + number) && leb (48 + number) 57 ≡ true
digit-test number h = rw (le-leb 48 (48 + number) (omega arith), le-leb (48 + number) 57 (omega arith))

small : (number : ℕ) → number < 10 → Decimal number ((48 + number) ∷ [])
small number h = record { digits = rw (digit-test number h); value = omega arith; first = omega arith; zero = λ z. rw z }

large : (number : ℕ) (text : List ℕ) → 10 ≤ number → Decimal (number / 10) text → Decimal number (text ++ ((48 + number % 10) ∷ []))
large number text h p =
    record {
      digits = every-last (λ (digit : ℕ). leb 48 digit && leb digit 57) (48 + number % 10) text p.digits (digit-test (number % 10) (omega arith));
      value = rw (value-last, p.value) (omega arith);
      first = λ k. first-stays text ((48 + number % 10) ∷ []) (p.first (omega arith));
      zero = λ z. absurd (omega arith);
    }

decimals-in : (places number : ℕ) → number < 10 ^ suc places → Decimal number (decimal_in (suc places) number)
unfolding decimal_in
decimals-in zero number h = rw (lt-ltb number 10 h) (small number h)
decimals-in (suc places) number h =
    go (ltb number 10) refl (decimals-in places (number / 10) ((div-lt_iff_lt-mul (lit< tt)).1 (rw pow-suc at h)))
  where
    go : (b : Bool) → ltb number 10 ≡ b → Decimal (number / 10) (decimal_in (suc places) (number / 10))
        → Decimal number (cond b ((48 + number) ∷ []) (decimal_in (suc places) (number / 10) ++ ((48 + number % 10) ∷ [])))
    go true e p = small number (ltb-true number 10 e)
    go false e p = large number (decimal_in (suc places) (number / 10)) (ltb-false number 10 e) p

pub decimals : Decimals
decimals number h = decimals-in 9 number h

pub longest-line-is : LongestLineIs
unfolding line_as decimal_in
longest-line-is = refl

-- the digits of a number that has fewer than there are places are the same with one place more
one-place-more : (places number : ℕ) → number < 10 ^ suc places → decimal_in (suc places) number ≡ decimal_in (suc (suc places)) number
unfolding decimal_in
one-place-more zero number h = rw (lt-ltb number 10 h) refl
one-place-more (suc places) number h =
    ap (λ (text : List ℕ). cond (ltb number 10) ((48 + number) ∷ []) (text ++ ((48 + number % 10) ∷ [])))
    (one-place-more places (number / 10) ((div-lt_iff_lt-mul (lit< tt)).1 (rw pow-suc at h)))

pub decimal-plain : (number : ℕ) → DecimalPlain number
unfolding decimal_in
decimal-plain number =
    record {
      one = λ h. rw (lt-ltb number 10 h) refl;
      more =
          λ h k.
          rw (le-ltb number 10 h) (ap (λ (text : List ℕ). text ++ ((48 + number % 10) ∷ [])) (one-place-more 8 (number / 10) ((div-lt_iff_lt-mul (lit< tt)).1 (rw pow-suc at k))));
    }
