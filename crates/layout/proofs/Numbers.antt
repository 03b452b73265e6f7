-- Numbers and their bytes, for every width: how many there are, how a number is put together from two parts, and that reading and writing
-- are inverse. By induction on the width: the last byte is the remainder by 256, and those before it are the bytes of the quotient.
-- Assumes nothing.
use Prim.Native.Nat.{ℕ, zero, suc, ◌+◌, ◌*◌, ◌/◌, ◌%◌, ◌^◌, ◌≤◌, ◌<◌}
use native.Mathlib.Nat.{add-zero, add-suc, zero-add, add_assoc, add_comm, mul_assoc, mul_comm, pow-suc, pow-zero, div-div-eq-div-mul, div-lt_iff_lt-mul, div-one, mul-one, mod-lt, mod-eq_of_lt, div-add-mod'}
use native.Mathlib.Numerals.{add-one}
use native.Mathlib.Omega.{arith}
use mathlib.Core.Path.{◌≡◌, refl, sym, ap, ◌∙◌}
use mathlib.Core.List.{List, [], ◌∷◌, ◌++◌, append-nil, append_assoc}
use lib.Arith.{mod-mul, digits_lt, digits_div, digits_mod}
use lib.Dec.{lit<}
use lib.ListN.{length, get_or, take, drop, length-append, length-drop, get_or-eq_default}
use lib.Seq.{sets, append_snoc, get_or_at, get_or-drop, take-suc}
use Rattle.layout.specs.Number.{bytes_of, number_at, AreBytes}
use Rattle.layout.proofs.Stores.{sets-before}

pub length-bytes_of : (width number : ℕ) → length (bytes_of width number) ≡ width
unfolding bytes_of
length-bytes_of zero number = refl
length-bytes_of (suc width) number = rw (length-append, length-bytes_of width (number / 256)) (add-one width)

pub pow_pos : (width : ℕ) → zero < 256 ^ width
pow_pos zero = rw pow-zero (lit< tt)
pow_pos (suc width) = let h : zero < 256 ^ width = pow_pos width in rw pow-suc (omega arith)

-- the bytes of a number are those of its high part and those of its low part
pub bytes_of-parts : (high low number : ℕ) → bytes_of (high + low) number ≡ bytes_of high (number / 256 ^ low) ++ bytes_of low number
unfolding bytes_of
bytes_of-parts high zero number = rw (add-zero, pow-zero, div-one, append-nil)
bytes_of-parts high (suc low) number =
    rw (add-suc, pow-suc, ← append_assoc, mul_comm, ← div-div-eq-div-mul, ← bytes_of-parts high low (number / 256))

-- the last byte read from the front: the bytes of a number depend on what they hold of it alone
pub bytes_of-low : (width number : ℕ) → bytes_of width (number % 256 ^ width) ≡ bytes_of width number
unfolding bytes_of
bytes_of-low zero number = refl
bytes_of-low (suc width) number =
    let r : number % 256 < 256 = mod-lt number (lit< tt) in
    rw (pow-suc, mod-mul number (pow_pos width) (lit< tt), digits_div (number / 256 % 256 ^ width) r, digits_mod (number / 256 % 256 ^ width) r)
    (ap (λ (l : List ℕ). l ++ (number % 256 ∷ [])) (bytes_of-low width (number / 256)))

pub bytes_of-one : (number : ℕ) → number < 256 → bytes_of 1 number ≡ number ∷ []
unfolding bytes_of
bytes_of-one number h = rw (mod-eq_of_lt h)

-- storing one byte more in front of those that are stored: `count` of them, and one
pub sets-front : (count number i rest : ℕ) (l l₁ l₂ : List ℕ) → rest ≡ number / 256 ^ count → l₁ ≡ sets l (i + 1) (bytes_of count number)
    → l₂ ≡ sets l₁ i (bytes_of 1 (rest % 256)) → l₂ ≡ sets l i (bytes_of (count + 1) number)
sets-front count number i rest l l₁ l₂ r e₁ e₂ =
    let parts : bytes_of (count + 1) number ≡ number / 256 ^ count % 256 ∷ bytes_of count number =
    rw (add_comm count 1, bytes_of-parts 1 count number, ← bytes_of-low 1 (number / 256 ^ count), bytes_of-one (number / 256 ^ count % 256) (mod-lt (number / 256 ^ count) (lit< tt))) in
    let byte : bytes_of 1 (number / 256 ^ count % 256) ≡ number / 256 ^ count % 256 ∷ [] = bytes_of-one (number / 256 ^ count % 256) (mod-lt (number / 256 ^ count) (lit< tt)) in
    rw (parts, e₂, e₁, r, byte, add-one i) (sets-before (number / 256 ^ count % 256) (bytes_of count number) l i)

-- a number past the end is 0
pub number_at-out : (width at : ℕ) (bytes : List ℕ) → length bytes ≤ at → number_at bytes at width ≡ 0
unfolding number_at
number_at-out zero at bytes h = refl
number_at-out (suc width) at bytes h = rw (number_at-out width at bytes h, get_or-eq_default bytes 0 {n = at + width} (omega arith))

-- a number read in two parts
pub number_at-parts : (high low at : ℕ) (bytes : List ℕ)
    → number_at bytes at (high + low) ≡ number_at bytes at high * 256 ^ low + number_at bytes (at + high) low
unfolding number_at
number_at-parts high zero at bytes = rw (add-zero high, pow-zero, mul-one, add-zero)
number_at-parts high (suc low) at bytes =
    rw (add-suc, pow-suc, number_at-parts high low at bytes, ← mul_assoc, ← add_assoc at high low) (omega arith)

-- one byte more, and that four bytes hold what comes of it
pub number_at-more : (i at number byte : ℕ) (bytes : List ℕ) → number ≡ number_at bytes at i → byte ≡ number_at bytes (at + i) 1
    → number * 256 + byte ≡ number_at bytes at (i + 1)
number_at-more i at number byte bytes p q = rw (p, q) (sym (number_at-parts i 1 at bytes))

pub more-fits : (i number byte : ℕ) → number < 256 ^ i → byte < 256 → number * 256 + byte < 256 ^ (i + 1)
more-fits i number byte h b = rw (add-one i, pow-suc) (digits_lt h b)

pub three-fit : (i number : ℕ) → i < 4 → number < 256 ^ i → number < 16_777_216
three-fit zero number h p = omega arith
three-fit (suc zero) number h p = omega arith
three-fit (suc (suc zero)) number h p = omega arith
three-fit (suc (suc (suc zero))) number h p = omega arith
three-fit (suc (suc (suc (suc i)))) number h p = absurd (omega arith)

pub number_at-one : (at : ℕ) (bytes : List ℕ) → number_at bytes at 1 ≡ get_or bytes at 0
unfolding number_at
number_at-one at bytes = rw (add-zero, zero-add)

-- reading what was written: a number that its bytes hold, wherever they stand
pub number_at-bytes_of : (width number : ℕ) (before after : List ℕ) → number < 256 ^ width
    → number_at (before ++ bytes_of width number ++ after) (length before) width ≡ number
unfolding bytes_of number_at
number_at-bytes_of zero number before after h = omega arith
number_at-bytes_of (suc width) number before after h =
    let q : ℕ = number / 256 in
    let d : ℕ = number % 256 in
    let high : List ℕ = before ++ bytes_of width q in
    let e : before ++ (bytes_of width q ++ (d ∷ [])) ++ after ≡ high ++ d ∷ after = rw (← append_assoc) (append_snoc high d after) in
    let fits : q < 256 ^ width = (div-lt_iff_lt-mul (lit< tt)).1 (rw pow-suc at h) in
    let last : length high ≡ length before + width = rw (length-append, length-bytes_of) in
    let ends : number_at (high ++ d ∷ after) (length before) (suc width) ≡ number =
    rw (number_at-bytes_of width q before (d ∷ after) fits, get_or_at high d after 0 (length before + width) last) (div-add-mod' number 256) in
    ap (λ (l : List ℕ). number_at l (length before) (suc width)) e ∙ ends

-- writing what was read
pub bytes_of-number_at : (width at : ℕ) (bytes : List ℕ) → at + width ≤ length bytes → AreBytes bytes
    → bytes_of width (number_at bytes at width) ≡ take width (drop at bytes)
unfolding bytes_of number_at
bytes_of-number_at zero at bytes h b = refl
bytes_of-number_at (suc width) at bytes h b =
    let q : ℕ = number_at bytes at width in
    let d : ℕ = get_or bytes (at + width) 0 in
    let inside : width < length (drop at bytes) = rw length-drop (omega arith) in
    rw (digits_div q (b (at + width)), digits_mod q (b (at + width)), take-suc (drop at bytes) width 0 inside, get_or-drop)
    (ap (λ (l : List ℕ). l ++ (d ∷ [])) (bytes_of-number_at width at bytes (omega arith) b))

-- what was read of bytes fits
pub number_at-fits : (width at : ℕ) (bytes : List ℕ) → AreBytes bytes → number_at bytes at width < 256 ^ width
unfolding number_at
number_at-fits zero at bytes b = rw pow-zero (lit< tt)
number_at-fits (suc width) at bytes b = rw pow-suc (digits_lt (number_at-fits width at bytes b) (b (at + width)))

-- a number in bytes that are the same so far
pub number_at-same : (width at most : ℕ) (bytes row : List ℕ) → at + width ≤ most → ((i : ℕ) → i < most → get_or row i 0 ≡ get_or bytes i 0) → number_at row at width ≡ number_at bytes at width
unfolding number_at
number_at-same zero at most bytes row h e = refl
number_at-same (suc width) at most bytes row h e = rw (number_at-same width at most bytes row (omega arith) e, e (at + width) (omega arith))
