-- Whether numbers all differ: those that rise do; and the transactions of two rows, one after the other, differ exactly if those of their slots are apart.
-- Assumes nothing.
use Prim.Native.Nat.{ℕ, suc, ◌+◌, ◌<◌}
use mathlib.Core.Path.{◌≡◌, refl, sym, ap, ap₂, ◌∙◌}
use mathlib.Core.Bool.{Bool, true, false, not, ◌&&◌, ◌||◌}
use mathlib.Core.List.{List, [], ◌∷◌, ◌++◌, map, append_assoc}
use native.Mathlib.Omega.{arith}
use lib.Dec.{eqb}
use lib.ListN.{length, get_or, take, set, length-set}
use lib.Seq.{take-suc-set}
use borrow.Author.Tests.{ne_eqb}
use Rattle.std.proofs.lemmas.List.{take_all}
use Rattle.std.specs.List.Sorted.{IsStrictlyIncreasing}
use Rattle.rule.specs.Lists.{some_of}
use Rattle.rule.specs.InOrder.{apart}
use Rattle.rule.specs.Step.{named}
use Rattle.rule.proofs.Lists.{map-append}
use Rattle.filing.specs.declared.Slot.{Slot}
use Rattle.filing.specs.Slots.{blank, slot_of}
use Rattle.account.specs.inside.Judged.{both_rows, all_differ}
use Rattle.account.proofs.Places.{take_more}

-- numbers that rise are above a lower one, and differ
rising-behind : (t : ℕ) (ts : List ℕ) → IsStrictlyIncreasing (t ∷ ts) → IsStrictlyIncreasing ts
rising-behind t ts r k h = let e : suc k + 1 ≡ suc (k + 1) = omega arith in rw e at (r (suc k) (omega arith))

none-below : (n t : ℕ) (ts : List ℕ) → n < t → IsStrictlyIncreasing (t ∷ ts) → some_of (eqb n) (t ∷ ts) ≡ false
none-below n t [] l r = rw (ne_eqb n t (λ e. omega arith)) refl
none-below n t (u ∷ ts) l r =
    let next : t < u = r 0 (omega arith) in
    rw (ne_eqb n t (λ e. omega arith)) (none-below n u ts (omega arith) (rising-behind t (u ∷ ts) r))

pub rising-differ : (ts : List ℕ) → IsStrictlyIncreasing ts → all_differ ts ≡ true
rising-differ [] r = refl
rising-differ (t ∷ []) r = refl
rising-differ (t ∷ (u ∷ ts)) r =
    let next : t < u = r 0 (omega arith) in
    rw (none-below t u ts next (rising-behind t (u ∷ ts) r)) (rising-differ (u ∷ ts) (rising-behind t (u ∷ ts) r))

-- the transactions noted so far, those before and those of the slots of a row before this one
abbrev pub transaction_in : Slot → ℕ
transaction_in x = x.transaction

pub record Noted (before : List ℕ) (row : List Slot) (at count : ℕ) (transactions : List ℕ) : Type 0 where
  pub both : length transactions ≡ both_rows
  pub noted : take count transactions ≡ before ++ map transaction_in (take at row)

-- one transaction more is noted
pub noted_more : (before : List ℕ) (row : List Slot) (at count next : ℕ) (transactions : List ℕ) → at < length row → count < both_rows → next ≡ suc count → Noted before row at count transactions
    → Noted before row (at + 1) next (set transactions count (get_or row at blank).transaction)
noted_more before row at count next transactions room small e k =
    let x = get_or row at blank in
    record {
      both = length-set transactions count x.transaction ∙ k.both;
      noted =
          ap (λ (n : ℕ). take n (set transactions count x.transaction)) e
          ∙ take-suc-set transactions count x.transaction (omega (arith, k.both))
          ∙ ap (λ (l : List ℕ). l ++ (x.transaction ∷ [])) k.noted
          ∙ append_assoc before (map transaction_in (take at row)) (x.transaction ∷ [])
          ∙ ap (λ (l : List ℕ). before ++ l) (sym (ap (map transaction_in) (take_more row at blank room) ∙ map-append transaction_in (take at row) (x ∷ [])));
    }

-- transactions as numbers
some-transaction : (t : ℕ) (xs : List Slot) → some_of (λ (n : ℕ). eqb t n) (map transaction_in xs) ≡ some_of (named t) (map slot_of xs)
some-transaction t [] = refl
some-transaction t (x ∷ xs) = ap (λ (b : Bool). eqb t x.transaction || b) (some-transaction t xs)

differ-apart : (xs : List Slot) → all_differ (map transaction_in xs) ≡ apart (map slot_of xs)
differ-apart [] = refl
differ-apart (x ∷ xs) = ap₂ (λ (b c : Bool). not b && c) (some-transaction x.transaction xs) (differ-apart xs)

lists-apart : (xs ys : List Slot) → all_differ (map transaction_in xs ++ map transaction_in ys) ≡ apart (map slot_of xs ++ map slot_of ys)
lists-apart xs ys = ap all_differ (sym (map-append transaction_in xs ys)) ∙ differ-apart (xs ++ ys) ∙ ap apart (map-append slot_of xs ys)

-- and so the numbers noted of two rows tell whether their slots are apart
pub all-apart : (xs ys : List Slot) (at : ℕ) (transactions : List ℕ) → at ≡ length ys → Noted (map transaction_in xs) ys at (length xs + at) transactions
    → all_differ (take (length xs + length ys) transactions) ≡ apart (map slot_of xs ++ map slot_of ys)
all-apart xs ys at transactions e k =
    let all : take at ys ≡ ys = take_all at ys (omega arith) in
    ap (λ (n : ℕ). all_differ (take (length xs + n) transactions)) (sym e)
    ∙ ap all_differ (k.noted ∙ ap (λ (l : List Slot). map transaction_in xs ++ map transaction_in l) all)
    ∙ lists-apart xs ys
