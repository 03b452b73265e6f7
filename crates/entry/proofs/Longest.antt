-- The length of a commit's entries and of an abort's, from how many were applied and how many votes and rejections followed: entries of one kind have one length.
-- Assumes nothing.
use Prim.Native.Nat.{ℕ, ◌+◌, ◌*◌, ◌≤◌}
use native.Mathlib.Nat.{mul-zero, mul-suc}
use native.Mathlib.Omega.{arith}
use mathlib.Core.Path.{◌≡◌, refl, sym}
use mathlib.Core.Bool.{Bool, true, false, cond, false≢true}
use mathlib.Core.List.{List, [], ◌∷◌}
use lib.Dec.{lit≤}
use lib.ListN.{length}
use Rattle.rule.specs.Lists.{every, keep}
use Rattle.events.specs.declared.Event.{Event}
use Rattle.filing.specs.declared.Verdict.{Verdict}
use Rattle.filing.specs.declared.Verdict.TheVariants.{Accepted, Rejected, Held}
use Rattle.filing.specs.declared.Weighing.{Weighing}
use Rattle.filing.specs.declared.Told.{Told}
use Rattle.filing.specs.declared.Told.TheVariants.{Voted, Noted, Applied, Dropped}
use Rattle.filing.specs.declared.Entry.{Entry}
use Rattle.layout.specs.Fields.{row_of_kind}
use Rattle.entry.specs.Bytes.{entry_rows, length_of_told, wholes_of}
use Rattle.entry.specs.Longest.{is_rejected, is_applied, is_vote, is_rejection, rejections, CallsSized}
use Rattle.entry.specs.Plain.{vote}
use Rattle.entry.proofs.Booleans.{both}
use Rattle.entry.proofs.Stored.{wholes-append}

applied-length : (told : Told) → is_applied told ≡ true → length_of_told told ≡ 20
unfolding length_of_told row_of_kind entry_rows
applied-length (Voted e w) h = absurd (false≢true h)
applied-length Noted h = absurd (false≢true h)
applied-length (Applied e n) h = refl
applied-length (Dropped e) h = absurd (false≢true h)

-- a vote has 18 bytes, and a rejection one more
vote-length : (v : Verdict) (e : Event) (n k : ℕ) → length_of_told (vote v e n k) ≡ 18 + cond (is_rejected v) 1 0
unfolding length_of_told row_of_kind entry_rows
vote-length Accepted e n k = refl
vote-length Rejected e n k = refl
vote-length Held e n k = refl

-- so no vote is longer than 19
pub vote-short : (e : Event) (w : Weighing) → length_of_told (Voted e w) ≤ 19
vote-short e w = rw (vote-length w.verdict e w.weighed w.reason) (go (is_rejected w.verdict))
  where
    go : (b : Bool) → 18 + cond b 1 0 ≤ 19
    go true = lit≤ tt
    go false = lit≤ tt

voted-length : (told : Told) → is_vote told ≡ true → length_of_told told ≡ 18 + cond (is_rejection told) 1 0
voted-length (Voted e w) h = vote-length w.verdict e w.weighed w.reason
voted-length Noted h = absurd (false≢true h)
voted-length (Applied e n) h = absurd (false≢true h)
voted-length (Dropped e) h = absurd (false≢true h)

-- entries that all have one length
same-lengths : (size : ℕ) (test : Told → Bool) → ((told : Told) → test told ≡ true → length_of_told told ≡ size) → (xs : List Entry)
    → every (λ (x : Entry). test x.told) xs ≡ true → wholes_of xs ≡ size * length xs
unfolding wholes_of
same-lengths size test each [] h = sym (mul-zero size)
same-lengths size test each (x ∷ xs) h =
    let p = both (test x.told) (every (λ (y : Entry). test y.told) xs) h in
    rw (each x.told p.0, same-lengths size test each xs p.1, mul-suc) (omega arith)

-- votes: 18 for each, and one for each rejection
votes-length : (xs : List Entry) → every (λ (x : Entry). is_vote x.told) xs ≡ true → wholes_of xs ≡ 18 * length xs + rejections xs
unfolding wholes_of
votes-length [] h = refl
votes-length (x ∷ xs) h =
    let p = both (is_vote x.told) (every (λ (y : Entry). is_vote y.told) xs) h in
    let first : length_of_told x.told ≡ 18 + cond (is_rejection x.told) 1 0 = voted-length x.told p.0 in
    let rest : wholes_of xs ≡ 18 * length xs + rejections xs = votes-length xs p.1 in
    rw mul-suc (go (is_rejection x.told) first rest)
  where
    go : (b : Bool) → length_of_told x.told ≡ 18 + cond b 1 0 → wholes_of xs ≡ 18 * length xs + rejections xs
        → length_of_told x.told + wholes_of xs ≡ 18 * length xs + 18 + length (cond b (x ∷ keep (λ (y : Entry). is_rejection y.told) xs) (keep (λ (y : Entry). is_rejection y.told) xs))
    go true first rest = omega arith
    go false first rest = omega arith

pub calls-sized : CallsSized
unfolding wholes_of length_of_told row_of_kind entry_rows
calls-sized applied votes p q =
    let a = same-lengths 20 is_applied applied-length applied p in
    let v = votes-length votes q in
    record { commit = λ t g. rw (wholes-append, a, v); abort = λ t g e. rw (wholes-append, a, v) }
