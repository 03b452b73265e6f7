-- Fields one after the other: how long they are, that storing them one by one is storing them all, and that reading and writing are inverse.
-- By induction on the widths, from the laws on one number.
-- Assumes nothing.
use Prim.Native.Nat.{ℕ, suc, ◌+◌, ◌^◌, ◌≤◌, ◌<◌}
use native.Mathlib.Numerals.{add-one}
use native.Mathlib.Omega.{arith}
use mathlib.Core.Path.{◌≡◌, refl, ap, sym, ◌∙◌}
use mathlib.Core.List.{List, [], ◌∷◌, ◌++◌, append_assoc}
use lib.ListN.{length, get_or, take, drop, set, length-append}
use lib.Seq.{sets, take-add, drop-drop, drop-cons, take-suc-set, append_snoc}
use Rattle.layout.specs.Number.{bytes_of, number_at, AreBytes}
use Rattle.layout.specs.Fields.{written, numbers_at, total}
use Rattle.layout.specs.Inverse.{NumbersRead, NumbersWritten, Fit, none, one, FieldsRead, FieldsWritten}
use Rattle.layout.proofs.Stores.{sets-append}
use Rattle.layout.proofs.Numbers.{length-bytes_of, number_at-fits, number_at-bytes_of, bytes_of-number_at}

pub fit-head : {width number : ℕ} {widths numbers : List ℕ} → Fit (width ∷ widths) (number ∷ numbers) → number < 256 ^ width
fit-head (one h fit) = h

pub fit-tail : {width number : ℕ} {widths numbers : List ℕ} → Fit (width ∷ widths) (number ∷ numbers) → Fit widths numbers
fit-tail (one h fit) = fit

-- what was read of bytes fits
pub numbers_at-fit : (widths bytes : List ℕ) (at : ℕ) → AreBytes bytes → Fit widths (numbers_at widths bytes at)
unfolding numbers_at
numbers_at-fit [] bytes at b = none
numbers_at-fit (width ∷ widths) bytes at b = one (number_at-fits width at bytes b) (numbers_at-fit widths bytes (at + width) b)

-- reading what was written, whatever stands before and after
pub numbers_at-written : {widths numbers : List ℕ} (before after : List ℕ) → Fit widths numbers
    → numbers_at widths (before ++ written widths numbers ++ after) (length before) ≡ numbers
unfolding written numbers_at
numbers_at-written before after none = refl
numbers_at-written before after (one {width = w} {number = n} {widths = ws} {numbers = ns} h fit) =
    let e : before ++ (bytes_of w n ++ written ws ns) ++ after ≡ before ++ bytes_of w n ++ (written ws ns ++ after) = simp append_assoc in
    let f : before ++ (bytes_of w n ++ written ws ns) ++ after ≡ (before ++ bytes_of w n) ++ written ws ns ++ after = simp append_assoc in
    let k : length (before ++ bytes_of w n) ≡ length before + w = rw (length-append, length-bytes_of) in
    let first : number_at (before ++ (bytes_of w n ++ written ws ns) ++ after) (length before) w ≡ n =
    rw e (number_at-bytes_of w n before (written ws ns ++ after) h) in
    let rest : numbers_at ws (before ++ (bytes_of w n ++ written ws ns) ++ after) (length before + w) ≡ ns =
    rw (f, ← k) (numbers_at-written (before ++ bytes_of w n) after fit) in
    cc

-- writing what was read
pub written-numbers_at : (widths bytes : List ℕ) (at : ℕ) → at + total widths ≤ length bytes → AreBytes bytes
    → written widths (numbers_at widths bytes at) ≡ take (total widths) (drop at bytes)
unfolding written numbers_at
written-numbers_at [] bytes at h b = refl
written-numbers_at (w ∷ ws) bytes at h b =
    rw (take-add, drop-drop, bytes_of-number_at w at bytes (omega arith) b, written-numbers_at ws bytes (at + w) (omega arith) b)

pub length-written : (widths numbers : List ℕ) → length widths ≡ length numbers → length (written widths numbers) ≡ total widths
unfolding written
length-written [] numbers h = refl
length-written (w ∷ ws) [] h = absurd (omega arith)
length-written (w ∷ ws) (n ∷ ns) h = rw (length-append, length-bytes_of, length-written ws ns (omega arith))

pub written-append : (ws vs ns ms : List ℕ) → length ws ≡ length ns → written (ws ++ vs) (ns ++ ms) ≡ written ws ns ++ written vs ms
unfolding written
written-append [] vs [] ms h = refl
written-append [] vs (n ∷ ns) ms h = absurd (omega arith)
written-append (w ∷ ws) vs [] ms h = absurd (omega arith)
written-append (w ∷ ws) vs (n ∷ ns) ms h = rw (append_assoc, written-append ws vs ns ms (omega arith))

-- one step of the loop that stores a row: what is left to store after it, and before
pub put_one : (ws ns l : List ℕ) (to i width : ℕ) → i < length ws → i < length ns → width ≡ get_or ws i 0
    → sets (sets l to (bytes_of width (get_or ns i 0))) (to + width) (written (drop (i + 1) ws) (drop (i + 1) ns)) ≡ sets l to (written (drop i ws) (drop i ns))
unfolding written
put_one ws ns l to i width h k w =
    rw (drop-cons ws i 0 h, drop-cons ns i 0 k, ← w, add-one i)
    (ap (λ (n : ℕ). sets (sets l to (bytes_of width (get_or ns i 0))) (to + n) (written (drop (suc i) ws) (drop (suc i) ns))) (sym (length-bytes_of width (get_or ns i 0)))
    ∙ sets-append (bytes_of width (get_or ns i 0)) (written (drop (suc i) ws) (drop (suc i) ns)) l to)

-- one step of the loop that reads a row: what was read and what is left to read
pub read_one : (ws ns bytes : List ℕ) (from i width : ℕ) → i < length ws → i < length ns → width ≡ get_or ws i 0
    → take (i + 1) (set ns i (number_at bytes from width)) ++ numbers_at (drop (i + 1) ws) bytes (from + width) ≡ take i ns ++ numbers_at (drop i ws) bytes from
unfolding numbers_at
read_one ws ns bytes from i width h k w =
    rw (drop-cons ws i 0 h, ← w, add-one i, take-suc-set ns i (number_at bytes from width) k) (append_snoc (take i ns) (number_at bytes from width) (numbers_at (drop (suc i) ws) bytes (from + width)))

pub numbers-read : NumbersRead
numbers-read = number_at-bytes_of

pub numbers-written : NumbersWritten
numbers-written = bytes_of-number_at

pub fields_read : FieldsRead
fields_read widths numbers before after fit = numbers_at-written before after fit

pub fields-written : FieldsWritten
fields-written = written-numbers_at
