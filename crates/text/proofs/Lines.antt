-- A line of text, from its pieces, and how long it can be: each number of 4 bytes has at most ten digits, the account at most five.
-- Assumes nothing.
use Prim.Native.Nat.{ℕ, zero, suc, ◌+◌, ◌/◌, ◌%◌, ◌^◌, ◌≤◌, ◌<◌}
use native.Mathlib.Nat.{pow-suc, div-lt_iff_lt-mul, le_trans}
use native.Mathlib.Omega.{arith}
use mathlib.Core.Path.{◌≡◌, refl, ◌∙◌}
use mathlib.Core.Bool.{Bool, true, false, cond}
use mathlib.Core.List.{List, [], ◌∷◌, ◌++◌, append_assoc}
use borrow.Author.Tests.{lt-ltb}
use lib.Dec.{ltb, lit<, lit≤}
use lib.ListN.{length, length-append}
use lib.Seq.{sets, take_all}
use Rattle.events.specs.declared.Event.{Event}
use Rattle.events.specs.declared.Event.TheVariants.{Open, Withdraw, Deposit, Close}
use Rattle.events.specs.Kinds.{amount_of}
use Rattle.filing.specs.declared.Verdict.{Verdict}
use Rattle.filing.specs.declared.Verdict.TheVariants.{Accepted, Rejected, Held}
use Rattle.filing.specs.declared.Told.{Told}
use Rattle.filing.specs.declared.Told.TheVariants.{Voted, Noted, Applied, Dropped}
use Rattle.filing.specs.declared.Entry.{Entry}
use Rattle.entry.specs.Inverse.{reason_in}
use Rattle.layout.specs.Writes.{laid_over}
use Rattle.layout.proofs.Stores.{laid-over}
use Rattle.text.specs.Text.{decimal_in, decimal, vote_name, name_of, event_name, heading_fields, reason_fields, then_fields, spaced, line_as, longest_line, kept}
use Rattle.text.proofs.Texts.{grown, fields_grown, kept-still}

-- ---- lengths

-- at most as many digits as there are places,
pub places-length : (places number : ℕ) → length (decimal_in places number) ≤ places
unfolding decimal_in
places-length zero number = omega arith
places-length (suc places) number = go (ltb number 10) (places-length places (number / 10))
  where
    go : (b : Bool) → length (decimal_in places (number / 10)) ≤ places
        → length (cond b ((48 + number) ∷ []) (decimal_in places (number / 10) ++ ((48 + number % 10) ∷ []))) ≤ suc places
    go true h = omega arith
    go false h = rw length-append (omega arith)

-- and at most as many as the number has
digits-length : (k places number : ℕ) → number < 10 ^ suc k → length (decimal_in places number) ≤ suc k
unfolding decimal_in
digits-length k zero number h = omega arith
digits-length zero (suc places) number h = rw (lt-ltb number 10 h) (lit≤ tt)
digits-length (suc k) (suc places) number h = go (ltb number 10) (digits-length k places (number / 10) ((div-lt_iff_lt-mul (lit< tt)).1 (rw pow-suc at h)))
  where
    go : (b : Bool) → length (decimal_in places (number / 10)) ≤ suc k
        → length (cond b ((48 + number) ∷ []) (decimal_in places (number / 10) ++ ((48 + number % 10) ∷ []))) ≤ suc (suc k)
    go true h = omega arith
    go false h = rw length-append (omega arith)

vote-length : (verdict : Verdict) → length (vote_name verdict) ≤ 8
vote-length Accepted = lit≤ tt
vote-length Rejected = lit≤ tt
vote-length Held = lit≤ tt

pub name-length : (told : Told) → length (name_of told) ≤ 8
name-length (Voted e weighing) = vote-length weighing.verdict
name-length Noted = lit≤ tt
name-length (Applied e n) = lit≤ tt
name-length (Dropped e) = lit≤ tt

pub event-length : (e : Event) → length (event_name e) ≤ 8
event-length (Open a) = lit≤ tt
event-length (Withdraw a) = lit≤ tt
event-length (Deposit a) = lit≤ tt
event-length Close = lit≤ tt

-- a field and those after it
spaced-length : (field : List ℕ) (fields : List (List ℕ)) (m n : ℕ) → length field ≤ m → length (spaced fields) ≤ n → length (spaced (field ∷ fields)) ≤ 1 + (m + n)
spaced-length field fields m n h k = rw length-append (omega arith)

-- an event and its amount, and a number after them
event-fields : (e : Event) (fields : List (List ℕ)) (n : ℕ) → length (spaced fields) ≤ n
    → length (spaced (event_name e ∷ decimal (amount_of e) ∷ fields)) ≤ 1 + (8 + (1 + (10 + n)))
event-fields e fields n h =
    spaced-length (event_name e) (decimal (amount_of e) ∷ fields) 8 (1 + (10 + n)) (event-length e)
    (spaced-length (decimal (amount_of e)) fields 10 n (places-length 10 (amount_of e)) h)

number-field : (number : ℕ) → length (spaced (decimal number ∷ [])) ≤ 1 + (10 + 0)
number-field number = spaced-length (decimal number) [] 10 0 (places-length 10 number) (lit≤ tt)

-- a reason has one byte, and so three digits at most
pub reason-length : (older : Bool) (v : Verdict) (reason : ℕ) → reason < 256 → length (spaced (reason_fields older v reason)) ≤ 1 + (3 + 0)
reason-length older Accepted reason h = lit≤ tt
reason-length true Rejected reason h = lit≤ tt
reason-length false Rejected reason h = spaced-length (decimal reason) [] 3 0 (digits-length 2 10 reason (omega arith)) (lit≤ tt)
reason-length older Held reason h = lit≤ tt

pub then-length : (older : Bool) (told : Told) → reason_in told < 256 → length (spaced (then_fields older told)) ≤ 35
then-length older (Voted e weighing) h =
    let reason = reason_fields older weighing.verdict weighing.reason in
    event-fields e (decimal weighing.weighed ∷ reason) 15
    (spaced-length (decimal weighing.weighed) reason 10 4 (places-length 10 weighing.weighed) (reason-length older weighing.verdict weighing.reason h))
then-length older Noted h = lit≤ tt
then-length older (Applied e n) h = le_trans (event-fields e (decimal n ∷ []) 11 (number-field n)) (lit≤ tt)
then-length older (Dropped e) h = le_trans (event-fields e [] 0 (lit≤ tt)) (lit≤ tt)

pub line-length : (older : Bool) (account : ℕ) (e : Entry) → account < 65536 → length (spaced (then_fields older e.told)) ≤ 35 → length (line_as older account e) ≤ longest_line
unfolding line_as
line-length older account e h then =
    let name = name-length e.told in
    let t = places-length 10 e.transaction in
    let n : length (decimal account) ≤ 5 = digits-length 4 10 account (omega arith) in
    let s = places-length 10 e.filed.second in
    simp length-append (omega arith)

-- ---- a line's pieces

-- what an entry tells, behind its heading
pub record Behind (l m : List ℕ) (fields : List (List ℕ)) : Type 0 where
  pub short : length (spaced fields) ≤ 35
  pub grown : m ≡ kept (l ++ spaced fields)

module _ (e : Event) (l l₁ : List ℕ) (p : l₁ ≡ kept (l ++ spaced (event_name e ∷ decimal (amount_of e) ∷ []))) where
  pub dropped-behind : Behind l l₁ (event_name e ∷ decimal (amount_of e) ∷ [])
  dropped-behind = record { short = le_trans (event-fields e [] 0 (lit≤ tt)) (lit≤ tt); grown = p }

  -- a number behind the event
  module _ (number : ℕ) (l₂ : List ℕ) (q : l₂ ≡ kept (l₁ ++ spaced (decimal number ∷ []))) where
    pub applied-behind : Behind l l₂ (event_name e ∷ decimal (amount_of e) ∷ decimal number ∷ [])
    applied-behind =
        record {
          short = le_trans (event-fields e (decimal number ∷ []) 11 (number-field number)) (lit≤ tt);
          grown = fields_grown (event_name e ∷ decimal (amount_of e) ∷ []) (decimal number ∷ []) l l₁ l₂ p q;
        }

    -- and a reason behind the number: a byte has three digits at most
    pub reason-behind : (reason : ℕ) (m : List ℕ) → reason < 256 → m ≡ kept (l₂ ++ spaced (decimal reason ∷ []))
        → Behind l m (event_name e ∷ decimal (amount_of e) ∷ decimal number ∷ decimal reason ∷ [])
    reason-behind reason m h r =
        record {
          short = event-fields e (decimal number ∷ decimal reason ∷ []) 15 (spaced-length (decimal number) (decimal reason ∷ []) 10 4 (places-length 10 number) (reason-length false Rejected reason h));
          grown = fields_grown (event_name e ∷ decimal (amount_of e) ∷ decimal number ∷ []) (decimal reason ∷ []) l l₂ m applied-behind.grown r;
        }

pub noted-behind : (xs l : List ℕ) → l ≡ kept xs → Behind l l []
noted-behind xs l p = record { short = lit≤ tt; grown = kept-still xs l p }

-- of an older vote no reason is told
pub no-reason : (verdict : Verdict) (reason : ℕ) → reason_fields true verdict reason ≡ []
no-reason Accepted reason = refl
no-reason Rejected reason = refl
no-reason Held reason = refl

module _ (account : ℕ) (e : Entry) where
  -- name, transaction, account and second
  pub heading-grown : (l₀ l₁ l₂ l₃ l₄ : List ℕ) → l₀ ≡ [] → l₁ ≡ kept (l₀ ++ name_of e.told) → l₂ ≡ kept (l₁ ++ spaced (decimal e.transaction ∷ []))
      → l₃ ≡ kept (l₂ ++ spaced (decimal account ∷ [])) → l₄ ≡ kept (l₃ ++ spaced (decimal e.filed.second ∷ []))
      → l₄ ≡ kept (name_of e.told ++ spaced (heading_fields e.transaction account e.filed))
  heading-grown l₀ l₁ l₂ l₃ l₄ p₀ p₁ p₂ p₃ p₄ =
      let t = decimal e.transaction ∷ [] in
      let a = decimal account ∷ [] in
      let s = decimal e.filed.second ∷ [] in
      let first : l₁ ≡ kept ([] ++ name_of e.told) = rw p₀ at p₁ in
      grown (name_of e.told) (spaced (t ++ (a ++ s))) [] l₁ l₄ first
      (fields_grown t (a ++ s) l₁ l₂ l₄ p₂ (fields_grown a s l₂ l₃ l₄ p₃ p₄))

  -- the rest, and the newline: the line is no longer than the longest
  pub line-grown : (older : Bool) (l₄ l₅ l₆ : List ℕ) → account < 65536
      → l₄ ≡ kept (name_of e.told ++ spaced (heading_fields e.transaction account e.filed))
      → Behind l₄ l₅ (then_fields older e.told) → l₆ ≡ kept (l₅ ++ 10 ∷ []) → l₆ ≡ line_as older account e
  unfolding line_as
  line-grown older l₄ l₅ l₆ h p q r =
      let first = name_of e.told ++ spaced (heading_fields e.transaction account e.filed) in
      let rest = spaced (then_fields older e.told) in
      let all : l₆ ≡ kept ([] ++ (first ++ (rest ++ (10 ∷ [])))) = grown first (rest ++ (10 ∷ [])) [] l₄ l₆ p (grown rest (10 ∷ []) l₄ l₅ l₆ q.grown r) in
      let line : first ++ (rest ++ (10 ∷ [])) ≡ line_as older account e = append_assoc (name_of e.told) (spaced (heading_fields e.transaction account e.filed)) (rest ++ (10 ∷ [])) in
      all ∙ rw line (take_all longest_line (line_as older account e) (line-length older account e h q.short))

-- where a line has room it is laid over the buffer
pub line_stored : (line l l₁ : List ℕ) → length line ≤ longest_line → longest_line ≤ length l → l₁ ≡ sets l 0 line → l₁ ≡ laid_over line l
line_stored line l l₁ short room stored = stored ∙ laid-over line l (omega arith)
