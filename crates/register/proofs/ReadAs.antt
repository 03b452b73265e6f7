-- What the reader gives, on the message's own bytes: the tests of the reader in their order, and where none holds the message whose numbers these are.
-- Each way out is a law of the reader; what is new is that a number of two or four bytes is plain arithmetic, and a kind's length 15 or 11.
-- Assumes nothing.
use Prim.Native.Nat.{ℕ, zero, suc, ◌≤◌}
use mathlib.Core.Path.{◌≡◌, refl, sym, ◌∙◌, ap}
use mathlib.Core.Bool.{Bool, true, false, cond, ◌&&◌, not}
use mathlib.Core.List.{List}
use native.Mathlib.Omega.{arith}
use lib.Dec.{eqb, leb, ltb}
use lib.ListN.{length, get_or}
use borrow.Author.Tests.{eqb-true, eqb-false, ltb-true, ltb-false, leb-true, leb-false}
use Rattle.register.proofs.Apart.{same-read}
use Rattle.refusal.specs.declared.Refusal.{Refusal}
use Rattle.std.specs.Prelude.{Ok, Err, Result}
use Rattle.refusal.specs.declared.Refusal.TheVariants.{Torn, UnknownAccount, UnknownKind}
use Rattle.layout.specs.Number.{number_at}
use Rattle.layout.specs.Fields.{row_of_kind, whole_of}
use Rattle.events.specs.Kinds.{event_of}
use Rattle.message.specs.declared.Heading.{Heading}
use Rattle.message.specs.declared.Message.{Message}
use Rattle.message.specs.declared.Message.TheVariants.{Request, Commit, Abort}
use Rattle.message.specs.Bytes.{messages, kind_of, heading_of, message_by}
use Rattle.message.specs.Answers.{read_of}
use Rattle.message.proofs.Lengths.{with_amount, without_amount, below-kinds, above-kinds}
use Rattle.message.proofs.Reader.{heading_at, read-empty, read-unknown, read_short, read-account, read_taken}
use Rattle.register.specs.Refusals.{transaction_in, account_in, length_by}

-- a message of a kind has the heading that it is made with
pub heading-by : (kind : ℕ) (h : Heading) (amount : ℕ) → heading_of (message_by kind h amount) ≡ h
unfolding message_by
heading-by kind h amount = go (eqb kind 5) (eqb kind 6)
  where
    go : (b c : Bool) → heading_of (cond b (Commit h) (cond c (Abort h) (Request h (event_of kind amount)))) ≡ h
    go true c = refl
    go false true = refl
    go false false = refl

-- and that kind
pub kind-by : (kind : ℕ) (h : Heading) (amount : ℕ) → 1 ≤ kind → kind ≤ 6 → kind_of (message_by kind h amount) ≡ kind
unfolding message_by event_of
kind-by zero h amount l u = absurd (omega arith)
kind-by (suc zero) h amount l u = refl
kind-by (suc (suc zero)) h amount l u = refl
kind-by (suc (suc (suc zero))) h amount l u = refl
kind-by (suc (suc (suc (suc zero)))) h amount l u = refl
kind-by (suc (suc (suc (suc (suc zero))))) h amount l u = refl
kind-by (suc (suc (suc (suc (suc (suc zero)))))) h amount l u = refl
kind-by (suc (suc (suc (suc (suc (suc (suc kind))))))) h amount l u = absurd (omega arith)

module _ (bytes : List ℕ) where
  -- numbers of one, two and four bytes
  pub kind_at : number_at bytes 0 1 ≡ get_or bytes 0 0
  unfolding number_at
  kind_at = omega arith

  pub account-at : number_at bytes 5 2 ≡ account_in bytes
  unfolding number_at
  account-at = omega arith

  pub transaction-at : number_at bytes 1 4 ≡ transaction_in bytes
  unfolding number_at
  transaction-at = omega arith

  abbrev pub kind_in : ℕ
  kind_in = get_or bytes 0 0

  -- the message that the bytes are
  abbrev pub message_in : Message
  message_in = message_by kind_in (heading_at bytes) (number_at bytes 11 4)

  pub named-account : (heading_of message_in).account ≡ account_in bytes
  named-account = ap (λ (h : Heading). h.account) (heading-by kind_in (heading_at bytes) (number_at bytes 11 4)) ∙ account-at

  -- a known kind's length
  whole-known : leb 1 kind_in && leb kind_in 6 ≡ true → whole_of (row_of_kind messages kind_in) ≡ length_by kind_in
  whole-known e = go (leb 1 kind_in) (leb kind_in 6) (leb kind_in 3) refl refl refl e
    where
      go : (a b c : Bool) → leb 1 kind_in ≡ a → leb kind_in 6 ≡ b → leb kind_in 3 ≡ c → a && b ≡ true → whole_of (row_of_kind messages kind_in) ≡ cond c 15 11
      go false b c p q s e = cc
      go true false c p q s e = cc
      go true true true p q s e = with_amount kind_in (leb-true 1 kind_in p) (leb-true kind_in 3 s)
      go true true false p q s e = without_amount kind_in (leb-false kind_in 3 s) (leb-true kind_in 6 q)

  whole-unknown : leb 1 kind_in && leb kind_in 6 ≡ false → whole_of (row_of_kind messages kind_in) ≡ 0
  whole-unknown e = go (leb 1 kind_in) (leb kind_in 6) refl refl e
    where
      go : (a b : Bool) → leb 1 kind_in ≡ a → leb kind_in 6 ≡ b → a && b ≡ false → whole_of (row_of_kind messages kind_in) ≡ 0
      go true true p q e = cc
      go true false p q e = above-kinds kind_in (leb-false kind_in 6 q)
      go false b p q e = below-kinds kind_in (leb-false 1 kind_in p)

  some-length : (b : Bool) → ◌≡◌ {A = ℕ} (cond b 15 11) 0 → ⊥
  some-length true e = omega arith
  some-length false e = omega arith

  -- the reader by its tests
  pub reading : read_of bytes ≡
      cond (eqb (length bytes) 0) (Err Torn)
      (cond (not (leb 1 kind_in && leb kind_in 6)) (Err UnknownKind)
      (cond (ltb (length bytes) (length_by kind_in)) (Err Torn)
      (cond (ltb 15 (account_in bytes)) (Err UnknownAccount) (Ok (message_in, length_by kind_in)))))
  reading = go (eqb (length bytes) 0) (leb 1 kind_in && leb kind_in 6) (ltb (length bytes) (length_by kind_in)) (ltb 15 (account_in bytes)) refl refl refl refl
    where
      go : (a b c d : Bool) → eqb (length bytes) 0 ≡ a → leb 1 kind_in && leb kind_in 6 ≡ b → ltb (length bytes) (length_by kind_in) ≡ c → ltb 15 (account_in bytes) ≡ d
          → read_of bytes
          ≡ cond a (Err Torn)
          (cond (not b) (Err UnknownKind) (cond c (Err Torn) (cond d (Err UnknownAccount) (Ok (message_in, length_by kind_in)))))
      go true b c d p q s u = read-empty bytes (eqb-true (length bytes) 0 p)
      go false false c d p q s u = read-unknown bytes kind_in 0 (eqb-false (length bytes) 0 p) (sym kind_at) (sym (whole-unknown q)) refl
      go false true true d p q s u =
          read_short bytes kind_in (length_by kind_in) (eqb-false (length bytes) 0 p) (sym kind_at) (sym (whole-known q)) (some-length (leb kind_in 3))
          (ltb-true (length bytes) (length_by kind_in) s)
      go false true false true p q s u =
          read-account bytes kind_in (length_by kind_in) (eqb-false (length bytes) 0 p) (sym kind_at) (sym (whole-known q)) (some-length (leb kind_in 3))
          (ltb-false (length bytes) (length_by kind_in) s) (rw account-at (ltb-true 15 (account_in bytes) u))
      go false true false false p q s u =
          read_taken bytes kind_in (length_by kind_in) (eqb-false (length bytes) 0 p) (sym kind_at) (sym (whole-known q)) (some-length (leb kind_in 3))
          (ltb-false (length bytes) (length_by kind_in) s) (rw account-at (ltb-false 15 (account_in bytes) u))

  -- a message that was read
  pub record Read (m : Message) (consumed : ℕ) : Type 0 where
    pub lowest : 1 ≤ kind_in
    pub highest : kind_in ≤ 6
    pub whole : length_by kind_in ≤ length bytes
    pub account : account_in bytes ≤ 15
    pub message : m ≡ message_in
    pub length' : consumed ≡ length_by kind_in

  pub read_as : (m : Message) (consumed : ℕ) → read_of bytes ≡ Ok (m, consumed) → Read m consumed
  read_as m consumed e =
      go (eqb (length bytes) 0) (leb 1 kind_in) (leb kind_in 6) (ltb (length bytes) (length_by kind_in)) (ltb 15 (account_in bytes)) refl refl refl refl (sym reading ∙ e)
    where
      go : (a b b' c d : Bool) → leb 1 kind_in ≡ b → leb kind_in 6 ≡ b' → ltb (length bytes) (length_by kind_in) ≡ c → ltb 15 (account_in bytes) ≡ d
          → cond {A = Result (Message × ℕ) Refusal} a (Err Torn)
          (cond (not (b && b')) (Err UnknownKind) (cond c (Err Torn) (cond d (Err UnknownAccount) (Ok (message_in, length_by kind_in)))))
          ≡ Ok (m, consumed)
          → Read m consumed
      go true b b' c d p q s u e = cc
      go false false b' c d p q s u e = cc
      go false true false c d p q s u e = cc
      go false true true true d p q s u e = cc
      go false true true false true p q s u e = cc
      go false true true false false p q s u e =
          record {
            lowest = leb-true 1 kind_in p;
            highest = leb-true kind_in 6 q;
            whole = ltb-false (length bytes) (length_by kind_in) s;
            account = ltb-false 15 (account_in bytes) u;
            message = sym (same-read message_in m (length_by kind_in) consumed e).0;
            length' = sym (same-read message_in m (length_by kind_in) consumed e).1;
          }

  pub account-read : (m : Message) (consumed : ℕ) → read_of bytes ≡ Ok (m, consumed) → (heading_of m).account ≡ account_in bytes
  account-read m consumed e = ap (λ (m' : Message). (heading_of m').account) (read_as m consumed e).message ∙ named-account
