-- What a message that is sent, and a call, leave: each by what it comes to. That a refusal's number is from the list is read off the list of tests.
-- Assumes nothing.
use Prim.Native.Nat.{ℕ, ◌≤◌}
use mathlib.Core.Path.{◌≡◌, refl, sym, ◌∙◌, ap}
use mathlib.Core.Bool.{Bool, true, false, cond, ◌&&◌}
use mathlib.Core.List.{List, [], ◌∷◌, map}
use mathlib.Core.Option.{none, some}
use native.Mathlib.Omega.{arith}
use lib.Dec.{leb}
use lib.ListN.{length, drop, length-append, length-drop, length-set}
use lib.Seq.{drop-append_seam, get_or-set_other}
use borrow.Author.Tests.{leb-true}
use Rattle.refusal.proofs.Literal.{literal-holds}
use Rattle.refusal.proofs.Literal.{same-refusal}
use Rattle.refusal.specs.Numbers.{number_of, numbered}
use Rattle.std.specs.Prelude.{Ok, Err}
use Rattle.rule.specs.Lists.{every}
use Rattle.rule.specs.Rule.{Rule}
use Rattle.rule.specs.Tests.{Test, first_of}
use Rattle.rule.proofs.Lists.{and_left, and_right}
use Rattle.events.specs.declared.Event.{Event}
use Rattle.events.specs.declared.State.{State}
use Rattle.filing.specs.Entries.{entry_of, entries_of}
use Rattle.account.specs.Places.{account_of}
use Rattle.account.specs.Steps as steps
use Rattle.account.specs.Steps.{refusal_in}
use Rattle.message.specs.declared.Message.{Message}
use Rattle.message.specs.Bytes.{heading_of}
use Rattle.entry.specs.Bytes.{bytes_of_entries}
use Rattle.entry.specs.Answers.{longest_call}
use Rattle.register.specs.declared.Register.{Register}
use Rattle.register.specs.Register.{nowhere, account_at, Sent}
use Rattle.register.specs.Call.{Called, refusal_of, consumed_of, written_of, refused_with, called_by}
use Rattle.register.specs.Refusals.{account_in, length_by, call_tests}
use Rattle.register.specs.Unchanged.{SendLeaves, Refusal, Taking, RepliesApart}
use Rattle.register.proofs.Suits.{Suits}
use Rattle.register.proofs.ReadAs.{kind_in, read_as, account-read}
use Rattle.register.proofs.Refusals.{call-refuses}
use Rattle.register.proofs.Sending as send
use Rattle.register.proofs.Sending.{taking, Sending, sending, taken-bytes}
use Rattle.register.proofs.Calling.{Calling, refused, taken, calling}

-- a number of the list
abbrev in_list : ℕ → Bool
in_list n = leb 1 n && leb n 11

first-in-list : (tests : List Test) (n : ℕ) → every (λ (t : Test). in_list t.number) tests ≡ true → first_of tests ≡ some n → in_list n ≡ true
first-in-list [] n h e = cc
first-in-list (t ∷ tests) n h e = go t.holds e (λ k. first-in-list tests n (and_right (in_list t.number) (every (λ (t : Test). in_list t.number) tests) h) k)
  where
    go : (b : Bool) → cond b (some t.number) (first_of tests) ≡ some n → (first_of tests ≡ some n → in_list n ≡ true) → in_list n ≡ true
    go true e k = let z : t.number ≡ n = cc in rw (← z) (and_left (in_list t.number) (every (λ (t : Test). in_list t.number) tests) h)
    go false e k = k e

module _ (R : Rule State Event ℕ) (r : Register) (m : Message) where
  -- what is sent, by what it comes to
  record Parts (sent : Sent) : Type 0 where
    same : (n : ℕ) → refusal_in sent.answer ≡ some n → (sent.register ≡ r) × (steps.entries_in sent.answer ≡ entries_of [])
    count : length sent.register.accounts ≡ length r.accounts
    others : (j : ℕ) → (j ≡ (heading_of m).account → ⊥) → account_at sent.register j ≡ account_at r j

  parts : {sent : Sent} → Sending R r m sent → Parts sent
  parts (send.refused k high) = record { same = λ n h. (refl, refl); count = refl; others = λ j other. refl }
  parts (send.taken free) =
      let i = (heading_of m).account in
      let next = account_of (taking R r m).account in
      record {
        same = λ n h. cc;
        count = length-set r.accounts i next;
        others = λ j other. get_or-set_other r.accounts i j next nowhere other;
      }

  pub send-leaves : SendLeaves R r m
  send-leaves = let p = parts (sending R r m) in record { refused = p.same; count = p.count; others = p.others }

module _ (R : Rule State Event ℕ) (k : Suits R) (r : Register) (bytes buffer : List ℕ) where
  -- a call that is refused is the refusal
  is-refusal : {x : Called} → Calling R r bytes buffer x → (n : ℕ) → refusal_of x.reply ≡ some n → x ≡ refused_with r buffer (numbered n)
  is-refusal (refused j why) n h = let z : number_of j ≡ n = cc in rw (← z, literal-holds.told j)
  is-refusal (taken m consumed t) n h = cc

  pub refusal : (n : ℕ) → refusal_of (called_by R r bytes buffer).reply ≡ some n → Refusal R r bytes buffer n
  refusal n h =
      let e = is-refusal (calling R r bytes buffer) n h in
      let listed = first-in-list (call_tests R r bytes buffer) n refl (sym (call-refuses R r bytes buffer) ∙ h) in
      record {
        lowest = leb-true 1 n (and_left (leb 1 n) (leb n 11) listed);
        highest = leb-true n 11 (and_right (leb 1 n) (leb n 11) listed);
        consumed = rw e;
        written = rw e;
        register = rw e;
        buffer' = rw e;
      }

  -- a call that is taken
  record Changes (x : Called) : Type 0 where
    consumed : consumed_of x.reply ≡ length_by (kind_in bytes)
    whole : length_by (kind_in bytes) ≤ length bytes
    room : written_of x.reply ≤ length buffer
    size : length x.buffer ≡ length buffer
    rest : drop (written_of x.reply) x.buffer ≡ drop (written_of x.reply) buffer
    count : length x.register.accounts ≡ length r.accounts
    others : (j : ℕ) → (j ≡ account_in bytes → ⊥) → account_at x.register j ≡ account_at r j

  changes : {x : Called} → Calling R r bytes buffer x → refusal_of x.reply ≡ none → Changes x
  changes (refused n why) h = cc
  changes (taken m consumed t) h =
      let i = (heading_of m).account in
      let next = account_of (taking R r m).account in
      let written = bytes_of_entries i (map entry_of (taking R r m).entries) in
      let fits : length written ≤ longest_call = taken-bytes R r m k t.free i in
      let read = read_as bytes m consumed t.read in
      record {
        consumed = read.length';
        whole = read.whole;
        room = omega (arith, fits, t.room);
        size = rw (length-append, length-drop) (omega (arith, fits, t.room));
        rest = drop-append_seam written (drop (length written) buffer);
        count = length-set r.accounts i next;
        others = λ j other. get_or-set_other r.accounts i j next nowhere (λ e. other (e ∙ account-read bytes m consumed t.read));
      }

  pub call-takes : refusal_of (called_by R r bytes buffer).reply ≡ none → Taking R r bytes buffer
  call-takes h =
      let c = changes (calling R r bytes buffer) h in
      record { consumed = c.consumed; whole = c.whole; room = c.room; size = c.size; rest = c.rest; count = c.count; others = c.others }

pub replies-apart : RepliesApart
replies-apart (Err n) (Err k) h c w = let z : number_of n ≡ number_of k = cc in ap Err (same-refusal n k z)
replies-apart (Err n) (Ok done) h c w = cc
replies-apart (Ok done) (Err k) h c w = cc
replies-apart (Ok done) (Ok done') h c w = λ i. Ok (record { consumed = c i; written = w i })
