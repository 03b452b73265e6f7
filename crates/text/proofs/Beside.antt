-- The messages of an input beside the calls of its run, which lends each call what is left of one buffer: each message comes to what its call gives, as
-- long as there is room, and the next one starts at the same place on the same register. By induction on the calls of the run.
-- Assumes nothing.
use Prim.Native.Nat.{ℕ, zero, suc, ◌+◌, ◌*◌, ◌≤◌, ◌<◌}
use native.Mathlib.Omega.{arith}
use mathlib.Core.Path.{◌≡◌, refl, sym, ◌∙◌, ap}
use mathlib.Core.Logic.{◌⊎◌, inl, inr}
use mathlib.Core.Bool.{cond}
use mathlib.Core.List.{List, [], ◌∷◌, ◌++◌, map, append-nil}
use mathlib.Core.Option.{none as no_number}
use lib.ListN.{length, get_or, take, drop, length-drop}
use lib.Seq.{take-append_seam}
use Rattle.rule.specs.Rule.{Rule}
use Rattle.events.specs.declared.Event.{Event}
use Rattle.events.specs.declared.State.{State}
use Rattle.filing.specs.declared.Entries.{Entries}
use Rattle.account.specs.Steps.{refusal_in}
use Rattle.layout.specs.Number.{AreBytes}
use Rattle.message.specs.declared.Message.{Message}
use Rattle.message.specs.Bytes.{heading_of}
use Rattle.message.specs.Inverse.{Writable}
use Rattle.message.proofs.Inverse.{writes-read}
use Rattle.entry.specs.Bytes.{bytes_of_entries, list_of}
use Rattle.register.specs.declared.Register.{Register}
use Rattle.std.specs.Prelude.{Ok, Err}
use Rattle.refusal.specs.declared.Refusal.{Refusal}
use Rattle.refusal.specs.Numbers.{number_of}
use Rattle.register.specs.Call.{Reply, Called, written_of}
use Rattle.register.specs.First.{fresh_register, sent_of, call_of, after, exchanges}
use Rattle.register.specs.Sequence.{Input, Exchange, ByteStrings, rule_entry, entries_in}
use Rattle.register.specs.Run.{length_at, passed_of}
use Rattle.register.specs.RunCalls.{Calls, ended, stopped, skipped, taken, refusals, refused_among}
use Rattle.register.specs.Whole.{Whole, with_amount, without_amount}
use Rattle.register.proofs.Suits.{Suits, first-suits}
use Rattle.register.proofs.Passing.{passed-stops, passed-skips}
use Rattle.register.proofs.Standing.{Stands, Refusable}
use Rattle.register.proofs.Sending.{taken-bytes}
use Rattle.register.proofs.Calling as call
use Rattle.register.proofs.Calling.{Calling, calling}
use Rattle.register.proofs.Moved.{call-moves, call-tells}
use Rattle.register.proofs.Whole.{some_bytes, one-length}
use Rattle.register.proofs.RunCalls.{bytes_left}
use Rattle.register.proofs.Demands.{demand2, demand3}
use Rattle.text.specs.Text.{decimal, lines_of}
use Rattle.text.specs.Quoted.{quoted}
use Rattle.text.specs.Output.{refused_line, Turn, turn_at, passed_at, turns_from, texts_of, refused_of}
use Rattle.text.specs.OutputCalls.{EntryLines, Says, Said}
use Rattle.text.specs.OutputCalls as by
use Rattle.text.proofs.Turning.{taken_sent, Turning, unread, unsent, turning}
use Rattle.text.proofs.Turning as turn
use Rattle.text.proofs.Prints.{turns-none, turns_more}
use Rattle.text.proofs.EntryLines.{lines-read}
use Rattle.text.proofs.TurnCalls.{call-unread, call-sent}

pub refused-plain : (number : ℕ) → refused_line number ≡ quoted "refused " ++ (decimal number ++ quoted "\n")
unfolding quoted refused_line
refused-plain number = rw (append-nil (decimal number))

-- ---- messages beside calls

pub data Beside : List Turn → List Exchange → Type 0 where
  none : Beside [] []
  more : {turn : Turn} {turns : List Turn} {x : Exchange} {seen : List Exchange} → refusals turn.reply ≡ refusals x.reply → Says x turn.text → Beside turns seen
      → Beside (turn ∷ turns) (x ∷ seen)

pub beside-said : {turns : List Turn} {seen : List Exchange} → Beside turns seen → Said seen (texts_of turns)
beside-said none = by.none
beside-said (more q s rest) = by.more s (beside-said rest)

pub beside-length : {turns : List Turn} {seen : List Exchange} → Beside turns seen → length turns ≡ length seen
beside-length none = refl
beside-length (more q s rest) = ap suc (beside-length rest)

pub beside-refused : {turns : List Turn} {seen : List Exchange} → Beside turns seen → refused_of turns ≡ refused_among seen
beside-refused none = refl
beside-refused (more q s rest) = rw (q, beside-refused rest)

-- ---- a register that calls of a fresh one led to

pub record Reached (r : Register) : Type 0 where
  pub done : List Input
  pub strings : ByteStrings done
  pub same : r ≡ after fresh_register done

strings-more : (xs : List Input) (x : Input) → ByteStrings xs → AreBytes x.message → ByteStrings (xs ++ (x ∷ []))
strings-more [] x b h = (h, tt)
strings-more (y ∷ xs) x b h = (b.0, strings-more xs x b.1 h)

reached-more : (r : Register) (bytes buffer : List ℕ) → AreBytes bytes → Reached r → Reached (call_of r bytes buffer).register
reached-more r bytes buffer b reached =
    let x : Input = record { message = bytes; buffer = buffer } in
    record {
      done = reached.done ++ (x ∷ []);
      strings = strings-more reached.done x reached.strings b;
      same = rw reached.same (sym (demand3.calls fresh_register x reached.done).last_after);
    }

-- the entries that it sends are read back from their bytes
reads-back : (r : Register) (m : Message) (next : Register) (entries : Entries) (buffer : List ℕ) → Reached r → Writable m → 323 ≤ length buffer → sent_of r m ≡ taken_sent next entries
    → EntryLines (bytes_of_entries (heading_of m).account (list_of entries)) (lines_of (heading_of m).account (list_of entries))
reads-back r m next entries buffer reached w room e =
    let free : refusal_in (sent_of r m).answer ≡ no_number = rw e in
    let written = (demand2.sent r m [] buffer w room).entries free in
    let read = (rw (← reached.same) at (demand2.back reached.done reached.strings m [] buffer w room)) free in
    let back : entries_in (bytes_of_entries (heading_of m).account (list_of entries)) ≡ map rule_entry (list_of entries) = rw e at (sym (ap entries_in written) ∙ read) in
    lines-read (heading_of m).account w.account (list_of entries) back

-- ---- one call

-- what a reply from 3 on tells of the bytes
stands-refused : (bytes : List ℕ) (n : ℕ) → 3 ≤ n → Refusable bytes n → Stands bytes
stands-refused bytes n h (inl (inl e)) = absurd (omega arith)
stands-refused bytes n h (inl (inr e)) = absurd (omega arith)
stands-refused bytes n h (inr s) = s.1

-- a message has a byte
some_first : (bytes : List ℕ) → 1 ≤ get_or bytes 0 0 → 0 < length bytes
some_first [] h = absurd (omega arith)
some_first (x ∷ xs) h = omega arith

a_byte : {bytes : List ℕ} {whole : ℕ} → Whole bytes whole → 0 < length bytes
a_byte {bytes} (with_amount l h) = some_first bytes l
a_byte {bytes} (without_amount l h) = some_first bytes (omega arith)

abbrev seen_as : Register → (bytes buffer : List ℕ) → Exchange
seen_as r bytes buffer = record { message = bytes; reply = (call_of r bytes buffer).reply; buffer = (call_of r bytes buffer).buffer }

-- the same refusal, the same register, and the next message at the same place
record Alike (turn : Turn) (whole : ℕ) (called : Called) : Type 0 where
  refused : refusals turn.reply ≡ refusals called.reply
  register : turn.register ≡ called.register
  consumed : (passed_of turn.reply whole).consumed ≡ (passed_of called.reply whole).consumed
  stops : (passed_of turn.reply whole).stops ≡ (passed_of called.reply whole).stops

module _ (r : Register) (bytes buffer : List ℕ) (reached : Reached r) (are : AreBytes bytes) (room : 323 ≤ length buffer) where
  says-refused : (n : Refusal) → (call_of r bytes buffer).reply ≡ Err n → Says (seen_as r bytes buffer) (refused_line (number_of n))
  says-refused n e = rw (refused-plain (number_of n)) (by.refused n e)

  says : {turn : Turn} → Turning r bytes turn → Says (seen_as r bytes buffer) turn.text
  says (unread n q) = says-refused n (rw (call-unread r bytes buffer n q))
  says (unsent m consumed n q high e) = says-refused n (rw (call-sent r bytes buffer room m consumed _ q e))
  says (turn.taken m consumed next entries q e) =
      let called = call-sent r bytes buffer room m consumed _ q e in
      let written = bytes_of_entries (heading_of m).account (list_of entries) in
      let first : take (length written) (call_of r bytes buffer).buffer ≡ written = rw called (take-append_seam written (drop (length written) buffer)) in
      by.taken {text = lines_of (heading_of m).account (list_of entries)} consumed (length written) (rw called)
      (rw first (reads-back r m next entries buffer reached (writes-read bytes m consumed are q).writable room e))

  alike : {turn : Turn} → Turning r bytes turn → Alike turn (length_at bytes) (call_of r bytes buffer)
  alike (unread n q) = rw (call-unread r bytes buffer n q) (record { refused = refl; register = refl; consumed = refl; stops = refl })
  alike (unsent m consumed n q high e) = rw (call-sent r bytes buffer room m consumed _ q e) (record { refused = refl; register = refl; consumed = refl; stops = refl })
  alike (turn.taken m consumed next entries q e) = rw (call-sent r bytes buffer room m consumed _ q e) (record { refused = refl; register = refl; consumed = refl; stops = refl })

  -- a call writes no more than 323 bytes
  written-few : {R : Rule State Event ℕ} → Suits R → {called : Called} → Calling R r bytes buffer called → written_of called.reply ≤ 323
  written-few suits (call.refused n why) = omega arith
  written-few suits (call.taken m consumed t) = taken-bytes _ r m suits t.free (heading_of m).account

  module _ (x : Exchange) (is : x ≡ seen_as r bytes buffer) where
    gives : (reply : Reply) → x.reply ≡ reply → (call_of r bytes buffer).reply ≡ reply
    gives reply q = sym (ap (λ (y : Exchange). y.reply) is) ∙ q

    one_more : (most : ℕ) (seen : List Exchange) → 0 < length bytes
        → let called = call_of r bytes buffer in
        let passed = passed_of called.reply (length_at bytes) in
        Beside (cond passed.stops [] (turns_from most called.register (drop passed.consumed bytes))) seen
        → Beside (turns_from (suc most) r bytes) (x ∷ seen)
    one_more most seen h rest =
        let a = alike (turning r bytes) in
        let on : Beside (cond (passed_at r bytes).stops [] (turns_from most (turn_at r bytes).register (drop (passed_at r bytes).consumed bytes))) seen =
        rw (a.register, a.consumed, a.stops) rest in
        rw (turns_more most r bytes h, is) (more a.refused (says (turning r bytes)) on)

    one-stops : (most : ℕ) (n : Refusal) → 0 < length bytes → x.reply ≡ Err n → (number_of n ≡ 1) ⊎ (number_of n ≡ 2) → Beside (turns_from (suc most) r bytes) (x ∷ [])
    one-stops most n h q which = one_more most [] h (rw (gives (Err n) q, passed-stops n (length_at bytes) which) none)

    -- after a message that is skipped, or taken, the next one starts behind it
    one-skips : (most : ℕ) (n : Refusal) (whole : ℕ) (seen : List Exchange) → 3 ≤ number_of n → x.reply ≡ Err n → Whole bytes whole
        → Beside (turns_from most (call_of r bytes buffer).register (drop whole bytes)) seen → Beside (turns_from (suc most) r bytes) (x ∷ seen)
    one-skips most n whole seen h q w rest =
        let reply = gives (Err n) q in
        let stands = stands-refused bytes (number_of n) h (rw reply at (call-tells _ first-suits r bytes buffer)) in
        one_more most seen (a_byte w) (rw (reply, passed-skips n (length_at bytes) h, one-length stands.whole w) rest)

    one-takes : (most whole written : ℕ) (seen : List Exchange) → x.reply ≡ Ok (record { consumed = whole; written = written }) → Whole bytes whole
        → Beside (turns_from most (call_of r bytes buffer).register (drop whole bytes)) seen → Beside (turns_from (suc most) r bytes) (x ∷ seen)
    one-takes most whole written seen q w rest = one_more most seen (a_byte w) (rw (gives (Ok (record { consumed = whole; written = written })) q) rest)

    -- the buffer that the run goes on with
    room-left : (whole written : ℕ) → x.reply ≡ Ok (record { consumed = whole; written = written }) → length buffer ≤ length (drop written x.buffer) + 323
    room-left whole written q =
        let few : written ≤ 323 = rw (gives (Ok (record { consumed = whole; written = written })) q) at (written-few first-suits (calling _ r bytes buffer)) in
        let size : length x.buffer ≡ length buffer = rw is (call-moves _ first-suits r bytes buffer).size in
        omega (arith, length-drop written x.buffer)

-- ---- the calls of the run

-- the first of two lists, and the rest
head-is : {A : Type 0} {x y : A} {xs ys : List A} → x ∷ xs ≡ y ∷ ys → x ≡ y
head-is e = cc

tail-is : {A : Type 0} {x y : A} {xs ys : List A} → x ∷ xs ≡ y ∷ ys → xs ≡ ys
tail-is e = cc

-- from a register on
pub beside : {bytes buffer : List ℕ} {inputs : List Input} {seen : List Exchange} {passed : ℕ} → Calls bytes buffer inputs seen passed
    → (r : Register) → Reached r → AreBytes bytes → seen ≡ exchanges r inputs → (most : ℕ) → length bytes ≤ most → 323 * length bytes ≤ length buffer
    → Beside (turns_from most r bytes) seen
beside ended r reached are e most h k = rw (turns-none most r [] refl) none
beside (stopped n some q which) r reached are e zero h k = absurd (omega arith)
beside (stopped {bytes} {buffer} {x} n some q which) r reached are e (suc most) h k = one-stops r bytes buffer reached are (omega arith) x (head-is e) most n some q which
beside (skipped n whole q high w rest) r reached are e zero h k = absurd (omega (arith, a_byte w))
beside (skipped {bytes} {buffer} {x} {inputs} {seen} n whole q high w rest) r reached are e (suc most) h k =
    let room : 323 ≤ length buffer = omega (arith, a_byte w) in
    let d = length-drop whole bytes in
    one-skips r bytes buffer reached are room x (head-is e) most n whole seen high q w
    (beside rest (call_of r bytes buffer).register (reached-more r bytes buffer are reached) (bytes_left bytes whole are) (tail-is e) most (omega (arith, some_bytes w, a_byte w)) (omega (arith, some_bytes w)))
beside (taken whole written q w rest) r reached are e zero h k = absurd (omega (arith, a_byte w))
beside (taken {bytes} {buffer} {x} {inputs} {seen} whole written q w rest) r reached are e (suc most) h k =
    let room : 323 ≤ length buffer = omega (arith, a_byte w) in
    let d = length-drop whole bytes in
    let left = room-left r bytes buffer reached are room x (head-is e) whole written q in
    one-takes r bytes buffer reached are room x (head-is e) most whole written seen q w
    (beside rest (call_of r bytes buffer).register (reached-more r bytes buffer are reached) (bytes_left bytes whole are) (tail-is e) most (omega (arith, some_bytes w, a_byte w)) (omega (arith, some_bytes w)))
