-- What the code of a run has at hand is a turn: the register gets the parts of the two slices that are left, and what its call gives is put back. Then the counts fit, and the run
-- stops at the message, or goes on behind it; behind one that was read and had room it goes on.
-- Assumes nothing.
use Prim.Native.Nat.{ℕ, ◌+◌, ◌-◌, ◌<◌, ◌≤◌, ◌^◌}
use mathlib.Core.Path.{◌≡◌, refl, ◌∙◌}
use mathlib.Core.Bool.{Bool, true, false}
use mathlib.Core.List.{List, append-nil}
use lib.Dec.{ltb}
use lib.ListN.{length, take, drop}
use lib.Seq.{drop-length}
use borrow.Author.Rules.{part_to_end}
use borrow.Author.Tests.{le-ltb, ltb-false}
use Rattle.std.specs.Prelude.{Result, Ok, Err}
use Rattle.refusal.specs.declared.Refusal.{Refusal}
use borrow.Rule.Slice.PartMut.{put_mid, Post-is}
use Rattle.rule.specs.Rule.{Rule}
use Rattle.events.specs.declared.Event.{Event}
use Rattle.events.specs.declared.State.{State}
use Rattle.layout.specs.Number.{number_at}
use Rattle.layout.specs.Fields.{row_of_kind, whole_of}
use Rattle.message.specs.declared.Message.{Message}
use Rattle.message.specs.Bytes.{messages, heading_of}
use Rattle.register.specs.declared.Register.{Register}
use Rattle.register.specs.declared.runs.Ran.{Ran}
use Rattle.register.specs.declared.runs.Passed.{Passed}
use Rattle.message.specs.Answers.{read_of}
use Rattle.entry.specs.Answers.{longest_call}
use Rattle.register.specs.Register.{Sent}
use Rattle.register.specs.Call.{Reply, wrote_of, after_message, called_by}
use Rattle.register.specs.Run.{passed_of, one, added, run_by}
use Rattle.register.specs.Helpers.{Countable}
use Rattle.register.proofs.Suits.{Suits}
use Rattle.register.proofs.Passing.{passed-skips}
use Rattle.register.proofs.Sending.{Sending, refused, taken, sending}
use Rattle.register.proofs.Underway.{Underway, Turn, countable, stops-there, goes_on, less-left}

module _ (R : Rule State Event ℕ) (k : Suits R) (bytes buffer : List ℕ) (r : Register) (ran : Ran) (entries : List ℕ) where
  -- what is left of the messages and of the entry buffer, as the code has it
  abbrev rest : List ℕ
  rest = take (length bytes - ran.consumed) (drop ran.consumed bytes)

  abbrev free : List ℕ
  free = take (length entries - ran.written) (drop ran.written entries)

  pub record Goes (next : Register) (passed : Passed) (left : List ℕ) : Type 0 where
    pub counts : length bytes < 2 ^ 64 → length buffer < 2 ^ 64 → Countable ran passed
    pub stops : passed.stops ≡ true → run_by R bytes buffer ≡ record { counts = added ran (one passed); entries = left }
    pub less : passed.stops ≡ false → length bytes - (ran.consumed + passed.consumed) < length bytes - ran.consumed
    pub again : passed.stops ≡ false → Underway R k bytes buffer next (added ran (one passed)) left

  -- by what the reply says
  by-reply : Underway R k bytes buffer r ran entries → ran.consumed < length bytes → (kind whole : ℕ) → kind ≡ number_at rest 0 1 → whole ≡ whole_of (row_of_kind messages kind)
      → (reply : Reply) (next : Register) (last : List ℕ) (passed : Passed)
      → reply ≡ (called_by R r rest free).reply → next ≡ (called_by R r rest free).register → last ≡ (called_by R r rest free).buffer → passed ≡ passed_of reply whole
      → Goes next passed (put_mid ran.written (length entries - ran.written) entries last)
  by-reply u more kind whole q w reply next last passed a f b p =
      let left = put_mid ran.written (length entries - ran.written) entries last in
      let turn : Turn R k bytes r ran entries next passed left =
      record {
        comes = p ∙ rw (a, w, q, part_to_end bytes ran.consumed, part_to_end entries ran.written);
        follows = f ∙ rw (part_to_end bytes ran.consumed, part_to_end entries ran.written);
        leaves = rw (Post-is ran.written (length entries) entries u.room, drop-length entries, append-nil, b, part_to_end bytes ran.consumed, part_to_end entries ran.written);
      } in
      record {
        counts = countable R k bytes buffer r ran entries next passed left u turn more;
        stops = stops-there R k bytes buffer r ran entries next passed left u turn more;
        less = less-left R k bytes buffer r ran entries next passed left u turn more;
        again = goes_on R k bytes buffer r ran entries next passed left u turn more;
      }

  -- no refusal of what was sent stops a run
  sent-goes-on : (m : Message) (consumed whole : ℕ) (space : List ℕ) {sent : Sent} → Sending R r m sent → (passed_of (wrote_of r space (heading_of m).account consumed sent).reply whole).stops ≡ false
  sent-goes-on m consumed whole space (refused n high) = rw (passed-skips n whole high)
  sent-goes-on m consumed whole space (taken none) = refl

  -- the run goes on behind a message that was read and had room
  pub turn_on : (m : Message) (consumed whole : ℕ) (reply : Reply) (passed : Passed) → read_of rest ≡ Ok (m, consumed) → longest_call ≤ length free
      → reply ≡ (called_by R r rest free).reply → passed ≡ passed_of reply whole → passed.stops ≡ false
  unfolding called_by after_message
  turn_on m consumed whole reply passed reads room a p = rw (p, a, reads, le-ltb (length free) longest_call room) (sent-goes-on m consumed whole free (sending R r m))

  -- so the counts fit, less is left, and the run is under way
  pub record GoesOn (next : Register) (passed : Passed) (left : List ℕ) : Type 0 where
    pub counts : length bytes < 2 ^ 64 → length buffer < 2 ^ 64 → Countable ran passed
    pub less : length bytes - (ran.consumed + passed.consumed) < length bytes - ran.consumed
    pub again : Underway R k bytes buffer next (added ran (one passed)) left

  pub message-goes : (m : Message) (consumed : ℕ) → read_of rest ≡ Ok (m, consumed) → longest_call ≤ length free
      → Underway R k bytes buffer r ran entries → ran.consumed < length bytes → (kind whole : ℕ) → kind ≡ number_at rest 0 1 → whole ≡ whole_of (row_of_kind messages kind)
      → (reply : Reply) (next : Register) (last : List ℕ) (passed : Passed)
      → reply ≡ (called_by R r rest free).reply → next ≡ (called_by R r rest free).register → last ≡ (called_by R r rest free).buffer → passed ≡ passed_of reply whole
      → GoesOn next passed (put_mid ran.written (length entries - ran.written) entries last)
  message-goes m consumed reads room u more kind whole q w reply next last passed a f b p =
      let g = by-reply u more kind whole q w reply next last passed a f b p in
      let on = turn_on m consumed whole reply passed reads room a p in
      record { counts = g.counts; less = g.less on; again = g.again on }

  -- each turn: by what was read and whether it had room
  pub goes : Underway R k bytes buffer r ran entries → ran.consumed < length bytes → (kind whole : ℕ) → kind ≡ number_at rest 0 1 → whole ≡ whole_of (row_of_kind messages kind)
      → (reply : Reply) (next : Register) (last : List ℕ) (passed : Passed)
      → reply ≡ (called_by R r rest free).reply → next ≡ (called_by R r rest free).register → last ≡ (called_by R r rest free).buffer → passed ≡ passed_of reply whole
      → Goes next passed (put_mid ran.written (length entries - ran.written) entries last)
  goes u more kind whole q w reply next last passed a f b p = by-reading (read_of rest) refl
    where
      left : List ℕ
      left = put_mid ran.written (length entries - ran.written) entries last

      otherwise : Goes next passed left
      otherwise = by-reply u more kind whole q w reply next last passed a f b p

      by-room : (m : Message) (consumed : ℕ) → read_of rest ≡ Ok (m, consumed) → (b : Bool) → ltb (length free) longest_call ≡ b → Goes next passed left
      by-room m consumed e true l = otherwise
      by-room m consumed e false l =
          let room = ltb-false (length free) longest_call l in
          let g = message-goes m consumed e room u more kind whole q w reply next last passed a f b p in
          let on = turn_on m consumed whole reply passed e room a p in
          record { counts = g.counts; stops = λ s. cc; less = λ s. g.less; again = λ s. g.again }

      by-reading : (x : Result (Message × ℕ) Refusal) → read_of rest ≡ x → Goes next passed left
      by-reading (Err refusal) e = otherwise
      by-reading (Ok (m, consumed)) e = by-room m consumed e (ltb (length free) longest_call) refl
