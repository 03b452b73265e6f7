-- The seconds never matter: two registers that are the same but for what is filed stay so when they are sent messages whose bytes agree but for their seconds. What is read differs
-- only in what is filed; what is sent then agrees but for that; and so do the bytes of the entries. A sequence by induction.
-- Assumes nothing.
use Prim.Native.Nat.{ℕ}
use mathlib.Core.Path.{◌≡◌, refl, sym, ◌∙◌, ap}
use mathlib.Core.Bool.{Bool, true, false, cond}
use mathlib.Core.List.{List, map}
use lib.Dec.{ltb}
use lib.ListN.{length, take, drop}
use lib.Seq.{take_at, drop_at}
use Rattle.refusal.specs.Numbers.{number_of}
use Rattle.refusal.proofs.Literal as told
use Rattle.account.specs.Steps as steps
use Rattle.account.specs.Steps.{refusal_in}
use Rattle.refusal.specs.declared.Refusal.TheVariants.{NoRoom}
use Rattle.std.specs.Prelude.{Result, Err, Ok}
use Rattle.refusal.specs.declared.Refusal.{Refusal}
use Rattle.rule.specs.Rule.{Rule}
use Rattle.events.specs.declared.Event.{Event}
use Rattle.events.specs.declared.State.{State}
use Rattle.filing.specs.declared.Entries.{Entries}
use Rattle.rule.specs.Filed.{message_through}
use Rattle.message.specs.declared.Message.{Message}
use Rattle.message.specs.Bytes.{heading_of}
use Rattle.entry.specs.Bytes.{bytes_of_entries, list_of}
use Rattle.entry.specs.Answers.{longest_call}
use Rattle.register.specs.declared.Register.{Register}
use Rattle.register.specs.Register.{rule_message, fresh_by, sent_by, Sent}
use Rattle.register.specs.Call.{written_of, Called, refused_with, wrote_of, wrote_as, after_message, after_reading, called_by}
use Rattle.register.specs.Sequence.{Input, exchanges}
use Rattle.register.specs.Filed as filed
use Rattle.register.specs.Seconds.{SameMessage, OtherSeconds, none, one_more, SameEntries, nothing_written, SameExchanges, none_seen, one_seen, SecondsNeverMatter}
use Rattle.register.proofs.Suits.{Suits}
use Rattle.register.proofs.OtherSecond.{forget, SameReading, same-refusal, same-message, reading-same, entries-same, same_length, forgotten}
use Rattle.register.proofs.Filed as filed-law

module _ (R : Rule State Event ℕ) where
  -- two registers that differ only in what is filed
  abbrev pub SameRegister : Register → Register → Type 0
  SameRegister r r' = filed.SameRegister R forget r r'

  -- what two calls give that agree but for the seconds
  pub record SameResult (ρ ρ' : Called) : Type 0 where
    pub replies : ρ.reply ≡ ρ'.reply
    pub entries : SameEntries (take (written_of ρ.reply) ρ.buffer) (take (written_of ρ'.reply) ρ'.buffer)
    pub rest : drop (written_of ρ.reply) ρ.buffer ≡ drop (written_of ρ'.reply) ρ'.buffer
    pub registers : SameRegister ρ.register ρ'.register

  module _ (r r' : Register) (buffer : List ℕ) (same : SameRegister r r') where
    refused-same : (n : Refusal) → SameResult (refused_with r buffer n) (refused_with r' buffer n)
    refused-same n = record { replies = refl; entries = nothing_written; rest = refl; registers = same }

    -- bytes of entries at the beginning of the buffer
    laid_same : (consumed : ℕ) (next next' : Register) (i : ℕ) (es es' : Entries) → SameRegister next next'
        → SameEntries (bytes_of_entries i (list_of es)) (bytes_of_entries i (list_of es'))
        → SameResult (wrote_as r buffer i consumed (Ok es) next) (wrote_as r' buffer i consumed (Ok es') next')
    laid_same consumed next next' i es es' h e =
        let bytes = bytes_of_entries i (list_of es) in
        let bytes' = bytes_of_entries i (list_of es') in
        let front = take_at bytes (drop (length bytes) buffer) (length bytes) refl in
        let front' = take_at bytes' (drop (length bytes') buffer) (length bytes') refl in
        record {
          replies = ap (λ (n : ℕ). Ok (record { consumed = consumed; written = n })) (same_length e);
          entries = rw (front, front') e;
          rest =
              drop_at bytes (drop (length bytes) buffer) (length bytes) refl ∙ ap (λ (n : ℕ). drop n buffer) (same_length e)
              ∙ sym (drop_at bytes' (drop (length bytes') buffer) (length bytes') refl);
          registers = h;
        }

    wrote-same : (i consumed : ℕ) (sent sent' : Sent) → filed.SameSent R forget sent sent'
        → SameResult (wrote_of r buffer i consumed sent) (wrote_of r' buffer i consumed sent')
    wrote-same i consumed sent sent' h = by sent.answer sent'.answer h.answers h.entries
      where
        by : (answer answer' : Result Entries Refusal) → refusal_in answer ≡ refusal_in answer' → map forgotten (list_of (steps.entries_in answer)) ≡ map forgotten (list_of (steps.entries_in answer'))
            → SameResult (wrote_as r buffer i consumed answer sent.register) (wrote_as r' buffer i consumed answer' sent'.register)
        by (Err n) (Err n') e z = let y : number_of n ≡ number_of n' = cc in rw (told.same-refusal n n' y) (refused-same n')
        by (Err n) (Ok es') e z = cc
        by (Ok es) (Err n') e z = cc
        by (Ok es) (Ok es') e z = laid_same consumed sent.register sent'.register i es es' h.registers (entries-same i (list_of es) (list_of es') z)

    message-same : Suits R → (consumed : ℕ) (m m' : Message) → (heading_of m).account ≡ (heading_of m').account → message_through forget (rule_message m) ≡ message_through forget (rule_message m')
        → SameResult (after_message R r buffer m consumed) (after_message R r' buffer m' consumed)
    unfolding after_message
    message-same k consumed m m' q e = rw q (go (ltb (length buffer) longest_call))
      where
        i : ℕ
        i = (heading_of m').account

        go : (b : Bool)
            → SameResult (cond b (refused_with r buffer NoRoom) (wrote_of r buffer i consumed (sent_by R r m))) (cond b (refused_with r' buffer NoRoom) (wrote_of r' buffer i consumed (sent_by R r' m')))
        go true = refused-same NoRoom
        go false = wrote-same i consumed (sent_by R r m) (sent_by R r' m') (filed-law.filed-never-matters R k forget r r' m m' same q e)

    pub call_same : Suits R → (bytes bytes' : List ℕ) → SameMessage bytes bytes' → SameResult (called_by R r bytes buffer) (called_by R r' bytes' buffer)
    unfolding called_by
    call_same k bytes bytes' other = by (reading-same bytes bytes' other)
      where
        by : {x x' : Result (Message × ℕ) Refusal} → SameReading x x' → SameResult (after_reading R r buffer x) (after_reading R r' buffer x')
        by (same-refusal n) = refused-same n
        by (same-message m m' whole q e) = message-same k whole m m' q e

  -- A sequence of calls.
  calls_same : Suits R → {inputs inputs' : List Input} (r r' : Register) → SameRegister r r' → OtherSeconds inputs inputs' → SameExchanges (exchanges R r inputs) (exchanges R r' inputs')
  calls_same k r r' same none = none_seen
  calls_same k r r' same (one_more {x = x} {y = y} other buffers more) =
      let one : SameResult (called_by R r x.message x.buffer) (called_by R r' y.message y.buffer) =
      rw buffers (call_same r r' y.buffer same k x.message y.message other)
      in
      one_seen (record { replies = one.replies; entries = one.entries; rest = one.rest })
      (calls_same k (called_by R r x.message x.buffer).register (called_by R r' y.message y.buffer).register one.registers more)

  pub fresh-same : Suits R → SameRegister (fresh_by R) (fresh_by R)
  fresh-same k = filed-law.fresh-same R k forget

  pub seconds-never-matter : Suits R → SecondsNeverMatter R
  seconds-never-matter k inputs inputs' other = calls_same k (fresh_by R) (fresh_by R) (fresh-same k) other
