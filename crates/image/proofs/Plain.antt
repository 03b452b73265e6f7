-- The images by computing. Where every word is one of its field's the life is at most 2, and of each place the event at most 3, without an amount where it is 3, and the decision at most 1.
-- Assumes nothing.
use Prim.Native.Nat.{ℕ, zero, suc, ◌+◌, ◌*◌, ◌≤◌, ◌<◌}
use native.Mathlib.Omega.{arith}
use mathlib.Core.Path.{◌≡◌, refl, ap, sym, ◌∙◌}
use mathlib.Core.Logic.{◌⊎◌, inl, inr}
use mathlib.Core.Bool.{Bool, true, false, cond}
use mathlib.Core.List.{List, ◌∷◌}
use borrow.Author.Tests.{eqb-true, eq-eqb, le-leb, lt-leb}
use lib.ListN.{length, get_or, drop}
use lib.Seq.{get_or-drop, drop-drop}
use Rattle.rule.proofs.Lists.{and_left, and_right}
use Rattle.events.specs.declared.Event.{Event}
use Rattle.events.specs.declared.Event.TheVariants.{Open, Withdraw, Deposit, Close}
use Rattle.events.specs.declared.Life.{Life}
use Rattle.events.specs.declared.Life.TheVariants.{New, Opened, Closed}
use Rattle.events.specs.Kinds.{amount_of, event_of}
use Rattle.filing.specs.declared.Decision.{Decision}
use Rattle.filing.specs.declared.Decision.TheVariants.{Undecided, Committed}
use Rattle.filing.specs.Slots.{places}
use Rattle.image.specs.Words.{life_word, event_word, decision_word, place_words, account_words, words_of_slot, words_of_slots, words_of}
use Rattle.image.specs.Reading.{life_from, is_life, decision_from, is_decision, event_from, is_event, is_slot, are_slots, is_account, fields_from, account_from}
use Rattle.image.specs.Plain.{NinePlain, EachFits, CountsPlain, KeptPlain, Word, PlainHolds}
use Rattle.image.proofs.WordsOfFields.{same}
use Rattle.image.proofs.WrittenBack.{Parts, parts}

life-most : (x : Life) → life_word x ≤ 2
life-most New = omega arith
life-most Opened = omega arith
life-most Closed = omega arith

event-most : (e : Event) → event_word e ≤ 3
event-most (Open a) = omega arith
event-most (Withdraw a) = omega arith
event-most (Deposit a) = omega arith
event-most Close = omega arith

decision-most : (d : Decision) → decision_word d ≤ 1
decision-most Undecided = omega arith
decision-most Committed = omega arith

-- a place whose words are its fields'
record Place (words : List ℕ) : Type 0 where
  event : get_or words 2 0 ≤ 3
  amount : get_or words 2 0 ≡ 3 → get_or words 3 0 ≡ 0
  decision : get_or words 4 0 ≤ 1

place-valid : (words : List ℕ) → is_slot words ≡ true → Place words
unfolding is_slot event_of
place-valid words b =
    let e = get_or words 2 0 in
    let a = get_or words 3 0 in
    let d = get_or words 4 0 in
    let known = same e a d b in
    record {
      event = omega (arith, known.event, event-most (event_from e a));
      amount = λ z. sym known.amount ∙ ap (λ (k : ℕ). amount_of (event_from k a)) z;
      decision = omega (arith, known.decision, decision-most (decision_from d));
    }

-- each place of a row
row-valid : (n : ℕ) (words : List ℕ) → are_slots n words ≡ true → (i : ℕ) → i < n → is_slot (drop (i * place_words) words) ≡ true
unfolding are_slots
row-valid zero words b i h = absurd (omega arith)
row-valid (suc n) words b zero h = and_left (is_slot words) (are_slots n (drop place_words words)) b
row-valid (suc n) words b (suc i) h =
    let step : place_words + i * place_words ≡ suc i * place_words = omega arith in
    sym (ap (λ (l : List ℕ). is_slot l) (drop-drop (i * place_words) place_words words ∙ ap (λ (k : ℕ). drop k words) step))
    ∙ row-valid n (drop place_words words) (and_right (is_slot words) (are_slots n (drop place_words words)) b) i (omega arith)

module _ (words : List ℕ) (from : ℕ) where
  row_of : (row : ℕ) → (row ≡ 4) ⊎ (row ≡ 44) → Parts (drop from words) → are_slots places (drop row (drop from words)) ≡ true
  row_of row (inl e) known = rw e known.progress
  row_of row (inr e) known = rw e known.held

  -- a word of a place, where the image has it
  word_of : (row i k : ℕ) → get_or (drop (i * place_words) (drop row (drop from words))) k 0 ≡ get_or words (from + row + 5 * i + k) 0
  word_of row i k =
      let at : from + (row + (i * place_words + k)) ≡ from + row + 5 * i + k = omega arith in
      rw (get_or-drop, get_or-drop, get_or-drop) (ap (λ (n : ℕ). get_or words n 0) at)

  -- nine, unless every word is one of its field's
  module _ (room : from + 84 ≤ length words) where
    nine-unless : (is_account (drop from words) ≡ true → ⊥) → (account_from words from).progressing ≡ 9
    unfolding account_from fields_from
    nine-unless other = rw (le-leb (from + account_words) (length words) room) (go (is_account (drop from words)) refl)
      where
        go : (b : Bool) → is_account (drop from words) ≡ b → cond b (get_or (drop from words) 2 0) 9 ≡ 9
        go true e = absurd (other e)
        go false e = refl

    module _ (row i : ℕ) (is : (row ≡ 4) ⊎ (row ≡ 44)) (h : i < 8) where
      valid : is_account (drop from words) ≡ true → Place (drop (i * place_words) (drop row (drop from words)))
      valid b = place-valid (drop (i * place_words) (drop row (drop from words))) (row-valid places (drop row (drop from words)) (row_of row is (parts (drop from words) b)) i h)

  life-valid : is_account (drop from words) ≡ true → get_or words from 0 ≤ 2
  life-valid b =
      let w = get_or (drop from words) 0 0 in
      let here : w ≡ get_or words from 0 = rw get_or-drop (ap (λ (n : ℕ). get_or words n 0) (omega arith)) in
      omega (arith, here, eqb-true (life_word (life_from w)) w (parts (drop from words) b).life, life-most (life_from w))

  nine-plain : NinePlain words from
  unfolding account_from
  nine-plain =
      record {
        short = λ low. rw (lt-leb (from + account_words) (length words) low) refl;
        life = λ room bad. nine-unless room (λ b. absurd (omega (arith, life-valid b)));
        event = λ row i room is h bad. nine-unless room (λ b. absurd (omega (arith, (valid room row i is h b).event, word_of row i 2)));
        amount = λ row i room is h close bad. nine-unless room (λ b. absurd (omega (arith, (valid room row i is h b).amount (word_of row i 2 ∙ close), word_of row i 3)));
        decision = λ row i room is h bad. nine-unless room (λ b. absurd (omega (arith, (valid room row i is h b).decision, word_of row i 4)));
      }

-- and back: words that fit are their fields'
life-is : (w : ℕ) → w ≤ 2 → is_life w ≡ true
life-is zero h = refl
life-is (suc zero) h = refl
life-is (suc (suc zero)) h = refl
life-is (suc (suc (suc w))) h = absurd (omega arith)

decision-is : (w : ℕ) → w ≤ 1 → is_decision w ≡ true
decision-is zero h = refl
decision-is (suc zero) h = refl
decision-is (suc (suc w)) h = absurd (omega arith)

event-is : (w a : ℕ) → w ≤ 3 → (w ≡ 3 → a ≡ 0) → is_event w a ≡ true
unfolding event_of
event-is zero a h z = eq-eqb a a refl
event-is (suc zero) a h z = eq-eqb a a refl
event-is (suc (suc zero)) a h z = eq-eqb a a refl
event-is (suc (suc (suc zero))) a h z = eq-eqb 0 a (sym (z refl))
event-is (suc (suc (suc (suc w)))) a h z = absurd (omega arith)

place_is : (words : List ℕ) → Place words → is_slot words ≡ true
unfolding is_slot
place_is words p = rw (event-is (get_or words 2 0) (get_or words 3 0) p.event p.amount, decision-is (get_or words 4 0) p.decision) refl

row_is : (n : ℕ) (words : List ℕ) → ((i : ℕ) → i < n → is_slot (drop (i * place_words) words) ≡ true) → are_slots n words ≡ true
unfolding are_slots
row_is zero words each = refl
row_is (suc n) words each = rw (each 0 (omega arith), row_is n (drop place_words words) behind) refl
  where
    behind : (i : ℕ) → i < n → is_slot (drop (i * place_words) (drop place_words words)) ≡ true
    behind i h =
        let step : place_words + i * place_words ≡ suc i * place_words = omega arith in
        ap (λ (l : List ℕ). is_slot l) (drop-drop (i * place_words) place_words words ∙ ap (λ (k : ℕ). drop k words) step) ∙ each (suc i) (omega arith)

module _ (words : List ℕ) (from : ℕ) where
  head_of : (k : ℕ) → get_or (drop from words) k 0 ≡ get_or words (from + k) 0
  head_of k = get_or-drop from words k 0

  module _ (fits : EachFits words from) where
    place_of : (row i : ℕ) → (row ≡ 4) ⊎ (row ≡ 44) → i < 8 → Place (drop (i * place_words) (drop row (drop from words)))
    place_of row i is h =
        record {
          event = rw (word_of words from row i 2) (fits.event row i is h);
          amount = λ z. word_of words from row i 3 ∙ fits.amount row i is h (sym (word_of words from row i 2) ∙ z);
          decision = rw (word_of words from row i 4) (fits.decision row i is h);
        }

    row_fits : (row : ℕ) → (row ≡ 4) ⊎ (row ≡ 44) → are_slots places (drop row (drop from words)) ≡ true
    row_fits row is = row_is places (drop row (drop from words)) (λ i h. place_is (drop (i * place_words) (drop row (drop from words))) (place_of row i is h))

    account-fits : is_account (drop from words) ≡ true
    unfolding is_account
    account-fits =
        let here : get_or (drop from words) 0 0 ≡ get_or words from 0 = head_of 0 ∙ ap (λ (n : ℕ). get_or words n 0) (omega arith) in
        rw (life-is (get_or (drop from words) 0 0) (rw here fits.life), row_fits 4 (inl refl), row_fits 44 (inr refl)) refl

  counts-plain : CountsPlain words from
  unfolding account_from fields_from
  counts-plain =
      record {
        progressing = λ room fits. rw (le-leb (from + account_words) (length words) room, account-fits fits) (head_of 2);
        holding = λ room. rw (le-leb (from + account_words) (length words) room) (head_of 3);
        balance = λ room. rw (le-leb (from + account_words) (length words) room) (head_of 1);
      }

kept-plain : KeptPlain
kept-plain a = (
  λ k. (k.progress, k.held, k.progressing, k.holding),
  λ k. record { progress = k.0; held = k.1; progressing = k.2; holding = k.3 },
)

word : Word
word = record { none = λ i. omega arith; more = λ w words h r i. each w words h r i }
  where
    each : (w : ℕ) (words : List ℕ) → w ≤ 4_294_967_295 → ((i : ℕ) → get_or words i 0 ≤ 4_294_967_295) → (i : ℕ) → get_or (w ∷ words) i 0 ≤ 4_294_967_295
    each w words h r zero = h
    each w words h r (suc i) = r i

pub plain-holds : PlainHolds
unfolding words_of_slot words_of_slots words_of
plain-holds =
    record {
      sizes = record { lives = refl; decisions = refl; words = refl; places = refl; most = refl };
      place =
          λ t s a.
          record {
            opens = refl;
            withdraws = refl;
            deposits = refl;
            closes = refl;
            opens_committed = refl;
            withdraws_committed = refl;
            deposits_committed = refl;
            closes_committed = refl;
          };
      row = λ x row. record { none = refl; more = refl };
      account = λ b n m progress held. record { new = refl; opened = refl; closed = refl };
      nine = nine-plain;
      counts = counts-plain;
      kept = kept-plain;
      words = word;
    }
