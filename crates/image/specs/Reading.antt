-- The account of an image: every content reads as some account, and one that no account has as an account that is not in order (docs/REGISTER.md, 15.3).
-- Assumes nothing.
use Rattle.std.specs.Prelude.{ℕ, zero, suc, ◌+◌, Bool, true, cond, ◌&&◌, List, [], ◌∷◌, eqb, leb, length, get_or, drop, replicate}
use Rattle.rule.specs.Lists.{every}
use Rattle.events.specs.declared.Event.{Event}
use Rattle.events.specs.declared.Life.{Life}
use Rattle.events.specs.declared.Life.TheVariants.{New, Opened, Closed}
use Rattle.events.specs.Kinds.{event_of, amount_of}
use Rattle.filing.specs.declared.Filed.{Filed}
use Rattle.filing.specs.declared.Decision.{Decision}
use Rattle.filing.specs.declared.Decision.TheVariants.{Undecided, Committed}
use Rattle.filing.specs.declared.Slot.{Slot}
use Rattle.filing.specs.Slots.{places, blank}
use Rattle.account.specs.declared.Account.{Account}
use Rattle.image.specs.Words.{life_word, event_word, decision_word, event_place, amount_place, decision_place, place_words, head_words, row_words, account_words}

-- ---- fields: each word reads as something, and is a word of the field exactly if that is what it reads as

abbrev pub life_from : ℕ → Life
life_from word = cond (eqb word 0) New (cond (eqb word 1) Opened Closed)

abbrev pub is_life : ℕ → Bool
is_life word = eqb (life_word (life_from word)) word

abbrev pub decision_from : ℕ → Decision
decision_from word = cond (eqb word 0) Undecided Committed

abbrev pub is_decision : ℕ → Bool
is_decision word = eqb (decision_word (decision_from word)) word

abbrev pub event_from : (word amount : ℕ) → Event
event_from word amount = event_of (word + 1) amount

abbrev pub is_event : (word amount : ℕ) → Bool
is_event word amount = eqb (event_word (event_from word amount)) word && eqb (amount_of (event_from word amount)) amount

abbrev pub filed_from : List ℕ → Filed
filed_from words = record { second = get_or words 0 0 }

-- ---- the place that the words begin with, and so many places

unfoldable pub slot_from : List ℕ → Slot
slot_from words =
    record {
      transaction = get_or words 0 0;
      filed = filed_from (drop 1 words);
      event = event_from (get_or words event_place 0) (get_or words amount_place 0);
      decision = decision_from (get_or words decision_place 0);
    }

unfoldable pub is_slot : List ℕ → Bool
is_slot words = is_event (get_or words event_place 0) (get_or words amount_place 0) && is_decision (get_or words decision_place 0)

unfoldable pub slots_from : ℕ → List ℕ → List Slot
slots_from zero words = []
slots_from (suc n) words = slot_from words ∷ slots_from n (drop place_words words)

unfoldable pub are_slots : ℕ → List ℕ → Bool
are_slots zero words = true
are_slots (suc n) words = is_slot words && are_slots n (drop place_words words)

-- words that are all 0, which read as blank places
abbrev pub are_zero : List ℕ → Bool
are_zero words = every (λ (word : ℕ). eqb word 0) words

-- ---- the account that the words begin with

-- a count above the places, so that the account is not in order (6.1)
abbrev pub too_many : ℕ
too_many = suc places

unfoldable pub is_account : List ℕ → Bool
is_account words = is_life (get_or words 0 0) && are_slots places (drop head_words words) && are_slots places (drop (head_words + row_words) words)

-- field by field, but with too many in progress where a word is none of its field's
unfoldable pub fields_from : List ℕ → Account
fields_from words =
    record {
      state = record { life = life_from (get_or words 0 0); balance = get_or words 1 0 };
      progress = slots_from places (drop head_words words);
      progressing = cond (is_account words) (get_or words 2 0) too_many;
      held = slots_from places (drop (head_words + row_words) words);
      holding = get_or words 3 0;
    }

-- too few words: a fresh account, but with too many in progress
abbrev pub no_account : Account
no_account =
    record {
      state = record { life = New; balance = 0 };
      progress = replicate places blank;
      progressing = too_many;
      held = replicate places blank;
      holding = 0;
    }

-- the account whose image begins at `from`
unfoldable pub account_from : (words : List ℕ) (from : ℕ) → Account
account_from words from = cond (leb (from + account_words) (length words)) (fields_from (drop from words)) no_account
