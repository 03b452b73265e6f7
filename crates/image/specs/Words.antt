-- The image of an account: a word for every field, each at its own place (docs/REGISTER.md, 15.1 and 15.2).
-- Assumes nothing.
use Rattle.std.specs.Prelude.{ℕ, ◌+◌, ◌-◌, ◌*◌, min, cond, List, [], ◌∷◌, ◌++◌, leb, length, take}
use Rattle.std.proofs.lemmas.List.Edits.{sets}
use Rattle.events.specs.declared.Event.{Event}
use Rattle.events.specs.declared.Life.{Life}
use Rattle.events.specs.declared.Life.TheVariants.{New, Opened, Closed}
use Rattle.events.specs.Kinds.{event_kind, amount_of}
use Rattle.filing.specs.declared.Filed.{Filed}
use Rattle.filing.specs.declared.Decision.{Decision}
use Rattle.filing.specs.declared.Decision.TheVariants.{Undecided, Committed}
use Rattle.filing.specs.declared.Slot.{Slot}
use Rattle.filing.specs.Slots.{places}
use Rattle.account.specs.declared.Account.{Account}

-- the highest number of a word
abbrev pub most_word : ℕ
most_word = 4_294_967_295

-- ---- fields

abbrev pub life_word : Life → ℕ
life_word New = 0
life_word Opened = 1
life_word Closed = 2

-- the kinds of events, counted from 0: the blank's is the first
abbrev pub event_word : Event → ℕ
event_word e = event_kind e - 1

abbrev pub decision_word : Decision → ℕ
decision_word Undecided = 0
decision_word Committed = 1

-- a count; of one that no word holds, the highest word
abbrev pub count_word : ℕ → ℕ
count_word n = min n most_word

-- what is filed, and how many words that is
abbrev pub words_of_filed : Filed → List ℕ
words_of_filed g = g.second ∷ []

abbrev pub filed_words : ℕ
filed_words = 1

-- ---- a place

-- transaction, what is filed, event, amount, decision: where in the place the last three stand, and how many words it has
abbrev pub event_place : ℕ
event_place = filed_words + 1

abbrev pub amount_place : ℕ
amount_place = filed_words + 2

abbrev pub decision_place : ℕ
decision_place = filed_words + 3

abbrev pub place_words : ℕ
place_words = filed_words + 4

unfoldable pub words_of_slot : Slot → List ℕ
words_of_slot x = x.transaction ∷ (words_of_filed x.filed ++ (event_word x.event ∷ amount_of x.event ∷ decision_word x.decision ∷ []))

unfoldable pub words_of_slots : List Slot → List ℕ
words_of_slots [] = []
words_of_slots (x ∷ xs) = words_of_slot x ++ words_of_slots xs

-- ---- an account

-- life, balance and the two counts, then the row of places in progress and the row of those held
abbrev pub head_words : ℕ
head_words = 4

abbrev pub row_words : ℕ
row_words = places * place_words

abbrev pub account_words : ℕ
account_words = head_words + row_words + row_words

abbrev pub head_of : Account → List ℕ
head_of a = life_word a.state.life ∷ a.state.balance ∷ count_word a.progressing ∷ count_word a.holding ∷ []

unfoldable pub words_of : Account → List ℕ
words_of a = head_of a ++ words_of_slots a.progress ++ words_of_slots a.held

-- the words with the image of an account stored from `from` on; where there is no room for all of it they stay as they are
unfoldable pub stored_in : (words : List ℕ) (from : ℕ) → Account → List ℕ
stored_in words from a = cond (leb (from + account_words) (length words)) (sets words from (words_of a)) words

-- the same, but so many places alone of those in progress and of those held: the words of the others stay as they are
unfoldable pub stored_to : (words : List ℕ) (from : ℕ) → Account → (progress held : ℕ) → List ℕ
stored_to words from a n m =
    cond (leb (from + account_words) (length words))
    (sets (sets (sets words from (head_of a)) (from + head_words) (words_of_slots (take n a.progress))) (from + head_words + row_words) (words_of_slots (take m a.held)))
    words
