-- The register of an image, a call on an image, the outcome question of one, and what a caller from outside gets, said a second time and over every content: by the account whose words
-- begin at 84 times its number, and for any number of places that are lent (docs/REGISTER.md, 15.1 and 15.6 to 15.9).
-- Assumes nothing.
use Rattle.std.specs.Prelude.{ℕ, Some, None, Ok, Err, ◌*◌, ◌≤◌, ◌<◌, ◌≡◌, ◌↔◌, List, [], ◌∷◌, ◌++◌, length, take, drop, get_or}
use Rattle.rule.specs.Rule.{Rule}
use Rattle.events.specs.declared.Event.{Event}
use Rattle.events.specs.declared.Life.TheVariants.{New, Opened, Closed}
use Rattle.events.specs.declared.State.{State}
use Rattle.account.specs.declared.Account.{Account}
use Rattle.refusal.specs.declared.Refusal.{Refusal}
use Rattle.refusal.specs.Numbers.{number_of, numbered}
use Rattle.filing.specs.declared.Entries.{Entries}
use Rattle.account.specs.Steps.{step_by, outlook_by}
use Rattle.message.specs.declared.Message.{Message}
use Rattle.message.specs.Bytes.{heading_of}
use Rattle.message.specs.Answers.{read_of}
use Rattle.entry.specs.Bytes.{bytes_of_entries}
use Rattle.image.specs.Words.{words_of, stored_in}
use Rattle.image.specs.Reading.{account_from}
use Rattle.image.specs.Images.{Kept}
use Rattle.register.specs.declared.Register.{Register}
use Rattle.register.specs.Register.{nowhere, rule_message}
use Rattle.register.specs.Call.{called_by}
use Rattle.register.specs.Sequence.{Input}
use Rattle.live.specs.Registers.{word_at, register_words, image_of, register_of}
use Rattle.live.specs.Images.{EachKept}
use Rattle.live.specs.Images as Images'
use Rattle.live.specs.Live.{live_by, look_by}
use Rattle.live.specs.Exports.{exported_call, exported_look, exported_line}
use Rattle.live.specs.Keeping.{own_words, image_after_all, live_exchanges}

-- sixteen accounts, each read where its words begin; and the image has the words of each, one after the other
pub record RegisterPlain : Type 0 where
  pub sixteen : (words : List ℕ) → length (register_of words).accounts ≡ 16
  pub account : (words : List ℕ) (i : ℕ) → i < 16 → get_or (register_of words).accounts i nowhere ≡ account_from words (i * 84)
  pub begins : (i : ℕ) → word_at i ≡ i * 84
  pub words : register_words ≡ 1_344
  pub none : image_of (record { accounts = [] }) ≡ []
  pub more : (a : Account) (accounts : List Account) → image_of (record { accounts = a ∷ accounts }) ≡ words_of a ++ image_of (record { accounts = accounts })
  pub kept : (a : Account) (accounts : List Account) → EachKept (a ∷ accounts) ↔ (Kept a × EachKept accounts)
  pub none_kept : EachKept []
  -- a register as it is kept has sixteen accounts, each kept, and nothing else is asked of it
  pub kept_whole : (r : Register) → Images'.Kept r ↔ ((length r.accounts ≡ 16) × EachKept r.accounts)
  -- the words of an account are the 84 behind those of the accounts before it
  pub own : (i : ℕ) (before words behind : List ℕ) → length before ≡ i * 84 → length words ≡ 84 → own_words (before ++ (words ++ behind)) i ≡ words

module _ (R : Rule State Event ℕ) where
  -- a call: the reader's refusal; 4; what the account answers that is read at its words
  pub record CallPlain (image bytes buffer : List ℕ) : Type 0 where
    pub unread : (r : Refusal) → read_of bytes ≡ Err r → live_by R image bytes buffer ≡ record { reply = Err r; image = image; buffer = buffer }
    pub roomless : (m : Message) (consumed : ℕ) → read_of bytes ≡ Ok (m, consumed) → length buffer < 323
        → live_by R image bytes buffer ≡ record { reply = Err (numbered 4); image = image; buffer = buffer }
    pub refused : (m : Message) (consumed : ℕ) (r : Refusal) → read_of bytes ≡ Ok (m, consumed) → 323 ≤ length buffer
        → (step_by R (account_from image ((heading_of m).account * 84)) (rule_message m)).answer ≡ Err r
        → live_by R image bytes buffer ≡ record { reply = Err r; image = image; buffer = buffer }
    pub taken : (m : Message) (consumed : ℕ) (written : Entries) → read_of bytes ≡ Ok (m, consumed) → 323 ≤ length buffer
        → let stepped = step_by R (account_from image ((heading_of m).account * 84)) (rule_message m) in
        let entries = bytes_of_entries (heading_of m).account (take written.count written.at) in
        stepped.answer ≡ Ok written
        → live_by R image bytes buffer
        ≡ record {
          reply = Ok (record { consumed = consumed; written = length entries });
          image = stored_in image ((heading_of m).account * 84) stepped.account;
          buffer = entries ++ drop (length entries) buffer;
        }
    -- so it replies and writes what the call of the register does that the image is
    pub reply : (live_by R image bytes buffer).reply ≡ (called_by R (register_of image) bytes buffer).reply
    pub buffer' : (live_by R image bytes buffer).buffer ≡ (called_by R (register_of image) bytes buffer).buffer

  -- the outcome question: 3, or what the account answers that is read at its words
  pub record LookPlain (image : List ℕ) (i n : ℕ) : Type 0 where
    pub elsewhere : 15 < i → look_by R image i n ≡ Err (numbered 3)
    pub asked : i ≤ 15 → look_by R image i n ≡ outlook_by R (account_from image (i * 84)) n

  -- many calls are one call, and then the others on the image that it leaves
  pub record CallsPlain (image : List ℕ) (x : Input) (xs : List Input) : Type 0 where
    pub none : image_after_all R image [] ≡ image
    pub none_seen : live_exchanges R image [] ≡ []
    pub more : image_after_all R image (x ∷ xs) ≡ image_after_all R (live_by R image x.message x.buffer).image xs
    pub more_seen :
        let called = live_by R image x.message x.buffer in
        live_exchanges R image (x ∷ xs) ≡ record { message = x.message; reply = called.reply; buffer = called.buffer } ∷ live_exchanges R called.image xs

-- what is stored where a caller lends any number of places: of a call the two counts, 0 and 0 for a refusal; of the question three words, and for a refusal none; of a line two counts
pub record PlacesPlain (image buffer rest : List ℕ) (r : Refusal) (a b c n m : ℕ) : Type 0 where
  pub refused : exported_call (record { reply = Err r; image = image; buffer = buffer }) (a ∷ b ∷ rest) ≡ record { answer = number_of r; image = image; entries = buffer; counts = 0 ∷ 0 ∷ rest }
  pub refused_one : exported_call (record { reply = Err r; image = image; buffer = buffer }) (a ∷ []) ≡ record { answer = number_of r; image = image; entries = buffer; counts = 0 ∷ [] }
  pub refused_none : exported_call (record { reply = Err r; image = image; buffer = buffer }) [] ≡ record { answer = number_of r; image = image; entries = buffer; counts = [] }
  pub taken : exported_call (record { reply = Ok (record { consumed = n; written = m }); image = image; buffer = buffer }) (a ∷ b ∷ rest) ≡ record { answer = 0; image = image; entries = buffer; counts = n ∷ m ∷ rest }
  pub taken_one : exported_call (record { reply = Ok (record { consumed = n; written = m }); image = image; buffer = buffer }) (a ∷ []) ≡ record { answer = 0; image = image; entries = buffer; counts = n ∷ [] }
  pub taken_none : exported_call (record { reply = Ok (record { consumed = n; written = m }); image = image; buffer = buffer }) [] ≡ record { answer = 0; image = image; entries = buffer; counts = [] }
  pub unlooked : exported_look (Err r) rest ≡ record { answer = number_of r; state = rest }
  pub new : exported_look (Ok (record { state = record { life = New; balance = n }; applied = m })) (a ∷ b ∷ c ∷ rest) ≡ record { answer = 0; state = 0 ∷ n ∷ m ∷ rest }
  pub opened : exported_look (Ok (record { state = record { life = Opened; balance = n }; applied = m })) (a ∷ b ∷ c ∷ rest) ≡ record { answer = 0; state = 1 ∷ n ∷ m ∷ rest }
  pub closed : exported_look (Ok (record { state = record { life = Closed; balance = n }; applied = m })) (a ∷ b ∷ c ∷ rest) ≡ record { answer = 0; state = 2 ∷ n ∷ m ∷ rest }
  pub opened_two : exported_look (Ok (record { state = record { life = Opened; balance = n }; applied = m })) (a ∷ b ∷ []) ≡ record { answer = 0; state = 1 ∷ n ∷ [] }
  pub opened_one : exported_look (Ok (record { state = record { life = Opened; balance = n }; applied = m })) (a ∷ []) ≡ record { answer = 0; state = 1 ∷ [] }
  pub new_two : exported_look (Ok (record { state = record { life = New; balance = n }; applied = m })) (a ∷ b ∷ []) ≡ record { answer = 0; state = 0 ∷ n ∷ [] }
  pub closed_two : exported_look (Ok (record { state = record { life = Closed; balance = n }; applied = m })) (a ∷ b ∷ []) ≡ record { answer = 0; state = 2 ∷ n ∷ [] }
  pub new_one : exported_look (Ok (record { state = record { life = New; balance = n }; applied = m })) (a ∷ []) ≡ record { answer = 0; state = 0 ∷ [] }
  pub closed_one : exported_look (Ok (record { state = record { life = Closed; balance = n }; applied = m })) (a ∷ []) ≡ record { answer = 0; state = 2 ∷ [] }
  pub new_none : exported_look (Ok (record { state = record { life = New; balance = n }; applied = m })) [] ≡ record { answer = 0; state = [] }
  pub closed_none : exported_look (Ok (record { state = record { life = Closed; balance = n }; applied = m })) [] ≡ record { answer = 0; state = [] }
  pub opened_none : exported_look (Ok (record { state = record { life = Opened; balance = n }; applied = m })) [] ≡ record { answer = 0; state = [] }
  pub line : exported_line (record { lined = Some (record { entry = n; line = m }); buffer = buffer }) (a ∷ b ∷ rest) ≡ record { answer = m; line = buffer; counts = n ∷ m ∷ rest }
  pub line_one : exported_line (record { lined = Some (record { entry = n; line = m }); buffer = buffer }) (a ∷ []) ≡ record { answer = m; line = buffer; counts = n ∷ [] }
  pub line_none : exported_line (record { lined = Some (record { entry = n; line = m }); buffer = buffer }) [] ≡ record { answer = m; line = buffer; counts = [] }
  pub no_line : exported_line (record { lined = None; buffer = buffer }) (a ∷ b ∷ rest) ≡ record { answer = 0; line = buffer; counts = 0 ∷ 0 ∷ rest }
  pub no_line_one : exported_line (record { lined = None; buffer = buffer }) (a ∷ []) ≡ record { answer = 0; line = buffer; counts = 0 ∷ [] }
  pub no_line_none : exported_line (record { lined = None; buffer = buffer }) [] ≡ record { answer = 0; line = buffer; counts = [] }

pub record PlainHolds : Type 0 where
  pub registers : RegisterPlain
  pub call : (R : Rule State Event ℕ) (image bytes buffer : List ℕ) → CallPlain R image bytes buffer
  pub look : (R : Rule State Event ℕ) (image : List ℕ) (i n : ℕ) → LookPlain R image i n
  pub calls : (R : Rule State Event ℕ) (image : List ℕ) (x : Input) (xs : List Input) → CallsPlain R image x xs
  pub stored : (image buffer rest : List ℕ) (r : Refusal) (a b c n m : ℕ) → PlacesPlain image buffer rest r a b c n m
