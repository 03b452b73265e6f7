-- A register that is kept as an image over many calls (docs/REGISTER.md, 15.6 and 15.7): every call is the register's own, and goes by the words of the account that is named.
-- Assumes nothing.
use Rattle.std.specs.Prelude.{ℕ, Ok, Err, ◌+◌, ◌*◌, ◌≤◌, ◌<◌, ◌≡◌, List, [], ◌∷◌, length, take, drop, replicate}
use Rattle.std.proofs.Math.Option.{some}
use Rattle.rule.specs.Rule.{Rule}
use Rattle.events.specs.declared.Event.{Event}
use Rattle.events.specs.declared.State.{State}
use Rattle.refusal.specs.Numbers.{numbered}
use Rattle.message.specs.declared.Message.{Message}
use Rattle.message.specs.Answers.{read_of}
use Rattle.register.specs.Register.{fresh_by}
use Rattle.register.specs.Call.{refusal_of, called_by}
use Rattle.register.specs.Refusals.{account_in}
use Rattle.register.specs.Sequence.{Input, Exchange, after, exchanges}
use Rattle.live.specs.Registers.{register_of}
use Rattle.live.specs.Live.{live_by, look_by}

-- the 84 words of the account of a number
abbrev pub own_words : (image : List ℕ) (account : ℕ) → List ℕ
own_words image i = take 84 (drop (i * 84) image)

module _ (R : Rule State Event ℕ) where
  -- one call
  pub record Keeps (image bytes buffer : List ℕ) : Type 0 where
    -- the image is afterwards the register that the call gives, and as long as it was
    pub register : register_of (live_by R image bytes buffer).image ≡ (called_by R (register_of image) bytes buffer).register
    pub size : length (live_by R image bytes buffer).image ≡ length image
    -- a refusal changes no word,
    pub refused : (n : ℕ) → refusal_of (live_by R image bytes buffer).reply ≡ some n → (live_by R image bytes buffer).image ≡ image
    -- and a message that is taken none but those of the account that it names
    pub before : take (account_in bytes * 84) (live_by R image bytes buffer).image ≡ take (account_in bytes * 84) image
    pub behind : drop (account_in bytes * 84 + 84) (live_by R image bytes buffer).image ≡ drop (account_in bytes * 84 + 84) image
    -- an image too short for that account gets 5, behind 1 to 4
    pub short : (m : Message) (consumed : ℕ) → read_of bytes ≡ Ok (m, consumed) → 323 ≤ length buffer → length image < account_in bytes * 84 + 84
        → (live_by R image bytes buffer).reply ≡ Err (numbered 5)

  -- two images with the same words of the account that is named get one reply and one buffer, and have the same words of it afterwards
  pub record OwnAlone (image other bytes buffer : List ℕ) : Type 0 where
    pub reply : (live_by R image bytes buffer).reply ≡ (live_by R other bytes buffer).reply
    pub buffer' : (live_by R image bytes buffer).buffer ≡ (live_by R other bytes buffer).buffer
    pub own : own_words (live_by R image bytes buffer).image (account_in bytes) ≡ own_words (live_by R other bytes buffer).image (account_in bytes)

  abbrev pub CallsGoByOwnWords : Type 0
  CallsGoByOwnWords = (image other bytes buffer : List ℕ) → own_words image (account_in bytes) ≡ own_words other (account_in bytes) → OwnAlone image other bytes buffer

  -- many calls: the image after them, and what is seen of them
  abbrev pub image_after_all : (image : List ℕ) → List Input → List ℕ
  image_after_all image [] = image
  image_after_all image (x ∷ xs) = image_after_all (live_by R image x.message x.buffer).image xs

  abbrev pub live_exchanges : (image : List ℕ) → List Input → List Exchange
  live_exchanges image [] = []
  live_exchanges image (x ∷ xs) =
      record { message = x.message; reply = (live_by R image x.message x.buffer).reply; buffer = (live_by R image x.message x.buffer).buffer }
      ∷ live_exchanges (live_by R image x.message x.buffer).image xs

  -- they are the calls of a register: of the one that the image is, and of a fresh one where memory is zeroed
  pub record KeepsOn (inputs : List Input) : Type 0 where
    pub register : (image : List ℕ) → register_of (image_after_all image inputs) ≡ after R (register_of image) inputs
    pub seen : (image : List ℕ) → live_exchanges image inputs ≡ exchanges R (register_of image) inputs
    pub zeroed : register_of (image_after_all (replicate 1_344 0) inputs) ≡ after R (fresh_by R) inputs
    pub zeroed_seen : live_exchanges (replicate 1_344 0) inputs ≡ exchanges R (fresh_by R) inputs

  -- the outcome question, which goes by the words of its account too: 5 where the image is too short for it
  pub record Looks (image : List ℕ) (account number : ℕ) : Type 0 where
    pub short : account ≤ 15 → length image < account * 84 + 84 → look_by R image account number ≡ Err (numbered 5)
    pub own : (other : List ℕ) → own_words image account ≡ own_words other account → look_by R image account number ≡ look_by R other account number

  pub record KeepingHoldsBy : Type 0 where
    pub call : (image bytes buffer : List ℕ) → Keeps image bytes buffer
    pub own : CallsGoByOwnWords
    pub calls : (inputs : List Input) → KeepsOn inputs
    pub look : (image : List ℕ) (account number : ℕ) → Looks image account number
