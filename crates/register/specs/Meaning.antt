-- What the propositions mean in which it is told that neither the seconds nor what is filed ever matters, each said a second time in full, both ways (docs/REGISTER.md, 13.2); and what demand 3
-- says of an account after calls (13.3). A word that stands in a demand cannot be changed with it.
-- Assumes nothing.
use Rattle.std.specs.Prelude.{ℕ, ◌≤◌, ◌≡◌, ◌↔◌, ◌⊎◌, true, List, [], ◌∷◌, ◌++◌, map, length, get_or, take, drop}
use Rattle.std.proofs.Math.Seq.{slice}
use Rattle.rule.specs.Rule.{Rule}
use Rattle.rule.specs.Demand.{Demand3}
use Rattle.rule.specs.Filed.{entry_through, account_through}
use Rattle.events.specs.declared.Event.{Event}
use Rattle.events.specs.declared.State.{State}
use Rattle.filing.specs.declared.Filed.{Filed}
use Rattle.filing.specs.declared.Entry.{Entry}
use Rattle.account.specs.declared.Account.{Account}
use Rattle.account.specs.Places.{lists_of}
use Rattle.account.specs.InOrder.{in_order_by}
use Rattle.account.specs.Steps as steps
use Rattle.account.specs.Steps.{refusal_in}
use Rattle.entry.specs.Bytes.{bytes_of_entry}
use Rattle.register.specs.declared.Register.{Register}
use Rattle.register.specs.Register.{Sent, nowhere, fresh_by}
use Rattle.register.specs.Call.{written_of}
use Rattle.register.specs.Sequence.{Input, Exchange, rule_entry, after, exchanges, seen_by, SerialPast}
use Rattle.register.specs.Run.{Run}
use Rattle.register.specs.Whole.{Whole}
use Rattle.register.specs.Seconds.{OtherSecond, SameMessage, OtherSeconds, SameEntries, SameExchange, SameExchanges}
use Rattle.register.specs.RunSeconds.{SameMessages, SameRun}
use Rattle.register.specs.Filed.{SameAccount, SameRegister, SameSent}

-- strings of bytes that differ in the second alone: whatever the two seconds are, and no other strings; messages within their whole length
pub record SecondMeans (front rest : List ℕ) (a b c d a' b' c' d' : ℕ) (bytes bytes' : List ℕ) : Type 0 where
  pub any : length front ≡ 7 → OtherSecond (front ++ (a ∷ b ∷ c ∷ d ∷ rest)) (front ++ (a' ∷ b' ∷ c' ∷ d' ∷ rest))
  pub any_message : length front ≡ 7 → SameMessage (front ++ (a ∷ b ∷ c ∷ d ∷ rest)) (front ++ (a' ∷ b' ∷ c' ∷ d' ∷ rest))
  pub other : OtherSecond bytes bytes' ↔ ((length bytes ≡ length bytes') × (take 7 bytes ≡ take 7 bytes') × (drop 11 bytes ≡ drop 11 bytes'))
  pub message : SameMessage bytes bytes'
      ↔ ((take 7 bytes ≡ take 7 bytes') × ((whole : ℕ) → Whole bytes whole → slice 11 whole bytes ≡ slice 11 whole bytes')
      × ((whole : ℕ) → Whole bytes whole → (whole ≤ length bytes) ↔ (whole ≤ length bytes')))
  pub whole' : (whole : ℕ) → Whole bytes whole
      ↔ (((1 ≤ get_or bytes 0 0) × (get_or bytes 0 0 ≤ 3) × (whole ≡ 15)) ⊎ ((4 ≤ get_or bytes 0 0) × (get_or bytes 0 0 ≤ 6) × (whole ≡ 11)))

-- sequences of calls, one after the other and as many of each
pub record SequencesMean (x y : Input) (xs ys : List Input) (u v : Exchange) (us vs : List Exchange) : Type 0 where
  pub none : OtherSeconds [] []
  pub more : OtherSeconds (x ∷ xs) (y ∷ ys) ↔ (SameMessage x.message y.message × (x.buffer ≡ y.buffer) × OtherSeconds xs ys)
  pub fewer : OtherSeconds (x ∷ xs) [] → ⊥
  pub further : OtherSeconds [] (y ∷ ys) → ⊥
  pub none_seen : SameExchanges [] []
  pub more_seen : SameExchanges (u ∷ us) (v ∷ vs) ↔ (SameExchange u v × SameExchanges us vs)
  pub fewer_seen : SameExchanges (u ∷ us) [] → ⊥
  pub further_seen : SameExchanges [] (v ∷ vs) → ⊥
  pub exchange : SameExchange u v
      ↔ ((u.reply ≡ v.reply) × SameEntries (take (written_of u.reply) u.buffer) (take (written_of v.reply) v.buffer)
      × (drop (written_of u.reply) u.buffer ≡ drop (written_of v.reply) v.buffer))

-- entries one after the other: none on either side, or one on each under one account, which differ in the second alone, and then the others
abbrev pub EntriesMean : (bytes bytes' : List ℕ) → Type 0
EntriesMean bytes bytes' =
    SameEntries bytes bytes'
    ↔ (((bytes ≡ []) × (bytes' ≡ []))
    ⊎ ((account : ℕ) × (e : Entry) × (e' : Entry) × (rest : List ℕ) × (rest' : List ℕ) × (bytes ≡ bytes_of_entry account e ++ rest) × (bytes' ≡ bytes_of_entry account e' ++ rest')
    × OtherSecond (bytes_of_entry account e) (bytes_of_entry account e') × SameEntries rest rest'))

-- runs: the messages of two strings, one after the other, and what the runs give
pub record RunsMean (bytes bytes' : List ℕ) (x y : Run) : Type 0 where
  pub messages : SameMessages bytes bytes'
      ↔ (SameMessage bytes bytes' × ((whole : ℕ) → Whole bytes whole → whole ≤ length bytes → SameMessages (drop whole bytes) (drop whole bytes')))
  pub runs : SameRun x y
      ↔ ((x.counts ≡ y.counts) × SameEntries (take x.counts.written x.entries) (take y.counts.written y.entries)
      × (drop x.counts.written x.entries ≡ drop y.counts.written y.entries))

module _ (R : Rule State Event ℕ) where
  -- accounts, registers and what was sent, the same but for what is filed
  pub record FiledMeans (f : Filed → Filed) (a a' : Account) (r r' : Register) (x y : Sent) : Type 0 where
    pub account : SameAccount R f a a' ↔ ((in_order_by R a ≡ true) × (in_order_by R a' ≡ true) × (account_through f (lists_of a) ≡ account_through f (lists_of a')))
    pub register : SameRegister R f r r'
        ↔ ((length r.accounts ≡ 16) × (length r'.accounts ≡ 16)
        × ((i : ℕ) → i ≤ 15 → SameAccount R f (get_or r.accounts i nowhere) (get_or r'.accounts i nowhere)))
    pub sent : SameSent R f x y
        ↔ ((refusal_in x.answer ≡ refusal_in y.answer)
        × (map (λ e. entry_through f (rule_entry e)) (take (steps.entries_in x.answer).count (steps.entries_in x.answer).at) ≡ map (λ e. entry_through f (rule_entry e)) (take (steps.entries_in y.answer).count (steps.entries_in y.answer).at))
        × SameRegister R f x.register y.register)

  -- the past of an account is that of its lists, by the exchanges that it saw
  abbrev pub PastMeans : Type 0
  PastMeans =
      (inputs : List Input) (i : ℕ)
      → SerialPast R inputs i ↔ Demand3 R (lists_of (get_or (after R (fresh_by R) inputs).accounts i nowhere)) (seen_by i (exchanges R (fresh_by R) inputs))

pub record MeaningHolds : Type 0 where
  pub second : (front rest : List ℕ) (a b c d a' b' c' d' : ℕ) (bytes bytes' : List ℕ) → SecondMeans front rest a b c d a' b' c' d' bytes bytes'
  pub sequences : (x y : Input) (xs ys : List Input) (u v : Exchange) (us vs : List Exchange) → SequencesMean x y xs ys u v us vs
  pub entries : (bytes bytes' : List ℕ) → EntriesMean bytes bytes'
  pub runs : (bytes bytes' : List ℕ) (x y : Run) → RunsMean bytes bytes' x y
  pub filed : (R : Rule State Event ℕ) (f : Filed → Filed) (a a' : Account) (r r' : Register) (x y : Sent) → FiledMeans R f a a' r r' x y
  pub past : (R : Rule State Event ℕ) → PastMeans R
