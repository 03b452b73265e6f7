-- What is filed with an event never matters: put through any function, it comes out put through that function, and nothing else differs (docs/REGISTER.md, 13.2).
-- Assumes nothing.
use Rattle.std.specs.Prelude.{◌≡◌, List, map}
use Rattle.rule.specs.Rule.{Rule, Slot, slot, Account, Message, request, commit, abort, Entry, voted, noted, applied, dropped, new_account}
use Rattle.rule.specs.Call.{Answer, refused, taken, call, reached}
use Rattle.rule.specs.History.{Seen, history}

module _ {G H E : Type 0} (f : G → H) where
  abbrev pub slot_through : Slot G E → Slot H E
  slot_through (slot t g e d) = slot t (f g) e d

  abbrev pub message_through : Message G E → Message H E
  message_through (request t g e) = request t (f g) e
  message_through (commit t g) = commit t (f g)
  message_through (abort t g) = abort t (f g)

module _ {G H E B : Type 0} (f : G → H) where
  abbrev pub entry_through : Entry G E B → Entry H E B
  entry_through (voted t g e w) = voted t (f g) e w
  entry_through (noted t g) = noted t (f g)
  entry_through (applied t g e b) = applied t (f g) e b
  entry_through (dropped t g e) = dropped t (f g) e

  abbrev pub answer_through : Answer G E B → Answer H E B
  answer_through (refused n) = refused n
  answer_through (taken xs) = taken (map entry_through xs)

  abbrev pub seen_through : Seen G E B → Seen H E B
  seen_through x = record { message = message_through f x.message; answer = answer_through x.answer }

module _ {G H S E : Type 0} (f : G → H) where
  abbrev pub account_through : Account G S E → Account H S E
  account_through a = record { state = a.state; progress = map (slot_through f) a.progress; held = map (slot_through f) a.held }

module _ {G H S E B : Type 0} (R : Rule S E B) (f : G → H) where
  -- one call, on any account
  pub record NeverLooked (a : Account G S E) (m : Message G E) : Type 0 where
    pub account : (call R (account_through f a) (message_through f m)).account ≡ account_through f (call R a m).account
    pub answer : (call R (account_through f a) (message_through f m)).answer ≡ answer_through f (call R a m).answer

  -- all that is seen of a list of messages to a new account
  pub record NeverSeen (ms : List (Message G E)) : Type 0 where
    pub account : reached R (new_account R H) (map (message_through f) ms) ≡ account_through f (reached R (new_account R G) ms)
    pub history' : history R (new_account R H) (map (message_through f) ms) ≡ map (seen_through f) (history R (new_account R G) ms)
