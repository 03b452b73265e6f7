-- What a message that is taken does to its account, and the entries that it writes, in their order (docs/REGISTER.md, 4.6, 5 and 9.4).
-- Assumes nothing.
use Rattle.std.specs.Prelude.{ℕ, Bool, cond, not, List, [], ◌∷◌, ◌++◌, map, eqb}
use Rattle.rule.specs.Lists.{keep}
use Rattle.rule.specs.Rule.{Rule, undecided, committed, Slot, slot, Account, Message, request, commit, abort, accept, reject, hold, Verdict, Weighing, Entry, voted, noted, applied, dropped}
use Rattle.rule.specs.Weigh.{decide, decide_behind}

-- the account that follows, and the entries written on the way
pub record Step (G S E B : Type 0) : Type 0 where
  pub account : Account G S E
  pub entries : List (Entry G E B)

module _ {G E : Type 0} where
  -- whether the slot is that transaction's
  abbrev pub named : ℕ → Slot G E → Bool
  named u (slot t g e d) = eqb u t

  -- the slot, committed if it is that transaction's (5.1)
  abbrev pub mark_one : ℕ → Slot G E → Slot G E
  mark_one u (slot t g e d) = slot t g e (cond (eqb u t) committed d)

  abbrev pub mark : ℕ → List (Slot G E) → List (Slot G E)
  mark u xs = map (mark_one u) xs

  -- what is left when that transaction's slot is taken out (5.2)
  abbrev pub without : ℕ → List (Slot G E) → List (Slot G E)
  without u xs = keep (λ (x : Slot G E). not (named u x)) xs

-- the entry of a slot that is dropped
abbrev pub dropping : {G E B : Type 0} → Slot G E → Entry G E B
dropping (slot t g e d) = dropped t g e

module _ {G S E B : Type 0} where
  -- the step that writes these entries first
  abbrev pub after : List (Entry G E B) → Step G S E B → Step G S E B
  after xs step = record { account = step.account; entries = xs ++ step.entries }

module _ {G S E B : Type 0} (R : Rule S E B) where
  -- settling (5.3): the state after the effects of all committed events that stand before the first undecided one,
  abbrev pub settled_state : S → List (Slot G E) → S
  settled_state s [] = s
  settled_state s (slot t g e undecided ∷ xs) = s
  settled_state s (slot t g e committed ∷ xs) = settled_state (R.effect e s) xs

  -- the entries of the events applied,
  abbrev pub applications : S → List (Slot G E) → List (Entry G E B)
  applications s [] = []
  applications s (slot t g e undecided ∷ xs) = []
  applications s (slot t g e committed ∷ xs) = applied t g e (R.shown (R.effect e s)) ∷ applications (R.effect e s) xs

-- and what is still in progress
abbrev pub unsettled : {G E : Type 0} → List (Slot G E) → List (Slot G E)
unsettled [] = []
unsettled (slot t g e undecided ∷ xs) = slot t g e undecided ∷ xs
unsettled (slot t g e committed ∷ xs) = unsettled xs

module _ {G S E B : Type 0} where
  -- an account with nothing written
  abbrev pub still : S → List (Slot G E) → List (Slot G E) → Step G S E B
  still s progress held = record { account = record { state = s; progress = progress; held = held }; entries = [] }

  -- the oldest held request by its verdict: accepted or rejected it has its entry, and `rest` goes on with what is then in progress;
  -- held again it stays, with no entry, and nothing behind it is looked at (5.4)
  abbrev pub drain_by : Verdict → Weighing → Slot G E → S → List (Slot G E) → List (Slot G E) → (List (Slot G E) → Step G S E B) → Step G S E B
  drain_by accept w (slot t g e d) s progress held rest = after (voted t g e w ∷ []) (rest (progress ++ (slot t g e undecided ∷ [])))
  drain_by reject w (slot t g e d) s progress held rest = after (voted t g e w ∷ []) (rest progress)
  drain_by hold w x s progress held rest = still s progress (x ∷ held)

-- a request by its verdict: it is in progress, or not at all, or held behind the others (4.6)
abbrev pub asked_by : {G S E : Type 0} → Verdict → S → List (Slot G E) → List (Slot G E) → Slot G E → Account G S E
asked_by accept s progress held x = record { state = s; progress = progress ++ (x ∷ []); held = held }
asked_by reject s progress held x = record { state = s; progress = progress; held = held }
asked_by hold s progress held x = record { state = s; progress = progress; held = held ++ (x ∷ []) }

module _ {G S E B : Type 0} (R : Rule S E B) where
  -- the held requests, oldest first, each decided with nothing held before it, until one is held again (5.4)
  abbrev pub drain : S → List (Slot G E) → List (Slot G E) → Step G S E B
  drain s progress [] = still s progress []
  drain s progress (slot t g e d ∷ held) =
      drain_by (decide R e s progress).verdict (decide R e s progress) (slot t g e d) s progress held
      (λ (progress' : List (Slot G E)). drain s progress' held)

  -- what follows every commit and abort: the committed oldest are applied, then the held requests are looked at
  unfoldable pub settle : S → List (Slot G E) → List (Slot G E) → Step G S E B
  settle s progress held = after (applications R s progress) (drain (settled_state R s progress) (unsettled progress) held)

  -- a request: its own entry carries its weighing
  unfoldable pub asked : Account G S E → ℕ → G → E → Step G S E B
  asked a t g e =
      let w : Weighing = decide_behind R a.held e a.state a.progress in
      record {
        account = asked_by w.verdict a.state a.progress a.held (slot t g e undecided);
        entries = voted t g e w ∷ [];
      }

  -- a commit: noted, the event is marked, and the rest follows
  unfoldable pub committing : Account G S E → ℕ → G → Step G S E B
  committing a t g = after (noted t g ∷ []) (settle a.state (mark t a.progress) a.held)

  -- an abort: the event or the held request is dropped, and the rest follows
  unfoldable pub aborting : Account G S E → ℕ → Step G S E B
  aborting a t =
      after (map dropping (keep (named t) a.progress ++ keep (named t) a.held))
      (settle a.state (without t a.progress) (without t a.held))

  -- a message that is taken
  abbrev pub step : Account G S E → Message G E → Step G S E B
  step a (request t g e) = asked a t g e
  step a (commit t g) = committing a t g
  step a (abort t g) = aborting a t
