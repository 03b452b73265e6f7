-- What the propositions mean in which demand 3, the refusals and the shape of a call's entries are told, each said a second time in full, both ways (docs/REGISTER.md, 9.4, 10.1 and 13.3).
-- Assumes nothing.
use Rattle.std.specs.Prelude.{ℕ, ◌+◌, ◌≤◌, ◌<◌, ◌≡◌, ◌↔◌, ◌⊎◌, List, [], ◌∷◌, ◌++◌, length}
use Rattle.rule.specs.Rule.{Rule, Decision, undecided, committed, Slot, slot, Account, Message, request, commit, abort, Weighing, Entry, voted, noted, applied, dropped}
use Rattle.rule.specs.Call.{refused, taken, written, call}
use Rattle.rule.specs.Run.{run}
use Rattle.rule.specs.Vote.{Vote}
use Rattle.rule.specs.Written.{OnlyApplied, OnlyDecided, Following, Writes}
use Rattle.rule.specs.Refusals.{InProgress, OnHold, IsCommitted, Gives, LeavesIt}
use Rattle.rule.specs.History.{Fate, waiting, ongoing, was_applied, was_dropped, Line, line, fate_by, note, begun, after_call, Seen}
use Rattle.rule.specs.Demand.{ends_of, in_progress, on_hold, applied_events, OneEnd, Turns, Owned, AllOwned, Answers, HistoryOwned}

module _ {G S E B : Type 0} (R : Rule S E B) where
  -- the owner of an entry of each kind
  pub record OwnedMeans (lines : List (Line G E)) (t : ℕ) (g : G) (e : E) (w : Weighing) (b : B) : Type 0 where
    pub vote :
        Owned R lines (voted t g e w)
        ↔ ((owner : Turns t (line t g e waiting 0) (line t g e (fate_by w.verdict) 0) lines (note {B = B} lines (voted t g e w)))
        × Vote R (on_hold owner.before) (in_progress lines) (run R (applied_events lines) R.fresh) e w)
    pub noting :
        Owned R lines (noted t g)
        ↔ ((g' : G) × (e' : E) × Turns t (line t g' e' (ongoing undecided) 0) (line t g' e' (ongoing committed) 0) lines (note {B = B} lines (noted t g)))
    pub applying :
        Owned R lines (applied t g e b)
        ↔ ((owner : Turns t (line t g e (ongoing committed) 0) (line t g e was_applied 1) lines (note lines (applied t g e b)))
        × (in_progress owner.before ≡ [])
        × (b ≡ R.shown (run R (applied_events lines ++ (e ∷ [])) R.fresh)))
    pub dropping :
        Owned R lines (dropped t g e)
        ↔ (Turns t (line t g e (ongoing undecided) 0) (line t g e was_dropped 1) lines (note {B = B} lines (dropped t g e))
        ⊎ Turns t (line t g e waiting 0) (line t g e was_dropped 1) lines (note {B = B} lines (dropped t g e)))

  -- every entry of every call, and what a call answers
  pub record HistoryMeans (lines : List (Line G E)) (m : Message G E) (n : ℕ) (x : Entry G E B) (xs : List (Entry G E B)) (seen : Seen G E B) (rest : List (Seen G E B)) : Type 0 where
    pub entries : AllOwned R lines (x ∷ xs) ↔ (Owned R lines x × AllOwned R (note lines x) xs)
    pub answers : Answers R lines m (taken xs) ↔ Writes (length (in_progress lines)) (length (on_hold lines)) m xs
    pub calls :
        HistoryOwned R lines (seen ∷ rest)
        ↔ (AllOwned R (begun lines seen.message seen.answer) (written seen.answer)
        × Answers R lines seen.message seen.answer
        × HistoryOwned R (after_call lines seen.message seen.answer) rest)

  -- refusals: a transaction in progress, held, committed; a number that is given; an account that is left as it is
  pub record RefusalMeans (a : Account G S E) (t n : ℕ) (m : Message G E) : Type 0 where
    pub in_progress' : InProgress a t ↔ ((d : Decision) × ((before : List (Slot G E)) × (behind : List (Slot G E)) × (g : G) × (e : E) × (a.progress ≡ before ++ (slot t g e d ∷ behind))))
    pub on_hold' : OnHold a t ↔ ((d : Decision) × ((before : List (Slot G E)) × (behind : List (Slot G E)) × (g : G) × (e : E) × (a.held ≡ before ++ (slot t g e d ∷ behind))))
    pub is_committed : IsCommitted a t ↔ ((before : List (Slot G E)) × (behind : List (Slot G E)) × (g : G) × (e : E) × (a.progress ≡ before ++ (slot t g e committed ∷ behind)))
    pub gives : Gives R a m n ↔ ((call R a m).answer ≡ refused n)
    pub leaves : LeavesIt R a m ↔ ((k : ℕ) → (call R a m).answer ≡ refused k → (call R a m).account ≡ a)

module _ {G E B : Type 0} where
  -- the entries of a message that is taken
  pub record WritesMeans (progressing holding t : ℕ) (g : G) (e : E) (xs : List (Entry G E B)) : Type 0 where
    pub request' : Writes progressing holding (request t g e) xs ↔ ((w : Weighing) × (xs ≡ voted t g e w ∷ []))
    pub commit' : Writes {E = E} progressing holding (commit t g) xs ↔ ((rest : List (Entry G E B)) × (xs ≡ noted t g ∷ rest) × Following progressing holding rest)
    pub abort' :
        Writes {E = E} progressing holding (abort t g) xs
        ↔ ((g' : G) × (e' : E) × (rest : List (Entry G E B)) × (most-applied : ℕ) × (most-decided : ℕ) × (xs ≡ dropped t g' e' ∷ rest)
        × Following most-applied most-decided rest
        × (most-applied ≤ progressing) × (most-decided ≤ holding) × (most-applied + most-decided < progressing + holding))

  -- the entries behind a call's own: first those of events applied, then the votes, and of each no more than so many
  pub record FollowingMeans (most-applied most-decided : ℕ) (xs : List (Entry G E B)) : Type 0 where
    pub following :
        Following most-applied most-decided xs
        ↔ ((applications : List (Entry G E B)) × (decisions : List (Entry G E B)) × (xs ≡ applications ++ decisions) × OnlyApplied applications × OnlyDecided decisions
        × (length applications ≤ most-applied) × (length decisions ≤ most-decided))

-- the number beside a line
pub record EndMeans {G E : Type 0} (t k : ℕ) (g : G) (e : E) (f : Fate) (lines : List (Line G E)) : Type 0 where
  pub end : OneEnd (line t g e f k ∷ lines) ↔ ((k ≡ ends_of f) × OneEnd lines)
