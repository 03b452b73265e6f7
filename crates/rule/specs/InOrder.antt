-- An account in order, over its lists, clause by clause (docs/REGISTER.md, 6; 6.3 is said where there are places).
-- Assumes nothing.
use Rattle.std.specs.Prelude.{◌≡◌, Bool, true, false, ◌&&◌, not, List, [], ◌∷◌, ◌++◌, leb, length}
use Rattle.rule.specs.Lists.{every, some_of}
use Rattle.rule.specs.Rule.{Rule, guard, Verdict, accept, reject, hold, undecided, committed, Slot, slot, Account}
use Rattle.rule.specs.Outcome.{outcomes}
use Rattle.rule.specs.Run.{run, GuardsHold}
use Rattle.rule.specs.Weigh.{decide}
use Rattle.rule.specs.Step.{named}

module _ {G E : Type 0} where
  -- no two have the same transaction (6.4)
  abbrev pub apart : List (Slot G E) → Bool
  apart [] = true
  apart (slot t g e d ∷ xs) = not (some_of (named t) xs) && apart xs

  -- the oldest of them, if there is one, is undecided (6.6)
  abbrev pub oldest_undecided : List (Slot G E) → Bool
  oldest_undecided [] = true
  oldest_undecided (slot t g e undecided ∷ xs) = true
  oldest_undecided (slot t g e committed ∷ xs) = false

  -- a held request has no decision (6.4)
  abbrev pub without_decision : Slot G E → Bool
  without_decision (slot t g e undecided) = true
  without_decision (slot t g e committed) = false

abbrev pub stays_held : Verdict → Bool
stays_held accept = false
stays_held reject = false
stays_held hold = true

module _ {G S E B : Type 0} (R : Rule S E B) where
  -- neither too many in progress nor too many held (6.1)
  abbrev pub counts_within : Account G S E → Bool
  counts_within a = leb (length a.progress) R.progress_limit && leb (length a.held) R.held_limit

  -- the guard of every event is true in all outcomes of the older ones (6.5)
  abbrev pub guarded : S → (before rest : List (Slot G E)) → Bool
  guarded s before [] = true
  guarded s before (slot t g e d ∷ rest) = every (guard R e) (outcomes R before s) && guarded s (before ++ (slot t g e d ∷ [])) rest

  -- the oldest held request, if there is one, would be held again (6.7)
  abbrev pub oldest_stays_held : S → (progress held : List (Slot G E)) → Bool
  oldest_stays_held s progress [] = true
  oldest_stays_held s progress (slot t g e d ∷ held) = stays_held (decide R e s progress).verdict

  unfoldable pub is_in_order : Account G S E → Bool
  is_in_order a =
      counts_within a && R.fits a.state && apart (a.progress ++ a.held) && every without_decision a.held
      && guarded a.state [] a.progress
      && oldest_undecided a.progress
      && oldest_stays_held a.state a.progress a.held

  -- the clauses by their names
  pub record InOrder (a : Account G S E) : Type 0 where
    pub counts : counts_within a ≡ true
    pub state : R.fits a.state ≡ true
    pub transactions : apart (a.progress ++ a.held) ≡ true
    pub decisions : every without_decision a.held ≡ true
    pub guards : guarded a.state [] a.progress ≡ true
    pub oldest : oldest_undecided a.progress ≡ true
    pub stays : oldest_stays_held a.state a.progress a.held ≡ true

-- a rule whose states in order are just those that a run of events leads to, each with its guard true: the new account's state is one;
-- an event whose guard holds leads from one to another; and a run leads to each of them
pub record Sound {S E B : Type 0} (R : Rule S E B) : Type 0 where
  pub fresh : R.fits R.fresh ≡ true
  pub kept : (e : E) (s : S) → guard R e s ≡ true → R.fits s ≡ true → R.fits (R.effect e s) ≡ true
  pub reachable : (s : S) → R.fits s ≡ true → (es : List E) × GuardsHold R es R.fresh × (run R es R.fresh ≡ s)
