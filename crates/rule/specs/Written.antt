-- What one call writes, and in which order (docs/REGISTER.md, 9.4).
-- Assumes nothing.
use Rattle.std.specs.Prelude.{ℕ, ◌+◌, ◌≤◌, ◌<◌, ◌≡◌, List, [], ◌∷◌, ◌++◌, length}
use Rattle.rule.specs.Rule.{Account, Message, request, commit, abort, hold, Weighing, Entry, voted, noted, applied, dropped}

module _ {G E B : Type 0} where
  -- nothing but entries of events applied
  abbrev pub OnlyApplied : List (Entry G E B) → Type 0
  OnlyApplied [] = Unit {0}
  OnlyApplied (voted t g e w ∷ xs) = ⊥
  OnlyApplied (noted t g ∷ xs) = ⊥
  OnlyApplied (applied t g e b ∷ xs) = OnlyApplied xs
  OnlyApplied (dropped t g e ∷ xs) = ⊥

  -- nothing but votes of yes or no: a request that stays held gets no entry (5.4)
  abbrev pub OnlyDecided : List (Entry G E B) → Type 0
  OnlyDecided [] = Unit {0}
  OnlyDecided (voted t g e w ∷ xs) = (w.verdict ≡ hold → ⊥) × OnlyDecided xs
  OnlyDecided (noted t g ∷ xs) = ⊥
  OnlyDecided (applied t g e b ∷ xs) = ⊥
  OnlyDecided (dropped t g e ∷ xs) = ⊥

  -- the entries behind a call's own: of at most so many events applied, then of at most so many held requests decided
  pub record Following (most-applied most-decided : ℕ) (xs : List (Entry G E B)) : Type 0 where
    pub applications : List (Entry G E B)
    pub decisions : List (Entry G E B)
    pub split : xs ≡ applications ++ decisions
    pub only_applied : OnlyApplied applications
    pub only_decided : OnlyDecided decisions
    pub few : length applications ≤ most-applied
    pub few_decided : length decisions ≤ most-decided

module _ {G E B : Type 0} (progressing holding : ℕ) where
  -- the entries of a message that is taken where so many events are in progress and so many requests held
  abbrev pub Writes : Message G E → List (Entry G E B) → Type 0
  -- a request has its own vote and nothing else
  Writes (request t g e) xs = (w : Weighing) × (xs ≡ voted t g e w ∷ [])
  -- a commit is noted, with its own filing; every event in progress may be applied and every held request decided
  Writes (commit t g) xs = (rest : List (Entry G E B)) × (xs ≡ noted t g ∷ rest) × Following progressing holding rest
  -- an abort drops one, with the filing of its request; of those in progress and held one is gone
  Writes (abort t g) xs =
      (g' : G) × (e : E) × (rest : List (Entry G E B)) × (most-applied : ℕ) × (most-decided : ℕ) × (xs ≡ dropped t g' e ∷ rest)
      × Following most-applied most-decided rest
      × (most-applied ≤ progressing) × (most-decided ≤ holding) × (most-applied + most-decided < progressing + holding)

module _ {G S E B : Type 0} (a : Account G S E) where
  -- so on this account
  abbrev pub Shape : Message G E → List (Entry G E B) → Type 0
  Shape m xs = Writes (length a.progress) (length a.held) m xs
