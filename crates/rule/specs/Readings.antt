-- The readings of the lines from their other side: what a line adds, fate by fate, and how a reading of some lines goes on over those behind them (docs/REGISTER.md, 5.7).
-- Assumes nothing.
use Rattle.std.specs.Prelude.{ℕ, ◌≡◌, ◌↔◌, Bool, true, false, List, [], ◌∷◌, ◌++◌, map}
use Rattle.rule.specs.Rule.{undecided, committed, slot, hold, Weighing, Entry, voted, noted, applied, dropped}
use Rattle.rule.specs.Outcome.{undecided_of}
use Rattle.rule.specs.History.{Fate, waiting, voted_no, ongoing, was_applied, was_dropped, Line, line, owners}
use Rattle.rule.specs.Demand.{ends_of, in_progress, on_hold, serial, applied_events, course, ended_line, end_entry}
use Rattle.rule.specs.Written.{OnlyApplied, OnlyDecided}

-- a request waits, was voted no, is undecided, is committed, was applied, was dropped
abbrev pub fates : List Fate
fates = waiting ∷ voted_no ∷ ongoing undecided ∷ ongoing committed ∷ was_applied ∷ was_dropped ∷ []

-- an end that is asked for, whichever it is
abbrev pub any_end : {G E : Type 0} → ℕ → G → E → Fate → Bool
any_end t g e f = true

module _ {G E : Type 0} where
  -- a reading of one line of each fate
  abbrev pub of_each : {A : Type 0} → ℕ → G → E → ℕ → (Line G E → A) → List A
  of_each t g e k read = map (λ (f : Fate). read (line t g e f k)) fates

  pub record OneLine (t : ℕ) (g : G) (e : E) (k : ℕ) : Type 0 where
    pub progress : of_each t g e k (λ (l : Line G E). in_progress (l ∷ [])) ≡ [] ∷ [] ∷ (slot t g e undecided ∷ []) ∷ (slot t g e committed ∷ []) ∷ [] ∷ [] ∷ []
    pub held : of_each t g e k (λ (l : Line G E). on_hold (l ∷ [])) ≡ (slot t g e undecided ∷ []) ∷ [] ∷ [] ∷ [] ∷ [] ∷ [] ∷ []
    pub serially : of_each t g e k (λ (l : Line G E). serial (l ∷ [])) ≡ [] ∷ [] ∷ [] ∷ (e ∷ []) ∷ (e ∷ []) ∷ [] ∷ []
    pub applied : of_each t g e k (λ (l : Line G E). applied_events (l ∷ [])) ≡ [] ∷ [] ∷ [] ∷ [] ∷ (e ∷ []) ∷ [] ∷ []
    pub counting : of_each t g e k (λ (l : Line G E). course (l ∷ [])) ≡ [] ∷ [] ∷ (slot t g e undecided ∷ []) ∷ (slot t g e committed ∷ []) ∷ (slot t g e committed ∷ []) ∷ [] ∷ []
    -- it owns the entries of its transaction while it waits or is in progress, and none of another
    pub owning :
        of_each t g e k (λ (l : Line G E). owners t (l ∷ []))
        ≡ (line t g e waiting k ∷ []) ∷ [] ∷ (line t g e (ongoing undecided) k ∷ []) ∷ (line t g e (ongoing committed) k ∷ []) ∷ [] ∷ [] ∷ []
    pub others : (u : ℕ) → (u ≡ t → ⊥) → of_each t g e k (λ (l : Line G E). owners u (l ∷ [])) ≡ [] ∷ [] ∷ [] ∷ [] ∷ [] ∷ [] ∷ []
    pub ended : of_each t g e k (ended_line any_end) ≡ false ∷ false ∷ false ∷ false ∷ true ∷ true ∷ []
    pub ends : map ends_of fates ≡ 0 ∷ 0 ∷ 0 ∷ 0 ∷ 1 ∷ 1 ∷ []

  pub record GoesOn (xs ys : List (Line G E)) : Type 0 where
    pub progress : in_progress (xs ++ ys) ≡ in_progress xs ++ in_progress ys
    pub held : on_hold (xs ++ ys) ≡ on_hold xs ++ on_hold ys
    pub applied : applied_events (xs ++ ys) ≡ applied_events xs ++ applied_events ys
    pub counting : course (xs ++ ys) ≡ course xs ++ course ys
    pub owning : (t : ℕ) → owners t (xs ++ ys) ≡ owners t xs ++ owners t ys
    -- the serial run goes on where nothing undecided stands before, and there alone
    pub serially : undecided_of (in_progress xs) ≡ 0 → serial (xs ++ ys) ≡ serial xs ++ serial ys
    pub stopped : (undecided_of (in_progress xs) ≡ 0 → ⊥) → serial (xs ++ ys) ≡ serial xs

module _ {G E B : Type 0} where
  -- the entries of ends
  pub record OneEntry (t : ℕ) (g : G) (e : E) (w : Weighing) (b : B) : Type 0 where
    pub ends : map (end_entry any_end) (voted t g e w ∷ noted t g ∷ applied t g e b ∷ dropped t g e ∷ []) ≡ false ∷ false ∷ true ∷ true ∷ []

  -- the entries behind a call's own, wherever they stand among them
  pub record OnlyThese (xs : List (Entry G E B)) : Type 0 where
    pub of_applied :
        OnlyApplied xs
        ↔ ((before behind : List (Entry G E B)) (x : Entry G E B) → xs ≡ before ++ (x ∷ behind) → (t : ℕ) × (g : G) × (e : E) × (b : B) × (x ≡ applied t g e b))
    pub of_decided :
        OnlyDecided xs
        ↔ ((before behind : List (Entry G E B)) (x : Entry G E B) → xs ≡ before ++ (x ∷ behind)
        → (t : ℕ) × (g : G) × (e : E) × (w : Weighing) × (x ≡ voted t g e w) × (w.verdict ≡ hold → ⊥))
