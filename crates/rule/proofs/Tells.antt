-- What the lines tell that are tied to an account: its events in progress, its requests held, its state as the run of the events applied; and where its oldest event and its
-- oldest held request stand. By induction on the tie.
-- Assumes nothing.
use Prim.Native.Nat.{ℕ}
use mathlib.Core.Path.{◌≡◌, refl, sym, ◌∙◌, ap}
use mathlib.Core.List.{List, [], ◌∷◌, ◌++◌}
use Rattle.rule.specs.Rule.{Rule, Decision, undecided, Slot, slot}
use Rattle.rule.specs.History.{waiting, voted_no, ongoing, was_applied, was_dropped, Line, line}
use Rattle.rule.specs.Run.{run}
use Rattle.rule.specs.Demand.{in_progress, on_hold, applied_events}
use Rattle.rule.proofs.Ties.{Wait, no_more, gone, waits, Live, held_then, no-then, dropped-then, going-then, Past, live_then, no-past, dropped-past, applied-past}

module _ {G E : Type 0} where
  wait-progress : {lines : List (Line G E)} {held : List (Slot G E)} → Wait lines held → in_progress lines ≡ []
  wait-progress no_more = refl
  wait-progress (gone w) = wait-progress w
  wait-progress (waits w) = wait-progress w

  wait-held : {lines : List (Line G E)} {held : List (Slot G E)} → Wait lines held → held ≡ on_hold lines
  wait-held no_more = refl
  wait-held (gone w) = wait-held w
  wait-held (waits {t = t} {g = g} {e = e} w) = ap (λ (l : List (Slot G E)). slot t g e undecided ∷ l) (wait-held w)

  live-progress : {lines : List (Line G E)} {progress held : List (Slot G E)} → Live lines progress held → progress ≡ in_progress lines
  live-progress (held_then w) = sym (wait-progress w)
  live-progress (no-then l) = live-progress l
  live-progress (dropped-then l) = live-progress l
  live-progress (going-then {t = t} {g = g} {e = e} {d = d} l) = ap (λ (xs : List (Slot G E)). slot t g e d ∷ xs) (live-progress l)

  live-held : {lines : List (Line G E)} {progress held : List (Slot G E)} → Live lines progress held → held ≡ on_hold lines
  live-held (held_then w) = wait-held w
  live-held (no-then l) = live-held l
  live-held (dropped-then l) = live-held l
  live-held (going-then l) = live-held l

  -- nothing from the first line in progress on has been applied
  pub live-applied : {lines : List (Line G E)} {progress held : List (Slot G E)} → Live lines progress held → applied_events lines ≡ []
  live-applied (held_then w) = waited w
    where
      waited : {lines' : List (Line G E)} {held' : List (Slot G E)} → Wait lines' held' → applied_events lines' ≡ []
      waited no_more = refl
      waited (gone w') = waited w'
      waited (waits w') = waited w'
  live-applied (no-then l) = live-applied l
  live-applied (dropped-then l) = live-applied l
  live-applied (going-then l) = live-applied l

  -- the line stands there, and of those before it the reading has none
  abbrev pub First : (List (Line G E) → List (Slot G E)) → Line G E → List (Line G E) → Type 0
  First read l lines = (before : List (Line G E)) × (behind : List (Line G E)) × (lines ≡ before ++ (l ∷ behind)) × (read before ≡ [])

  -- a line more before it that the reading passes over
  next : (read : List (Line G E) → List (Slot G E)) (x l : Line G E) (lines : List (Line G E)) → ((before : List (Line G E)) → read (x ∷ before) ≡ read before)
      → First read l lines → First read l (x ∷ lines)
  next read x l lines same r = (x ∷ r.0, r.1, ap (λ (xs : List (Line G E)). x ∷ xs) r.2, same r.0 ∙ r.3)

  -- the oldest held request,
  wait-first : {t : ℕ} {g : G} {e : E} {d : Decision} {lines : List (Line G E)} {held : List (Slot G E)} → Wait lines (slot t g e d ∷ held) → First on_hold (line t g e waiting 0) lines
  wait-first {t} {g} {e} (gone {t = t'} {g = g'} {e = e'} {lines = lines} w) = next on_hold (line t' g' e' was_dropped 1) (line t g e waiting 0) lines (λ before. refl) (wait-first w)
  wait-first (waits {lines = lines} w) = ([], lines, refl, refl)

  live-first : {t : ℕ} {g : G} {e : E} {d : Decision} {lines : List (Line G E)} {progress held : List (Slot G E)}
      → Live lines progress (slot t g e d ∷ held) → First on_hold (line t g e waiting 0) lines
  live-first (held_then w) = wait-first w
  live-first {t} {g} {e} (no-then {t = t'} {g = g'} {e = e'} {lines = lines} l) = next on_hold (line t' g' e' voted_no 0) (line t g e waiting 0) lines (λ before. refl) (live-first l)
  live-first {t} {g} {e} (dropped-then {t = t'} {g = g'} {e = e'} {lines = lines} l) = next on_hold (line t' g' e' was_dropped 1) (line t g e waiting 0) lines (λ before. refl) (live-first l)
  live-first {t} {g} {e} (going-then {t = t'} {g = g'} {e = e'} {d = d'} {lines = lines} l) =
      next on_hold (line t' g' e' (ongoing d') 0) (line t g e waiting 0) lines (λ before. refl) (live-first l)

  -- and the oldest event in progress
  live-oldest : {t : ℕ} {g : G} {e : E} {d : Decision} {lines : List (Line G E)} {progress held : List (Slot G E)}
      → Live lines (slot t g e d ∷ progress) held → First in_progress (line t g e (ongoing d) 0) lines
  live-oldest {t} {g} {e} {d} (no-then {t = t'} {g = g'} {e = e'} {lines = lines} l) =
      next in_progress (line t' g' e' voted_no 0) (line t g e (ongoing d) 0) lines (λ before. refl) (live-oldest l)
  live-oldest {t} {g} {e} {d} (dropped-then {t = t'} {g = g'} {e = e'} {lines = lines} l) =
      next in_progress (line t' g' e' was_dropped 1) (line t g e (ongoing d) 0) lines (λ before. refl) (live-oldest l)
  live-oldest (going-then {lines = lines} l) = ([], lines, refl, refl)

module _ {G S E B : Type 0} (R : Rule S E B) where
  pub past-progress : {s s' : S} {lines : List (Line G E)} {progress held : List (Slot G E)} → Past R s lines s' progress held → progress ≡ in_progress lines
  past-progress (live_then l) = live-progress l
  past-progress (no-past l) = past-progress l
  past-progress (dropped-past l) = past-progress l
  past-progress (applied-past q l) = past-progress l

  pub past-held : {s s' : S} {lines : List (Line G E)} {progress held : List (Slot G E)} → Past R s lines s' progress held → held ≡ on_hold lines
  past-held (live_then l) = live-held l
  past-held (no-past l) = past-held l
  past-held (dropped-past l) = past-held l
  past-held (applied-past q l) = past-held l

  -- the state so far is the run of the events applied
  pub past-applied : {s s' : S} {lines : List (Line G E)} {progress held : List (Slot G E)} → Past R s lines s' progress held → run R (applied_events lines) s ≡ s'
  past-applied (live_then l) = rw (live-applied l)
  past-applied (no-past l) = past-applied l
  past-applied (dropped-past l) = past-applied l
  past-applied (applied-past q l) = past-applied l

  -- what a reading finds first among the live lines it finds first among all, if it passes over what has ended
  module _ (read : List (Line G E) → List (Slot G E)) (over_no : (t : ℕ) (g : G) (e : E) (before : List (Line G E)) → read (line t g e voted_no 0 ∷ before) ≡ read before)
      (over-dropped : (t : ℕ) (g : G) (e : E) (before : List (Line G E)) → read (line t g e was_dropped 1 ∷ before) ≡ read before)
      (over-applied : (t : ℕ) (g : G) (e : E) (before : List (Line G E)) → read (line t g e was_applied 1 ∷ before) ≡ read before) (l : Line G E) where
    past-find : {s s' : S} {lines : List (Line G E)} {progress held : List (Slot G E)}
        → ((lines' : List (Line G E)) → Live lines' progress held → First read l lines') → Past R s lines s' progress held → First read l lines
    past-find k (live_then {lines = lines} h) = k lines h
    past-find k (no-past {t = t} {g = g} {e = e} {lines = lines} h) = next read (line t g e voted_no 0) l lines (over_no t g e) (past-find k h)
    past-find k (dropped-past {t = t} {g = g} {e = e} {lines = lines} h) = next read (line t g e was_dropped 1) l lines (over-dropped t g e) (past-find k h)
    past-find k (applied-past {t = t} {g = g} {e = e} {lines = lines} q h) = next read (line t g e was_applied 1) l lines (over-applied t g e) (past-find k h)

  pub past_first : (t : ℕ) (g : G) (e : E) (d : Decision) {s s' : S} {lines : List (Line G E)} {progress held : List (Slot G E)}
      → Past R s lines s' progress (slot t g e d ∷ held) → First on_hold (line t g e waiting 0) lines
  past_first t g e d h = past-find on_hold (λ t' g' e' before. refl) (λ t' g' e' before. refl) (λ t' g' e' before. refl) (line t g e waiting 0) (λ lines' l. live-first l) h

  pub past-oldest : (t : ℕ) (g : G) (e : E) (d : Decision) {s s' : S} {lines : List (Line G E)} {progress held : List (Slot G E)}
      → Past R s lines s' (slot t g e d ∷ progress) held → First in_progress (line t g e (ongoing d) 0) lines
  past-oldest t g e d h = past-find in_progress (λ t' g' e' before. refl) (λ t' g' e' before. refl) (λ t' g' e' before. refl) (line t g e (ongoing d) 0) (λ lines' l. live-oldest l) h

-- one event more at the end of a run
pub run-last : {S E B : Type 0} (R : Rule S E B) (es : List E) (e : E) (s : S) → run R (es ++ (e ∷ [])) s ≡ R.effect e (run R es s)
run-last R [] e s = refl
run-last R (e' ∷ es) e s = run-last R es e (R.effect e' s)
