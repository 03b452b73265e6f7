-- What counts, or may come to count, before any place of the lines is what is applied and then what is in progress: no event is applied behind one in progress.
-- By induction on the tie, then on the lines.
-- Assumes nothing.
use Prim.Native.Nat.{ℕ, suc}
use mathlib.Core.Path.{◌≡◌, refl, sym, ◌∙◌}
use mathlib.Core.Bool.{Bool, cond}
use mathlib.Core.List.{List, [], ◌∷◌, ◌++◌, cons≢nil}
use Rattle.rule.specs.Rule.{Rule, undecided, committed, Slot}
use Rattle.rule.specs.History.{waiting, voted_no, ongoing, was_applied, was_dropped, Line, line}
use Rattle.rule.specs.Run.{run}
use Rattle.rule.specs.Exact.{chosen_state}
use Rattle.rule.specs.Demand.{in_progress, applied_events, course}
use Rattle.rule.proofs.Ties.{Past, live_then, no-past, dropped-past, applied-past}
use Rattle.rule.proofs.Tells.{live-applied}
use Rattle.rule.proofs.Readings.{applied-append}

first-none : {A : Type 0} (xs ys : List A) → xs ++ ys ≡ [] → xs ≡ []
first-none [] ys h = refl
first-none (x ∷ xs) ys h = absurd (cons≢nil h)

module _ {G E : Type 0} where
  -- nothing is applied behind a line in progress
  abbrev pub Sorted : List (Line G E) → Type 0
  Sorted [] = Unit {0}
  Sorted (line t g e waiting k ∷ lines) = Sorted lines
  Sorted (line t g e voted_no k ∷ lines) = Sorted lines
  Sorted (line t g e (ongoing d) k ∷ lines) = (applied_events lines ≡ []) × Sorted lines
  Sorted (line t g e was_applied k ∷ lines) = Sorted lines
  Sorted (line t g e was_dropped k ∷ lines) = Sorted lines

  none-sorted : (lines : List (Line G E)) → applied_events lines ≡ [] → Sorted lines
  none-sorted [] h = tt
  none-sorted (line t g e waiting k ∷ lines) h = none-sorted lines h
  none-sorted (line t g e voted_no k ∷ lines) h = none-sorted lines h
  none-sorted (line t g e (ongoing d) k ∷ lines) h = (h, none-sorted lines h)
  none-sorted (line t g e was_applied k ∷ lines) h = absurd (cons≢nil h)
  none-sorted (line t g e was_dropped k ∷ lines) h = none-sorted lines h

  -- so of the lines before any place
  pub sorted_before : (before behind : List (Line G E)) → Sorted (before ++ behind) → Sorted before
  sorted_before [] behind h = tt
  sorted_before (line t g e waiting k ∷ before) behind h = sorted_before before behind h
  sorted_before (line t g e voted_no k ∷ before) behind h = sorted_before before behind h
  sorted_before (line t g e (ongoing d) k ∷ before) behind h =
      (first-none (applied_events before) (applied_events behind) (sym (applied-append before behind) ∙ h.0), sorted_before before behind h.1)
  sorted_before (line t g e was_applied k ∷ before) behind h = sorted_before before behind h
  sorted_before (line t g e was_dropped k ∷ before) behind h = sorted_before before behind h

module _ {G S E B : Type 0} (R : Rule S E B) where
  pub past-sorted : {s s' : S} {lines : List (Line G E)} {progress held : List (Slot G E)} → Past R s lines s' progress held → Sorted lines
  past-sorted (live_then {lines = lines} l) = none-sorted lines (live-applied l)
  past-sorted (no-past l) = past-sorted l
  past-sorted (dropped-past l) = past-sorted l
  past-sorted (applied-past q l) = past-sorted l

  pub sorted-along : (lines : List (Line G E)) → Sorted lines → (chosen : ℕ → Bool) (s : S)
      → chosen_state R (course lines) chosen s ≡ chosen_state R (in_progress lines) chosen (run R (applied_events lines) s)
  sorted-along [] h chosen s = refl
  sorted-along (line t g e waiting k ∷ lines) h chosen s = sorted-along lines h chosen s
  sorted-along (line t g e voted_no k ∷ lines) h chosen s = sorted-along lines h chosen s
  sorted-along (line t g e (ongoing undecided) k ∷ lines) h chosen s =
      rw h.0 (rw h.0 at (sorted-along lines h.1 (λ (i : ℕ). chosen (suc i)) (cond (chosen 0) (R.effect e s) s)))
  sorted-along (line t g e (ongoing committed) k ∷ lines) h chosen s = rw h.0 (rw h.0 at (sorted-along lines h.1 chosen (R.effect e s)))
  sorted-along (line t g e was_applied k ∷ lines) h chosen s = sorted-along lines h chosen (R.effect e s)
  sorted-along (line t g e was_dropped k ∷ lines) h chosen s = sorted-along lines h chosen s
