-- The readings of the lines: of one line they compute; over more they go by induction on the lines before.
-- Assumes nothing.
use Prim.Native.Nat.{ℕ}
use mathlib.Core.Path.{◌≡◌, refl, ap, ◌∙◌}
use mathlib.Core.List.{List, [], ◌∷◌, ◌++◌}
use native.Mathlib.Omega.{arith}
use borrow.Author.Tests.{eq-eqb, ne_eqb}
use Rattle.rule.specs.Rule.{undecided, committed, Slot, slot, hold, Weighing, Entry, voted, noted, applied, dropped}
use Rattle.rule.specs.Outcome.{undecided_of}
use Rattle.rule.specs.History.{waiting, voted_no, ongoing, was_applied, was_dropped, Line, line, owns}
use Rattle.rule.specs.Demand.{in_progress, on_hold, serial, applied_events, course}
use Rattle.rule.specs.Written.{OnlyApplied, OnlyDecided}
use Rattle.rule.specs.Readings.{OneLine, GoesOn, OneEntry, OnlyThese}
use Rattle.rule.proofs.Lists.{keep_append}

module _ {G E : Type 0} where
  pub one_line : (t : ℕ) (g : G) (e : E) (k : ℕ) → OneLine t g e k
  one_line t g e k =
      record {
        progress = refl;
        held = refl;
        serially = refl;
        applied = refl;
        counting = refl;
        owning = rw (eq-eqb t t refl);
        others = λ u h. rw (ne_eqb u t h);
        ended = refl;
        ends = refl;
      }

  progress-append : (xs ys : List (Line G E)) → in_progress (xs ++ ys) ≡ in_progress xs ++ in_progress ys
  progress-append [] ys = refl
  progress-append (line t g e waiting k ∷ xs) ys = progress-append xs ys
  progress-append (line t g e voted_no k ∷ xs) ys = progress-append xs ys
  progress-append (line t g e (ongoing d) k ∷ xs) ys = ap (λ (l : List (Slot G E)). slot t g e d ∷ l) (progress-append xs ys)
  progress-append (line t g e was_applied k ∷ xs) ys = progress-append xs ys
  progress-append (line t g e was_dropped k ∷ xs) ys = progress-append xs ys

  held-append : (xs ys : List (Line G E)) → on_hold (xs ++ ys) ≡ on_hold xs ++ on_hold ys
  held-append [] ys = refl
  held-append (line t g e waiting k ∷ xs) ys = ap (λ (l : List (Slot G E)). slot t g e undecided ∷ l) (held-append xs ys)
  held-append (line t g e voted_no k ∷ xs) ys = held-append xs ys
  held-append (line t g e (ongoing d) k ∷ xs) ys = held-append xs ys
  held-append (line t g e was_applied k ∷ xs) ys = held-append xs ys
  held-append (line t g e was_dropped k ∷ xs) ys = held-append xs ys

  pub applied-append : (xs ys : List (Line G E)) → applied_events (xs ++ ys) ≡ applied_events xs ++ applied_events ys
  applied-append [] ys = refl
  applied-append (line t g e waiting k ∷ xs) ys = applied-append xs ys
  applied-append (line t g e voted_no k ∷ xs) ys = applied-append xs ys
  applied-append (line t g e (ongoing d) k ∷ xs) ys = applied-append xs ys
  applied-append (line t g e was_applied k ∷ xs) ys = ap (λ (l : List E). e ∷ l) (applied-append xs ys)
  applied-append (line t g e was_dropped k ∷ xs) ys = applied-append xs ys

  pub course-append : (xs ys : List (Line G E)) → course (xs ++ ys) ≡ course xs ++ course ys
  course-append [] ys = refl
  course-append (line t g e waiting k ∷ xs) ys = course-append xs ys
  course-append (line t g e voted_no k ∷ xs) ys = course-append xs ys
  course-append (line t g e (ongoing d) k ∷ xs) ys = ap (λ (l : List (Slot G E)). slot t g e d ∷ l) (course-append xs ys)
  course-append (line t g e was_applied k ∷ xs) ys = ap (λ (l : List (Slot G E)). slot t g e committed ∷ l) (course-append xs ys)
  course-append (line t g e was_dropped k ∷ xs) ys = course-append xs ys

  serial-append : (xs ys : List (Line G E)) → undecided_of (in_progress xs) ≡ 0 → serial (xs ++ ys) ≡ serial xs ++ serial ys
  serial-append [] ys h = refl
  serial-append (line t g e waiting k ∷ xs) ys h = serial-append xs ys h
  serial-append (line t g e voted_no k ∷ xs) ys h = serial-append xs ys h
  serial-append (line t g e (ongoing undecided) k ∷ xs) ys h = absurd (omega arith)
  serial-append (line t g e (ongoing committed) k ∷ xs) ys h = ap (λ (l : List E). e ∷ l) (serial-append xs ys h)
  serial-append (line t g e was_applied k ∷ xs) ys h = ap (λ (l : List E). e ∷ l) (serial-append xs ys h)
  serial-append (line t g e was_dropped k ∷ xs) ys h = serial-append xs ys h

  serial-stops : (xs ys : List (Line G E)) → (undecided_of (in_progress xs) ≡ 0 → ⊥) → serial (xs ++ ys) ≡ serial xs
  serial-stops [] ys h = absurd (h refl)
  serial-stops (line t g e waiting k ∷ xs) ys h = serial-stops xs ys h
  serial-stops (line t g e voted_no k ∷ xs) ys h = serial-stops xs ys h
  serial-stops (line t g e (ongoing undecided) k ∷ xs) ys h = refl
  serial-stops (line t g e (ongoing committed) k ∷ xs) ys h = ap (λ (l : List E). e ∷ l) (serial-stops xs ys h)
  serial-stops (line t g e was_applied k ∷ xs) ys h = ap (λ (l : List E). e ∷ l) (serial-stops xs ys h)
  serial-stops (line t g e was_dropped k ∷ xs) ys h = serial-stops xs ys h

  pub goes_on : (xs ys : List (Line G E)) → GoesOn xs ys
  goes_on xs ys =
      record {
        progress = progress-append xs ys;
        held = held-append xs ys;
        applied = applied-append xs ys;
        counting = course-append xs ys;
        owning = λ t. keep_append (owns t) xs ys;
        serially = serial-append xs ys;
        stopped = serial-stops xs ys;
      }

pub one_entry : {G E B : Type 0} (t : ℕ) (g : G) (e : E) (w : Weighing) (b : B) → OneEntry t g e w b
one_entry t g e w b = record { ends = refl }

module _ {G E B : Type 0} where
  -- what is asked of every entry is asked of each at its place, and the other way round
  abbrev AtPlaces : (Entry G E B → Type 0) → List (Entry G E B) → Type 0
  AtPlaces P xs = (before behind : List (Entry G E B)) (x : Entry G E B) → xs ≡ before ++ (x ∷ behind) → P x

  abbrev IsApplied : Entry G E B → Type 0
  IsApplied x = (t : ℕ) × (g : G) × (e : E) × (b : B) × (x ≡ applied t g e b)

  abbrev IsDecided : Entry G E B → Type 0
  IsDecided x = (t : ℕ) × (g : G) × (e : E) × (w : Weighing) × (x ≡ voted t g e w) × (w.verdict ≡ hold → ⊥)

  at_rest : (P : Entry G E B → Type 0) (x : Entry G E B) (xs : List (Entry G E B)) → AtPlaces P (x ∷ xs) → AtPlaces P xs
  at_rest P x xs h before behind y q = h (x ∷ before) behind y (ap (λ (l : List (Entry G E B)). x ∷ l) q)

  applied-at : (before behind : List (Entry G E B)) (x : Entry G E B) → OnlyApplied (before ++ (x ∷ behind)) → IsApplied x
  applied-at [] behind (voted t g e w) h = absurd h
  applied-at [] behind (noted t g) h = absurd h
  applied-at [] behind (applied t g e b) h = (t, g, e, b, refl)
  applied-at [] behind (dropped t g e) h = absurd h
  applied-at (voted t g e w ∷ before) behind x h = absurd h
  applied-at (noted t g ∷ before) behind x h = absurd h
  applied-at (applied t g e b ∷ before) behind x h = applied-at before behind x h
  applied-at (dropped t g e ∷ before) behind x h = absurd h

  at-applied : (xs : List (Entry G E B)) → AtPlaces IsApplied xs → OnlyApplied xs
  at-applied [] h = tt
  at-applied (voted t g e w ∷ xs) h = let r = (h [] xs (voted t g e w) refl).4 in let z : ◌≡◌ {A = ℕ} 0 1 = cc r in absurd (omega arith)
  at-applied (noted t g ∷ xs) h = let r = (h [] xs (noted t g) refl).4 in let z : ◌≡◌ {A = ℕ} 0 1 = cc r in absurd (omega arith)
  at-applied (applied t g e b ∷ xs) h = at-applied xs (at_rest IsApplied (applied t g e b) xs h)
  at-applied (dropped t g e ∷ xs) h = let r = (h [] xs (dropped t g e) refl).4 in let z : ◌≡◌ {A = ℕ} 0 1 = cc r in absurd (omega arith)

  decided-at : (before behind : List (Entry G E B)) (x : Entry G E B) → OnlyDecided (before ++ (x ∷ behind)) → IsDecided x
  decided-at [] behind (voted t g e w) h = (t, g, e, w, refl, h.0)
  decided-at [] behind (noted t g) h = absurd h
  decided-at [] behind (applied t g e b) h = absurd h
  decided-at [] behind (dropped t g e) h = absurd h
  decided-at (voted t g e w ∷ before) behind x h = decided-at before behind x h.1
  decided-at (noted t g ∷ before) behind x h = absurd h
  decided-at (applied t g e b ∷ before) behind x h = absurd h
  decided-at (dropped t g e ∷ before) behind x h = absurd h

  at-decided : (xs : List (Entry G E B)) → AtPlaces IsDecided xs → OnlyDecided xs
  at-decided [] h = tt
  at-decided (voted t g e w ∷ xs) h =
      let r = h [] xs (voted t g e w) refl in
      (λ held. r.5 (let same : r.3 ≡ w = cc r.4 in ap (λ (x : Weighing). x.verdict) same ∙ held), at-decided xs (at_rest IsDecided (voted t g e w) xs h))
  at-decided (noted t g ∷ xs) h = let r = (h [] xs (noted t g) refl).4 in let z : ◌≡◌ {A = ℕ} 0 1 = cc r in absurd (omega arith)
  at-decided (applied t g e b ∷ xs) h = let r = (h [] xs (applied t g e b) refl).4 in let z : ◌≡◌ {A = ℕ} 0 1 = cc r in absurd (omega arith)
  at-decided (dropped t g e ∷ xs) h = let r = (h [] xs (dropped t g e) refl).4 in let z : ◌≡◌ {A = ℕ} 0 1 = cc r in absurd (omega arith)

  pub only-these : (xs : List (Entry G E B)) → OnlyThese xs
  only-these xs =
      record {
        of_applied = (λ h before behind x q. applied-at before behind x (rw q at h), at-applied xs);
        of_decided = (λ h before behind x q. decided-at before behind x (rw q at h), at-decided xs);
      }
