-- The lines of a history tied to what an account has in progress and held, as families over the lines:
-- `Wait` what waits, with those dropped while they waited; `Live` from the first line in progress on; `Past` before it, with the state so far and the guard of each event applied.
-- Each entry that an account writes turns such a tie into the next one, by induction on the tie.
-- Assumes nothing.
use Prim.Native.Nat.{ℕ}
use mathlib.Core.Path.{◌≡◌, refl, ap}
use mathlib.Core.Bool.{Bool, true, false, cond, not}
use mathlib.Core.List.{List, [], ◌∷◌, ◌++◌, map}
use lib.Dec.{eqb}
use borrow.Author.Tests.{eq-eqb}
use Rattle.rule.specs.Lists.{some_of, keep}
use Rattle.rule.specs.Rule.{Rule, guard, Decision, undecided, committed, Slot, slot}
use Rattle.rule.specs.Step.{named, mark, without}
use Rattle.rule.specs.History.{Fate, waiting, voted_no, ongoing, was_applied, was_dropped, Line, line, touch, owners}
use Rattle.rule.proofs.Lists.{or_left, or_right}

module _ {G E : Type 0} where
  pub data Wait : List (Line G E) → List (Slot G E) → Type 0 where
    no_more : Wait [] []
    gone : {t : ℕ} {g : G} {e : E} {lines : List (Line G E)} {held : List (Slot G E)}
        → Wait lines held → Wait (line t g e was_dropped 1 ∷ lines) held
    waits : {t : ℕ} {g : G} {e : E} {lines : List (Line G E)} {held : List (Slot G E)}
        → Wait lines held → Wait (line t g e waiting 0 ∷ lines) (slot t g e undecided ∷ held)

  pub data Live : List (Line G E) → List (Slot G E) → List (Slot G E) → Type 0 where
    held_then : {lines : List (Line G E)} {held : List (Slot G E)} → Wait lines held → Live lines [] held
    no-then : {t : ℕ} {g : G} {e : E} {lines : List (Line G E)} {progress held : List (Slot G E)}
        → Live lines progress held → Live (line t g e voted_no 0 ∷ lines) progress held
    dropped-then : {t : ℕ} {g : G} {e : E} {lines : List (Line G E)} {progress held : List (Slot G E)}
        → Live lines progress held → Live (line t g e was_dropped 1 ∷ lines) progress held
    going-then : {t : ℕ} {g : G} {e : E} {d : Decision} {lines : List (Line G E)} {progress held : List (Slot G E)}
        → Live lines progress held → Live (line t g e (ongoing d) 0 ∷ lines) (slot t g e d ∷ progress) held

  -- the lines after an entry of that transaction
  abbrev pub noting : ℕ → Fate → ℕ → List (Line G E) → List (Line G E)
  noting u f j lines = map (touch u f j) lines

  -- An entry of a transaction that is not held leaves what waits.
  wait-skip : (u : ℕ) (f : Fate) (j : ℕ) {lines : List (Line G E)} {held : List (Slot G E)}
      → Wait lines held → some_of (named u) held ≡ false → Wait (noting u f j lines) held
  wait-skip u f j no_more q = no_more
  wait-skip u f j (gone w) q = gone (wait-skip u f j w q)
  wait-skip u f j (waits {t = t} {held = held} w) q =
      rw (or_left (eqb u t) (some_of (named u) held) q) (waits (wait-skip u f j w (or_right (eqb u t) (some_of (named u) held) q)))

  live-skip : (u : ℕ) (f : Fate) (j : ℕ) {lines : List (Line G E)} {progress held : List (Slot G E)}
      → Live lines progress held → some_of (named u) progress ≡ false → some_of (named u) held ≡ false → Live (noting u f j lines) progress held
  live-skip u f j (held_then w) p q = held_then (wait-skip u f j w q)
  live-skip u f j (no-then l) p q = no-then (live-skip u f j l p q)
  live-skip u f j (dropped-then l) p q = dropped-then (live-skip u f j l p q)
  live-skip u f j (going-then {t = t} {progress = progress} l) p q =
      rw (or_left (eqb u t) (some_of (named u) progress) p) (going-then (live-skip u f j l (or_right (eqb u t) (some_of (named u) progress) p) q))

  -- A commit noted marks its event.
  pub live-commit : (u : ℕ) {lines : List (Line G E)} {progress held : List (Slot G E)}
      → Live lines progress held → some_of (named u) held ≡ false → Live (noting u (ongoing committed) 0 lines) (mark u progress) held
  live-commit u (held_then w) q = held_then (wait-skip u (ongoing committed) 0 w q)
  live-commit u (no-then l) q = no-then (live-commit u l q)
  live-commit u (dropped-then l) q = dropped-then (live-commit u l q)
  live-commit u (going-then {t = t} {g = g} {e = e} {d = d} {lines = lines} {progress = progress} {held = held} l) q = go (eqb u t) (live-commit u l q)
    where
      go : (b : Bool) → Live (noting u (ongoing committed) 0 lines) (mark u progress) held
          → Live (cond b (line t g e (ongoing committed) 0) (line t g e (ongoing d) 0) ∷ noting u (ongoing committed) 0 lines) (slot t g e (cond b committed d) ∷ mark u progress) held
      go true r = going-then r
      go false r = going-then r

  -- A dropped entry takes its event or request out.
  wait-drop : (u : ℕ) {lines : List (Line G E)} {held : List (Slot G E)} → Wait lines held → Wait (noting u was_dropped 1 lines) (without u held)
  wait-drop u no_more = no_more
  wait-drop u (gone w) = gone (wait-drop u w)
  wait-drop u (waits {t = t} {g = g} {e = e} {lines = lines} {held = held} w) = go (eqb u t) (wait-drop u w)
    where
      go : (b : Bool) → Wait (noting u was_dropped 1 lines) (without u held)
          → Wait (cond b (line t g e was_dropped 1) (line t g e waiting 0) ∷ noting u was_dropped 1 lines) (cond (not b) (slot t g e undecided ∷ without u held) (without u held))
      go true r = gone r
      go false r = waits r

  pub live-drop : (u : ℕ) {lines : List (Line G E)} {progress held : List (Slot G E)}
      → Live lines progress held → Live (noting u was_dropped 1 lines) (without u progress) (without u held)
  live-drop u (held_then w) = held_then (wait-drop u w)
  live-drop u (no-then l) = no-then (live-drop u l)
  live-drop u (dropped-then l) = dropped-then (live-drop u l)
  live-drop u (going-then {t = t} {g = g} {e = e} {d = d} {lines = lines} {progress = progress} {held = held} l) = go (eqb u t) (live-drop u l)
    where
      go : (b : Bool) → Live (noting u was_dropped 1 lines) (without u progress) (without u held)
          → Live (cond b (line t g e was_dropped 1) (line t g e (ongoing d) 0) ∷ noting u was_dropped 1 lines) (cond (not b) (slot t g e d ∷ without u progress) (without u progress)) (without u held)
      go true r = dropped-then r
      go false r = going-then r

  -- A request that is taken has its line at the end.
  wait-append : (t : ℕ) (g : G) (e : E) {lines : List (Line G E)} {held : List (Slot G E)}
      → Wait lines held → Wait (lines ++ (line t g e waiting 0 ∷ [])) (held ++ (slot t g e undecided ∷ []))
  wait-append t g e no_more = waits no_more
  wait-append t g e (gone w) = gone (wait-append t g e w)
  wait-append t g e (waits w) = waits (wait-append t g e w)

  pub live-append : (t : ℕ) (g : G) (e : E) {lines : List (Line G E)} {progress held : List (Slot G E)}
      → Live lines progress held → Live (lines ++ (line t g e waiting 0 ∷ [])) progress (held ++ (slot t g e undecided ∷ []))
  live-append t g e (held_then w) = held_then (wait-append t g e w)
  live-append t g e (no-then l) = no-then (live-append t g e l)
  live-append t g e (dropped-then l) = dropped-then (live-append t g e l)
  live-append t g e (going-then l) = going-then (live-append t g e l)

  -- A held entry leaves its request waiting.
  wait-hold : (u : ℕ) {lines : List (Line G E)} {held : List (Slot G E)} → Wait lines held → Wait (noting u waiting 0 lines) held
  wait-hold u no_more = no_more
  wait-hold u (gone w) = gone (wait-hold u w)
  wait-hold u (waits {t = t} {g = g} {e = e} {lines = lines} {held = held} w) = go (eqb u t) (wait-hold u w)
    where
      go : (b : Bool) → Wait (noting u waiting 0 lines) held
          → Wait (cond b (line t g e waiting 0) (line t g e waiting 0) ∷ noting u waiting 0 lines) (slot t g e undecided ∷ held)
      go true r = waits r
      go false r = waits r

  pub live-hold : (u : ℕ) {lines : List (Line G E)} {progress held : List (Slot G E)}
      → Live lines progress held → some_of (named u) progress ≡ false → Live (noting u waiting 0 lines) progress held
  live-hold u (held_then w) p = held_then (wait-hold u w)
  live-hold u (no-then l) p = no-then (live-hold u l p)
  live-hold u (dropped-then l) p = dropped-then (live-hold u l p)
  live-hold u (going-then {t = t} {progress = progress} l) p =
      rw (or_left (eqb u t) (some_of (named u) progress) p) (going-then (live-hold u l (or_right (eqb u t) (some_of (named u) progress) p)))

  -- An acceptance of the oldest held request puts it behind those in progress.
  wait-accept : (t : ℕ) (g : G) (e : E) (d : Decision) {lines : List (Line G E)} {held : List (Slot G E)}
      → Wait lines (slot t g e d ∷ held) → some_of (named t) held ≡ false → Live (noting t (ongoing undecided) 0 lines) (slot t g e undecided ∷ []) held
  wait-accept t g e d (gone w) q = dropped-then (wait-accept t g e d w q)
  wait-accept t g e d (waits w) q = rw (eq-eqb t t refl) (going-then (held_then (wait-skip t (ongoing undecided) 0 w q)))

  pub live-accept : (t : ℕ) (g : G) (e : E) (d : Decision) {lines : List (Line G E)} {progress held : List (Slot G E)}
      → Live lines progress (slot t g e d ∷ held) → some_of (named t) progress ≡ false → some_of (named t) held ≡ false
      → Live (noting t (ongoing undecided) 0 lines) (progress ++ (slot t g e undecided ∷ [])) held
  live-accept t g e d (held_then w) p q = wait-accept t g e d w q
  live-accept t g e d (no-then l) p q = no-then (live-accept t g e d l p q)
  live-accept t g e d (dropped-then l) p q = dropped-then (live-accept t g e d l p q)
  live-accept t g e d (going-then {t = t'} {progress = progress} l) p q =
      rw (or_left (eqb t t') (some_of (named t) progress) p) (going-then (live-accept t g e d l (or_right (eqb t t') (some_of (named t) progress) p) q))

  -- A rejection of the oldest held request takes it out.
  wait-reject : (t : ℕ) (g : G) (e : E) (d : Decision) {lines : List (Line G E)} {held : List (Slot G E)}
      → Wait lines (slot t g e d ∷ held) → some_of (named t) held ≡ false → Live (noting t voted_no 0 lines) [] held
  wait-reject t g e d (gone w) q = dropped-then (wait-reject t g e d w q)
  wait-reject t g e d (waits w) q = rw (eq-eqb t t refl) (no-then (held_then (wait-skip t voted_no 0 w q)))

  pub live-reject : (t : ℕ) (g : G) (e : E) (d : Decision) {lines : List (Line G E)} {progress held : List (Slot G E)}
      → Live lines progress (slot t g e d ∷ held) → some_of (named t) progress ≡ false → some_of (named t) held ≡ false
      → Live (noting t voted_no 0 lines) progress held
  live-reject t g e d (held_then w) p q = wait-reject t g e d w q
  live-reject t g e d (no-then l) p q = no-then (live-reject t g e d l p q)
  live-reject t g e d (dropped-then l) p q = dropped-then (live-reject t g e d l p q)
  live-reject t g e d (going-then {t = t'} {progress = progress} l) p q =
      rw (or_left (eqb t t') (some_of (named t) progress) p) (going-then (live-reject t g e d l (or_right (eqb t t') (some_of (named t) progress) p) q))

  -- a held request has no decision
  wait-undecided : {t : ℕ} {g : G} {e : E} {d : Decision} {lines : List (Line G E)} {held : List (Slot G E)} → Wait lines (slot t g e d ∷ held) → d ≡ undecided
  wait-undecided (gone w) = wait-undecided w
  wait-undecided (waits w) = refl

  pub live-undecided : {t : ℕ} {g : G} {e : E} {d : Decision} {lines : List (Line G E)} {progress held : List (Slot G E)}
      → Live lines progress (slot t g e d ∷ held) → d ≡ undecided
  live-undecided (held_then w) = wait-undecided w
  live-undecided (no-then l) = live-undecided l
  live-undecided (dropped-then l) = live-undecided l
  live-undecided (going-then l) = live-undecided l

  -- The lines that an entry of a transaction belongs to are those of its slots.
  abbrev pub progress_line : Slot G E → Line G E
  progress_line (slot t g e d) = line t g e (ongoing d) 0

  abbrev pub held_line : Slot G E → Line G E
  held_line (slot t g e d) = line t g e waiting 0

  wait-owners : (u : ℕ) {lines : List (Line G E)} {held : List (Slot G E)} → Wait lines held → owners u lines ≡ map held_line (keep (named u) held)
  wait-owners u no_more = refl
  wait-owners u (gone w) = wait-owners u w
  wait-owners u (waits {t = t} {g = g} {e = e} {lines = lines} {held = held} w) = go (eqb u t) (wait-owners u w)
    where
      go : (b : Bool) → owners u lines ≡ map held_line (keep (named u) held)
          → cond b (line t g e waiting 0 ∷ owners u lines) (owners u lines) ≡ map held_line (cond b (slot t g e undecided ∷ keep (named u) held) (keep (named u) held))
      go true r = ap (λ (l : List (Line G E)). line t g e waiting 0 ∷ l) r
      go false r = r

  pub live-owners : (u : ℕ) {lines : List (Line G E)} {progress held : List (Slot G E)}
      → Live lines progress held → owners u lines ≡ map progress_line (keep (named u) progress) ++ map held_line (keep (named u) held)
  live-owners u (held_then w) = wait-owners u w
  live-owners u (no-then l) = live-owners u l
  live-owners u (dropped-then l) = live-owners u l
  live-owners u (going-then {t = t} {g = g} {e = e} {d = d} {lines = lines} {progress = progress} {held = held} l) = go (eqb u t) (live-owners u l)
    where
      go : (b : Bool) → owners u lines ≡ map progress_line (keep (named u) progress) ++ map held_line (keep (named u) held)
          → cond b (line t g e (ongoing d) 0 ∷ owners u lines) (owners u lines)
          ≡ map progress_line (cond b (slot t g e d ∷ keep (named u) progress) (keep (named u) progress)) ++ map held_line (keep (named u) held)
      go true r = ap (λ (l : List (Line G E)). line t g e (ongoing d) 0 ∷ l) r
      go false r = r

module _ {G S E B : Type 0} (R : Rule S E B) where
  pub data Past : S → List (Line G E) → S → List (Slot G E) → List (Slot G E) → Type 0 where
    live_then : {s : S} {lines : List (Line G E)} {progress held : List (Slot G E)} → Live lines progress held → Past s lines s progress held
    no-past : {t : ℕ} {g : G} {e : E} {s s' : S} {lines : List (Line G E)} {progress held : List (Slot G E)}
        → Past s lines s' progress held → Past s (line t g e voted_no 0 ∷ lines) s' progress held
    dropped-past : {t : ℕ} {g : G} {e : E} {s s' : S} {lines : List (Line G E)} {progress held : List (Slot G E)}
        → Past s lines s' progress held → Past s (line t g e was_dropped 1 ∷ lines) s' progress held
    applied-past : {t : ℕ} {g : G} {e : E} {s s' : S} {lines : List (Line G E)} {progress held : List (Slot G E)}
        → guard R e s ≡ true → Past (R.effect e s) lines s' progress held → Past s (line t g e was_applied 1 ∷ lines) s' progress held

  -- what an entry makes of the live lines it makes of all: what has ended is nobody's
  pub past-noting : (u : ℕ) (f : Fate) (j : ℕ) {progress held progress' held' : List (Slot G E)}
      → ((lines : List (Line G E)) → Live lines progress held → Live (noting u f j lines) progress' held')
      → {s s' : S} {lines : List (Line G E)} → Past s lines s' progress held → Past s (noting u f j lines) s' progress' held'
  past-noting u f j k (live_then {lines = lines} l) = live_then (k lines l)
  past-noting u f j k (no-past l) = no-past (past-noting u f j k l)
  past-noting u f j k (dropped-past l) = dropped-past (past-noting u f j k l)
  past-noting u f j k (applied-past q l) = applied-past q (past-noting u f j k l)

  pub past-append : (t : ℕ) (g : G) (e : E) {s s' : S} {lines : List (Line G E)} {progress held : List (Slot G E)}
      → Past s lines s' progress held → Past s (lines ++ (line t g e waiting 0 ∷ [])) s' progress (held ++ (slot t g e undecided ∷ []))
  past-append t g e (live_then l) = live_then (live-append t g e l)
  past-append t g e (no-past l) = no-past (past-append t g e l)
  past-append t g e (dropped-past l) = dropped-past (past-append t g e l)
  past-append t g e (applied-past q l) = applied-past q (past-append t g e l)

  -- An applied entry moves the oldest event, committed, from the live lines to the past.
  live-apply : (t : ℕ) (g : G) (e : E) (s : S) {lines : List (Line G E)} {progress held : List (Slot G E)}
      → Live lines (slot t g e committed ∷ progress) held → guard R e s ≡ true → some_of (named t) progress ≡ false → some_of (named t) held ≡ false
      → Past s (noting t was_applied 1 lines) (R.effect e s) progress held
  live-apply t g e s (no-then l) q p h = no-past (live-apply t g e s l q p h)
  live-apply t g e s (dropped-then l) q p h = dropped-past (live-apply t g e s l q p h)
  live-apply t g e s (going-then l) q p h = rw (eq-eqb t t refl) (applied-past q (live_then (live-skip t was_applied 1 l p h)))

  pub past-apply : (t : ℕ) (g : G) (e : E) {s s' : S} {lines : List (Line G E)} {progress held : List (Slot G E)}
      → Past s lines s' (slot t g e committed ∷ progress) held → guard R e s' ≡ true → some_of (named t) progress ≡ false → some_of (named t) held ≡ false
      → Past s (noting t was_applied 1 lines) (R.effect e s') progress held
  past-apply t g e (live_then {s = s} l) q p h = live-apply t g e s l q p h
  past-apply t g e (no-past l) q p h = no-past (past-apply t g e l q p h)
  past-apply t g e (dropped-past l) q p h = dropped-past (past-apply t g e l q p h)
  past-apply t g e (applied-past k l) q p h = applied-past k (past-apply t g e l q p h)

  pub past-owners : (u : ℕ) {s s' : S} {lines : List (Line G E)} {progress held : List (Slot G E)}
      → Past s lines s' progress held → owners u lines ≡ map progress_line (keep (named u) progress) ++ map held_line (keep (named u) held)
  past-owners u (live_then l) = live-owners u l
  past-owners u (no-past l) = past-owners u l
  past-owners u (dropped-past l) = past-owners u l
  past-owners u (applied-past q l) = past-owners u l

  pub past-undecided : {t : ℕ} {g : G} {e : E} {d : Decision} {s s' : S} {lines : List (Line G E)} {progress held : List (Slot G E)}
      → Past s lines s' progress (slot t g e d ∷ held) → d ≡ undecided
  past-undecided (live_then l) = live-undecided l
  past-undecided (no-past l) = past-undecided l
  past-undecided (dropped-past l) = past-undecided l
  past-undecided (applied-past q l) = past-undecided l
