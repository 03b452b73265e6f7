-- An entry with one owner turns that line and no other: by induction on the lines before it and behind it, none of which the entry belongs to.
-- Assumes nothing.
use Prim.Native.Nat.{ℕ, ◌+◌}
use mathlib.Core.Path.{◌≡◌, refl, sym, ◌∙◌, ap, ap₂}
use mathlib.Core.Bool.{Bool, true, false, cond, ◌&&◌}
use mathlib.Core.List.{List, [], ◌∷◌, ◌++◌, map, nil≢cons, cons≢nil, head-eq_of_cons-eq, tail-eq_of_cons-eq}
use native.Mathlib.Omega.{arith}
use lib.Dec.{eqb}
use borrow.Author.Tests.{eq-eqb}
use Rattle.rule.specs.History.{Fate, live, Line, line, owns, touch, owners}
use Rattle.rule.specs.Demand.{Turns}
use Rattle.rule.proofs.Lists.{map-append, keep_append}
use Rattle.rule.proofs.Outcomes.{total}

module _ {A : Type 0} where
  -- a list of one element that is made of three parts
  not_none : (xs : List A) (x : A) (ys : List A) → xs ++ (x ∷ ys) ≡ [] → ⊥
  not_none [] x ys h = cons≢nil h
  not_none (z ∷ xs) x ys h = cons≢nil h

  only-middle : (xs : List A) (x y : A) (ys : List A) → xs ++ (x ∷ ys) ≡ y ∷ [] → (xs ≡ []) × (ys ≡ [])
  only-middle [] x y ys h = (refl, tail-eq_of_cons-eq h)
  only-middle (z ∷ xs) x y ys h = absurd (not_none xs x ys (tail-eq_of_cons-eq h))

  -- a measure added up over two lists
  pub total-append : (f : A → ℕ) (xs ys : List A) → total f (xs ++ ys) ≡ total f xs + total f ys
  total-append f [] ys = omega arith
  total-append f (x ∷ xs) ys = omega (arith, total-append f xs ys)

module _ {G E : Type 0} where
  -- an entry that belongs to none changes none
  touch-none : (u : ℕ) (f : Fate) (j : ℕ) (lines : List (Line G E)) → owners u lines ≡ [] → map (touch u f j) lines ≡ lines
  touch-none u f j [] h = refl
  touch-none u f j (line t g e f' k ∷ lines) h = go (live f' && eqb u t) h (λ h'. touch-none u f j lines h')
    where
      go : (b : Bool) → cond b (line t g e f' k ∷ owners u lines) (owners u lines) ≡ [] → (owners u lines ≡ [] → map (touch u f j) lines ≡ lines)
          → cond b (line t g e f (k + j)) (line t g e f' k) ∷ map (touch u f j) lines ≡ line t g e f' k ∷ lines
      go true q r = absurd (cons≢nil q)
      go false q r = ap (λ (l : List (Line G E)). line t g e f' k ∷ l) (r q)

  -- the one owner has its place
  owner-parts : (u : ℕ) (l : Line G E) (lines : List (Line G E)) → owners u lines ≡ l ∷ []
      → (before : List (Line G E)) × (behind : List (Line G E)) × (lines ≡ before ++ (l ∷ behind))
  owner-parts u l [] h = absurd (nil≢cons h)
  owner-parts u l (line t g e f k ∷ lines) h = go (live f && eqb u t) h (λ h'. owner-parts u l lines h')
    where
      go : (b : Bool) → cond b (line t g e f k ∷ owners u lines) (owners u lines) ≡ l ∷ []
          → (owners u lines ≡ l ∷ [] → (before : List (Line G E)) × (behind : List (Line G E)) × (lines ≡ before ++ (l ∷ behind)))
          → (before : List (Line G E)) × (behind : List (Line G E)) × (line t g e f k ∷ lines ≡ before ++ (l ∷ behind))
      go true q r = ([], lines, ap (λ (x : Line G E). x ∷ lines) (head-eq_of_cons-eq q))
      go false q r = let p = r q in (line t g e f k ∷ p.0, p.1, ap (λ (x : List (Line G E)). line t g e f k ∷ x) p.2)

  -- the lines with that one turned, at a place known,
  pub becomes-at : (t : ℕ) (g : G) (e : E) (f f' : Fate) (j : ℕ) (lines before behind : List (Line G E)) → live f ≡ true
      → lines ≡ before ++ (line t g e f 0 ∷ behind) → owners t lines ≡ line t g e f 0 ∷ [] → map (touch t f' j) lines ≡ before ++ (line t g e f' (0 + j) ∷ behind)
  becomes-at t g e f f' j lines before behind l q h =
      let here : (live f && eqb t t) ≡ true = rw (l, eq-eqb t t refl) in
      let parts = sym (keep_append (owns t) before (line t g e f 0 ∷ behind)) ∙ ap (owners t) (sym q) ∙ h in
      let none = only-middle (owners t before) (line t g e f 0) (line t g e f 0) (owners t behind) (rw here at parts) in
      let there : map (touch t f' j) (line t g e f 0 ∷ behind) ≡ line t g e f' (0 + j) ∷ behind =
      rw here (ap (λ (x : List (Line G E)). line t g e f' (0 + j) ∷ x) (touch-none t f' j behind none.1))
      in
      ap (map (touch t f' j)) q ∙ map-append (touch t f' j) before (line t g e f 0 ∷ behind)
      ∙ ap₂ (λ (x y : List (Line G E)). x ++ y) (touch-none t f' j before none.0) there

  abbrev pub turns_at : (t : ℕ) (g : G) (e : E) (f f' : Fate) (j : ℕ) (lines before behind : List (Line G E)) → live f ≡ true
      → lines ≡ before ++ (line t g e f 0 ∷ behind) → owners t lines ≡ line t g e f 0 ∷ []
      → Turns t (line t g e f 0) (line t g e f' (0 + j)) lines (map (touch t f' j) lines)
  turns_at t g e f f' j lines before behind l q h =
      record { before = before; behind = behind; is = q; becomes = becomes-at t g e f f' j lines before behind l q h; alone = h }

  -- and wherever it is
  pub turns : (t : ℕ) (g : G) (e : E) (f f' : Fate) (j : ℕ) (lines : List (Line G E)) → live f ≡ true → owners t lines ≡ line t g e f 0 ∷ []
      → Turns t (line t g e f 0) (line t g e f' (0 + j)) lines (map (touch t f' j) lines)
  turns t g e f f' j lines l h = let p = owner-parts t (line t g e f 0) lines h in turns_at t g e f f' j lines p.0 p.1 l p.2 h

  -- a measure of the lines changes by what it makes of that line
  pub turned : (measure : Line G E → ℕ) (t : ℕ) (l l' : Line G E) (lines lines' : List (Line G E)) → Turns t l l' lines lines'
      → total measure lines' + measure l ≡ total measure lines + measure l'
  turned measure t l l' lines lines' h =
      rw (h.is, h.becomes, total-append measure h.before (l ∷ h.behind), total-append measure h.before (l' ∷ h.behind)) (omega arith)
