-- When each number is given, both ways: the refusals are chains of tests, each with its number, and two laws of a chain serve them all: a number that stands first is given exactly
-- if its test is true, and one that stands later exactly if that test is not true and the rest of the chain gives it.
-- Assumes nothing.
use Prim.Native.Nat.{ℕ}
use mathlib.Core.Path.{◌≡◌, refl, sym, ◌∙◌, ap}
use mathlib.Core.Logic.Iff
use mathlib.Core.Logic.{◌↔◌, ◌⊎◌, inl, inr, ⊎_elim}
use mathlib.Core.Bool.{Bool, true, false, cond, not, ◌||◌, false≢true}
use mathlib.Core.List.{List, ◌∷◌, ◌++◌}
use mathlib.Core.Option.{Option, none, some}
use native.Mathlib.Omega.{arith}
use lib.Dec.{leb}
use lib.ListN.{length}
use borrow.Author.Tests.{leb-true, le-leb, eqb-true, eq-eqb}
use Rattle.rule.specs.Lists.{some_of}
use Rattle.rule.specs.Rule.{Rule, undecided, committed, Slot, slot, Account, Message, request, commit, abort}
use Rattle.rule.specs.Step.{named, step}
use Rattle.rule.specs.Call.{named_committed, refusal, Answer, refused, call_by, call}
use Rattle.rule.specs.Refusals.{StandsAs, Stands, InProgress, OnHold, IsCommitted, Gives, LeavesIt, RequestRefused, CommitRefused, AbortRefused}
use Rattle.rule.proofs.Lists.{some-parts, parts-some}

-- a test with its number in front of the rest of a chain
abbrev pub test : Bool → ℕ → Option ℕ → Option ℕ
test b n rest = cond b (some n) rest

pub first : (b : Bool) (n : ℕ) (rest : Option ℕ) → (rest ≡ some n → ⊥) → (test b n rest ≡ some n) ↔ (b ≡ true)
first true n rest h = (λ q. refl, λ q. refl)
first false n rest h = (λ q. absurd (h q), λ q. absurd (false≢true q))

pub later : (b : Bool) (m n : ℕ) (rest : Option ℕ) → (m ≡ n → ⊥) → (test b m rest ≡ some n) ↔ ((b ≡ true → ⊥) × (rest ≡ some n))
later true m n rest h = (λ q. absurd (h (let z : m ≡ n = cc in z)), λ q. absurd (q.0 refl))
later false m n rest h = (λ q. (λ e. false≢true e, q), λ q. q.1)

-- a number that no test of the chain has is not given
pub ended : (n : ℕ) → none ≡ some n → ⊥
ended n h = let z : ◌≡◌ {A = ℕ} 0 1 = cc in omega arith

pub passed : (b : Bool) (m n : ℕ) (rest : Option ℕ) → (m ≡ n → ⊥) → (rest ≡ some n → ⊥) → test b m rest ≡ some n → ⊥
passed b m n rest h k q = k ((later b m n rest h).0 q).1

-- the number given is the first test's or the rest's
pub one_of : (b : Bool) (m n : ℕ) (rest : Option ℕ) → test b m rest ≡ some n → (n ≡ m) ⊎ (rest ≡ some n)
one_of true m n rest h = inl (let z : n ≡ m = cc in z)
one_of false m n rest h = inr h

-- two tests, each with what it says
or-true : {P Q : Type 0} (a b : Bool) → (a ≡ true) ↔ P → (b ≡ true) ↔ Q → ((a || b) ≡ true) ↔ (P ⊎ Q)
or-true true b p q = (λ h. inl (p.0 refl), λ h. refl)
or-true false b p q = (λ h. inr (q.0 h), λ h. ⊎_elim (λ k. absurd (false≢true (p.1 k))) (λ k. q.1 k) h)

nor-true : {P Q : Type 0} (a b : Bool) → (a ≡ true) ↔ P → (b ≡ true) ↔ Q → (not (a || b) ≡ true) ↔ ((P → ⊥) × (Q → ⊥))
nor-true true b p q = (λ h. absurd (false≢true h), λ h. absurd (h.0 (p.0 refl)))
nor-true false true p q = (λ h. absurd (false≢true h), λ h. absurd (h.1 (q.0 refl)))
nor-true false false p q = (λ h. (λ k. false≢true (p.1 k), λ k. false≢true (q.1 k)), λ h. refl)

-- the tests of a transaction among slots
module _ {G E : Type 0} (t : ℕ) (xs : List (Slot G E)) where
  named-stands : (some_of (named t) xs ≡ true) ↔ Stands t xs
  named-stands = (λ h. let r = some-parts (named t) xs h in at r.0 r.1 r.2 r.3 r.4, back)
    where
      at : (before : List (Slot G E)) (x : Slot G E) (behind : List (Slot G E)) → xs ≡ before ++ (x ∷ behind) → named t x ≡ true → Stands t xs
      at before (slot u g e d) behind q k = (d, (before, behind, g, e, q ∙ ap (λ (v : ℕ). before ++ (slot v g e d ∷ behind)) (sym (eqb-true t u k))))

      back : Stands t xs → some_of (named t) xs ≡ true
      back h = ap (some_of (named t)) h.1.4 ∙ parts-some (named t) h.1.0 (slot t h.1.2 h.1.3 h.0) h.1.1 (eq-eqb t t refl)

  committed-stands : (some_of (named_committed t) xs ≡ true) ↔ StandsAs t committed xs
  committed-stands = (λ h. let r = some-parts (named_committed t) xs h in at r.0 r.1 r.2 r.3 r.4, back)
    where
      at : (before : List (Slot G E)) (x : Slot G E) (behind : List (Slot G E)) → xs ≡ before ++ (x ∷ behind) → named_committed t x ≡ true → StandsAs t committed xs
      at before (slot u g e undecided) behind q k = absurd (false≢true k)
      at before (slot u g e committed) behind q k = (before, behind, g, e, q ∙ ap (λ (v : ℕ). before ++ (slot v g e committed ∷ behind)) (sym (eqb-true t u k)))

      back : StandsAs t committed xs → some_of (named_committed t) xs ≡ true
      back h = ap (some_of (named_committed t)) h.4 ∙ parts-some (named_committed t) h.0 (slot t h.2 h.3 committed) h.1 (eq-eqb t t refl)

-- a call gives a number exactly if its message is refused so, and then the account stays
module _ {G S E B : Type 0} (R : Rule S E B) (a : Account G S E) (m : Message G E) where
  pub gives : (n : ℕ) → Gives R a m n ↔ (refusal R a m ≡ some n)
  unfolding call
  gives n = by (refusal R a m)
    where
      by : (o : Option ℕ) → ((call_by o a (step R a m)).answer ≡ refused n) ↔ (o ≡ some n)
      by none = (λ h. let z : ◌≡◌ {A = ℕ} 0 1 = cc in absurd (omega arith), λ h. absurd (ended n h))
      by (some k) = (λ h. ap some (number h), λ h. ap refused (let z : k ≡ n = cc in z))
        where
          number : ◌≡◌ {A = Answer G E B} (refused k) (refused n) → k ≡ n
          number h = cc

  pub leaves-it : LeavesIt R a m
  unfolding call
  leaves-it n = by (refusal R a m)
    where
      by : (o : Option ℕ) → (call_by o a (step R a m)).answer ≡ refused n → (call_by o a (step R a m)).account ≡ a
      by none h = let z : ◌≡◌ {A = ℕ} 0 1 = cc in absurd (omega arith)
      by (some k) h = refl

module _ {G S E B : Type 0} (R : Rule S E B) (a : Account G S E) (t : ℕ) (g : G) where
  -- the three tests, with what each says
  abbrev going : (some_of (named t) a.progress ≡ true) ↔ InProgress a t
  going = named-stands t a.progress

  abbrev holds : (some_of (named t) a.held ≡ true) ↔ OnHold a t
  holds = named-stands t a.held

  abbrev is_committed_lem : (some_of (named_committed t) a.progress ≡ true) ↔ IsCommitted a t
  is_committed_lem = committed-stands t a.progress

  pub request-refused : (e : E) → RequestRefused R a t g e
  request-refused e =
      let m : Message G E = request t g e in
      let p = some_of (named t) a.progress in
      let h = some_of (named t) a.held in
      let l = leb R.held_limit (length a.held) in
      let seventh = test l 7 none in
      let six' = first (p || h) 6 seventh (passed l 7 6 none (λ z. omega arith) (ended 6)) in
      let seven' = later (p || h) 6 7 seventh (λ z. omega arith) in
      let last = first l 7 none (ended 7) in
      let either_way = or-true p h going holds in
      record {
        six = Iff.trans (gives R a m 6) (Iff.trans six' either_way);
        seven = (
          λ q.
              let r = seven'.0 ((gives R a m 7).0 q) in
              (λ x. r.0 (either_way.1 (inl x)), λ x. r.0 (either_way.1 (inr x)), leb-true R.held_limit (length a.held) (last.0 r.1)),
          λ q. (gives R a m 7).1 (seven'.1 (λ x. ⊎_elim q.0 q.1 (either_way.0 x), last.1 (le-leb R.held_limit (length a.held) q.2))),
        );
        only =
            λ n q.
            ⊎_elim (λ z. inl z) (λ z. inr (⊎_elim (λ y. y) (λ y. absurd (ended n y)) (one_of l 7 n none z))) (one_of (p || h) 6 n seventh ((gives R a m n).0 q));
      }

  pub commit-refused : CommitRefused R a t g
  commit-refused =
      let m : Message G E = commit t g in
      let p = some_of (named t) a.progress in
      let h = some_of (named t) a.held in
      let c = some_of (named_committed t) a.progress in
      let tenth = test c 10 none in
      let ninth = test h 9 tenth in
      let eight' = first (not (p || h)) 8 ninth (passed h 9 8 tenth (λ z. omega arith) (passed c 10 8 none (λ z. omega arith) (ended 8))) in
      let after9 = later (not (p || h)) 8 9 ninth (λ z. omega arith) in
      let after10 = later (not (p || h)) 8 10 ninth (λ z. omega arith) in
      let nine' = first h 9 tenth (passed c 10 9 none (λ z. omega arith) (ended 9)) in
      let ten' = later h 9 10 tenth (λ z. omega arith) in
      let last = first c 10 none (ended 10) in
      let neither = nor-true p h going holds in
      record {
        eight = Iff.trans (gives R a m 8) (Iff.trans eight' neither);
        nine = (
          λ q. holds.0 (nine'.0 (after9.0 ((gives R a m 9).0 q)).1),
          λ q. (gives R a m 9).1 (after9.1 (λ x. (neither.0 x).1 q, nine'.1 (holds.1 q))),
        );
        ten = (
          λ q.
              let r = after10.0 ((gives R a m 10).0 q) in
              let k = ten'.0 r.1 in
              (going.0 (in-progress p h r.0 k.0), λ x. k.0 (holds.1 x), is_committed_lem.0 (last.0 k.1)),
          λ q. (gives R a m 10).1 (after10.1 (λ x. (neither.0 x).0 q.0, ten'.1 (λ x. q.1 (holds.0 x), last.1 (is_committed_lem.1 q.2)))),
        );
        only =
            λ n q.
            ⊎_elim (λ z. inl z)
            (λ z. inr (⊎_elim (λ y. inl y) (λ y. inr (⊎_elim (λ x. x) (λ x. absurd (ended n x)) (one_of c 10 n none y))) (one_of h 9 n tenth z)))
            (one_of (not (p || h)) 8 n ninth ((gives R a m n).0 q));
      }
    where
      in-progress : (p h : Bool) → (not (p || h) ≡ true → ⊥) → (h ≡ true → ⊥) → p ≡ true
      in-progress true h k m = refl
      in-progress false true k m = absurd (m refl)
      in-progress false false k m = absurd (k refl)

  pub abort_refused : AbortRefused R a t g
  abort_refused =
      let m : Message G E = abort t g in
      let p = some_of (named t) a.progress in
      let h = some_of (named t) a.held in
      let c = some_of (named_committed t) a.progress in
      let eleventh = test c 11 none in
      let eight' = first (not (p || h)) 8 eleventh (passed c 11 8 none (λ z. omega arith) (ended 8)) in
      let after11 = later (not (p || h)) 8 11 eleventh (λ z. omega arith) in
      let last = first c 11 none (ended 11) in
      let neither = nor-true p h going holds in
      record {
        eight = Iff.trans (gives R a m 8) (Iff.trans eight' neither);
        eleven = (
          λ q. let r = after11.0 ((gives R a m 11).0 q) in ((or-true p h going holds).0 (either-one p h r.0), is_committed_lem.0 (last.0 r.1)),
          λ q. (gives R a m 11).1 (after11.1 (λ x. ⊎_elim (neither.0 x).0 (neither.0 x).1 q.0, last.1 (is_committed_lem.1 q.1))),
        );
        only =
            λ n q.
            ⊎_elim (λ z. inl z) (λ z. inr (⊎_elim (λ y. y) (λ y. absurd (ended n y)) (one_of c 11 n none z))) (one_of (not (p || h)) 8 n eleventh ((gives R a m n).0 q));
      }
    where
      either-one : (p h : Bool) → (not (p || h) ≡ true → ⊥) → (p || h) ≡ true
      either-one true h k = refl
      either-one false true k = refl
      either-one false false k = absurd (k refl)
