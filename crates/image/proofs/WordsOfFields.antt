-- Words of fields: each field reads back from its word, by cases; an event by its kind and its amount.
-- Assumes nothing.
use Prim.Native.Nat.{ℕ, ◌+◌, ◌≤◌, ◌<◌, min}
use native.Mathlib.Nat.{min-eq_left, min-eq_right}
use native.Mathlib.Omega.{arith}
use mathlib.Core.Path.{◌≡◌, refl, sym, ◌∙◌}
use mathlib.Core.Bool.{Bool, true, false, ◌&&◌}
use borrow.Author.Tests.{eqb-true, le-leb, lt-leb, leb-true, leb-false}
use lib.Dec.{eqb, leb, lit≤}
use Rattle.events.specs.declared.Event.{Event}
use Rattle.events.specs.declared.Event.TheVariants.{Open, Withdraw, Deposit, Close}
use Rattle.events.specs.declared.Life.{Life}
use Rattle.events.specs.declared.Life.TheVariants.{New, Opened, Closed}
use Rattle.events.specs.Kinds.{event_kind, amount_of, event_of}
use Rattle.events.proofs.Table.{kinds-hold}
use Rattle.filing.specs.declared.Decision.{Decision}
use Rattle.filing.specs.declared.Decision.TheVariants.{Undecided, Committed}
use Rattle.image.specs.Words.{life_word, event_word, decision_word}
use Rattle.image.specs.Reading.{life_from, event_from, decision_from, is_event, is_decision}
use Rattle.rule.proofs.Lists.{and_left, and_right}

pub life-back : (l : Life) → life_from (life_word l) ≡ l
life-back New = refl
life-back Opened = refl
life-back Closed = refl

pub decision-back : (d : Decision) → decision_from (decision_word d) ≡ d
decision-back Undecided = refl
decision-back Committed = refl

pub event-back : (e : Event) → event_from (event_word e) (amount_of e) ≡ e
unfolding event_of
event-back (Open a) = refl
event-back (Withdraw a) = refl
event-back (Deposit a) = refl
event-back Close = refl

-- words that are what they read as
pub record Same (e a d : ℕ) : Type 0 where
  pub event : event_word (event_from e a) ≡ e
  pub amount : amount_of (event_from e a) ≡ a
  pub decision : decision_word (decision_from d) ≡ d

pub same : (e a d : ℕ) → is_event e a && is_decision d ≡ true → Same e a d
same e a d b =
    let first = eqb (event_word (event_from e a)) e in
    let second = eqb (amount_of (event_from e a)) a in
    let both = and_left (first && second) (is_decision d) b in
    record {
      event = eqb-true (event_word (event_from e a)) e (and_left first second both);
      amount = eqb-true (amount_of (event_from e a)) a (and_right first second both);
      decision = eqb-true (decision_word (decision_from d)) d (and_right (first && second) (is_decision d) b);
    }

-- there is no kind 0
pub kind-positive : (e : Event) → 1 ≤ event_kind e
kind-positive (Open a) = lit≤ tt
kind-positive (Withdraw a) = lit≤ tt
kind-positive (Deposit a) = lit≤ tt
kind-positive Close = lit≤ tt

-- behind the third word every word reads as the fourth
no_kind : (kind : ℕ) → 3 < kind → leb 1 kind && leb kind 3 ≡ false
no_kind kind h = rw (le-leb 1 kind (omega arith), lt-leb kind 3 h)

pub last-kept : (word amount : ℕ) → event_of (min word 3 + 1) amount ≡ event_from word amount
last-kept word amount = go (leb word 3) refl
  where
    go : (b : Bool) → leb word 3 ≡ b → event_of (min word 3 + 1) amount ≡ event_from word amount
    go true e = rw (min-eq_left (leb-true word 3 e)) refl
    go false e =
        let past : 3 < word = leb-false word 3 e in
        rw (min-eq_right (let low : 3 ≤ word = omega arith in low)) ((kinds-hold amount).other 4 refl ∙ sym ((kinds-hold amount).other (word + 1) (no_kind (word + 1) (omega arith))))

pub ruleset kept = (last-kept)
