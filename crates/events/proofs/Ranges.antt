-- Ranges of states, put together: the range of a list is that of its first joined with that of the others, and of two lists joined; a condition that goes one way holds in every
-- state of both exactly if it does in each, and in some exactly if in one; an event whose guard holds moves both alike. Then by induction on the states.
-- Assumes nothing.
use Prim.Native.Nat.{ℕ, ◌≤◌, min}
use mathlib.Core.Path.{◌≡◌, refl}
use mathlib.Core.Bool.{Bool, true, false, cond, ◌&&◌, ◌||◌, not, false≢true}
use mathlib.Core.List.{List, [], ◌∷◌}
use native.Mathlib.Omega.{arith}
use lib.Dec.{ltb}
use lib.ListN.{length}
use borrow.Author.Tests.{lt-ltb}
use Rattle.std.proofs.lemmas.Bool.Decides.{nat_tests}
use Rattle.rule.specs.Lists.{some_of}
use Rattle.events.specs.declared.Event.{Event}
use Rattle.events.specs.declared.Event.TheVariants.{Open, Withdraw, Deposit, Close}
use Rattle.events.specs.declared.Life.TheVariants.{Opened}
use Rattle.events.specs.declared.State.{State}
use Rattle.events.specs.declared.Range.{Range}
use Rattle.events.specs.declared.condition.Condition.{Condition}
use Rattle.events.specs.Events.{is_opened, guard_of, effect_of}
use Rattle.events.specs.Condition.{takes, holds}
use Rattle.events.specs.Range.{opened_balances, lowest_of, range_of, range_of_one, joined, alone, occurs, every_in, range_after}
use Rattle.events.proofs.Against.{guard-table}
use Rattle.events.proofs.Guards.{Plain, effect-table}

-- a condition in every state of a range, and in some
abbrev pub all_of : Condition → Range → Bool
all_of c x = (alone c.life x && c.possible) && takes c x.lowest x.highest

abbrev pub any_of : Condition → Range → Bool
any_of c x = (occurs c.life x && c.possible) && takes c x.highest x.lowest

-- a range of states: lowest and highest in their order, and 0 where none is opened
pub record Formed (x : Range) : Type 0 where
  pub ordered : x.lowest ≤ x.highest
  pub none : x.opened ≡ false → x.highest ≡ 0

-- of some states, not of none
abbrev pub Some : Range → Type 0
Some x = ((x.new || x.opened) || x.closed) ≡ true

pub opened-alone : (x : Range) → Some x → alone Opened x ≡ true → x.opened ≡ true
opened-alone x some h = go x.new x.opened x.closed some h
  where
    go : (n o c : Bool) → ((n || o) || c) ≡ true → not (n || c) ≡ true → o ≡ true
    go true o c h k = absurd (false≢true k)
    go false true c h k = refl
    go false false true h k = absurd (false≢true k)
    go false false false h k = h

-- a condition in every state of two ranges, and in some
module _ (c : Condition) (row : Plain c) where
  pub all-joined : (x y : Range) → Some x → Some y → all_of c (joined x y) ≡ (all_of c x && all_of c y)
  all-joined x y h k = grind (arith, nat_tests)

  pub any-joined : (x y : Range) → Formed x → Formed y → any_of c (joined x y) ≡ (any_of c x || any_of c y)
  any-joined x y f g = grind (arith, nat_tests)

  -- of one state, of which no other life occurs exactly if its own does
  pub one-any : (s : State) → any_of c (range_of_one s) ≡ holds c s
  one-any s = grind (arith, nat_tests)

  pub one-all : (s : State) → all_of c (range_of_one s) ≡ holds c s
  one-all s = grind (arith, nat_tests)

-- the range of one state, and of one more
pub one-formed : (s : State) → Formed (range_of_one s)
one-formed s = record { ordered = grind arith; none = λ h. grind arith }

pub one-some : (s : State) → Some (range_of_one s)
one-some s = grind arith

pub joined-formed : (x y : Range) → Formed x → Formed y → Formed (joined x y)
joined-formed x y f g = record { ordered = grind arith; none = λ h. grind arith }

pub some-joined : (x y : Range) → Some x → Some (joined x y)
some-joined x y h = grind arith

-- none joined to others changes nothing
pub joined-first : (x : Range) → joined (range_of []) x ≡ x
unfolding range_of
joined-first x = grind arith

pub joined-last : (x : Range) → Formed x → joined x (range_of []) ≡ x
unfolding range_of
joined-last x f = grind arith

pub joined-assoc : (x y z : Range) → joined (joined x y) z ≡ joined x (joined y z)
joined-assoc x y z = grind arith

-- an event whose guard holds in two ranges moves both alike
module _ (x y : Range) (some_x : Some x) (some_y : Some y) where
  open-joined : (a : ℕ) → range_after (Open a) (joined x y) ≡ joined (range_after (Open a) x) (range_after (Open a) y)
  open-joined a = grind arith

  withdraw-joined : (a : ℕ) → every_in (Withdraw a) x ≡ true → every_in (Withdraw a) y ≡ true
      → range_after (Withdraw a) (joined x y) ≡ joined (range_after (Withdraw a) x) (range_after (Withdraw a) y)
  withdraw-joined a h k = grind (arith, nat_tests)

  deposit-joined : (a : ℕ) → every_in (Deposit a) x ≡ true → every_in (Deposit a) y ≡ true
      → range_after (Deposit a) (joined x y) ≡ joined (range_after (Deposit a) x) (range_after (Deposit a) y)
  deposit-joined a h k = grind (arith, nat_tests)

  pub after-joined : (e : Event) → every_in e x ≡ true → every_in e y ≡ true → range_after e (joined x y) ≡ joined (range_after e x) (range_after e y)
  after-joined (Open a) h k = open-joined a
  after-joined (Withdraw a) h k = withdraw-joined a h k
  after-joined (Deposit a) h k = deposit-joined a h k
  after-joined Close h k = refl

-- and one state as it moves the state
pub after_one : (e : Event) (s : State) → guard_of e s ≡ true → range_after e (range_of_one s) ≡ range_of_one (effect_of e s)
after_one e s g = let g' = rw (guard-table e s) at g in rw (effect-table e s g) (grind (arith, nat_tests))

-- some one is opened exactly if there is a balance of an opened one
counted-one : (s : State) (ss : List State) → some_of (λ (t : State). is_opened t.life) ss ≡ ltb 0 (length (opened_balances ss))
    → some_of (λ (t : State). is_opened t.life) (s ∷ ss) ≡ ltb 0 (length (opened_balances (s ∷ ss)))
counted-one s ss h = grind (arith, nat_tests)

counted : (ss : List State) → some_of (λ (s : State). is_opened s.life) ss ≡ ltb 0 (length (opened_balances ss))
counted [] = refl
counted (s ∷ ss) = counted-one s ss (counted ss)

lowest_more : (b : ℕ) (bs : List ℕ) → lowest_of (b ∷ bs) ≡ cond (ltb 0 (length bs)) (min b (lowest_of bs)) b
lowest_more b [] = refl
lowest_more b (m ∷ ms) = rw (lt-ltb 0 (length (m ∷ ms)) (omega arith)) refl

pub range_cons : (s : State) (ss : List State) → range_of (s ∷ ss) ≡ joined (range_of_one s) (range_of ss)
unfolding range_of
range_cons s ss = let low = lowest_more s.balance (opened_balances ss) in let some = counted ss in grind (arith, nat_tests)
