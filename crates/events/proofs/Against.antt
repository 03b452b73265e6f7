-- The table of reasons: no reason is the conjunction of the guard's tests; each reason exactly if; each is a number from 1 to 4.
-- Assumes nothing.
use Prim.Native.Nat.{ℕ, ◌+◌, ◌-◌, ◌≤◌}
use native.Mathlib.Omega.{arith}
use mathlib.Core.Path.{◌≡◌, refl, sym}
use mathlib.Core.Bool.{Bool, true, false, ◌&&◌, ◌||◌}
use mathlib.Core.Option.{some}
use lib.Dec.{leb, ltb, eqb}
use borrow.Author.Tests.{ltb-true, ltb-false, lt-ltb, le-ltb}
use Rattle.std.proofs.lemmas.Bool.Decides.{nat_tests}
use Rattle.rule.specs.Rule.{guard}
use Rattle.events.specs.declared.Event.{Event}
use Rattle.events.specs.declared.Event.TheVariants.{Open, Withdraw, Deposit, Close}
use Rattle.events.specs.declared.State.{State}
use Rattle.events.specs.Events.{limit, is_new, is_opened, reason_of, reason_byte, guard_of}
use Rattle.events.specs.Panel.{first_panel}
use Rattle.events.specs.Table.{Reasons}

-- the guards as the table has them
abbrev pub table_guard : Event → State → Bool
table_guard (Open a) s = is_new s.life && leb a limit
table_guard (Withdraw a) s = is_opened s.life && leb 1 a && leb a s.balance
table_guard (Deposit a) s = is_opened s.life && leb 1 a && leb (s.balance + a) limit
table_guard Close s = is_opened s.life

pub guard-table : (e : Event) (s : State) → guard_of e s ≡ table_guard e s
unfolding guard_of reason_of
guard-table e s = grind (arith, nat_tests)

-- the rule's guard is the table's
pub panel-guard : (progress_limit held_limit : ℕ) (e : Event) → guard (first_panel progress_limit held_limit) e ≡ guard_of e
unfolding guard guard_of
panel-guard progress_limit held_limit e = refl

-- a deposit that goes over the limit: the amount does alone, or the balance is more than it leaves of it
pub over-limit : (a b : ℕ) → (ltb limit a || ltb (limit - a) b) ≡ ltb limit (b + a)
over-limit a b = go (ltb limit a) refl
  where
    left : (c : Bool) → ltb (limit - a) b ≡ c → a ≤ limit → c ≡ ltb limit (b + a)
    left true q h = sym (lt-ltb limit (b + a) (omega (arith, ltb-true (limit - a) b q)))
    left false q h = sym (le-ltb limit (b + a) (omega (arith, ltb-false (limit - a) b q)))

    go : (c : Bool) → ltb limit a ≡ c → (c || ltb (limit - a) b) ≡ ltb limit (b + a)
    go true q = sym (lt-ltb limit (b + a) (omega (arith, ltb-true limit a q)))
    go false q = left (ltb (limit - a) b) refl (ltb-false limit a q)

pub reasons : (progress_limit held_limit : ℕ) (s : State) (a : ℕ) → Reasons progress_limit held_limit s a
unfolding reason_of
reasons progress_limit held_limit s a =
    record {
      open_life = grind (arith, nat_tests);
      open_over = grind (arith, nat_tests);
      withdraw_life = grind (arith, nat_tests);
      withdraw_zero = grind (arith, nat_tests);
      withdraw_few = grind (arith, nat_tests);
      deposit_life = grind (arith, nat_tests);
      deposit_zero = grind (arith, nat_tests);
      deposit_over = grind (arith, nat_tests);
      close_life = grind (arith, nat_tests);
      open_others = λ n h. grind (arith, nat_tests);
      withdraw_others = λ n h. grind (arith, nat_tests);
      deposit_others = λ n h. grind (arith, nat_tests);
      close_others = λ n h. grind (arith, nat_tests);
    }

-- every reason fits in a byte, and none is 0
pub reason-small : (e : Event) (s : State) (n : ℕ) → reason_of e s ≡ some n → (1 ≤ n) × (n ≤ 4)
unfolding reason_of
reason-small e s n h = (grind (arith, nat_tests), grind (arith, nat_tests))

-- so that 0 stands for no reason alone
pub zero-absent : (e : Event) (s : State) → eqb (reason_byte (reason_of e s)) 0 ≡ guard_of e s
unfolding guard_of reason_of
zero-absent e s = grind (arith, nat_tests)
