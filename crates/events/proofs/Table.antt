-- The table of events, both ways; kinds and the blank's event by the events one after the other.
-- Assumes nothing.
use Prim.Native.Nat.{ℕ, ◌≤◌, ◌<◌, ◌^◌}
use mathlib.Core.Path.{◌≡◌, refl}
use mathlib.Core.Logic.{◌↔◌}
use mathlib.Core.Bool.{Bool, true, ◌&&◌}
use native.Mathlib.Omega.{arith}
use lib.Dec.{leb}
use borrow.Author.Tests.{leb-true, le-leb}
use Rattle.std.proofs.lemmas.Bool.Decides.{nat_tests}
use Rattle.rule.specs.Rule.{guard}
use Rattle.rule.proofs.Lists.{and_left, and_right, and_both}
use Rattle.events.specs.declared.Event.{Event}
use Rattle.events.specs.declared.Life.{Life}
use Rattle.events.specs.declared.Life.TheVariants.{New, Opened}
use Rattle.events.specs.declared.State.{State}
use Rattle.events.specs.Events.{is_new, is_opened, reason_of, guard_of, effect_of}
use Rattle.events.specs.Kinds.{event_kind, amount_of, event_of}
use Rattle.events.specs.Table.{Guards, Effects, Fields, TableHolds, KindsHold, BlankIsOpenZero}
use Rattle.events.proofs.Against.{reasons}
use Rattle.events.proofs.Guards.{new-life, opened-life}

-- the tests by themselves
pub new-exactly : (l : Life) → (is_new l ≡ true) ↔ (l ≡ New)
new-exactly l = (new-life l, λ e. rw e)

pub opened-exactly : (l : Life) → (is_opened l ≡ true) ↔ (l ≡ Opened)
opened-exactly l = (opened-life l, λ e. rw e)

pub leb-exactly : (m n : ℕ) → (leb m n ≡ true) ↔ (m ≤ n)
leb-exactly m n = (leb-true m n, le-leb m n)

-- two tests hold together exactly if what they test does
pub two-exactly : {A B : Type 0} (p q : Bool) → (p ≡ true) ↔ A → (q ≡ true) ↔ B → ((p && q) ≡ true) ↔ (A × B)
two-exactly p q f g = (λ h. (f.0 (and_left p q h), g.0 (and_right p q h)), λ h. and_both p q (f.1 h.0) (g.1 h.1))

module _ (progress_limit held_limit : ℕ) (s : State) (a : ℕ) where
  guards : Guards progress_limit held_limit s a
  unfolding guard reason_of
  guards =
      record {
        opens = grind (arith, nat_tests);
        withdraws = grind (arith, nat_tests);
        deposits = grind (arith, nat_tests);
        closes = grind (arith, nat_tests);
      }

  effects : Effects progress_limit held_limit s a
  unfolding effect_of guard guard_of reason_of
  effects =
      record {
        opens = λ h. grind (arith, nat_tests);
        withdraws = λ h. grind (arith, nat_tests);
        deposits = λ h. grind (arith, nat_tests);
        closes = λ h. grind (arith, nat_tests);
        otherwise = λ e h. grind (arith, nat_tests);
      }

  fields : Fields progress_limit held_limit s a
  fields = record { fresh = refl; shown = refl; fits = grind (arith, nat_tests); progress_limit' = refl; held_limit' = refl }

pub table-holds : TableHolds
table-holds progress_limit held_limit s a =
    record {
      guards = guards progress_limit held_limit s a;
      reasons = reasons progress_limit held_limit s a;
      effects = effects progress_limit held_limit s a;
      table_effects = record { opens = refl; withdraws = refl; deposits = refl; closes = refl };
      fields = fields progress_limit held_limit s a;
    }

-- an event is its kind and its amount, and the kind fits in a byte
pub event-is : (e : Event) → event_of (event_kind e) (amount_of e) ≡ e
unfolding event_of
event-is e = grind (arith, nat_tests)

pub kind_fits : (e : Event) → event_kind e < 256 ^ 1
kind_fits e = grind arith

pub blank-is-open-zero : BlankIsOpenZero
blank-is-open-zero e = grind (arith, nat_tests)

pub kinds-hold : KindsHold
unfolding event_of
kinds-hold amount = record { kinds = refl; amounts = refl; back = refl; other = λ kind h. grind (arith, nat_tests) }
