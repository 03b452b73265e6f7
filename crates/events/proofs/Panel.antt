-- The first panel's rule: its states in order are just those that runs of its events lead to.
-- Assumes nothing.
use Prim.Native.Nat.{ℕ, ◌≤◌}
use mathlib.Core.Path.{◌≡◌, refl, sym, ◌∙◌, ap}
use mathlib.Core.Bool.{true}
use mathlib.Core.List.{List, [], ◌∷◌}
use native.Mathlib.Omega.{arith}
use lib.Dec.{leb, eqb}
use borrow.Author.Tests.{eqb-true}
use Rattle.std.proofs.lemmas.Bool.Decides.{nat_tests}
use Rattle.rule.specs.Rule.{guard}
use Rattle.rule.specs.Run.{run, GuardsHold}
use Rattle.rule.specs.InOrder.{Sound}
use Rattle.rule.proofs.Lists.{and_left, and_right}
use Rattle.events.specs.declared.Event.{Event}
use Rattle.events.specs.declared.Event.TheVariants.{Open, Close}
use Rattle.events.specs.declared.Life.{Life}
use Rattle.events.specs.declared.Life.TheVariants.{New, Opened, Closed}
use Rattle.events.specs.declared.State.{State}
use Rattle.events.specs.Events.{limit, reason_of, guard_of, table_effect, effect_of, state_fits}
use Rattle.events.specs.Panel.{first_panel}
use Rattle.events.proofs.Against.{table_guard, guard-table, panel-guard}
use Rattle.events.proofs.Guards.{effect-table}

-- an effect whose guard holds leads from a state in order to one,
table_fits : (e : Event) (s : State) → table_guard e s ≡ true → state_fits s ≡ true → state_fits (table_effect e s) ≡ true
table_fits e s g h = grind (arith, nat_tests)

-- and any keeps a balance within the limit
pub balance-kept : (e : Event) (s : State) → s.balance ≤ limit → (effect_of e s).balance ≤ limit
unfolding effect_of
balance-kept e s h = rw (guard-table e s) (grind (arith, nat_tests))

module _ (progress_limit held_limit : ℕ) where
  -- a run that leads to each state in order: none, an Open, an Open and a Close
  state-run : (life : Life) (b : ℕ) → state_fits (record { life = life; balance = b }) ≡ true
      → (es : List Event) × GuardsHold (first_panel progress_limit held_limit) es (first_panel progress_limit held_limit).fresh × (run (first_panel progress_limit held_limit) es (first_panel progress_limit held_limit).fresh ≡ record { life = life; balance = b })
  unfolding effect_of guard guard_of reason_of
  state-run New b h = ([], tt, ap (λ (n : ℕ). record { life = New; balance = n }) (sym (eqb-true b 0 (and_right (leb b limit) (eqb b 0) h))))
  state-run Opened b h =
      let fits = and_left (leb b limit) true h in
      let opens = guard-table (Open b) (record { life = New; balance = 0 }) ∙ fits in
      (Open b ∷ [], (opens, tt), effect-table (Open b) (record { life = New; balance = 0 }) opens)
  state-run Closed b h =
      (Open 0 ∷ Close ∷ [], (refl, (refl, tt)), ap (λ (n : ℕ). record { life = Closed; balance = n }) (sym (eqb-true b 0 (and_right (leb b limit) (eqb b 0) h))))

  pub sound : Sound (first_panel progress_limit held_limit)
  sound =
      record {
        fresh = refl;
        kept = λ e s g h. let g' = rw (panel-guard progress_limit held_limit e) at g in ap state_fits (effect-table e s g') ∙ table_fits e s (sym (guard-table e s) ∙ g') h;
        reachable = λ s h. state-run s.life s.balance h;
      }
