-- The first panel's rule, on an account with so many places for events in progress and for requests held: how many there are is not the events' to know.
-- Assumes nothing.
use Rattle.std.specs.Prelude.{ℕ}
use Rattle.rule.specs.Rule.{Rule}
use Rattle.events.specs.declared.Event.{Event}
use Rattle.events.specs.declared.Life.TheVariants.{New}
use Rattle.events.specs.declared.State.{State}
use Rattle.events.specs.Events.{reason_of, table_effect, effect_of, state_fits}

module _ (progress_limit held_limit : ℕ) where
  -- the commit rule of these reasons with an effect: an applied entry shows the balance
  abbrev rule_of : (Event → State → State) → Rule State Event ℕ
  rule_of effect =
      record {
        reason = reason_of;
        effect = effect;
        fresh = record { life = New; balance = 0 };
        shown = λ (s : State). s.balance;
        fits = state_fits;
        progress_limit = progress_limit;
        held_limit = held_limit;
      }

  -- the commit rule of the first panel,
  abbrev pub first_panel : Rule State Event ℕ
  first_panel = rule_of effect_of

  -- and the same with the table's effects as they stand: where every guard holds the two have the same outcomes
  abbrev pub first_table : Rule State Event ℕ
  first_table = rule_of table_effect
