-- The serial run of events (docs/REGISTER.md, 13.3).
-- Assumes nothing.
use Rattle.std.specs.Prelude.{◌≡◌, true, List, [], ◌∷◌}
use Rattle.rule.specs.Rule.{Rule, guard}

module _ {S E B : Type 0} (R : Rule S E B) where
  -- the serial run of some events
  abbrev pub run : List E → S → S
  run [] s = s
  run (e ∷ es) s = run es (R.effect e s)

  -- each event finds its guard true where it stands in the run (13.3 b)
  abbrev pub GuardsHold : List E → S → Type 0
  GuardsHold [] s = Unit {0}
  GuardsHold (e ∷ es) s = (guard R e s ≡ true) × GuardsHold es (R.effect e s)
