-- The blank place and the blank entry, how many places and entries there are, and each decision and verdict in both its forms, said a second time (docs/REGISTER.md, 2.3 to 2.5 and 9.5).
-- A word that stands in a statement cannot be changed with it.
-- Assumes nothing.
use Rattle.std.specs.Prelude.{ℕ, ◌≡◌, ◌↔◌, true, [], ◌∷◌, map}
use Rattle.std.proofs.Math.Option.{none, some}
use Rattle.rule.specs.Rule as rule
use Rattle.events.specs.declared.Event.{Event}
use Rattle.events.specs.declared.Event.TheVariants.{Open}
use Rattle.filing.specs.declared.Filed.{Filed}
use Rattle.filing.specs.declared.Decision.{Decision}
use Rattle.filing.specs.declared.Decision.TheVariants.{Undecided, Committed}
use Rattle.filing.specs.declared.Verdict.TheVariants.{Accepted, Rejected, Held}
use Rattle.filing.specs.declared.Told.TheVariants.{Noted}
use Rattle.filing.specs.Slots.{places, decision_of, decision_in, slot_of, committed_slot, blank_filed, blank, is_blank_filed}
use Rattle.filing.specs.Entries.{verdict_of, verdict_in, weighing_of, weighing_in, most, blank_entry}

pub record BlankLiteral : Type 0 where
  pub eight : places ≡ 8
  pub seventeen : most ≡ 17
  pub filed : blank_filed ≡ record { second = 0 }
  pub place : blank ≡ record { transaction = 0; filed = record { second = 0 }; event = Open 0; decision = Undecided }
  pub entry : blank_entry ≡ record { transaction = 0; filed = record { second = 0 }; told = Noted }
  pub is_filed : (second : ℕ) → (is_blank_filed (record { second = second }) ≡ true) ↔ (second ≡ 0)

-- decisions and verdicts in the rule's form and back, alone, in a place and in a weighing
pub record BothLiteral (t n k : ℕ) (g : Filed) (e : Event) (d : Decision) : Type 0 where
  pub decisions : map decision_of (Undecided ∷ Committed ∷ []) ≡ rule.undecided ∷ rule.committed ∷ []
  pub decisions_back : map decision_in (rule.undecided ∷ rule.committed ∷ []) ≡ Undecided ∷ Committed ∷ []
  pub verdicts : map verdict_of (Accepted ∷ Rejected ∷ Held ∷ []) ≡ rule.accept ∷ rule.reject ∷ rule.hold ∷ []
  pub verdicts_back : map verdict_in (rule.accept ∷ rule.reject ∷ rule.hold ∷ []) ≡ Accepted ∷ Rejected ∷ Held ∷ []
  pub undecided : slot_of (record { transaction = t; filed = g; event = e; decision = Undecided }) ≡ rule.slot t g e rule.undecided
  pub committed : slot_of (record { transaction = t; filed = g; event = e; decision = Committed }) ≡ rule.slot t g e rule.committed
  pub commits : committed_slot (record { transaction = t; filed = g; event = e; decision = d }) ≡ record { transaction = t; filed = g; event = e; decision = Committed }
  pub accepts : weighing_of (record { verdict = Accepted; weighed = n; reason = 0 }) ≡ record { verdict = rule.accept; weighed = n; reason = none }
  pub rejects : (k ≡ 0 → ⊥) → weighing_of (record { verdict = Rejected; weighed = n; reason = k }) ≡ record { verdict = rule.reject; weighed = n; reason = some k }
  pub holds : weighing_of (record { verdict = Held; weighed = n; reason = 0 }) ≡ record { verdict = rule.hold; weighed = n; reason = none }
  pub accepts_back : weighing_in (record { verdict = rule.accept; weighed = n; reason = none }) ≡ record { verdict = Accepted; weighed = n; reason = 0 }
  pub rejects_back : weighing_in (record { verdict = rule.reject; weighed = n; reason = some k }) ≡ record { verdict = Rejected; weighed = n; reason = k }
  pub holds_back : weighing_in (record { verdict = rule.hold; weighed = n; reason = none }) ≡ record { verdict = Held; weighed = n; reason = 0 }

pub record LiteralHolds : Type 0 where
  pub blanks : BlankLiteral
  pub both : (t n k : ℕ) (g : Filed) (e : Event) (d : Decision) → BothLiteral t n k g e d
