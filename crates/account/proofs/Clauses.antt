-- An account in order, by its clauses: the counts, the blanks, and the rule's own on the lists.
-- Assumes nothing.
use Prim.Native.Nat.{ℕ, ◌≤◌}
use mathlib.Core.Path.{◌≡◌, sym, ◌∙◌}
use mathlib.Core.Bool.{Bool, true, ◌&&◌}
use lib.Dec.{leb}
use lib.ListN.{drop}
use borrow.Author.Tests.{leb-true, le-leb}
use Rattle.rule.specs.Lists.{every}
use Rattle.rule.specs.Rule.{Rule}
use Rattle.rule.specs.InOrder as rule-order
use Rattle.rule.proofs.Lists.{and_left, and_right}
use Rattle.rule.proofs.InOrder.{order-clauses}
use Rattle.events.specs.declared.Event.{Event}
use Rattle.events.specs.declared.State.{State}
use Rattle.filing.specs.Slots.{is_blank, places}
use Rattle.account.specs.declared.Account.{Account}
use Rattle.account.specs.Places.{lists_of}
use Rattle.account.specs.InOrder.{in_order_by}
use Rattle.account.specs.First.{in_order_of}

module _ (R : Rule State Event ℕ) (a : Account) where
  pub record Clauses : Type 0 where
    pub progressing : a.progressing ≤ R.progress_limit
    pub holding : a.holding ≤ R.held_limit
    pub blanks : every is_blank (drop a.progressing a.progress) ≡ true
    pub blanks_held : every is_blank (drop a.holding a.held) ≡ true
    pub lists : rule-order.is_in_order R (lists_of a) ≡ true

  pub clauses : in_order_by R a ≡ true → Clauses
  unfolding in_order_by
  clauses h =
      let c1 = leb a.progressing R.progress_limit in
      let c2 = leb a.holding R.held_limit in
      let c3 = every is_blank (drop a.progressing a.progress) in
      let c4 = every is_blank (drop a.holding a.held) in
      let c5 = rule-order.is_in_order R (lists_of a) in
      let h4 = and_left (c1 && c2 && c3 && c4) c5 h in
      let h3 = and_left (c1 && c2 && c3) c4 h4 in
      let h2 = and_left (c1 && c2) c3 h3 in
      record {
        progressing = leb-true a.progressing R.progress_limit (and_left c1 c2 h2);
        holding = leb-true a.holding R.held_limit (and_right c1 c2 h2);
        blanks = and_right (c1 && c2) c3 h3;
        blanks_held = and_right (c1 && c2 && c3) c4 h4;
        lists = and_right (c1 && c2 && c3 && c4) c5 h;
      }

  pub clauses-order : Clauses → in_order_by R a ≡ true
  unfolding in_order_by
  clauses-order k =
      rw (le-leb a.progressing R.progress_limit k.progressing, le-leb a.holding R.held_limit k.holding, k.blanks, k.blanks_held) k.lists

  -- the rule's clauses, each by its name
  pub rule-clauses : in_order_by R a ≡ true → rule-order.InOrder R (lists_of a)
  rule-clauses h = order-clauses R (lists_of a) (clauses h).lists

-- an account that the test finds in order has no more events in progress than places
pub few_progressing : (a : Account) → (found : Bool) → found ≡ in_order_of a → found ≡ true → a.progressing ≤ places
few_progressing a found e h = (clauses _ a (sym e ∙ h)).progressing
