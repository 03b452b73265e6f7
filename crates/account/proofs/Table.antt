-- On an account in order the outcomes are the table's, since its events are safe. By any rule of the events whose effects are the table's where the guard holds.
-- Assumes nothing.
use Prim.Native.Nat.{ℕ}
use mathlib.Core.Path.{◌≡◌, sym, ◌∙◌}
use mathlib.Core.Bool.{true}
use mathlib.Core.List.{[]}
use Rattle.rule.specs.Rule.{Rule, guard}
use Rattle.rule.specs.InOrder.{guarded}
use Rattle.rule.proofs.Exact.{numbered}
use Rattle.rule.proofs.Safe.{Safe, guarded-safe, outcome-agree}
use Rattle.events.specs.declared.Event.{Event}
use Rattle.events.specs.declared.State.{State}
use Rattle.account.specs.declared.Account.{Account}
use Rattle.account.specs.Places.{lists_of}
use Rattle.account.specs.InOrder.{in_order_by}
use Rattle.account.specs.Table.{OutcomesOfTheTableBy}
use Rattle.account.proofs.Clauses.{rule-clauses}

module _ (R T : Rule State Event ℕ) (same : (e : Event) (s : State) → guard R e s ≡ true → T.effect e s ≡ R.effect e s) where
  guards : (a : Account) → in_order_by R a ≡ true → guarded R a.state [] (lists_of a).progress ≡ true
  unfolding lists_of
  guards a h = (rule-clauses R a h).guards

  pub outcomes-of-the-table : OutcomesOfTheTableBy R T
  outcomes-of-the-table a h n =
      let safe : Safe R (lists_of a).progress a.state = guarded-safe R a.state _ (lists_of a).progress tt (guards a h) in
      let agree = sym (outcome-agree R T same (lists_of a).progress n a.state safe) in
      (agree, agree ∙ (numbered T (lists_of a).progress a.state).bits n)
