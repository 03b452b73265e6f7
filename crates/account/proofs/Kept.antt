-- The rule's accounts in places, by any rule of the events: an account of lists is in order as they are, and steps as they do; so a step leaves an account in order, and writes no more entries than there are places for.
-- Assumes nothing.
use Prim.Native.Nat.{ℕ, zero, suc, ◌-◌, ◌+◌, ◌≤◌}
use mathlib.Core.Path.{◌≡◌, refl, ◌∙◌, ap}
use mathlib.Core.Bool.{Bool, true, false}
use mathlib.Core.List.{List}
use mathlib.Core.Option.{Option, none, some}
use native.Mathlib.Omega.{arith}
use lib.Dec.{leb}
use lib.ListN.{length, drop, replicate, length-append}
use borrow.Author.Tests.{leb-true}
use Rattle.rule.specs.Lists.{every}
use Rattle.rule.specs.Rule as rule
use Rattle.rule.specs.Step.{step}
use Rattle.rule.specs.Call as Rule-Call
use Rattle.rule.specs.InOrder as rule-order
use Rattle.rule.specs.Written.{Following, Writes}
use Rattle.rule.proofs.Lists.{and_left, and_right}
use Rattle.rule.proofs.InOrder.{order-clauses, call-order}
use Rattle.rule.proofs.Written.{step-shape}
use Rattle.events.specs.declared.Event.{Event}
use Rattle.events.specs.declared.State.{State}
use Rattle.filing.specs.declared.Filed.{Filed}
use Rattle.filing.specs.Slots.{RuleSlot, place_of, blank, is_blank, places}
use Rattle.filing.specs.Entries.{RuleEntry, entries_of, most}
use Rattle.filing.proofs.Filled.{rest-filled}
use Rattle.account.specs.declared.Account.{Account}
use Rattle.account.specs.Places.{RuleAccount, padded, lists_of, account_of}
use Rattle.account.specs.InOrder.{in_order_by}
use Rattle.account.specs.Steps.{entries_in, stepped_by, step_by}
use Rattle.account.proofs.Padded.{lists-account}
use Rattle.account.proofs.Clauses.{clauses, clauses-order}

-- behind the places of a list only blanks
blanks : (n : ℕ) → every is_blank (replicate n blank) ≡ true
blanks zero = refl
blanks (suc n) = blanks n

padded-blank : (size : ℕ) (xs : List RuleSlot) → every is_blank (drop (length xs) (padded size xs)) ≡ true
padded-blank size xs = ap (every is_blank) (rest-filled place_of blank size xs) ∙ blanks (size - length xs)

-- a message that is taken writes no more entries than its own, one for each event in progress and one for each request held
following-few : (applications decisions : ℕ) (xs : List RuleEntry) → Following applications decisions xs → length xs ≤ applications + decisions
following-few applications decisions xs f =
    omega (arith, ap length f.split, length-append f.applications f.decisions, f.few, f.few_decided)

writes-few : (progressing holding : ℕ) (m : rule.Message Filed Event) (xs : List RuleEntry) → Writes progressing holding m xs → length xs ≤ 1 + progressing + holding
writes-few progressing holding (rule.request t g e) xs w = omega (arith, ap length w.1)
writes-few progressing holding (rule.commit t g) xs w = omega (arith, ap length w.1, following-few progressing holding w.0 w.2)
writes-few progressing holding (rule.abort t g) xs w =
    omega (arith, ap length w.5, following-few w.3 w.4 w.2 w.6, w.7, w.8)

module _ (R : rule.Rule State Event ℕ) where
  -- an account of lists is in order as they are
  pub order-account : (a : RuleAccount) → rule-order.is_in_order R a ≡ true → in_order_by R (account_of a) ≡ true
  unfolding account_of
  order-account a h =
      let p = leb (length a.progress) R.progress_limit in
      let q = leb (length a.held) R.held_limit in
      let counts = (order-clauses R a h).counts in
      clauses-order R (account_of a)
      (record {
        progressing = leb-true (length a.progress) R.progress_limit (and_left p q counts);
        holding = leb-true (length a.held) R.held_limit (and_right p q counts);
        blanks = padded-blank places a.progress;
        blanks_held = padded-blank places a.held;
        lists = ap (rule-order.is_in_order R) (lists-account a) ∙ h;
      })

  pub order-lists : (a : Account) → in_order_by R a ≡ true → rule-order.is_in_order R (lists_of a) ≡ true
  order-lists a h = (clauses R a h).lists

  -- and steps as they do
  pub step-account : (a : RuleAccount) (m : rule.Message Filed Event) → rule-order.is_in_order R a ≡ true
      → step_by R (account_of a) m ≡ stepped_by (account_of a) (Rule-Call.call R a m).account (Rule-Call.call R a m).answer
  unfolding step_by
  step-account a m h = rw (order-account a h, lists-account a)

  -- so a step, taken or refused, leaves an account in order
  pub step-order : rule-order.Sound R → (a : Account) (m : rule.Message Filed Event) → in_order_by R a ≡ true → in_order_by R (step_by R a m).account ≡ true
  unfolding step_by
  step-order sound a m h = rw h (by (Rule-Call.call R (lists_of a) m).answer)
    where
      by : (answer : Rule-Call.Answer Filed Event ℕ) → in_order_by R (stepped_by a (Rule-Call.call R (lists_of a) m).account answer).account ≡ true
      by (Rule-Call.refused n) = h
      by (Rule-Call.taken xs) = order-account (Rule-Call.call R (lists_of a) m).account (call-order R sound (lists_of a) m (order-lists a h))

  -- and there are never more entries than places for them
  pub step-few : R.progress_limit ≤ places → R.held_limit ≤ places → (a : Account) (m : rule.Message Filed Event) → (entries_in (step_by R a m).answer).count ≤ most
  unfolding step_by Rule-Call.call entries_of
  step-few few few_held a m = ordered (in_order_by R a) refl
    where
      taken : in_order_by R a ≡ true → (o : Option ℕ) → Rule-Call.refusal R (lists_of a) m ≡ o
          → (entries_in (stepped_by a (Rule-Call.call_by o (lists_of a) (step R (lists_of a) m)).account (Rule-Call.call_by o (lists_of a) (step R (lists_of a) m)).answer).answer).count ≤ most
      taken h (some n) q = omega arith
      taken h none q =
          let own = order-clauses R (lists_of a) (order-lists a h) in
          let p = length (lists_of a).progress in
          let k = length (lists_of a).held in
          let shape = step-shape R (lists_of a) m own.transactions q in
          omega (
            arith,
            writes-few p k m (step R (lists_of a) m).entries shape,
            leb-true p R.progress_limit (and_left (leb p R.progress_limit) (leb k R.held_limit) own.counts),
            leb-true k R.held_limit (and_right (leb p R.progress_limit) (leb k R.held_limit) own.counts),
          )

      ordered : (b : Bool) → in_order_by R a ≡ b → (entries_in (step_by R a m).answer).count ≤ most
      ordered true h = rw h (taken h (Rule-Call.refusal R (lists_of a) m) refl)
      ordered false h = rw h (omega arith)
