-- Settling, an event at a time: the state and what was written when the oldest are applied, and that the rest of the way leads where the whole way does.
-- Assumes nothing.
use Prim.Native.Nat.{ℕ, ◌+◌, ◌≤◌, ◌<◌}
use mathlib.Core.Path.{◌≡◌, refl, sym, ap, ◌∙◌}
use mathlib.Core.Bool.{Bool, true, false, ◌&&◌, not, false≢true, true≢false}
use mathlib.Core.List.{List, [], ◌∷◌, ◌++◌}
use native.Mathlib.Omega.{arith}
use lib.Dec.{eqb, ltb}
use lib.ListN.{length, get_or, set}
use borrow.Author.Tests.{eqb-true, eqb-false, ltb-true, ltb-false, not-true, not-false}
use Rattle.rule.specs.Rule as rule
use Rattle.rule.specs.Step.{after, drain, settle}
use Rattle.rule.specs.InOrder.{guarded, oldest_undecided}
use Rattle.rule.proofs.Lists.{and_left, and_right}
use Rattle.rule.proofs.Safe.{Safe, safe-guarded, guarded-safe}
use Rattle.events.specs.declared.Event.{Event}
use Rattle.events.specs.declared.State.{State}
use Rattle.filing.specs.declared.Filed.{Filed}
use Rattle.filing.specs.declared.Slot.{Slot}
use Rattle.filing.specs.declared.Decision.{Decision}
use Rattle.filing.specs.declared.Decision.TheVariants.{Undecided, Committed}
use Rattle.filing.specs.declared.Entry.{Entry}
use Rattle.filing.specs.declared.Entries.{Entries}
use Rattle.filing.specs.Slots.{RuleSlot, slot_of, decision_of, is_undecided, blank}
use Rattle.filing.specs.Entries.{RuleEntry, entry_of, entries_of, most}
use Rattle.account.proofs.Taken.{entries_with, after-after}
use Rattle.account.proofs.Slices.{used_from, used-end, used-next}

module _ (R : rule.Rule State Event ℕ) where
  -- the entry of an event that is applied
  abbrev pub application_of : State → Slot → RuleEntry
  application_of s x = rule.applied x.transaction x.filed x.event (R.shown (R.effect x.event s))

  module _ (s : State) (held : List RuleSlot) where
    -- settling stops where the oldest event is undecided, or nothing is in progress,
    settle-done : (xs : List RuleSlot) → oldest_undecided xs ≡ true → settle R s xs held ≡ drain R s xs held
    unfolding settle
    settle-done [] h = refl
    settle-done (rule.slot t g e rule.undecided ∷ xs) h = refl
    settle-done (rule.slot t g e rule.committed ∷ xs) h = absurd (false≢true h)

    -- and goes on after an application
    settle-next : (t : ℕ) (g : Filed) (e : Event) (d : Decision) (rest : List RuleSlot) → is_undecided d ≡ false
        → settle R s (rule.slot t g e (decision_of d) ∷ rest) held
        ≡ after (rule.applied t g e (R.shown (R.effect e s)) ∷ []) (settle R (R.effect e s) rest held)
    unfolding settle
    settle-next t g e Undecided rest h = absurd (true≢false h)
    settle-next t g e Committed rest h = refl

  -- an application takes a committed oldest event away, and each other event still finds its guard
  safe-next : (s : State) (t : ℕ) (g : Filed) (e : Event) (d : Decision) (rest : List RuleSlot) → is_undecided d ≡ false
      → Safe R (rule.slot t g e (decision_of d) ∷ rest) s → Safe R rest (R.effect e s)
  safe-next s t g e Undecided rest h k = absurd (true≢false h)
  safe-next s t g e Committed rest h k = k.1

  oldest-undecided : (t : ℕ) (g : Filed) (e : Event) (d : Decision) (rest : List RuleSlot) → is_undecided d ≡ true → oldest_undecided (rule.slot t g e (decision_of d) ∷ rest) ≡ true
  oldest-undecided t g e Undecided rest h = refl
  oldest-undecided t g e Committed rest h = absurd (false≢true h)

  module _ (s : State) (held : List RuleSlot) (written : List RuleEntry) (row : List Slot) (count : ℕ) where
    -- on the way: so many events were applied; once one was undecided those behind it stay
    pub record Settling (now : State) (entries : Entries) (ended at : ℕ) : Type 0 where
      pub written' : List RuleEntry
      pub list : entries ≡ entries_of written'
      pub guards : guarded R now [] (used_from ended count row) ≡ true
      pub same : after written' (settle R now (used_from ended count row) held) ≡ after written (settle R s (used_from 0 count row) held)
      pub stays : ended < at → oldest_undecided (used_from ended count row) ≡ true

    pub settling-none : (entries : Entries) → entries ≡ entries_of written → guarded R s [] (used_from 0 count row) ≡ true → Settling s entries 0 0
    settling-none entries e g = record { written' = written; list = e; guards = g; same = refl; stays = λ l. absurd (omega arith) }

    -- past the last of them
    pub settled-all : (now : State) (entries : Entries) (ended : ℕ) (d : Settling now entries ended count)
        → after d.written' (drain R now (used_from ended count row) held) ≡ after written (settle R s (used_from 0 count row) held)
    settled-all now entries ended d = ap (after d.written') (sym (settle-done now held (used_from ended count row) (ends (ltb ended count) refl))) ∙ d.same
      where
        ends : (b : Bool) → ltb ended count ≡ b → oldest_undecided (used_from ended count row) ≡ true
        ends true k = d.stays (ltb-true ended count k)
        ends false k = rw (used-end ended count row (omega (arith, ltb-false ended count k)))

    module _ (now : State) (entries : Entries) (ended at : ℕ) (d : Settling now entries ended at) (older : ended ≤ at) (below : at < count) (within : count ≤ length row) where
      abbrev here : Slot
      here = get_or row at blank

      -- the event at the place that is reached is applied, where all before it were
      pub settled-apply : (entry : Entry) → entry ≡ entry_of (application_of now here) → entries.count < most → (eqb at ended && not (is_undecided here.decision)) ≡ true
          → Settling (R.effect here.event now) (record { at = set entries.at entries.count entry; count = entries.count + 1 }) (ended + 1) (at + 1)
      settled-apply entry is room first =
          let same = eqb-true at ended (and_left (eqb at ended) (not (is_undecided here.decision)) first) in
          let decided = not-true (is_undecided here.decision) (and_right (eqb at ended) (not (is_undecided here.decision)) first) in
          let rest = used_from (ended + 1) count row in
          let next : used_from ended count row ≡ slot_of here ∷ rest = rw (← same) (used-next at count row below within) in
          record {
            written' = d.written' ++ (application_of now here ∷ []);
            list = entries_with entries entry d.written' (application_of now here) room d.list is;
            guards =
                safe-guarded R (R.effect here.event now) [] rest
                (safe-next now here.transaction here.filed here.event here.decision rest decided (guarded-safe R now [] (slot_of here ∷ rest) tt (rw next at d.guards)));
            same =
                after-after d.written' (application_of now here ∷ []) (settle R (R.effect here.event now) rest held)
                ∙ ap (after d.written') (sym (ap (λ (l : List RuleSlot). settle R now l held) next ∙ settle-next now held here.transaction here.filed here.event here.decision rest decided))
                ∙ d.same;
            stays = λ l. absurd (omega arith);
          }

      -- or stays, with those behind it
      pub settled-stays : (eqb at ended && not (is_undecided here.decision)) ≡ false → Settling now entries ended (at + 1)
      settled-stays h = record { written' = d.written'; list = d.list; guards = d.guards; same = d.same; stays = λ l. by (eqb at ended) refl h }
        where
          by : (b : Bool) → eqb at ended ≡ b → (b && not (is_undecided here.decision)) ≡ false → oldest_undecided (used_from ended count row) ≡ true
          by true k n =
              rw (← eqb-true at ended k, used-next at count row below within)
              (oldest-undecided here.transaction here.filed here.event here.decision (used_from (at + 1) count row) (not-false (is_undecided here.decision) n))
          by false k n = d.stays (omega (arith, eqb-false at ended k))
