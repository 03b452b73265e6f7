-- The requests held, a request at a time: what is in progress and what was written when some of them are voted on, and that the rest of the way leads where the whole way does.
-- Assumes nothing.
use Prim.Native.Nat.{ℕ, ◌+◌, ◌≤◌, ◌<◌}
use mathlib.Core.Path.{◌≡◌, refl, sym, ap, ◌∙◌}
use mathlib.Core.Bool.{Bool, true, false, ◌&&◌, not, false≢true, true≢false}
use mathlib.Core.List.{List, [], ◌∷◌, ◌++◌, append-nil}
use native.Mathlib.Omega.{arith}
use lib.Dec.{eqb, ltb}
use lib.ListN.{length, get_or, set}
use borrow.Author.Tests.{eqb-true, eqb-false, ltb-true, ltb-false, not-false}
use Rattle.rule.specs.Lists.{every}
use Rattle.rule.specs.Rule as rule
use Rattle.rule.specs.Weigh.{decide}
use Rattle.rule.specs.Step.{after, still, drain_by, drain}
use Rattle.rule.specs.InOrder.{without_decision, guarded}
use Rattle.rule.proofs.Lists.{and_left, and_right}
use Rattle.rule.proofs.Ways.{every_way}
use Rattle.rule.proofs.Safe.{safe-accept, safe-guarded, guarded-safe}
use Rattle.rule.proofs.Good.{decide-accept}
use Rattle.events.specs.declared.Event.{Event}
use Rattle.events.specs.declared.State.{State}
use Rattle.filing.specs.declared.Filed.{Filed}
use Rattle.filing.specs.declared.Slot.{Slot}
use Rattle.filing.specs.declared.Decision.{Decision}
use Rattle.filing.specs.declared.Decision.TheVariants.{Undecided, Committed}
use Rattle.filing.specs.declared.Verdict.{Verdict}
use Rattle.filing.specs.declared.Verdict.TheVariants.{Accepted, Rejected, Held}
use Rattle.filing.specs.declared.Weighing.{Weighing}
use Rattle.filing.specs.declared.Entry.{Entry}
use Rattle.filing.specs.declared.Entries.{Entries}
use Rattle.filing.specs.Slots.{RuleSlot, slot_of, place_of, decision_of, places, blank}
use Rattle.filing.specs.Entries.{RuleEntry, is_accepted, is_held, verdict_of, weighing_of, entry_of, entries_of, most}
use Rattle.filing.proofs.Slots.{place-slot}
use Rattle.filing.proofs.Filled.{fill-next}
use Rattle.account.specs.Places.{RuleAccount, padded}
use Rattle.account.specs.inside.Taken.{RuleStep, listed, taken_as}
use Rattle.account.proofs.Taken.{entries_with, after-after}
use Rattle.account.proofs.Slices.{used_from, used-end, used-next}

-- a request that is accepted stands behind those in progress, undecided
abbrev pub as_event : Slot → RuleSlot
as_event x = rule.slot x.transaction x.filed x.event rule.undecided

-- the entry of a vote on it
abbrev pub vote_on : Slot → Weighing → RuleEntry
vote_on x w = rule.voted x.transaction x.filed x.event (weighing_of w)

no-decision : (t : ℕ) (g : Filed) (e : Event) (d : Decision) → without_decision (rule.slot t g e (decision_of d)) ≡ true → rule.slot t g e (decision_of d) ≡ rule.slot t g e rule.undecided
no-decision t g e Undecided h = refl
no-decision t g e Committed h = absurd (false≢true h)

-- what a verdict does with the oldest held request
module _ (x : Slot) (w : rule.Weighing) (s : State) (events rest : List RuleSlot) (next : List RuleSlot → RuleStep) where
  by-accept : (v : Verdict) → is_accepted v ≡ true
      → drain_by (verdict_of v) w (slot_of x) s events rest next ≡ after (rule.voted x.transaction x.filed x.event w ∷ []) (next (events ++ (as_event x ∷ [])))
  by-accept Accepted h = refl
  by-accept Rejected h = absurd (false≢true h)
  by-accept Held h = absurd (false≢true h)

  by-reject : (v : Verdict) → is_accepted v ≡ false → is_held v ≡ false
      → drain_by (verdict_of v) w (slot_of x) s events rest next ≡ after (rule.voted x.transaction x.filed x.event w ∷ []) (next events)
  by-reject Accepted h k = absurd (true≢false h)
  by-reject Rejected h k = refl
  by-reject Held h k = absurd (true≢false k)

  by-hold : (v : Verdict) → is_held v ≡ true → drain_by (verdict_of v) w (slot_of x) s events rest next ≡ still s events (slot_of x ∷ rest)
  by-hold Accepted h = absurd (false≢true h)
  by-hold Rejected h = absurd (false≢true h)
  by-hold Held h = refl

accepts : (v : Verdict) → is_accepted v ≡ true → verdict_of v ≡ rule.accept
accepts Accepted h = refl
accepts Rejected h = absurd (false≢true h)
accepts Held h = absurd (false≢true h)

module _ (R : rule.Rule State Event ℕ) (start : RuleAccount) (written : List RuleEntry) (row : List Slot) (count : ℕ) where
  -- on the way: so many requests were voted on; once one stayed held those behind it stay
  pub record Draining (now : List Slot) (events : List RuleSlot) (entries : Entries) (voted at : ℕ) : Type 0 where
    pub written' : List RuleEntry
    pub progress : now ≡ padded places events
    pub list : entries ≡ entries_of written'
    pub guards : guarded R start.state [] events ≡ true
    pub decisions : every without_decision (used_from voted count row) ≡ true
    pub same : after written' (drain R start.state events (used_from voted count row)) ≡ after written (drain R start.state start.progress start.held)
    pub stays : voted < at → drain R start.state events (used_from voted count row) ≡ still start.state events (used_from voted count row)

  pub draining-none : (now : List Slot) (entries : Entries) → now ≡ padded places start.progress → entries ≡ entries_of written → guarded R start.state [] start.progress ≡ true
      → every without_decision start.held ≡ true → used_from 0 count row ≡ start.held → Draining now start.progress entries 0 0
  draining-none now entries p e g d h =
      record {
        written' = written;
        progress = p;
        list = e;
        guards = g;
        decisions = rw h d;
        same = rw h;
        stays = λ l. absurd (omega arith);
      }

  -- past the last of them
  pub drained-all : (now : List Slot) (events : List RuleSlot) (entries : Entries) (voted : ℕ) (d : Draining now events entries voted count)
      → taken_as (record { account = listed start.state events (used_from voted count row); entries = d.written' })
      ≡ taken_as (after written (drain R start.state start.progress start.held))
  drained-all now events entries voted d =
      let rest = used_from voted count row in
      ap (λ (es : List RuleEntry). taken_as (record { account = listed start.state events rest; entries = es })) (sym (append-nil d.written'))
      ∙ ap (λ (step : RuleStep). taken_as (after d.written' step)) (sym ends)
      ∙ ap taken_as d.same
    where
      ends : drain R start.state events (used_from voted count row) ≡ still start.state events (used_from voted count row)
      ends = go (ltb voted count) refl
        where
          go : (b : Bool) → ltb voted count ≡ b → drain R start.state events (used_from voted count row) ≡ still start.state events (used_from voted count row)
          go true k = d.stays (ltb-true voted count k)
          go false k = rw (used-end voted count row (omega (arith, ltb-false voted count k)))

  -- the request at the place that is reached, where all before it were voted on
  module _ (now : List Slot) (events : List RuleSlot) (entries : Entries) (at : ℕ) (d : Draining now events entries at at) (below : at < count) (within : count ≤ length row)
      (w : Weighing) (decided : weighing_of w ≡ decide R (get_or row at blank).event start.state events) where
    abbrev here : Slot
    here = get_or row at blank

    abbrev behind : List RuleSlot
    behind = used_from (at + 1) count row

    drain-by : drain R start.state events (used_from at count row)
        ≡ drain_by (verdict_of w.verdict) (weighing_of w) (slot_of here) start.state events behind (λ (ps : List RuleSlot). drain R start.state ps behind)
    drain-by = rw (used-next at count row below within, ← decided)

    undecided-here : slot_of here ≡ as_event here
    undecided-here =
        no-decision here.transaction here.filed here.event here.decision
        (and_left (without_decision (slot_of here)) (every without_decision behind) (rw (used-next at count row below within) at d.decisions))

    decisions-behind : every without_decision behind ≡ true
    decisions-behind = and_right (without_decision (slot_of here)) (every without_decision behind) (rw (used-next at count row below within) at d.decisions)

    -- after a vote
    voted-same : (events' : List RuleSlot) → drain R start.state events (used_from at count row) ≡ after (vote_on here w ∷ []) (drain R start.state events' behind)
        → after (d.written' ++ (vote_on here w ∷ [])) (drain R start.state events' behind) ≡ after written (drain R start.state start.progress start.held)
    voted-same events' e = after-after d.written' (vote_on here w ∷ []) (drain R start.state events' behind) ∙ ap (after d.written') (sym e) ∙ d.same

    module _ (entry : Entry) (is : entry ≡ entry_of (vote_on here w)) (room : entries.count < most) where
      abbrev more : Entries
      more = record { at = set entries.at entries.count entry; count = entries.count + 1 }

      pub drained-accept : length events < places → is_accepted w.verdict ≡ true → Draining (set now (length events) here) (events ++ (as_event here ∷ [])) more (at + 1) (at + 1)
      drained-accept free v =
          let place : set now (length events) here ≡ padded places (events ++ (as_event here ∷ [])) =
          ap (λ (l : List Slot). set l (length events) here) d.progress
          ∙ ap (set (padded places events) (length events)) (sym (place-slot here))
          ∙ ap (λ (z : RuleSlot). set (padded places events) (length events) (place_of z)) undecided-here
          ∙ fill-next place_of blank places events (as_event here) free
          in
          let holds = (decide-accept R here.event start.state events (ap (λ (z : rule.Weighing). z.verdict) (sym decided) ∙ accepts w.verdict v)).1 in
          let safe = guarded-safe R start.state [] events tt d.guards in
          record {
            written' = d.written' ++ (vote_on here w ∷ []);
            progress = place;
            list = entries_with entries entry d.written' (vote_on here w) room d.list is;
            guards =
                safe-guarded R start.state [] (events ++ (as_event here ∷ []))
                (safe-accept R here.transaction here.filed here.event rule.undecided events start.state safe (every_way R (rule.guard R here.event) events start.state holds));
            decisions = decisions-behind;
            same =
                voted-same (events ++ (as_event here ∷ []))
                (drain-by ∙ by-accept here (weighing_of w) start.state events behind (λ (ps : List RuleSlot). drain R start.state ps behind) w.verdict v);
            stays = λ l. absurd (omega arith);
          }

      pub drained-reject : is_accepted w.verdict ≡ false → is_held w.verdict ≡ false → Draining now events more (at + 1) (at + 1)
      drained-reject v h =
          record {
            written' = d.written' ++ (vote_on here w ∷ []);
            progress = d.progress;
            list = entries_with entries entry d.written' (vote_on here w) room d.list is;
            guards = d.guards;
            decisions = decisions-behind;
            same = voted-same events (drain-by ∙ by-reject here (weighing_of w) start.state events behind (λ (ps : List RuleSlot). drain R start.state ps behind) w.verdict v h);
            stays = λ l. absurd (omega arith);
          }

    drain-stays : is_held w.verdict ≡ true → drain R start.state events (used_from at count row) ≡ still start.state events (used_from at count row)
    drain-stays h = drain-by ∙ by-hold here (weighing_of w) start.state events behind (λ (ps : List RuleSlot). drain R start.state ps behind) w.verdict h ∙ sym (ap (still start.state events) (used-next at count row below within))

  -- where one stayed held, or stays now
  pub drained-stays : (now : List Slot) (events : List RuleSlot) (entries : Entries) (voted at : ℕ) → Draining now events entries voted at → voted ≤ at → at < count → count ≤ length row
      → (w : Weighing) → weighing_of w ≡ decide R (get_or row at blank).event start.state events → (eqb at voted && not (is_held w.verdict)) ≡ false
      → Draining now events entries voted (at + 1)
  drained-stays now events entries voted at d older below within w decided h =
      record {
        written' = d.written';
        progress = d.progress;
        list = d.list;
        guards = d.guards;
        decisions = d.decisions;
        same = d.same;
        stays = λ l. by (eqb at voted) refl h;
      }
    where
      by : (b : Bool) → eqb at voted ≡ b → (b && not (is_held w.verdict)) ≡ false
          → drain R start.state events (used_from voted count row) ≡ still start.state events (used_from voted count row)
      by true k n =
          let e = eqb-true at voted k in
          rw e at (drain-stays now events entries at (rw (← e) at d) below within w decided (not-false (is_held w.verdict) n))
      by false k n = d.stays (omega (arith, eqb-false at voted k))
