-- On the way through the events in progress, place by place, as the account is then: of the events gone through the oldest are applied and the others stay, and the rest of the way leads where the whole way does. By any rule of the events.
-- Assumes nothing.
use Prim.Native.Nat.{ℕ, ◌+◌, ◌-◌, ◌≤◌, ◌<◌}
use mathlib.Core.Path.{◌≡◌, refl, sym, ap, ◌∙◌}
use mathlib.Core.Bool.{true, false, ◌&&◌, not}
use mathlib.Core.List.{List, [], ◌∷◌}
use native.Mathlib.Omega.{arith}
use lib.Dec.{eqb}
use lib.ListN.{length, get_or, set}
use borrow.Author.Tests.{eqb-true, lt-ltb}
use Rattle.rule.specs.Rule.{Rule}
use Rattle.rule.specs.Step.{after, settle}
use Rattle.rule.specs.InOrder.{guarded}
use Rattle.rule.proofs.Lists.{and_left}
use Rattle.events.specs.declared.Event.{Event}
use Rattle.events.specs.declared.State.{State}
use Rattle.filing.specs.declared.Entry.{Entry}
use Rattle.filing.specs.declared.Entries.{Entries}
use Rattle.filing.specs.Slots.{RuleSlot, is_undecided, places, blank}
use Rattle.filing.specs.Entries.{RuleEntry, entry_of, entries_of, only_entry, most, pushed}
use Rattle.account.specs.declared.Account.{Account}
use Rattle.account.specs.inside.Taken.{taken_as, listed, SettlesBy, DrainsBy}
use Rattle.account.proofs.Padded.{progress-row, held-row, state-is, account-is}
use Rattle.account.proofs.Slices.{used_from, used-length}
use Rattle.account.proofs.MovedUp.{MovedUp, up_none, up-here, up-gone, up_kept, up-all}
use Rattle.account.proofs.Settled.{application_of, Settling, settling-none, settled-apply, settled-stays, settled-all}

module _ (R : Rule State Event ℕ) where
  pub record Applying (self : Account) (entries₀ : Entries) (next : Account) (entries : Entries) (ended at : ℕ) : Type 0 where
    pub within : (at ≤ self.progressing) × (self.progressing ≤ places) × (places ≤ length self.progress)
    pub counts : (ended ≤ at) × (entries.count ≡ entries₀.count + ended) × (entries₀.count ≡ 1)
    pub held : next.held ≡ self.held
    pub holding : next.holding ≡ self.holding
    pub progressing : next.progressing ≡ self.progressing
    pub progress : MovedUp self.progress next.progress ended at
    pub leads : (s : State) (held : List RuleSlot) (written : List RuleEntry) → self.state ≡ s → entries₀ ≡ entries_of written → guarded R s [] (used_from 0 self.progressing self.progress) ≡ true
        → Settling R s held written self.progress self.progressing next.state entries ended at

  -- none gone through yet
  pub applying-none : (self : Account) (entries : Entries) → self.progressing ≤ places → places ≤ length self.progress → entries.count ≡ 1 → Applying self entries self entries 0 0
  applying-none self entries few many one =
      record {
        within = omega arith;
        counts = omega arith;
        held = refl;
        holding = refl;
        progressing = refl;
        progress = up_none self.progress;
        leads = λ s held written same e g. rw same (settling-none R s held written self.progress self.progressing entries e g);
      }

  module _ (self : Account) (entries₀ : Entries) (next : Account) (entries : Entries) (ended at : ℕ) (so_far : Applying self entries₀ next entries ended at)
      (below : at < self.progressing) where
    inside : at < length self.progress
    inside = omega (arith, so_far.within)

    here : get_or next.progress at blank ≡ get_or self.progress at blank
    here = up-here self.progress next.progress ended at so_far.progress inside so_far.counts.0

    -- one that stays, as those behind it do
    pub applying-stays : (eqb at ended && not (is_undecided (get_or next.progress at blank).decision)) ≡ false
        → Applying self entries₀
        (record {
          state = next.state;
          progress = set (set next.progress at blank) (at - ended) (get_or next.progress at blank);
          progressing = next.progressing;
          held = next.held;
          holding = next.holding;
        })
        entries ended (at + 1)
    applying-stays h =
        record {
          within = omega (arith, so_far.within);
          counts = omega (arith, so_far.counts);
          held = so_far.held;
          holding = so_far.holding;
          progressing = so_far.progressing;
          progress = up_kept self.progress next.progress ended at so_far.progress inside so_far.counts.0;
          leads =
              λ s held written same e g.
              settled-stays R s held written self.progress self.progressing next.state entries ended at (so_far.leads s held written same e g) so_far.counts.0 below (omega (arith, so_far.within)) (rw here at h);
        }

    -- one that is applied, with all before it
    pub applying-next : (entry : Entry) → entry ≡ entry_of (application_of R next.state (get_or next.progress at blank))
        → (eqb at ended && not (is_undecided (get_or next.progress at blank).decision)) ≡ true
        → Applying self entries₀
        (record {
          state = R.effect (get_or next.progress at blank).event next.state;
          progress = set next.progress at blank;
          progressing = next.progressing;
          held = next.held;
          holding = next.holding;
        })
        (pushed entries entry)
        (ended + 1) (at + 1)
    applying-next entry is first =
        let same = eqb-true at ended (and_left (eqb at ended) (not (is_undecided (get_or next.progress at blank).decision)) first) in
        record {
          within = omega (arith, so_far.within);
          counts = rw (lt-ltb entries.count most (omega (arith, so_far.counts, so_far.within))) (omega (arith, so_far.counts));
          held = so_far.held;
          holding = so_far.holding;
          progressing = so_far.progressing;
          progress = up-gone self.progress next.progress ended at so_far.progress inside so_far.counts.0 same;
          leads =
              λ s held written start e g.
              rw (lt-ltb entries.count most (omega (arith, so_far.counts, so_far.within)), here)
              (settled-apply R s held written self.progress self.progressing next.state entries ended at (so_far.leads s held written start e g) so_far.counts.0 below (omega (arith, so_far.within)) entry (rw here at is) (omega (arith, so_far.counts, so_far.within)) (rw here at first));
        }

  -- past the last of them the requests held are looked at
  pub applying-all : (self : Account) (first : Entry) (entries₀ : Entries) (next : Account) (entries : Entries) (ended at : ℕ)
      → Applying self entries₀ next entries ended at → self.progressing ≤ at → entries₀ ≡ only_entry first
      → (rest : Account) (written : Entries)
      → DrainsBy R
      (record {
        state = next.state;
        progress = next.progress;
        progressing = next.progressing - ended;
        held = next.held;
        holding = next.holding;
      })
      entries rest written
      → SettlesBy R self first rest written
  unfolding entries_of
  applying-all self first entries₀ next entries ended at so_far end only left written drains x own lists decisions is g =
      let last : at ≡ self.progressing = omega (arith, so_far.within) in
      let events = progress-row self x lists in
      let requests = held-row self x lists in
      let rest = used_from ended self.progressing self.progress in
      let size = used-length ended self.progressing self.progress (omega (arith, so_far.within)) in
      let d = rw last at (so_far.leads x.state x.held (own ∷ []) (state-is self x lists) (only ∙ ap only_entry is) (rw events.list g)) in
      let up = up-all self.progress next.progress ended self.progressing (rw last at so_far.progress) (omega (arith, so_far.within)) (omega (arith, so_far.within)) events.blanks in
      drains (listed next.state rest x.held) d.written'
      (account-is _ (listed next.state rest x.held) refl up (ap (λ (n : ℕ). n - ended) so_far.progressing ∙ sym size) (so_far.held ∙ requests.places') (so_far.holding ∙ requests.count'))
      decisions d.list d.guards
      ∙ ap taken_as (settled-all R x.state x.held (own ∷ []) self.progress self.progressing next.state entries ended d ∙ ap (λ (l : List RuleSlot). after (own ∷ []) (settle R x.state l x.held)) events.list)
