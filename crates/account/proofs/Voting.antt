-- On the way through the requests held, place by place, as the account is then: of the requests gone through the first are voted on and the others stay,
-- what is known of the outcomes is of the events in progress then, and the rest of the way leads where the whole way does. By any rule of the events.
-- Assumes nothing.
use Prim.Native.Nat.{ℕ, ◌+◌, ◌-◌, ◌≤◌, ◌<◌}
use mathlib.Core.Path.{◌≡◌, refl, sym, ap, ◌∙◌}
use mathlib.Core.Bool.{true, false, ◌&&◌, not}
use mathlib.Core.List.{List, [], ◌∷◌, ◌++◌, append-nil}
use native.Mathlib.Omega.{arith}
use lib.Dec.{eqb}
use lib.ListN.{length, get_or, set, length-append}
use borrow.Author.Tests.{eqb-true, not-true, lt-ltb}
use Rattle.rule.specs.Lists.{every}
use Rattle.rule.specs.Rule as rule
use Rattle.rule.specs.Weigh.{decide}
use Rattle.rule.specs.Step.{after, drain}
use Rattle.rule.specs.InOrder.{without_decision, guarded}
use Rattle.rule.proofs.Lists.{and_left, and_right}
use Rattle.events.specs.declared.Event.{Event}
use Rattle.events.specs.declared.State.{State}
use Rattle.filing.specs.declared.Filed.{Filed}
use Rattle.filing.specs.declared.Weighing.{Weighing}
use Rattle.filing.specs.declared.Entry.{Entry}
use Rattle.filing.specs.declared.Entries.{Entries}
use Rattle.filing.specs.Slots.{RuleSlot, places, blank}
use Rattle.filing.specs.Entries.{RuleEntry, is_accepted, is_held, weighing_of, entry_of, entries_of, most, pushed}
use Rattle.account.specs.declared.Account.{Account}
use Rattle.account.specs.declared.outcomes.Outcomes.{Outcomes}
use Rattle.account.specs.Places.{RuleAccount, used, account_of}
use Rattle.account.specs.inside.Taken.{taken_as, listed, DrainsBy}
use Rattle.account.specs.inside.Known.{KnowsBy, DecidesBy}
use Rattle.account.proofs.Ranged.{Ranged}
use Rattle.account.proofs.Places.{count-used}
use Rattle.account.proofs.Padded.{progress-row, held-row, state-is, account-is}
use Rattle.account.proofs.Slices.{used_from, used-length}
use Rattle.account.proofs.Taken.{taken_is}
use Rattle.account.proofs.MovedUp.{MovedUp, up_none, up-here, up-gone, up_kept, up-all}
use Rattle.account.proofs.Drained.{as_event, vote_on, Draining, draining-none, drained-accept, drained-reject, drained-stays, drained-all}

module _ (R : rule.Rule State Event ℕ) where
  pub record Voting (self : Account) (entries₀ : Entries) (next : Account) (entries : Entries) (outcomes : Outcomes) (voted at : ℕ) : Type 0 where
    pub within : (at ≤ self.holding) × (self.holding ≤ places) × (places ≤ length self.held)
    pub counts : (voted ≤ at) × (next.progressing ≤ places) × (entries.count ≡ entries₀.count + voted) × (entries₀.count + self.holding ≤ most)
    pub state : next.state ≡ self.state
    pub holding : next.holding ≡ self.holding
    pub held : MovedUp self.held next.held voted at
    pub events : List RuleSlot
    pub number : length events ≡ next.progressing
    pub knows : KnowsBy R self.state events outcomes
    pub leads : (x : RuleAccount) (written : List RuleEntry) → self ≡ account_of x → every without_decision x.held ≡ true → entries₀ ≡ entries_of written
        → guarded R x.state [] x.progress ≡ true → Draining R x written self.held self.holding next.progress events entries voted at

  module _ (self : Account) (entries₀ : Entries) (next : Account) (entries : Entries) (outcomes : Outcomes) (voted at : ℕ) (so_far : Voting self entries₀ next entries outcomes voted at)
      (below : at < self.holding) (w : Weighing) (decides : DecidesBy R [] (get_or next.held at blank).event next.progressing outcomes w) where
    inside : at < length self.held
    inside = omega (arith, so_far.within)

    here : get_or next.held at blank ≡ get_or self.held at blank
    here = up-here self.held next.held voted at so_far.held inside so_far.counts.0

    -- the weighing is the rule's
    decided : (x : RuleAccount) → self ≡ account_of x → guarded R x.state [] so_far.events ≡ true
        → weighing_of w ≡ decide R (get_or self.held at blank).event x.state so_far.events
    decided x lists g =
        let s = state-is self x lists in
        let sure : outcomes.guarded ≡ true = so_far.knows.guards ∙ ap (λ (z : State). guarded R z [] so_far.events) s ∙ g in
        rw (← here, ← s) (decides.decided self.state so_far.events so_far.knows sure so_far.number)

    -- one that stays, as those behind it do
    pub voting-stays : (eqb at voted && not (is_held w.verdict)) ≡ false
        → Voting self entries₀
        (record {
          state = next.state;
          progress = next.progress;
          progressing = next.progressing;
          held = set (set next.held at blank) (at - voted) (get_or next.held at blank);
          holding = next.holding;
        })
        entries outcomes voted (at + 1)
    voting-stays h =
        record {
          within = omega (arith, so_far.within);
          counts = omega (arith, so_far.counts);
          state = so_far.state;
          holding = so_far.holding;
          held = up_kept self.held next.held voted at so_far.held inside so_far.counts.0;
          events = so_far.events;
          number = so_far.number;
          knows = so_far.knows;
          leads =
              λ x written lists decisions e g.
              let d = so_far.leads x written lists decisions e g in
              drained-stays R x written self.held self.holding next.progress so_far.events entries voted at d so_far.counts.0 below (omega (arith, so_far.within)) w (decided x lists d.guards) h;
        }

    -- one that is voted on, with all before it
    module _ (entry : Entry) (is : entry ≡ entry_of (vote_on (get_or next.held at blank) w)) (first : (eqb at voted && not (is_held w.verdict)) ≡ true) where
      same : at ≡ voted
      same = eqb-true at voted (and_left (eqb at voted) (not (is_held w.verdict)) first)

      room : entries.count < most
      room = omega (arith, so_far.counts, so_far.within)

      pub voting-accept : Ranged R → (outcomes' : Outcomes) → is_accepted w.verdict ≡ true
          → ((s : State) (xs : List RuleSlot) (t : ℕ) (g : Filed) → KnowsBy R s xs outcomes → KnowsBy R s (xs ++ (rule.slot t g (get_or next.held at blank).event rule.undecided ∷ [])) outcomes')
          → Voting self entries₀
          (record {
            state = next.state;
            progress = set next.progress next.progressing (get_or next.held at blank);
            progressing = next.progressing + 1;
            held = set next.held at blank;
            holding = next.holding;
          })
          (pushed entries entry) outcomes' (voted + 1) (at + 1)
      voting-accept ranged outcomes' v known =
          let x = get_or self.held at blank in
          let x' = get_or next.held at blank in
          let free : next.progressing < places = omega (arith, decides.free v, ranged.few) in
          record {
            within = omega (arith, so_far.within);
            counts = rw (lt-ltb entries.count most room) (omega (arith, so_far.counts));
            state = so_far.state;
            holding = so_far.holding;
            held = up-gone self.held next.held voted at so_far.held inside so_far.counts.0 same;
            events = so_far.events ++ (as_event x ∷ []);
            number = length-append so_far.events (as_event x ∷ []) ∙ ap (λ (n : ℕ). n + 1) so_far.number;
            knows = rw here at (known self.state so_far.events x'.transaction x'.filed so_far.knows);
            leads =
                λ y written lists decisions e g.
                let d = rw (← same) at (so_far.leads y written lists decisions e g) in
                rw (lt-ltb entries.count most room, here, ← so_far.number, ← same)
                (drained-accept R y written self.held self.holding next.progress so_far.events entries at d below (omega (arith, so_far.within)) w (decided y lists d.guards) entry (rw here at is) room (omega (arith, so_far.number)) v);
          }

      pub voting-reject : is_accepted w.verdict ≡ false
          → Voting self entries₀
          (record {
            state = next.state;
            progress = next.progress;
            progressing = next.progressing;
            held = set next.held at blank;
            holding = next.holding;
          })
          (pushed entries entry) outcomes (voted + 1) (at + 1)
      voting-reject v =
          record {
            within = omega (arith, so_far.within);
            counts = rw (lt-ltb entries.count most room) (omega (arith, so_far.counts));
            state = so_far.state;
            holding = so_far.holding;
            held = up-gone self.held next.held voted at so_far.held inside so_far.counts.0 same;
            events = so_far.events;
            number = so_far.number;
            knows = so_far.knows;
            leads =
                λ y written lists decisions e g.
                let d = rw (← same) at (so_far.leads y written lists decisions e g) in
                rw (lt-ltb entries.count most room, ← same)
                (drained-reject R y written self.held self.holding next.progress so_far.events entries at d below (omega (arith, so_far.within)) w (decided y lists d.guards) entry (rw here at is) room v (not-true (is_held w.verdict) (and_right (eqb at voted) (not (is_held w.verdict)) first)));
          }

  -- none gone through yet
  pub voting-none : (self : Account) (entries : Entries) (outcomes : Outcomes) → self.progressing ≤ places → places ≤ length self.progress → self.holding ≤ places → places ≤ length self.held → entries.count + self.holding ≤ most
      → KnowsBy R self.state (used self.progress self.progressing) outcomes → Voting self entries self entries outcomes 0 0
  voting-none self entries outcomes few many few_held many_held room known =
      record {
        within = omega arith;
        counts = omega arith;
        state = refl;
        holding = refl;
        held = up_none self.held;
        events = used self.progress self.progressing;
        number = count-used self.progress self.progressing (omega arith);
        knows = known;
        leads =
            λ x written lists decisions e g.
            let events = progress-row self x lists in
            rw events.list
            (draining-none R x written self.held self.holding self.progress entries events.places' e g decisions (held-row self x lists).list);
      }

  -- past the last of them
  pub voting-all : (self : Account) (entries₀ : Entries) (next : Account) (entries : Entries) (outcomes : Outcomes) (voted at : ℕ) → Voting self entries₀ next entries outcomes voted at → self.holding ≤ at
      → DrainsBy R self entries₀
      (record {
        state = next.state;
        progress = next.progress;
        progressing = next.progressing;
        held = next.held;
        holding = next.holding - voted;
      })
      entries
  voting-all self entries₀ next entries outcomes voted at so_far end x written lists decisions e g =
      let last : at ≡ self.holding = omega (arith, so_far.within) in
      let d = rw last at (so_far.leads x written lists decisions e g) in
      let rest = used_from voted self.holding self.held in
      let size = used-length voted self.holding self.held (omega (arith, so_far.within)) in
      let events = so_far.events in
      let row = up-all self.held next.held voted self.holding (rw last at so_far.held) (omega (arith, so_far.within)) (omega (arith, so_far.within)) (held-row self x lists).blanks in
      taken_is _ entries (listed x.state events rest) d.written'
      (account-is _ (listed x.state events rest) (so_far.state ∙ state-is self x lists) d.progress (sym so_far.number) row (ap (λ (n : ℕ). n - voted) so_far.holding ∙ sym size))
      d.list
      ∙ drained-all R x written self.held self.holding next.progress events entries voted d

  -- where there are none
  pub drained-idle : (self : Account) (entries : Entries) → self.holding ≡ 0 → DrainsBy R self entries self entries
  drained-idle self entries none x written lists decisions e g =
      let requests = held-row self x lists in
      taken_is self entries x written lists e ∙ idle x.held (sym requests.count' ∙ none)
    where
      idle : (held : List RuleSlot) → length held ≡ 0
          → taken_as (record { account = listed x.state x.progress held; entries = written }) ≡ taken_as (after written (drain R x.state x.progress held))
      idle [] h = ap (λ (es : List RuleEntry). taken_as (record { account = listed x.state x.progress []; entries = es })) (sym (append-nil written))
      idle (z ∷ held) h = absurd (omega arith)
