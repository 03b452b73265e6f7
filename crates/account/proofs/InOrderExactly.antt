-- In order exactly, on the account's places: each clause of the rule's lists against the same clause of the places, since a list parts wherever its places do; and what follows where a clause is broken. By any rule of the events.
-- Assumes nothing.
use Prim.Native.Nat.{ℕ, ◌≤◌, ◌<◌}
use mathlib.Core.Path.{◌≡◌, refl, sym, ◌∙◌, ap}
use mathlib.Core.Logic.{◌↔◌, inl, inr, ⊎_elim}
use mathlib.Core.Bool.{Bool, true, false, true≢false}
use mathlib.Core.List.{List, [], ◌∷◌, ◌++◌, map}
use native.Mathlib.Omega.{arith}
use lib.ListN.{length, take, length-map, length-take}
use Rattle.rule.specs.Rule as rule
use Rattle.rule.proofs.Lists.{map-append, every-parts, parts-every}
use Rattle.rule.proofs.InOrderExactly.{in-order-exactly}
use Rattle.events.specs.declared.Event.{Event}
use Rattle.events.specs.declared.State.{State}
use Rattle.filing.specs.declared.Decision.{Decision}
use Rattle.filing.specs.declared.Decision.TheVariants.{Undecided, Committed}
use Rattle.filing.specs.declared.Slot.{Slot}
use Rattle.account.specs.declared.Account.{Account}
use Rattle.filing.specs.Slots.{RuleSlot, decision_of, decision_in, slot_of, place_of, is_blank}
use Rattle.filing.proofs.Slots.{slots-places, places-slots, blank-place}
use Rattle.account.specs.Places.{lists_of}
use Rattle.account.specs.InOrder.{in_order_by}
use Rattle.account.specs.InOrderExactly.{events, requests, unused, unused_held, after, many, GuardSomewhere, InOrder, InOrderExactlyBy, BrokenClausesBy}
use Rattle.account.proofs.Clauses.{clauses, clauses-order}

-- a list parts where its image does
parts : {A B : Type 0} (f : A → B) (xs before behind : List A) (x : A) → xs ≡ before ++ (x ∷ behind) → map f xs ≡ map f before ++ (f x ∷ map f behind)
parts f xs before behind x q = ap (map f) q ∙ map-append f before (x ∷ behind)

two-parts : {A B : Type 0} (f : A → B) (xs before between behind : List A) (x y : A) → xs ≡ before ++ (x ∷ (between ++ (y ∷ behind)))
    → map f xs ≡ map f before ++ (f x ∷ (map f between ++ (f y ∷ map f behind)))
two-parts f xs before between behind x y q =
    parts f xs before (between ++ (y ∷ behind)) x q ∙ ap (λ l. map f before ++ (f x ∷ l)) (map-append f between (y ∷ behind))

back : (xs : List Slot) (before behind : List RuleSlot) (x : RuleSlot) → map slot_of xs ≡ before ++ (x ∷ behind) → xs ≡ map place_of before ++ (place_of x ∷ map place_of behind)
back xs before behind x q = sym (places-slots xs) ∙ parts place_of (map slot_of xs) before behind x q

-- undecided, there and back
undecided-place : (d : Decision) → decision_of d ≡ rule.undecided → d ≡ Undecided
undecided-place Undecided h = refl
undecided-place Committed h = let z : ◌≡◌ {A = ℕ} 0 1 = cc in absurd (omega arith)

undecided-slot : (d : rule.Decision) → decision_in d ≡ Undecided → d ≡ rule.undecided
undecided-slot rule.undecided h = refl
undecided-slot rule.committed h = let z : ◌≡◌ {A = ℕ} 0 1 = cc in absurd (omega arith)

few : (n most : ℕ) (places : List Slot) → n ≤ most → length (map slot_of (take n places)) ≤ most
few n most places h = omega (arith, length-map (take n places) slot_of, length-take n places)

-- what is not in order
out : (b : Bool) → (b ≡ true → ⊥) → b ≡ false
out true h = absurd (h refl)
out false h = refl

-- where `Fits` says which states are in order
module _ (R : rule.Rule State Event ℕ) (Fits : State → Type 0) (fits : (s : State) → (R.fits s ≡ true) ↔ Fits s) where
  order-in : (a : Account) → in_order_by R a ≡ true → InOrder R R.progress_limit R.held_limit Fits a
  unfolding lists_of
  order-in a h =
      let c = clauses R a h in
      let k = (in-order-exactly R (lists_of a)).0 c.lists in
      record {
        progressing = c.progressing;
        holding = c.holding;
        state = (fits a.state).0 k.state;
        differ =
            λ before between behind x y q.
            k.differ (map slot_of before) (map slot_of between) (map slot_of behind) _ _ _ _ _ _ _ _
            (sym (map-append slot_of (events a) (requests a)) ∙ two-parts slot_of (events a ++ requests a) before between behind x y q);
        blanks = λ before behind x q. blank-place x (every-parts is_blank before x behind (rw q at c.blanks));
        blanks_held = λ before behind x q. blank-place x (every-parts is_blank before x behind (rw q at c.blanks_held));
        guards = λ before behind x q. k.guards (map slot_of before) (map slot_of behind) _ _ _ _ (parts slot_of (events a) before behind x q);
        oldest = λ behind x q. undecided-place x.decision (k.oldest (map slot_of behind) _ _ _ _ (ap (map slot_of) q));
        undecided_held =
            λ before behind x q. undecided-place x.decision (k.undecided_held (map slot_of before) (map slot_of behind) _ _ _ _ (parts slot_of (requests a) before behind x q));
        stays =
            λ behind x q.
            ⊎_elim (λ l. inl (rw (length-map (events a) slot_of) at l)) (λ r. inr r) (k.stays (map slot_of behind) _ _ _ _ (ap (map slot_of) q));
      }

  in_order : (a : Account) → InOrder R R.progress_limit R.held_limit Fits a → in_order_by R a ≡ true
  unfolding lists_of
  in_order a h =
      clauses-order R a
      (record {
        progressing = h.progressing;
        holding = h.holding;
        blanks = parts-every is_blank (unused a) (λ before x behind q. ap is_blank (h.blanks before behind x q));
        blanks_held = parts-every is_blank (unused_held a) (λ before x behind q. ap is_blank (h.blanks_held before behind x q));
        lists =
            (in-order-exactly R (lists_of a)).1
            (record {
              few = few a.progressing R.progress_limit a.progress h.progressing;
              few_held = few a.holding R.held_limit a.held h.holding;
              state = (fits a.state).1 h.state;
              differ =
                  λ before between behind t t' g g' e e' d d' q.
                  h.differ (map place_of before) (map place_of between) (map place_of behind) (place_of (rule.slot t g e d)) (place_of (rule.slot t' g' e' d'))
                  (sym (places-slots (events a ++ requests a)) ∙ ap (map place_of) (map-append slot_of (events a) (requests a))
                  ∙ two-parts place_of (map slot_of (events a) ++ map slot_of (requests a)) before between behind (rule.slot t g e d) (rule.slot t' g' e' d') q);
              undecided_held =
                  λ before behind t g e d q.
                  undecided-slot d (h.undecided_held (map place_of before) (map place_of behind) (place_of (rule.slot t g e d)) (back (requests a) before behind (rule.slot t g e d) q));
              guards =
                  λ before behind t g e d q.
                  rw (slots-places before) at (h.guards (map place_of before) (map place_of behind) (place_of (rule.slot t g e d)) (back (events a) before behind (rule.slot t g e d) q));
              oldest = λ behind t g e d q. undecided-slot d (h.oldest (map place_of behind) (place_of (rule.slot t g e d)) (back (events a) [] behind (rule.slot t g e d) q));
              stays =
                  λ behind t g e d q.
                  ⊎_elim (λ l. inl (rw (length-map (events a) slot_of) l)) (λ r. inr r) (h.stays (map place_of behind) (place_of (rule.slot t g e d)) (back (requests a) [] behind (rule.slot t g e d) q));
            });
      })

  pub order-exactly : InOrderExactlyBy R R.progress_limit R.held_limit Fits
  order-exactly a = (order-in a, in_order a)

  pub broken-clauses : BrokenClausesBy R R.progress_limit R.held_limit Fits
  broken-clauses a =
      let k = order-in a in
      record {
        progressing = λ l. out (in_order_by R a) (λ h. let z = (k h).progressing in omega arith);
        holding = λ l. out (in_order_by R a) (λ h. let z = (k h).holding in omega arith);
        state = λ e. out (in_order_by R a) (λ h. e (k h).state);
        same = λ before between behind x y q e. out (in_order_by R a) (λ h. (k h).differ before between behind x y q e);
        left =
            λ before behind x q e.
            out (in_order_by R a) (λ h. e (⊎_elim (λ p. (k h).blanks before behind x p) (λ p. (k h).blanks_held before behind x p) q));
        unguarded = λ before behind x q f. out (in_order_by R a) (λ h. true≢false (sym ((k h).guards before behind x q f.0 f.1) ∙ f.2));
        oldest = λ behind x q e. out (in_order_by R a) (λ h. two-decisions (sym ((k h).oldest behind x q) ∙ e));
        decided_held = λ before behind x q e. out (in_order_by R a) (λ h. two-decisions (sym ((k h).undecided_held before behind x q) ∙ e));
        decides = λ b behind x q l f. out (in_order_by R a) (λ h. ⊎_elim (λ full. omega arith) (λ r. split b (events a) x.event f r) ((k h).stays behind x q));
      }
    where
      two-decisions : Undecided ≡ Committed → ⊥
      two-decisions h = let z : ◌≡◌ {A = ℕ} 0 1 = cc in omega arith

      split : (b : Bool) (xs : List Slot) (e : Event) → ((n : ℕ) → n < many xs → rule.guard R e (after R a.state xs n) ≡ b)
          → GuardSomewhere R a.state xs e true × GuardSomewhere R a.state xs e false → ⊥
      split true xs e f r = true≢false (sym (f r.1.0 r.1.1) ∙ r.1.2)
      split false xs e f r = true≢false (sym r.0.2 ∙ f r.0.0 r.0.1)
