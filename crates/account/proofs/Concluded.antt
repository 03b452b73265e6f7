-- The tests that judging makes, in its order, are those of an account in order. By any rule of the events.
-- Assumes nothing.
use Prim.Native.Nat.{ℕ, ◌≤◌}
use mathlib.Core.Path.{◌≡◌, refl, sym, ap, ap₂, ◌∙◌}
use mathlib.Core.Bool.{Bool, true, false, ◌&&◌, ◌||◌, false≢true}
use mathlib.Core.List.{List, [], ◌∷◌, ◌++◌, map}
use lib.Dec.{leb, ltb}
use native.Mathlib.Omega.{arith}
use lib.ListN.{length, take, drop, length-map, length-take}
use borrow.Author.Tests.{le-leb, le-ltb}
use Rattle.std.specs.List.{list_all}
use Rattle.rule.specs.Lists.{every}
use Rattle.rule.specs.Rule as rule
use Rattle.rule.specs.InOrder as rule-order
use Rattle.rule.proofs.Lists.{or-neither}
use Rattle.events.specs.declared.Event.{Event}
use Rattle.events.specs.declared.State.{State}
use Rattle.filing.specs.declared.Decision.{Decision}
use Rattle.filing.specs.declared.Decision.TheVariants.{Undecided, Committed}
use Rattle.filing.specs.declared.Filed.{Filed}
use Rattle.filing.specs.declared.Slot.{Slot}
use Rattle.filing.specs.Slots.{is_blank, is_undecided, decision_of, slot_of}
use Rattle.account.specs.declared.Account.{Account}
use Rattle.account.specs.Places.{lists_of}
use Rattle.account.specs.InOrder.{in_order_by}
use Rattle.account.proofs.Clauses.{clauses}

all-every : {A : Type 0} (p : A → Bool) (xs : List A) → list_all p xs ≡ every p xs
all-every p [] = refl
all-every p (x ∷ xs) = ap (λ (b : Bool). p x && b) (all-every p xs)

-- a test of the rule's slot is one of the place's own decision
no-decision : (d : Decision) (t : ℕ) (g : Filed) (e : Event) → is_undecided d ≡ rule-order.without_decision (rule.slot t g e (decision_of d))
no-decision Undecided t g e = refl
no-decision Committed t g e = refl

undecided-every : (xs : List Slot) → list_all (λ (x : Slot). is_undecided x.decision) xs ≡ every rule-order.without_decision (map slot_of xs)
undecided-every [] = refl
undecided-every (x ∷ xs) = ap₂ (λ (b c : Bool). b && c) (no-decision x.decision x.transaction x.filed x.event) (undecided-every xs)

-- tests behind two others, and the last where it counts
and-false : (b : Bool) → (b && false) ≡ false
and-false true = refl
and-false false = refl

nested : (b c d e f g h : Bool) → (b && c && d && e && f && g && h) ≡ (b && (c && d && e && f && g && h))
nested true c d e f g h = refl
nested false c d e f g h = refl

last-counts : (b g o s s' : Bool) → (g ≡ true → s ≡ s') → (b && g && o && s) ≡ (b && g && o && s')
last-counts b true o s s' h = ap (λ (x : Bool). b && true && o && x) (h refl)
last-counts b false o s s' h = ap (λ (x : Bool). x && o && s) (and-false b) ∙ sym (ap (λ (x : Bool). x && o && s') (and-false b))

false-where-not : (b : Bool) → (b ≡ true → ⊥) → b ≡ false
false-where-not true h = absurd (h refl)
false-where-not false h = refl

module _ (R : rule.Rule State Event ℕ) (a : Account) where
  abbrev events : List Slot
  events = take a.progressing a.progress

  abbrev requests : List Slot
  requests = take a.holding a.held

  -- counts beyond the limits are not in order
  pub beyond : (ltb R.progress_limit a.progressing || ltb R.held_limit a.holding) ≡ true → in_order_by R a ≡ false
  beyond h = false-where-not (in_order_by R a) (λ k. let c = clauses R a k in
      false≢true
      (sym
      (or-neither (ltb R.progress_limit a.progressing) (ltb R.held_limit a.holding) (le-ltb R.progress_limit a.progressing c.progressing) (le-ltb R.held_limit a.holding c.holding))
      ∙ h))

  -- nor are unused places that are not all blank, in progress or of those held
  pub marked-progress : list_all is_blank (drop a.progressing a.progress) ≡ false → in_order_by R a ≡ false
  marked-progress h = false-where-not (in_order_by R a) (λ k. false≢true (sym h ∙ all-every is_blank (drop a.progressing a.progress) ∙ (clauses R a k).blanks))

  pub marked-held : list_all is_blank (drop a.holding a.held) ≡ false → in_order_by R a ≡ false
  marked-held h = false-where-not (in_order_by R a) (λ k. false≢true (sym h ∙ all-every is_blank (drop a.holding a.held) ∙ (clauses R a k).blanks_held))

  within : (row : List Slot) (count most : ℕ) → count ≤ most → leb (length (map slot_of (take count row))) most ≡ true
  within row count most h = le-leb (length (map slot_of (take count row))) most (omega (arith, length-map (take count row) slot_of, length-take count row))

  -- and where they are within, the other tests tell
  pub tests-order : a.progressing ≤ R.progress_limit → a.holding ≤ R.held_limit → (guards stays : Bool)
      → guards ≡ rule-order.guarded R a.state [] (map slot_of events)
      → (guards ≡ true → stays ≡ rule-order.oldest_stays_held R a.state (map slot_of events) (map slot_of requests))
      → (list_all is_blank (drop a.progressing a.progress)
      && list_all is_blank (drop a.holding a.held)
      && R.fits a.state
      && rule-order.apart (map slot_of events ++ map slot_of requests)
      && list_all (λ (x : Slot). is_undecided x.decision) requests
      && guards
      && rule-order.oldest_undecided (map slot_of events)
      && stays)
      ≡ in_order_by R a
  unfolding in_order_by rule-order.is_in_order lists_of
  tests-order few few_held guards stays g s =
      let b = list_all is_blank (drop a.progressing a.progress) && list_all is_blank (drop a.holding a.held) in
      let apart = rule-order.apart (map slot_of events ++ map slot_of requests) in
      let none = list_all (λ (x : Slot). is_undecided x.decision) requests in
      let oldest = rule-order.oldest_undecided (map slot_of events) in
      let held = rule-order.oldest_stays_held R a.state (map slot_of events) (map slot_of requests) in
      last-counts (b && R.fits a.state && apart && none) guards oldest stays held s
      ∙ nested b (R.fits a.state) apart none guards oldest held
      ∙ rw (
        le-leb a.progressing R.progress_limit few,
        le-leb a.holding R.held_limit few_held,
        within a.progress a.progressing R.progress_limit few,
        within a.held a.holding R.held_limit few_held,
        all-every is_blank (drop a.progressing a.progress),
        all-every is_blank (drop a.holding a.held),
        undecided-every requests,
        g,
      ) refl

  -- so that where the unused places are known to be blank, the tests that are left tell
  pub tests-order-blank : a.progressing ≤ R.progress_limit → a.holding ≤ R.held_limit
      → list_all is_blank (drop a.progressing a.progress) ≡ true → list_all is_blank (drop a.holding a.held) ≡ true → (guards stays : Bool)
      → guards ≡ rule-order.guarded R a.state [] (map slot_of events)
      → (guards ≡ true → stays ≡ rule-order.oldest_stays_held R a.state (map slot_of events) (map slot_of requests))
      → (R.fits a.state
      && rule-order.apart (map slot_of events ++ map slot_of requests)
      && list_all (λ (x : Slot). is_undecided x.decision) requests
      && guards
      && rule-order.oldest_undecided (map slot_of events)
      && stays)
      ≡ in_order_by R a
  tests-order-blank few few_held blanks blanks_held guards stays g s = rw (blanks, blanks_held) at (tests-order few few_held guards stays g s)
