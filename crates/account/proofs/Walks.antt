-- The way of the outcome question, an event at a time, and its end: what is left of the number is 0 exactly if the number is below 2 to the power u,
-- since each undecided event takes a bit off it. Then the ones of the number are the undecided events applied.
-- Assumes nothing.
use Prim.Native.Nat.{ℕ, suc, ◌+◌, ◌*◌, ◌/◌, ◌%◌, ◌^◌, ◌<◌, ◌≤◌}
use mathlib.Core.Path.{◌≡◌, refl, sym, ◌∙◌, ap}
use mathlib.Core.Bool.{Bool, true, false, cond}
use mathlib.Core.List.{List, ◌∷◌}
use native.Mathlib.Omega.{arith}
use native.Mathlib.Nat.{div-lt_iff_lt-mul, le-div_iff_mul-le}
use lib.Dec.{eqb}
use lib.Count.{ones}
use lib.ListN.{length, get_or}
use lib.Pow.{pow_pos, shr-shr}
use borrow.Author.Tests.{lt-ltb, le-ltb}
use Rattle.std.specs.Prelude.{Ok, Err}
use Rattle.rule.specs.Rule as rule
use Rattle.rule.specs.Outcome.{undecided_of, outcome}
use Rattle.rule.proofs.Exact.{applied-ones}
use Rattle.events.specs.declared.Event.{Event}
use Rattle.events.specs.declared.State.{State}
use Rattle.filing.specs.declared.Decision.{Decision}
use Rattle.filing.specs.declared.Decision.TheVariants.{Undecided, Committed}
use Rattle.filing.specs.declared.Filed.{Filed}
use Rattle.filing.specs.declared.Slot.{Slot}
use Rattle.filing.specs.Slots.{RuleSlot, is_undecided, decision_of, blank}
use Rattle.refusal.specs.declared.Refusal.TheVariants.{NotInOrder, NoSuchOutcome}
use Rattle.account.specs.declared.Account.{Account}
use Rattle.account.specs.declared.question.Reached.{Reached}
use Rattle.account.specs.Places.{used, lists_of}
use Rattle.account.specs.InOrder.{in_order_by}
use Rattle.account.specs.Steps.{outlook_by}
use Rattle.account.specs.inside.Reached.{reached, followed_by, reached_past}
use Rattle.account.proofs.Slices.{used_from, used-end, used-next}

half : (n u : ℕ) → n / 2 / 2 ^ u ≡ n / 2 ^ suc u
half n u = let e : 1 + u ≡ suc u = omega arith in shr-shr n 1 u ∙ ap (λ (k : ℕ). n / 2 ^ k) e

module _ (R : rule.Rule State Event ℕ) (r : Reached) (t : ℕ) (g : Filed) (e : Event) (xs : List RuleSlot) where
  abbrev way : Bool → Reached
  way b = cond b (reached (R.effect e r.state) (r.left / 2)) (reached r.state (r.left / 2))

  undecided-way : (b : Bool) → reached_past R xs (way b).left (way b).state ≡ reached (outcome R xs (r.left / 2) (cond b (R.effect e r.state) r.state)) (r.left / 2 ^ suc (undecided_of xs))
  unfolding reached_past
  undecided-way true = ap (reached (outcome R xs (r.left / 2) (R.effect e r.state))) (half r.left (undecided_of xs))
  undecided-way false = ap (reached (outcome R xs (r.left / 2) r.state)) (half r.left (undecided_of xs))

  abbrev along : Decision → Reached
  along d = cond (is_undecided d) (way (eqb (r.left % 2) 1)) (reached (R.effect e r.state) r.left)

  step : (d : Decision) → reached_past R xs (along d).left (along d).state ≡ reached_past R (rule.slot t g e (decision_of d) ∷ xs) r.left r.state
  step Undecided = undecided-way (eqb (r.left % 2) 1) ∙ (unfold reached_past in refl)
  step Committed = unfold reached_past in refl

module _ (R : rule.Rule State Event ℕ) (r : Reached) (count : ℕ) (row : List Slot) (at : ℕ) where
  -- one event further on the way
  pub reached-next : at < count → count ≤ length row
      → reached_past R (used_from (at + 1) count row) (followed_by R r (get_or row at blank)).left (followed_by R r (get_or row at blank)).state ≡ reached_past R (used_from at count row) r.left r.state
  unfolding followed_by
  reached-next h k =
      let x = get_or row at blank in
      step R r x.transaction x.filed x.event (used_from (at + 1) count row) x.decision
      ∙ ap (λ (l : List RuleSlot). reached_past R l r.left r.state) (sym (used-next at count row h k))

  -- the end of the way
  pub reached-end : count ≤ at → r ≡ reached_past R (used_from at count row) r.left r.state
  unfolding reached_past
  reached-end h =
      let whole : r.left ≡ r.left / 1 = omega arith in
      rw (used-end at count row h) (ap (reached r.state) whole)

-- what is left is 0 exactly if the number is below 2 to the power u
below : (n u : ℕ) → n / 2 ^ u ≡ 0 → n < 2 ^ u
below n u h = let less : n < 1 * 2 ^ u = (div-lt_iff_lt-mul (pow_pos u)).0 (omega arith) in omega arith

above : (n u : ℕ) → 0 < n / 2 ^ u → 2 ^ u ≤ n
above n u h = let enough : 1 * 2 ^ u ≤ n = (le-div_iff_mul-le (pow_pos u)).0 h in omega arith

module _ (R : rule.Rule State Event ℕ) (a : Account) (n : ℕ) where
  -- 5: the account is not in order
  pub outlook-order : in_order_by R a ≡ false → Err NotInOrder ≡ outlook_by R a n
  unfolding outlook_by
  outlook-order h = rw h

  module _ (h : in_order_by R a ≡ true) where
    abbrev xs : List RuleSlot
    xs = used a.progress a.progressing

    -- 12: there is no outcome of that number
    pub outlook-none : 0 < (reached_past R xs n a.state).left → Err NoSuchOutcome ≡ outlook_by R a n
    unfolding outlook_by lists_of reached_past
    outlook-none k = rw (h, le-ltb n (2 ^ undecided_of xs) (above n (undecided_of xs) k))

    pub outlook-there : (reached_past R xs n a.state).left ≡ 0 → Ok (record { state = (reached_past R xs n a.state).state; applied = ones n }) ≡ outlook_by R a n
    unfolding outlook_by lists_of reached_past
    outlook-there k =
        let less = below n (undecided_of xs) k in
        rw (h, lt-ltb n (2 ^ undecided_of xs) less, applied-ones xs n less)
