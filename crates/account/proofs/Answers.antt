-- What is said of an answer tells the answers apart: by cases.
-- Assumes nothing.
use Prim.Native.Nat.{ℕ}
use mathlib.Core.Path.{◌≡◌, ap, ap₂}
use native.Mathlib.Omega.{arith}
use Rattle.std.specs.Prelude.{Ok, Err}
use Rattle.events.specs.declared.State.{State}
use Rattle.refusal.specs.Numbers.{number_of}
use Rattle.refusal.proofs.Literal.{same-refusal}
use Rattle.account.specs.Steps.{Shown}
use Rattle.account.specs.Answers.{AnswersApart, OutlooksApart}

pub answers-apart : AnswersApart
answers-apart (Err r) (Err s) h k = ap Err (same-refusal r s (let z : number_of r ≡ number_of s = cc in z))
answers-apart (Err r) (Ok y) h k = let z : ◌≡◌ {A = ℕ} 0 1 = cc in absurd (omega arith)
answers-apart (Ok x) (Err s) h k = let z : ◌≡◌ {A = ℕ} 0 1 = cc in absurd (omega arith)
answers-apart (Ok x) (Ok y) h k = ap Ok k

pub outlooks-apart : OutlooksApart
outlooks-apart (Err r) (Err s) h =
    let e = ap (λ (t : Shown). t.refusal) h in
    ap Err (same-refusal r s (let z : number_of r ≡ number_of s = cc in z))
outlooks-apart (Err r) (Ok y) h =
    let e = ap (λ (t : Shown). t.refusal) h in
    let z : ◌≡◌ {A = ℕ} 0 1 = cc in absurd (omega arith)
outlooks-apart (Ok x) (Err s) h =
    let e = ap (λ (t : Shown). t.refusal) h in
    let z : ◌≡◌ {A = ℕ} 0 1 = cc in absurd (omega arith)
outlooks-apart (Ok x) (Ok y) h =
    let e = ap (λ (t : Shown). t.state) h in
    ap₂ (λ (s : State) (n : ℕ). Ok (record { state = s; applied = n })) (let z : x.state ≡ y.state = cc in z) (ap (λ (t : Shown). t.applied) h)
