-- When each refusal of an account's messages is given, both ways, said of the call's answer (docs/REGISTER.md, 10.1).
-- Assumes nothing.
use Rattle.std.specs.Prelude.{ℕ, ◌≤◌, ◌≡◌, ◌↔◌, ◌⊎◌, List, ◌∷◌, ◌++◌, length}
use Rattle.rule.specs.Rule.{Rule, Decision, committed, Slot, slot, Account, Message, request, commit, abort}
use Rattle.rule.specs.Call.{refused, call}

-- a slot of the transaction stands among these, with this decision or with any
abbrev pub StandsAs : {G E : Type 0} → ℕ → Decision → List (Slot G E) → Type 0
StandsAs {G} {E} t d xs = (before : List (Slot G E)) × (behind : List (Slot G E)) × (g : G) × (e : E) × (xs ≡ before ++ (slot t g e d ∷ behind))

abbrev pub Stands : {G E : Type 0} → ℕ → List (Slot G E) → Type 0
Stands t xs = (d : Decision) × StandsAs t d xs

module _ {G S E : Type 0} (a : Account G S E) (t : ℕ) where
  -- the transaction is in progress, is held, is committed
  abbrev pub InProgress : Type 0
  InProgress = Stands t a.progress

  abbrev pub OnHold : Type 0
  OnHold = Stands t a.held

  abbrev pub IsCommitted : Type 0
  IsCommitted = StandsAs t committed a.progress

module _ {G S E B : Type 0} (R : Rule S E B) (a : Account G S E) where
  -- the call answers the message with that number
  abbrev pub Gives : Message G E → ℕ → Type 0
  Gives m n = (call R a m).answer ≡ refused n

  -- a refusal, whatever its number, changes nothing
  abbrev pub LeavesIt : Message G E → Type 0
  LeavesIt m = (n : ℕ) → Gives m n → (call R a m).account ≡ a

module _ {G S E B : Type 0} (R : Rule S E B) (a : Account G S E) (t : ℕ) (g : G) where
  pub record RequestRefused (e : E) : Type 0 where
    pub six : Gives R a (request t g e) 6 ↔ (InProgress a t ⊎ OnHold a t)
    -- 7 only where 6 is not given
    pub seven : Gives R a (request t g e) 7 ↔ ((InProgress a t → ⊥) × (OnHold a t → ⊥) × (R.held_limit ≤ length a.held))
    -- and no other number
    pub only : (n : ℕ) → Gives R a (request t g e) n → (n ≡ 6) ⊎ (n ≡ 7)

  pub record CommitRefused : Type 0 where
    pub eight : Gives R a (commit t g) 8 ↔ ((InProgress a t → ⊥) × (OnHold a t → ⊥))
    pub nine : Gives R a (commit t g) 9 ↔ OnHold a t
    pub ten : Gives R a (commit t g) 10 ↔ (InProgress a t × (OnHold a t → ⊥) × IsCommitted a t)
    pub only : (n : ℕ) → Gives R a (commit t g) n → (n ≡ 8) ⊎ ((n ≡ 9) ⊎ (n ≡ 10))

  pub record AbortRefused : Type 0 where
    pub eight : Gives R a (abort t g) 8 ↔ ((InProgress a t → ⊥) × (OnHold a t → ⊥))
    pub eleven : Gives R a (abort t g) 11 ↔ ((InProgress a t ⊎ OnHold a t) × IsCommitted a t)
    pub only : (n : ℕ) → Gives R a (abort t g) n → (n ≡ 8) ⊎ (n ≡ 11)
