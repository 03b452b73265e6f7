-- An account and sixteen of them in the walks by hand: their types, their machine values, and what is known of these from the laws that are made of the struct.
-- Assumes nothing.
use mathlib.Core.Path.{subst}
use Prim.Native.Nat.{ℕ}
use mathlib.Core.List.{[], ◌∷◌, List, map}
use lib.Dec.{T as Holds}
use seplogic.Ra.Ura.{Ura}
use mir.Syntax.{Ty, ty_array}
use mir.Val.{Val, WT, has_ty}
use prog.Memory.{size}
use types.Logic.{Logic}
use denote.RattleType.{RattleType}
use denote.Laws.{Is, Tells, Makes}
use denote.Array.{Array, array_val, Array-Tells, Array-Typed, Array-Makes}
use denote.Struct.Laws as LL
use Rattle.account.specs.declared.Account.{Account}
use Rattle.account.specs.contracts.Account as T
use Rattle.account.proofs.Account.TheLaws as T'

-- the types: an account's, and that of an array of sixteen;
abbrev pub R : RattleType
R = T.the_row

abbrev pub Rs : RattleType
Rs = Array R 16

-- the MIR types,
abbrev pub τ : Ty
τ = T'.mir

abbrev pub τs : Ty
τs = ty_array τ 16

-- the bytes that an account takes,
abbrev pub bytes : ℕ
bytes = size τ

-- the machine values,
abbrev pub mach : Account → Val
mach = LL.val T.the_type T'.the_laws

abbrev pub machs : List Account → Val
machs xs = array_val (map mach xs)

-- which the types' relations tell,
pub tells : Tells R (Is R) (λ x. mach x ∷ [])
tells = LL.tells T.the_type T'.the_laws

pub all_tell : Tells Rs (Is Rs) (λ xs. machs xs ∷ [])
all_tell = Array-Tells R (λ x. mach x ∷ []) tells 16

pub all-spelt : (xs : List Account) (vs : List Val) → Is Rs xs vs → Is Rs xs (machs xs ∷ [])
all-spelt xs vs are = subst (Is Rs xs) (all_tell xs vs are) are

module _ {M : Type 1} {𝓤 : Ura M} (𝓛 : Logic 𝓤) where
  -- and from which what they own is made
  pub makes : Makes 𝓛 R (Is R)
  makes = LL.makes T.the_type T'.the_plain 𝓛

  module _ where
    pub all-make : Makes 𝓛 Rs (Is Rs)
    all-make = Array-Makes 𝓛 R makes 16

    -- a machine value has the MIR type
    pub typed : (x : Account) → Is R x (mach x ∷ []) → Holds (has_ty τ (mach x)) × WT (mach x)
    typed x is = ((LL.lawful T.the_type T'.the_laws 𝓛).typed x _ is).0

    pub all_typed : (xs : List Account) → Is Rs xs (machs xs ∷ []) → Holds (has_ty τs (machs xs)) × WT (machs xs)
    all_typed xs are = (Array-Typed R (LL.lawful T.the_type T'.the_laws 𝓛).typed 16 xs _ are).0
