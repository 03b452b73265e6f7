-- Register and image (docs/REGISTER.md, 15.1, 15.3 and 15.4): the one is the other's, and zeroed words are the fresh register.
-- Assumes nothing.
use Rattle.std.specs.Prelude.{ℕ, ◌≤◌, ◌≡◌, List, [], ◌∷◌, ◌++◌, length, replicate}
use Rattle.rule.specs.Rule.{Rule}
use Rattle.events.specs.declared.Event.{Event}
use Rattle.events.specs.declared.Life.TheVariants.{New}
use Rattle.events.specs.declared.State.{State}
use Rattle.account.specs.declared.Account.{Account}
use Rattle.image.specs.Images as image
use Rattle.register.specs.declared.Register.{Register}
use Rattle.register.specs.Register.{fresh_by}
use Rattle.live.specs.Registers.{image_of, register_of}

abbrev pub EachKept : List Account → Type 0
EachKept [] = Unit {0}
EachKept (a ∷ accounts) = image.Kept a × EachKept accounts

-- a register as it is kept: sixteen accounts, each with eight places in each row and counts that are words
pub record Kept (r : Register) : Type 0 where
  pub sixteen : length r.accounts ≡ 16
  pub each : EachKept r.accounts

-- its image reads back as the register, whatever stands behind it;
pub record ReadsBack (r : Register) : Type 0 where
  pub size : length (image_of r) ≡ 1_344
  pub back : (after : List ℕ) → register_of (image_of r ++ after) ≡ r

-- so no two registers have one image
abbrev pub OneRegister : Type 0
OneRegister = (r s : Register) → Kept r → Kept s → image_of r ≡ image_of s → r ≡ s

module _ (R : Rule State Event ℕ) where
  -- zeroed words, 1,344 of them or more, are the image of the fresh register
  pub record Zeroed : Type 0 where
    pub image : image_of (fresh_by R) ≡ replicate 1_344 0
    pub reads : (size : ℕ) → 1_344 ≤ size → register_of (replicate size 0) ≡ fresh_by R

  pub record ImagesHold : Type 0 where
    pub read : (r : Register) → Kept r → ReadsBack r
    pub one : OneRegister
    pub zeroed : R.fresh ≡ record { life = New; balance = 0 } → Zeroed
