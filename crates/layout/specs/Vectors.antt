-- Numbers, the heading and a buffer as literals (docs/REGISTER.md, 8.1): what antt computes from the definitions alone.
-- Assumes nothing.
use Rattle.std.specs.Prelude.{◌≡◌, [], ◌∷◌}
use Rattle.layout.specs.Number.{bytes_of, number_at}
use Rattle.layout.specs.Fields.{written, heading, last_account}
use Rattle.layout.specs.Heading.{heading_numbers, filed_from}
use Rattle.layout.specs.Writes.{laid_over}

pub record VectorsHold : Type 0 where
  -- a number and its bytes, highest first, among other bytes
  pub bytes : bytes_of 4 0x1a2b3c4d ≡ 0x1a ∷ 0x2b ∷ 0x3c ∷ 0x4d ∷ []
  pub number : number_at (0xff ∷ 0x1a ∷ 0x2b ∷ 0x3c ∷ 0x4d ∷ 0xee ∷ []) 1 4 ≡ 0x1a2b3c4d
  -- kind, transaction, account, second
  pub heading' : written heading (heading_numbers 0x11 0x1a2b3c4d 0x9f (record { second = 0x5e6f7081 }))
      ≡ 0x11 ∷ 0x1a ∷ 0x2b ∷ 0x3c ∷ 0x4d ∷ 0x00 ∷ 0x9f ∷ 0x5e ∷ 0x6f ∷ 0x70 ∷ 0x81 ∷ []
  pub filed : filed_from (17 ∷ 2 ∷ 3 ∷ 4 ∷ 5 ∷ 6 ∷ []) ≡ record { second = 4 }
  pub account : last_account ≡ 15
  -- bytes over the beginning of a buffer
  pub over : laid_over (1 ∷ 2 ∷ []) (7 ∷ 8 ∷ 9 ∷ []) ≡ 1 ∷ 2 ∷ 9 ∷ []
