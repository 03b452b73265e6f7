-- That the digits of a number are its decimal (docs/REGISTER.md, 12.5), and that the longest line is one.
-- Assumes nothing.
use Rattle.std.specs.Prelude.{ℕ, ◌+◌, ◌*◌, ◌-◌, ◌^◌, ◌≤◌, ◌<◌, ◌≡◌, true, ◌&&◌, List, [], ◌∷◌, leb, length, get_or}
use Rattle.rule.specs.Lists.{every}
use Rattle.events.specs.declared.Event.TheVariants.{Withdraw}
use Rattle.filing.specs.declared.Verdict.TheVariants.{Rejected}
use Rattle.filing.specs.declared.Entry.{Entry}
use Rattle.entry.specs.Plain.{vote}
use Rattle.text.specs.Text.{decimal, line_of}

-- the number that digits are, after a number so far
abbrev pub value_from : (sofar : ℕ) → List ℕ → ℕ
value_from sofar [] = sofar
value_from sofar (digit ∷ digits) = value_from (sofar * 10 + (digit - 48)) digits

-- the text is the number's decimal: digits, of that value, no 0 first, and of 0 itself one 0
pub record Decimal (number : ℕ) (text : List ℕ) : Type 0 where
  pub digits : every (λ (digit : ℕ). leb 48 digit && leb digit 57) text ≡ true
  pub value : value_from 0 text ≡ number
  pub first : 1 ≤ number → 49 ≤ get_or text 0 0
  pub zero : number ≡ 0 → text ≡ 48 ∷ []

abbrev pub Decimals : Type 0
Decimals = (number : ℕ) → number < 10 ^ 10 → Decimal number (decimal number)

-- a line as long as any can be
abbrev pub long_entry : Entry
long_entry =
    record {
      transaction = 4_294_967_295;
      filed = record { second = 4_294_967_295 };
      told = vote Rejected (Withdraw 4_294_967_295) 4_294_967_295 255;
    }

abbrev pub LongestLineIs : Type 0
LongestLineIs = length (line_of 65535 long_entry) ≡ 72
