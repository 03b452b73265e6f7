-- Quoted text as bytes, so that a line can be read as it is printed (docs/REGISTER.md, 12.4).
-- Assumes nothing.
use Rattle.std.specs.Prelude.{ℕ, ◌≡◌, List, [], ◌∷◌}
use Prim.Native.Char.{Char, code}
use Prim.Native.String.{String, [] as end, ◌∷◌ as ◌then◌}
use Rattle.rule.specs.Lists.{numbers}

-- the codes of its characters; of the plain letters, digits and marks of a line each is one byte
unfoldable pub quoted : String → List ℕ
quoted end = []
quoted (character then text) = code character ∷ quoted text

-- character by character, none left out and none twice; and the characters that lines are made of, as numbers
pub record QuotedPlain : Type 0 where
  pub none : quoted "" ≡ []
  pub each : (character : Char) (text : String) → quoted (character then text) ≡ code character ∷ quoted text
  pub letters : quoted "abcdefghijklmnopqrstuvwxyz" ≡ numbers 97 26
  pub digits : quoted "0123456789" ≡ numbers 48 10
  pub marks : quoted " \n" ≡ 32 ∷ 10 ∷ []
