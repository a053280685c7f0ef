-- What the scanner's steps find at the front of a text: a gap or a token.
use Rattle.std.specs.Prelude.{◌≡◌, ℕ, ◌<◌, ◌≤◌, List, length, take, drop}
use Rattle.gm_token.specs.Limits.{greatest_number}
use Rattle.gm_token.specs.declared.words.Word.{Word}
use Rattle.gm_token.specs.declared.words.Word.TheVariants.{Number}
use Rattle.gm_token.specs.declared.scanner.Part.{Part}
use Rattle.gm_token.specs.declared.scanner.Part.TheVariants.{Gap, Token}
use Rattle.gm_token.specs.Spellings.{IsNumber, decimal_value}
use Rattle.gm_token.specs.Scanning.{IsGap}
use Rattle.gm_token.specs.Fronts.{IsLongestFront}

-- if the token is a number, its digits say a number within the limit
abbrev pub IsSmall : Word → List ℕ → Type 0
IsSmall w bs = w ≡ Number → IsNumber bs × (decimal_value bs ≤ greatest_number)

-- this part stands at the front
abbrev pub IsPart : List ℕ → Part → Type 0
IsPart text (Gap n) = (0 < n) × (n ≤ length text) × IsGap (take n text) (drop n text)
IsPart text (Token w n) = (0 < n) × IsLongestFront w n text × IsSmall w (take n text)
