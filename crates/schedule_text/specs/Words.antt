-- How values are spelled as words.
use Rattle.std.specs.Prelude.{ℕ, List, [], ◌∷◌, codes, false, Option, Some, None, ◌==◌, if◌then◌else◌}
use Rattle.std.specs.Fmt.{digits}
use Rattle.hex.specs.Hex.{encode_lower}
use Rattle.push_model.specs.declared.ids.Token.{Token}
use Rattle.push_model.specs.declared.ask.Urgency.{Urgency}
use Rattle.push_model.specs.declared.ask.Urgency.TheVariants.{VeryLow, Low, Normal, High}

-- a word behind a space
abbrev pub word : List ℕ → List ℕ
word w = 32 ∷ w

-- lower-case hexadecimal digits, with no zeros in front
abbrev pub hex : ℕ → List ℕ
hex n = digits 16 false n

-- the digits without the zeros in front, of which the last digit stays
unfoldable pub trimmed : List ℕ → List ℕ
trimmed [] = []
trimmed (d ∷ []) = d ∷ []
trimmed (d ∷ (e ∷ rest)) = if d == 48 then trimmed (e ∷ rest) else d ∷ (e ∷ rest)

-- two digits a byte, without the zeros in front
abbrev pub token_word : Token → List ℕ
token_word t = trimmed (encode_lower t.0)

-- a dot for none
abbrev pub topic_word : Option (List ℕ) → List ℕ
topic_word None = codes "."
topic_word (Some topic) = topic

abbrev pub urgency_word : Urgency → List ℕ
urgency_word VeryLow = codes "very-low"
urgency_word Low = codes "low"
urgency_word Normal = codes "normal"
urgency_word High = codes "high"

-- two digits a byte, and a dot for no bytes
abbrev pub payload_word : List ℕ → List ℕ
payload_word [] = codes "."
payload_word (b ∷ bytes) = encode_lower (b ∷ bytes)
