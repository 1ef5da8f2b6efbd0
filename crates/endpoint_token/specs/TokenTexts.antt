-- How a token is spelled: base64url without padding (RFC 4648, section 5).
use Rattle.std.specs.Prelude.{◌≡◌, ℕ, ◌/◌, ◌^◌, Bool, ◌&&◌, ◌==◌, List, ◌∷◌, Option, length, drop}
use Rattle.std.specs.List.{list_all}
use Rattle.base64.specs.Engines.{url_safe_no_pad}
use Rattle.base64.specs.GeneralPurpose.{IsBytes, encode_of}
use Rattle.push_model.specs.declared.ids.Token.{Token}
use Rattle.push_model.specs.declared.ids.Uaid.{Uaid}
use Rattle.push_model.specs.Topics.{is_topic_byte}
use Rattle.push_outside.specs.Draws.{GivesMore}

-- the characters of the token's bytes
unfoldable pub spelled : Token → List ℕ
spelled t = encode_of url_safe_no_pad t.0

-- 32 characters of that alphabet, which is that of topics too
abbrev pub is_token_text : List ℕ → Bool
is_token_text text = (length text == 32) && list_all is_topic_byte text

-- what every token is: 24 bytes
pub record IsToken (t : Token) : Type 0 where
  pub long : length t.0 ≡ 24
  pub bytes : IsBytes t.0

-- the first byte of a uaid, the topmost
abbrev pub first_byte : Uaid → ℕ
first_byte u = u.0 / 2 ^ 120

-- a token that was drawn for a user: the uaid's first byte, and behind it what the draw gave
pub record IsDrawn (u : Uaid) (t : Token) (before after : Option (List ℕ)) : Type 0 where
  pub first : t.0 ≡ first_byte u ∷ drop 1 t.0
  pub drawn : GivesMore before after (drop 1 t.0)
