-- How a message is named outside: its version.
use Rattle.std.specs.Prelude.{ℕ, ◌==◌, List, [], ◌∷◌, ◌++◌, take, drop, length, slice_index, Result, Ok, Err, Option, Some, None, if◌then◌else◌}
use Rattle.std.specs.Int.{w64, to_be_bytes, from_be_bytes}
use Rattle.std.specs.Str.{bytes_eq}
use Rattle.hex.specs.Hex.{encode_lower, decode_sized}
use Rattle.hex.specs.declared.error.FromHexError.{FromHexError}
use Rattle.push_model.specs.declared.ids.MsgId.{MsgId}

-- two lower-case hexadecimal digits of the shard, `-`, and sixteen of the number
abbrev pub version_text : MsgId → List ℕ
version_text i = encode_lower (i.shard ∷ []) ++ 45 ∷ encode_lower (to_be_bytes w64 i.number)

-- the message, where the text is its version
abbrev pub spelled_as : MsgId → List ℕ → Option MsgId
spelled_as i text = if bytes_eq (version_text i) text then Some i else None

-- the message of these bytes of its shard and of its number, where the text is its version
abbrev pub version_from : Result (List ℕ) FromHexError → Result (List ℕ) FromHexError → List ℕ → Option MsgId
version_from (Err e) number text = None
version_from (Ok shard) (Err e) text = None
version_from (Ok shard) (Ok number) text = spelled_as (record { shard = slice_index shard 0; number = from_be_bytes w64 number }) text

-- the message whose version the text is, if there is one
abbrev pub version_of : List ℕ → Option MsgId
version_of text = if length text == 19 then version_from (decode_sized (take 2 text) 1) (decode_sized (drop 3 text) 8) text else None
