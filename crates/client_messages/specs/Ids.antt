-- How users, channels and payloads are written, and how users and channels are read.
use Rattle.std.specs.Prelude.{ℕ, ◌==◌, List, length, Option, None, option_map, if◌then◌else◌}
use Rattle.std.specs.Int.{w128, to_be_bytes, from_be_bytes}
use Rattle.base64.specs.Engines.{url_safe_no_pad}
use Rattle.base64.specs.GeneralPurpose.{encode_of}
use Rattle.uuid.specs.Text.{lower, simple_text, hyphenated_text, parsed_simple, parsed_hyphenated}
use Rattle.push_model.specs.declared.ids.Uaid.{Uaid}
use Rattle.push_model.specs.declared.ids.ChannelId.{ChannelId}

-- ---- written

-- a payload is base64url without padding
abbrev pub payload_text : List ℕ → List ℕ
payload_text bytes = encode_of url_safe_no_pad bytes

-- a uaid is 32 lower-case digits
abbrev pub uaid_text : Uaid → List ℕ
uaid_text u = simple_text lower (to_be_bytes w128 u.0)

-- a channel is a hyphenated UUID in lower case
abbrev pub chid_text : ChannelId → List ℕ
chid_text h = hyphenated_text lower (to_be_bytes w128 h.0)

-- ---- read

-- the bytes of 32 digits or of a hyphenated UUID, in either case
abbrev pub id_bytes : List ℕ → Option (List ℕ)
id_bytes s = if length s == 32 then parsed_simple s else if length s == 36 then parsed_hyphenated s else None

-- their number
abbrev pub id_number : List ℕ → Option ℕ
id_number s = option_map (from_be_bytes w128) (id_bytes s)
