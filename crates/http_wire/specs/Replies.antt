-- Replies as text (RFC 9112, section 4).
use Rattle.std.specs.Prelude.{◌≡◌, ℕ, ◌==◌, Bool, List, [], ◌∷◌, ◌++◌, length, Option, Some, None, IsTrue, if◌then◌else◌, codes, decimal}
use Rattle.std.specs.List.{list_any}
use Rattle.std.specs.Int.{w64, to_be_bytes}
use Rattle.std.specs.Option.{option_copied}
use Rattle.hex.specs.Hex.{encode_lower}
use Rattle.push_model.specs.declared.ids.MsgId.{MsgId}
use Rattle.http_wire.specs.declared.reply.HttpReply.{HttpReply}

-- a code that has a phrase here
abbrev pub IsKnown : ℕ → Type 0
IsKnown code = IsTrue (list_any (λ c. c == code) (201 ∷ 204 ∷ 400 ∷ 404 ∷ 405 ∷ 410 ∷ 413 ∷ 431 ∷ 500 ∷ 503 ∷ []))

-- the phrase of a code (RFC 9110, section 15)
abbrev pub phrase : ℕ → List ℕ
phrase code =
    if code == 201 then codes "Created" else
    (if code == 204 then codes "No Content" else
    (if code == 400 then codes "Bad Request" else
    (if code == 404 then codes "Not Found" else
    (if code == 405 then codes "Method Not Allowed" else
    (if code == 410 then codes "Gone" else
    (if code == 413 then codes "Payload Too Large" else
    (if code == 431 then codes "Request Header Fields Too Large" else
    (if code == 500 then codes "Internal Server Error" else codes "Service Unavailable"))))))))

abbrev pub status_line : ℕ → List ℕ
status_line code = codes "HTTP/1.1 " ++ (decimal code ++ (codes " " ++ (phrase code ++ codes "\r\n")))

-- the methods that are allowed
abbrev pub allow_line : Option (List ℕ) → List ℕ
allow_line None = []
allow_line (Some methods) = codes "Allow: " ++ (methods ++ codes "\r\n")

-- where the connection ends after it
abbrev pub close_line : Bool → List ℕ
close_line close = if close then codes "Connection: close\r\n" else []

-- what stands behind the empty line
abbrev pub body_bytes : Option (List ℕ) → List ℕ
body_bytes None = []
body_bytes (Some body) = body

abbrev pub length_line : ℕ → List ℕ
length_line n = codes "Content-Length: " ++ (decimal n ++ codes "\r\n")

-- the lines that tell of the body; a 204 has none (RFC 9110, section 8.6)
abbrev pub body_lines : ℕ → Option (List ℕ) → List ℕ
body_lines code None = if code == 204 then [] else length_line 0
body_lines code (Some body) = length_line (length body) ++ codes "Content-Type: application/json\r\n"

-- how a message's id is written: two hexadecimal digits of its shard, and sixteen of its number
abbrev pub version : MsgId → List ℕ
version id = encode_lower (id.shard ∷ []) ++ (codes "-" ++ encode_lower (to_be_bytes w64 id.number))

-- where the message is
abbrev pub location_line : Option MsgId → List ℕ
location_line None = []
location_line (Some id) = codes "Location: /m/" ++ (version id ++ codes "\r\n")

-- for how many seconds it is kept
abbrev pub ttl_line : Option ℕ → List ℕ
ttl_line None = []
ttl_line (Some ttl) = codes "TTL: " ++ (decimal ttl ++ codes "\r\n")

-- the text of a reply, line by line
abbrev pub reply_text : ℕ → Option (List ℕ) → Bool → Option (List ℕ) → Option MsgId → Option ℕ → List ℕ
reply_text code allow close body location ttl =
    status_line code ++ (allow_line allow ++ (close_line close ++ (body_lines code body
    ++ (location_line location ++ (ttl_line ttl ++ (codes "\r\n" ++ body_bytes body))))))

abbrev pub text_of : HttpReply → List ℕ
text_of r = reply_text r.code (option_copied r.allow) r.close (option_copied r.body) r.location r.ttl

-- its code has a phrase, and a 204 has no body
abbrev pub IsProper : HttpReply → Type 0
IsProper r = IsKnown r.code × (r.code ≡ 204 → option_copied r.body ≡ None)
