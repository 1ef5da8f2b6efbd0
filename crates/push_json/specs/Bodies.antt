-- The bodies of refusals.
use Rattle.std.specs.Prelude.{◌≡◌, ℕ, List, ◌++◌, ◌==◌, ◌⊎◌, Option, Some, None, codes, decimal, if◌then◌else◌}

-- the status code of the refusal that has this number
abbrev pub code_of : ℕ → Option ℕ
code_of errno =
    if errno == 100 then Some 400
    else if errno == 101 then Some 404
    else if errno == 102 then Some 404
    else if errno == 103 then Some 410
    else if errno == 104 then Some 413
    else if errno == 105 then Some 405
    else if errno == 107 then Some 431
    else if errno == 110 then Some 400
    else if errno == 111 then Some 400
    else if errno == 112 then Some 400
    else if errno == 113 then Some 400
    else if errno == 114 then Some 400
    else if errno == 202 then Some 503
    else if errno == 203 then Some 503
    else if errno == 900 then Some 500
    else None

-- a code and a number are those of one refusal
abbrev pub IsRow : ℕ → ℕ → Type 0
IsRow code errno = code_of errno ≡ Some code

-- the phrase of a status code
abbrev pub phrase : ℕ → List ℕ
phrase code =
    if code == 400 then codes "Bad Request"
    else if code == 404 then codes "Not Found"
    else if code == 405 then codes "Method Not Allowed"
    else if code == 410 then codes "Gone"
    else if code == 413 then codes "Payload Too Large"
    else if code == 431 then codes "Request Header Fields Too Large"
    else if code == 503 then codes "Service Unavailable"
    else codes "Internal Server Error"

-- what is wrong, in words
abbrev pub message : ℕ → List ℕ
message errno =
    if errno == 100 then codes "Malformed request"
    else if errno == 101 then codes "Unknown path"
    else if errno == 102 then codes "Malformed token"
    else if errno == 103 then codes "Unknown endpoint"
    else if errno == 104 then codes "Body over 4096 bytes"
    else if errno == 105 then codes "Method not allowed"
    else if errno == 107 then codes "Head over 65536 bytes"
    else if errno == 110 then codes "Content-Encoding header invalid"
    else if errno == 111 then codes "TTL header missing"
    else if errno == 112 then codes "TTL header invalid"
    else if errno == 113 then codes "Topic header invalid"
    else if errno == 114 then codes "Urgency header invalid"
    else if errno == 202 then codes "Message storage full"
    else if errno == 203 then codes "Message numbers spent"
    else codes "Out of memory"

-- the text of a refusal with this code and this number
abbrev pub error_body : ℕ → ℕ → List ℕ
error_body code errno =
    codes "{\"code\":" ++ (decimal code ++ (codes ",\"errno\":" ++ (decimal errno ++ (codes ",\"error\":\"" ++ (phrase code ++ (codes "\",\"message\":\"" ++ (message errno ++ codes "\"}")))))))
