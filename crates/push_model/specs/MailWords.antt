-- Mail words: which bits are out, and which mail lists there can be.
use Rattle.std.specs.Prelude.{◌≡◌, ◌==◌, ℕ, ◌^◌, ◌%◌, List, [], ◌∷◌, bit_or, if◌then◌else◌}
use Rattle.push_model.specs.declared.ids.Uaid.{Uaid}
use Rattle.push_model.specs.declared.mail.MailChange.{MailChange}
use Rattle.push_model.specs.declared.mail.MailChange.TheVariants.{Post, Taken}
use Rattle.push_model.specs.declared.mail.MailEntry.{MailEntry}
use Rattle.push_model.specs.declared.mail.Mail.{Mail}
use Rattle.push_model.specs.declared.mail.Mail.TheVariants.{Quiet, Bits}

abbrev pub mail_entry : ℕ → MailChange → MailEntry
mail_entry by change = record { by = by; change = change }

-- the bit of a user
abbrev pub bit_of : Uaid → ℕ
bit_of u = 2 ^ (u.0 % 64)

abbrev pub mail_of : ℕ → Mail
mail_of n = if n == 0 then Quiet else Bits n

-- ---- the bits that are out: those posted since all were last taken

abbrev pub bits_after : ℕ → MailChange → ℕ
bits_after n (Post bits) = bit_or n bits
bits_after n (Taken bits) = 0

-- where these were out before
abbrev pub out_from : ℕ → List MailEntry → ℕ
out_from n [] = n
out_from n (e ∷ es) = out_from (bits_after n e.change) es

abbrev pub out : List MailEntry → ℕ
out es = out_from 0 es

-- ---- what was taken is what was out

abbrev pub IsFound : ℕ → MailChange → Type 0
IsFound n (Post bits) = Unit {0}
IsFound n (Taken bits) = bits ≡ n

abbrev pub IsLegalMailFrom : ℕ → List MailEntry → Type 0
IsLegalMailFrom n [] = Unit {0}
IsLegalMailFrom n (e ∷ es) = IsFound n e.change × IsLegalMailFrom (bits_after n e.change) es

abbrev pub IsLegalMail : List MailEntry → Type 0
IsLegalMail es = IsLegalMailFrom 0 es
