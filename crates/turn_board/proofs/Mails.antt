-- A mail list with one more change.
use Rattle.std.proofs.Common.{◌≡◌, ℕ, List, [], ◌∷◌, ◌++◌, refl}
use Rattle.push_model.specs.declared.mail.MailChange.{MailChange}
use Rattle.push_model.specs.declared.mail.MailEntry.{MailEntry}
use Rattle.push_model.specs.MailWords.{mail_entry, bits_after, out_from, IsFound, IsLegalMailFrom}

-- the bits that are out then
pub out_from-more : (n : ℕ) (es : List MailEntry) (by : ℕ) (c : MailChange) → out_from n (es ++ mail_entry by c ∷ []) ≡ bits_after (out_from n es) c
out_from-more n [] by c = refl
out_from-more n (e ∷ es) by c = out_from-more (bits_after n e.change) es by c

pub legal-front : (n : ℕ) (xs ys : List MailEntry) → IsLegalMailFrom n (xs ++ ys) → IsLegalMailFrom n xs
legal-front n [] ys h = tt
legal-front n (x ∷ xs) ys h = (h.0, legal-front (bits_after n x.change) xs ys h.1)

pub legal-more : (n : ℕ) (es : List MailEntry) (by : ℕ) (c : MailChange) → IsLegalMailFrom n es → IsFound (out_from n es) c → IsLegalMailFrom n (es ++ mail_entry by c ∷ [])
legal-more n [] by c h f = (f, tt)
legal-more n (e ∷ es) by c h f = (h.0, legal-more (bits_after n e.change) es by c h.1 f)
