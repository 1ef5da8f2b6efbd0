-- A mail list with one more entry.
use Rattle.std.proofs.Common.{◌≡◌, ℕ, List, [], ◌∷◌, ◌++◌, refl}
use Rattle.push_model.specs.declared.mail.MailEntry.{MailEntry}
use Rattle.push_model.specs.MailWords.{bits_after, out, out_from, IsFound, IsLegalMail, IsLegalMailFrom}

out_from_last : (n : ℕ) (es : List MailEntry) (e : MailEntry) → out_from n (es ++ e ∷ []) ≡ bits_after (out_from n es) e.change
out_from_last n [] e = refl
out_from_last n (x ∷ xs) e = out_from_last (bits_after n x.change) xs e

legal_from_last : (n : ℕ) (es : List MailEntry) (e : MailEntry) → IsLegalMailFrom n es → IsFound (out_from n es) e.change → IsLegalMailFrom n (es ++ e ∷ [])
legal_from_last n [] e l f = (f, tt)
legal_from_last n (x ∷ xs) e l f = (l.0, legal_from_last (bits_after n x.change) xs e l.1 f)

pub out_last : (es : List MailEntry) (e : MailEntry) → out (es ++ e ∷ []) ≡ bits_after (out es) e.change
out_last es e = out_from_last 0 es e

pub legal_mail_last : (es : List MailEntry) (e : MailEntry) → IsLegalMail es → IsFound (out es) e.change → IsLegalMail (es ++ e ∷ [])
legal_mail_last es e l f = legal_from_last 0 es e l f
