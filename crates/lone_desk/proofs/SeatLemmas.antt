-- Each step of the one seat keeps the rule.
use Rattle.std.proofs.Common.{◌≡◌, ℕ, zero, suc, List, [], ◌∷◌, ◌++◌, map, length, get_or, set, refl, sym, ap, ◌∙◌, subst, length-set}
use Rattle.std.specs.Prelude.{bit_or}
use mathlib.Core.Option.{some, some-injective, some-ne-none}
use mathlib.Core.Option as maybe
use lib.ListN.{get_elem?}
use lib.Seq.{map-set}
use Rattle.atomic_table.specs.Table.{Me, step, keeps, stepped, Allows}
use Rattle.push_model.specs.declared.mail.MailChange.{MailChange}
use Rattle.push_model.specs.declared.mail.MailChange.TheVariants.{Post, Taken}
use Rattle.push_model.specs.declared.mail.MailEntry.{MailEntry}
use Rattle.push_model.specs.MailWords.{mail_entry, out}
use Rattle.push_model.proofs.MailLemmas.{out_last}
use Rattle.lone_desk.specs.declared.notes.Notes.{Notes}
use Rattle.lone_desk.specs.Notes.{mail_at, with_mail, Kept, Posted, Took}

abbrev Sat : Type 0
Sat = Me (Unit {0}) Notes

one_seat : (n : Notes) (id : ℕ) (v : Notes) → get_elem? (n ∷ []) id ≡ some v → (id ≡ 0) × (v ≡ n)
one_seat n zero v e = (refl, sym (some-injective n v e))
one_seat n (suc id) v e = absurd (some-ne-none v (sym e))

out_at : (ls : List (List MailEntry)) (k : ℕ) → get_or (map out ls) k 0 ≡ out (get_or ls k [])
out_at [] k = refl
out_at (x ∷ xs) zero = refl
out_at (x ∷ xs) (suc k) = out_at xs k

-- an entry is added to a mail list, which changes the bits that are out as the step changes the word
changed : (slots id k : ℕ) (me : Sat) (f : ℕ → ℕ) (c : ℕ → MailChange) → ((es : List MailEntry) → f (out es) ≡ out (es ++ mail_entry 0 (c (out es)) ∷ []))
    → Allows Kept slots id me (suc k) f (λ found m. (m.0 ≡ with_mail me.0 (suc k) (mail_entry 0 (c found))) × (found ≡ out (mail_at me.0 (suc k))))
changed slots id k me f c fits s r homes at small =
    let v : Notes = me.0 in
    let one = one_seat r.notes id v (subst (λ (vs : List Notes). get_elem? vs id ≡ some v) r.one at) in
    let words : s.words ≡ r.count ∷ map out v.mail = r.words ∙ ap (λ (n : Notes). r.count ∷ map out n.mail) (sym one.1) in
    let found : ℕ = get_or s.words (suc k) 0 in
    let before : List MailEntry = get_or v.mail k [] in
    let found_is : found ≡ out before = ap (λ (ws : List ℕ). get_or ws (suc k) 0) words ∙ out_at v.mail k in
    let after : List MailEntry = before ++ mail_entry 0 (c found) ∷ [] in
    let w : Notes = with_mail v (suc k) (mail_entry 0 (c found)) in
    let same : f found ≡ out after = ap f found_is ∙ (fits before ∙ ap (λ (x : ℕ). out (before ++ mail_entry 0 (c x) ∷ [])) (sym found_is)) in
    let kept : Kept (stepped s (suc k) (f found) id me.1 w keeps) = record {
      notes = w;
      count = r.count;
      one = λ j. set (r.one j) (one.0 j) w;
      words = ap (λ (ws : List ℕ). set ws (suc k) (f found)) words ∙ ap (λ (xs : List ℕ). r.count ∷ xs) (ap (set (map out v.mail) k) same ∙ sym (map-set out v.mail k after));
      eight = length-set v.mail k after ∙ (ap (λ (n : Notes). length n.mail) one.1 ∙ r.eight);
    } in
    (w, keeps, tt, kept, (refl, found_is))

pub posts : (slots id k i bits : ℕ) (me : Sat) → i ≡ suc k → Allows Kept slots id me i (λ n. bit_or n bits) (Posted (step slots i bits 0 maybe.none) me)
posts slots id k i bits me is =
    subst (λ (z : ℕ). Allows Kept slots id me z (λ n. bit_or n bits) (Posted (step slots z bits 0 maybe.none) me)) (sym is)
    (λ s r homes at small.
    let t = changed slots id k me (λ n. bit_or n bits) (λ n. Post bits) (λ es. sym (out_last es (mail_entry 0 (Post bits)))) s r homes at small in
    (t.0, t.1, t.2, t.3, t.4.0))

pub takes_all : (slots id k i : ℕ) (me : Sat) → i ≡ suc k → Allows Kept slots id me i (λ n. 0) (Took (step slots i 0 0 maybe.none) me)
takes_all slots id k i me is =
    subst (λ (z : ℕ). Allows Kept slots id me z (λ n. 0) (Took (step slots z 0 0 maybe.none) me)) (sym is)
    (changed slots id k me (λ n. 0) (λ n. Taken n) (λ es. sym (out_last es (mail_entry 0 (Taken (out es))))))
