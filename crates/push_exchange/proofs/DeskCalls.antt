-- One call of the passes, by what it did at one board: n are the passes before it, v is what was known of them, and b is the
-- pass of the board k afterwards.
use Rattle.std.proofs.Common.{◌≡◌, ℕ, suc, ◌-◌, ◌<◌, ◌≤◌, true, List, [], length, set, get_or, sym, ap, ◌∙◌, subst, arith}
use Rattle.push_model.specs.declared.entry.Entry.{Entry}
use Rattle.push_model.specs.declared.mail.MailChange.{MailChange}
use Rattle.push_model.specs.declared.step.Step.{Step}
use Rattle.push_model.specs.declared.reply.Reply.{Reply}
use Rattle.push_model.specs.Worlds.{World, start}
use Rattle.push_model.specs.Steps.{proper, step}
use Rattle.push_model.specs.Reached.{IsReached}
use Rattle.push_model.specs.Histories.{IsLegal, world_after}
use Rattle.push_model.specs.Accounting.{IsAccounted}
use Rattle.push_model.specs.Caring.{is_cared}
use Rattle.push_model.specs.Replies.{replies_to}
use Rattle.push_model.specs.DeskViews.{Calls, Mails, world_at}
use Rattle.turn_board.specs.Passes.{SlotEndsWith}
use Rattle.push_exchange.specs.PassViews.{IsKept, IsSame, PassView, Replied}
use Rattle.push_exchange.specs.Boards.{IsSeated, pass_at, passes_view}
use Rattle.push_exchange.proofs.PassLists.{CallDone, MailDone, accounted_at, call_done, cared_at, mail_done, no_mail, not_called, still_seated}
use Rattle.push_exchange.proofs.RoundLemmas.{is_at, meets, reached, within}

pub few_of : (bs : List (List ℕ)) (n v : List PassView) → IsSeated bs n → n ≡ v → (k s : ℕ) → k ≡ s → s < length v → k < 16
few_of bs n v h is k s at low = let w = h.wide in let e = ap length is in omega arith

module _ (bs : List (List ℕ)) (n v : List PassView) (h : IsSeated bs n) (is : n ≡ v) (k s : ℕ) (at : k ≡ s) (low : s < length v) (a : PassView) (read : a ≡ get_or n k a) where
  few : k < 16
  few = few_of bs n v h is k s at low

  here : pass_at n k ≡ a
  here = is_at bs n h k few a read

  pub known : pass_at v s ≡ a
  known = subst (λ (z : ℕ). pass_at v z ≡ a) at (subst (λ (l : List PassView). pass_at l k ≡ a) is here)

  pub on_board : (c : List ℕ) → c ≡ get_or bs k c → a.board ≡ c
  on_board c e = meets bs n h k few a c read e

  pub began : IsReached a.opened
  began = reached bs n h k few a read

  pub allowed : (x : Step) → proper (pass_at v s).number x ≡ true → proper a.number x ≡ true
  allowed x e = subst (λ (p : PassView). proper p.number x ≡ true) known e

  module _ (b : PassView) (same : IsSame a b) (kept : IsKept b) where
    same_here : IsSame (pass_at n k) b
    same_here = subst (λ (p : PassView). IsSame p b) (sym here) same

    pub seated : IsSeated bs (set n k b)
    seated = still_seated n k b (within bs n h k few) bs h same_here.board same_here.opened kept

    pub called : (x : Step) (r : Reply) → ((w : World) (y : Step) → replies_to y (step w y).1 ≡ true) → Replied a b x r → CallDone v (set n k b) s x r
    called x r law done =
        subst (λ (z : ℕ). CallDone v (set n k b) z x r) at (subst (λ (l : List PassView). CallDone l (set n k b) k x r) is
        (call_done n k b (within bs n h k few) same_here kept x r law (h.kept k) (subst (λ (p : PassView). Replied p b x r) (sym here) done)))

    pub refused : b.seen ≡ a.seen → Calls (passes_view v) (passes_view (set n k b)) []
    refused e = subst (λ (l : List PassView). Calls (passes_view l) (passes_view (set n k b)) []) is
        (not_called n k b (within bs n h k few) same_here (e ∙ ap (λ (p : PassView). p.seen) (sym here)))

    pub unmailed : b.mail ≡ a.mail → Mails (passes_view v) (passes_view (set n k b)) []
    unmailed e = subst (λ (l : List PassView). Mails (passes_view l) (passes_view (set n k b)) []) is
        (no_mail n k b (within bs n h k few) same_here (e ∙ ap (λ (p : PassView). p.mail) (sym here)))

    pub mailed : (node slot : ℕ) (c : MailChange) → 1 ≤ node → slot ≡ node - 1 → SlotEndsWith slot c a.number a.numbers a.mail b.mail → MailDone v (set n k b) s node c
    mailed node slot c some e done =
        let next : suc slot ≡ node = omega arith in
        subst (λ (z : ℕ). MailDone v (set n k b) s z c) next
        (subst (λ (z : ℕ). MailDone v (set n k b) z (suc slot) c) at (subst (λ (l : List PassView). MailDone l (set n k b) k (suc slot) c) is
        (mail_done n k b (within bs n h k few) same_here (h.kept k) slot c (subst (λ (p : PassView). SlotEndsWith slot c p.number p.numbers p.mail b.mail) (sym here) done))))

    pub accounted : ((number next : ℕ) (es : List (Entry Step Reply)) → IsLegal step (start number next) es → IsAccounted (start number next) es)
        → (number next : ℕ) → (passes_view (set n k b)).opened s ≡ start number next → IsAccounted (start number next) ((passes_view (set n k b)).seen s)
    accounted law = accounted_at (set n k b) s (seated.kept s) law

    pub cared : ((w : World) (es : List (Entry Step Reply)) → IsReached w → IsLegal step w es → IsReached (world_after step w es))
        → ((w : World) → IsReached w → is_cared w ≡ true)
        → is_cared (world_at (passes_view (set n k b)) s) ≡ true
    cared onward law = cared_at (set n k b) s (seated.kept s) onward law
