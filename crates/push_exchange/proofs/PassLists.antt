-- A row of passes of which one changed.
use Rattle.std.proofs.Common.{◌≡◌, ℕ, zero, suc, ◌<◌, true, List, [], ◌∷◌, ◌++◌, length, set, get_or, refl, sym, ap, ◌∙◌, subst, length-set, get_or-set_same, get_or-set_other}
use Rattle.std.proofs.lemmas.List.{get_or_read}
use mathlib.Core.Logic.{dite}
use native.Mathlib.Decide.{ℕ_discrete}
use Rattle.push_model.specs.declared.entry.Entry.{Entry}
use Rattle.push_model.specs.declared.mail.MailChange.{MailChange}
use Rattle.push_model.specs.declared.mail.MailEntry.{MailEntry}
use Rattle.push_model.specs.declared.step.Step.{Step}
use Rattle.push_model.specs.declared.reply.Reply.{Reply}
use Rattle.push_model.specs.Worlds.{World, start}
use Rattle.push_model.specs.Steps.{proper, step}
use Rattle.push_model.specs.Reached.{IsReached}
use Rattle.push_model.specs.Histories.{AllProper, IsLegal, entry, world_after}
use Rattle.push_model.specs.Accounting.{IsAccounted}
use Rattle.push_model.specs.Caring.{is_cared}
use Rattle.push_model.specs.Replies.{replies_to}
use Rattle.push_model.specs.MailWords.{IsLegalMail}
use Rattle.push_model.specs.DeskViews.{Calls, EndsWith, IsSameDesk, MailEndsWith, Mails, entry_by, mail_by, made, world_at, written}
use Rattle.push_model.proofs.HistoryLemmas.{legal_back}
use Rattle.push_model.proofs.DeskLemmas.{calls_one, calls_still, mails_one, mails_still, none_own}
use Rattle.turn_board.specs.Numbers.{has}
use Rattle.turn_board.specs.Views.{mail_at}
use Rattle.turn_board.specs.Passes.{SlotEndsWith}
use Rattle.push_exchange.specs.PassViews.{IsKept, IsSame, PassView, Replied}
use Rattle.push_exchange.specs.Boards.{IsSeated, board_at, no_pass, node_mail, pass_at, passes_view}

-- what an index reads
pub pass_read : (ps : List PassView) (k : ℕ) (a : PassView) → k < length ps → a ≡ get_or ps k a → pass_at ps k ≡ a
pass_read ps k a low e = sym (get_or_read ps k a low e no_pass)

pub board_read : (bs : List (List ℕ)) (k : ℕ) (b : List ℕ) → k < length bs → b ≡ get_or bs k b → board_at bs k ≡ b
board_read bs k b low e = sym (get_or_read bs k b low e [])

module _ (ps : List PassView) (k : ℕ) (b : PassView) (low : k < length ps) where
  pub at_same : pass_at (set ps k b) k ≡ b
  at_same = get_or-set_same ps k b no_pass low

  pub at_other : (j : ℕ) → (j ≡ k → ⊥) → pass_at (set ps k b) j ≡ pass_at ps j
  at_other j n = get_or-set_other ps k j b no_pass n

  -- what holds of the new pass, and held of the others
  pub at_each : (P : ℕ → PassView → Type 0) → P k b → ((j : ℕ) → (j ≡ k → ⊥) → P j (pass_at ps j)) → (j : ℕ) → P j (pass_at (set ps k b) j)
  at_each P here others j = dite (ℕ_discrete j k)
      (λ e. subst (λ (z : ℕ). P z (pass_at (set ps k b) z)) (sym e) (subst (P k) (sym at_same) here))
      (λ n. subst (P j) (sym (at_other j n)) (others j n))

  -- what stays of the pass stays of all
  pub at_kept : {A : Type 0} → (f : PassView → A) → f b ≡ f (pass_at ps k) → (j : ℕ) → f (pass_at (set ps k b) j) ≡ f (pass_at ps j)
  at_kept f e = at_each (λ j p. f p ≡ f (pass_at ps j)) e (λ j n. refl)

  pub same_desk : IsSame (pass_at ps k) b → IsSameDesk (passes_view ps) (passes_view (set ps k b))
  same_desk s = record {
    size = length-set ps k b;
    board = at_kept (λ p. p.board) s.board;
    number = at_kept (λ p. p.number) s.number;
    is_own = λ j n. ap (λ (ns : List ℕ). has ns n) (at_kept (λ p. p.numbers) s.numbers j);
    opened = at_kept (λ p. p.opened) s.opened;
  }

  pub still_seated : (bs : List (List ℕ)) → IsSeated bs ps → b.board ≡ (pass_at ps k).board → b.opened ≡ (pass_at ps k).opened → IsKept b → IsSeated bs (set ps k b)
  still_seated bs h board opened kept = record {
    wide = length-set ps k b ∙ h.wide;
    boards = h.boards;
    over = λ j. at_kept (λ p. p.board) board j ∙ h.over j;
    numbered = λ j small. ap (λ (w : World). w.shard) (at_kept (λ p. p.opened) opened j) ∙ h.numbered j small;
    kept = at_each (λ j p. IsKept p) kept (λ j n. h.kept j);
  }

  -- ---- a call

  module _ (s : IsSame (pass_at ps k) b) where
    pub not_called : b.seen ≡ (pass_at ps k).seen → Calls (passes_view ps) (passes_view (set ps k b)) []
    not_called e = calls_still (passes_view ps) (passes_view (set ps k b)) (same_desk s) (at_kept (λ p. p.seen) e)

    pub no_mail : b.mail ≡ (pass_at ps k).mail → Mails (passes_view ps) (passes_view (set ps k b)) []
    no_mail e = mails_still (passes_view ps) (passes_view (set ps k b)) (same_desk s) (λ j n. ap (λ (ls : List (List MailEntry)). node_mail ls n) (at_kept (λ p. p.mail) e j))

pub record CallDone (ps qs : List PassView) (k : ℕ) (x : Step) (r : Reply) : Type 0 where
  pub calls : Calls (passes_view ps) (passes_view qs) (made k x r ∷ [])
  pub last : EndsWith (passes_view ps) (passes_view qs) k x r
  pub fits : replies_to x r ≡ true

-- the reply of the entry that was seen last is that of the world before it
last_reply : (w : World) (es : List (Entry Step Reply)) (e : Entry Step Reply) → IsLegal step w (es ++ e ∷ []) → e.reply ≡ (step (world_after step w es) e.step).1
last_reply w es e l = (legal_back step w es (e ∷ []) l).0

module _ (ps : List PassView) (k : ℕ) (b : PassView) (low : k < length ps) (s : IsSame (pass_at ps k) b) (kept : IsKept b) where
  pub call_done : (x : Step) (r : Reply) → ((w : World) (y : Step) → replies_to y (step w y).1 ≡ true) → IsKept (pass_at ps k) → Replied (pass_at ps k) b x r → CallDone ps (set ps k b) k x r
  call_done x r law was h =
      let a : PassView = pass_at ps k in
      let last : EndsWith (passes_view ps) (passes_view (set ps k b)) k x r = record {
        between = h.between;
        seen = ap (λ (p : PassView). p.seen) (at_same ps k b low) ∙ h.seen;
        foreign = none_own entry_by (λ n. has a.numbers n) h.between h.foreign;
        legal = subst (λ (p : PassView). IsLegal step p.opened p.seen) (sym (at_same ps k b low)) kept.legal;
        each_proper = subst (λ (p : PassView). AllProper proper p.seen) (sym (at_same ps k b low)) kept.each_proper;
      } in
      let reply : r ≡ (step (world_after step b.opened (a.seen ++ h.between)) x).1 =
      last_reply b.opened (a.seen ++ h.between) (entry a.number x r) (subst (IsLegal step b.opened) h.seen kept.legal) in
      record {
        calls = calls_one (passes_view ps) (passes_view (set ps k b)) k x r (record {
          same = same_desk ps k b low s;
          signs = was.signs;
          last = last;
          others = λ j n. ap (λ (p : PassView). p.seen) (at_other ps k b low j n);
        });
        last = last;
        fits = subst (λ (y : Reply). replies_to x y ≡ true) (sym reply) (law (world_after step b.opened (a.seen ++ h.between)) x);
      }

-- what was seen is accounted for, and after it each row is cared for
pub accounted_at : (ps : List PassView) (k : ℕ) → IsKept (pass_at ps k)
    → ((number next : ℕ) (es : List (Entry Step Reply)) → IsLegal step (start number next) es → IsAccounted (start number next) es)
    → (number next : ℕ) → (passes_view ps).opened k ≡ start number next → IsAccounted (start number next) ((passes_view ps).seen k)
accounted_at ps k kept law number next e = law number next (pass_at ps k).seen (subst (λ (w : World). IsLegal step w (pass_at ps k).seen) e kept.legal)

pub cared_at : (ps : List PassView) (k : ℕ) → IsKept (pass_at ps k)
    → ((w : World) (es : List (Entry Step Reply)) → IsReached w → IsLegal step w es → IsReached (world_after step w es))
    → ((w : World) → IsReached w → is_cared w ≡ true)
    → is_cared (world_at (passes_view ps) k) ≡ true
cared_at ps k kept onward law = law (world_at (passes_view ps) k) (onward (pass_at ps k).opened (pass_at ps k).seen kept.opened kept.legal)

-- ---- mail

pub record MailDone (ps qs : List PassView) (k n : ℕ) (c : MailChange) : Type 0 where
  pub mails : Mails (passes_view ps) (passes_view qs) (written k n c ∷ [])
  pub last : MailEndsWith (passes_view ps) (passes_view qs) k n c

module _ (ps : List PassView) (k : ℕ) (b : PassView) (low : k < length ps) (s : IsSame (pass_at ps k) b) (was : IsKept (pass_at ps k)) where
  mail_others : (slot : ℕ) (c : MailChange) → SlotEndsWith slot c (pass_at ps k).number (pass_at ps k).numbers (pass_at ps k).mail b.mail →
      (j m : ℕ) → ((j ≡ k) × (m ≡ suc slot) → ⊥) → node_mail (pass_at (set ps k b) j).mail m ≡ node_mail (pass_at ps j).mail m
  mail_others slot c h j zero n = refl
  mail_others slot c h j (suc i) n = dite (ℕ_discrete j k)
      (λ e. subst (λ (z : ℕ). mail_at (pass_at (set ps k b) z).mail i ≡ mail_at (pass_at ps z).mail i) (sym e)
      (ap (λ (p : PassView). mail_at p.mail i) (at_same ps k b low) ∙ h.others i (λ is. n (e, ap suc is))))
      (λ away. ap (λ (p : PassView). mail_at p.mail i) (at_other ps k b low j away))

  pub mail_done : (slot : ℕ) (c : MailChange) → SlotEndsWith slot c (pass_at ps k).number (pass_at ps k).numbers (pass_at ps k).mail b.mail → MailDone ps (set ps k b) k (suc slot) c
  mail_done slot c h =
      let last : MailEndsWith (passes_view ps) (passes_view (set ps k b)) k (suc slot) c = record {
        between = h.between;
        mail = ap (λ (p : PassView). mail_at p.mail slot) (at_same ps k b low) ∙ h.mail;
        foreign = none_own mail_by (λ n. has (pass_at ps k).numbers n) h.between h.foreign;
        found = h.found;
        legal = subst (λ (p : PassView). IsLegalMail (mail_at p.mail slot)) (sym (at_same ps k b low)) h.legal;
      } in
      record {
        mails = mails_one (passes_view ps) (passes_view (set ps k b)) k (suc slot) c (record {
          same = same_desk ps k b low s;
          signs = was.signs;
          last = last;
          others = mail_others slot c h;
        });
        last = last;
      }
