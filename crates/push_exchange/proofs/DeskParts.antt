-- Passes that were split, joined, asked and closed, as desks.
use Rattle.std.proofs.Common.{◌≡◌, ℕ, zero, suc, ◌<◌, ◌==◌, ◌||◌, Bool, true, false, List, [], length, refl, sym, ap, ◌∙◌, subst, arith}
use Rattle.std.proofs.lemmas.List.Folds.{list_any-append}
use Rattle.push_model.specs.declared.entry.Entry.{Entry}
use Rattle.push_model.specs.declared.mail.MailEntry.{MailEntry}
use Rattle.push_model.specs.declared.step.Step.{Step}
use Rattle.push_model.specs.declared.reply.Reply.{Reply}
use Rattle.push_model.specs.Worlds.{World, start}
use Rattle.push_model.specs.Steps.{step}
use Rattle.push_model.specs.Reached.{IsReached}
use Rattle.push_model.specs.Histories.{IsLegal, world_after}
use Rattle.push_model.specs.Accounting.{IsAccounted}
use Rattle.push_model.specs.Caring.{is_cared}
use Rattle.push_model.specs.MailWords.{IsLegalMail}
use Rattle.push_model.specs.DeskViews.{Calls, IsFront, IsHonest, IsSameDesk, Mails, entry_by, mail_by, own_among}
use Rattle.push_model.proofs.DeskLemmas.{calls_still, mails_still}
use Rattle.turn_board.specs.Numbers.{GrewByOthers, has, longer, own_by}
use Rattle.turn_board.specs.Views.{longer_each, mail_at}
use Rattle.turn_board.proofs.PinLemmas.{own_grown}
use Rattle.turn_board.proofs.Fronts.{at_longer_each}
use Rattle.push_exchange.specs.PassViews.{HasSeenPart, IsKept, IsUnmoved, PassView}
use Rattle.push_exchange.specs.Boards.{AllAsked, HasPart, IsClosed, IsFresh, IsJoined, IsSeated, IsSplit, board_at, no_pass, node_mail, pass_at, passes_view}
use Rattle.push_exchange.specs.Rounds.{AllEnded, AllJoined, AllSplitOff, AllUnmoved, IsOpened}
use Rattle.push_exchange.proofs.PassLists.{accounted_at, cared_at}
use Rattle.push_exchange.proofs.RoundLemmas.{either, past}

-- ---- nothing more is seen

unmoved_self : (p : PassView) → IsUnmoved p p
unmoved_self p = record { same = record { board = refl; number = refl; numbers = refl; opened = refl }; seen = refl; mail = refl }

same_all : (ps qs : List PassView) → AllUnmoved ps qs → IsSameDesk (passes_view ps) (passes_view qs)
same_all ps qs h = record {
  size = h.wide;
  board = λ k. (h.each k).same.board;
  number = λ k. (h.each k).same.number;
  is_own = λ k n. ap (λ (ns : List ℕ). has ns n) (h.each k).same.numbers;
  opened = λ k. (h.each k).same.opened;
}

pub unmoved_calls : (v ps qs : List PassView) → ps ≡ v → AllUnmoved ps qs → Calls (passes_view v) (passes_view qs) []
unmoved_calls v ps qs is h = subst (λ (l : List PassView). Calls (passes_view l) (passes_view qs) []) is (calls_still (passes_view ps) (passes_view qs) (same_all ps qs h) (λ k. (h.each k).seen))

pub unmoved_mails : (v ps qs : List PassView) → ps ≡ v → AllUnmoved ps qs → Mails (passes_view v) (passes_view qs) []
unmoved_mails v ps qs is h = subst (λ (l : List PassView). Mails (passes_view l) (passes_view qs) []) is (mails_still (passes_view ps) (passes_view qs) (same_all ps qs h) (λ k n. ap (λ (ls : List (List MailEntry)). node_mail ls n) (h.each k).mail))

-- ---- honest

mail_kept : (p : PassView) → IsKept p → (n : ℕ) → IsLegalMail (node_mail p.mail n)
mail_kept p k zero = tt
mail_kept p k (suc slot) = k.mail slot

pub honest_view : (bs : List (List ℕ)) (ps : List PassView) → IsSeated bs ps → IsHonest (passes_view ps)
honest_view bs ps h = record {
  numbered = λ k low. h.numbered k (let w = h.wide in omega arith);
  opened = λ k. (h.kept k).opened;
  legal = λ k. (h.kept k).legal;
  each_proper = λ k. (h.kept k).each_proper;
  signs = λ k. (h.kept k).signs;
  mail = λ k n. mail_kept (pass_at ps k) (h.kept k) n;
}

-- ---- opened

no_mail_at : (n : ℕ) → node_mail [] n ≡ []
no_mail_at zero = refl
no_mail_at (suc slot) = refl

or_false : (b : Bool) → (b || false) ≡ b
or_false true = refl
or_false false = refl

-- what holds of each of the sixteen, and of what stands for the others
all_of : (P : PassView → Type 0) (ps : List PassView) → length ps ≡ 16 → P no_pass → ((k : ℕ) → k < 16 → P (pass_at ps k)) → (k : ℕ) → P (pass_at ps k)
all_of P ps wide none each = either {P = λ k. P (pass_at ps k)} each (λ k high. subst P (sym (past ps k wide high)) none)

pub fresh_view : (bs : List (List ℕ)) (ps : List PassView) → IsOpened 16 bs ps → IsFresh (passes_view ps)
fresh_view bs ps h = record {
  size = h.wide;
  number = all_of (λ p. p.number ≡ 0) ps h.wide refl (λ k low. ap (λ (p : PassView). p.number) (h.each k low));
  is_own = λ k n. all_of (λ p. has p.numbers n ≡ (0 == n)) ps h.wide (or_false (0 == n)) (λ j low. ap (λ (p : PassView). has p.numbers n) (h.each j low) ∙ or_false (0 == n)) k;
  opened = λ k low. ap (λ (p : PassView). p.opened) (h.each k low);
  seen = all_of (λ p. p.seen ≡ []) ps h.wide refl (λ k low. ap (λ (p : PassView). p.seen) (h.each k low));
  mail = λ k n. all_of (λ p. node_mail p.mail n ≡ []) ps h.wide (no_mail_at n) (λ j low. ap (λ (p : PassView). node_mail p.mail n) (h.each j low) ∙ no_mail_at n) k;
}

-- ---- split

-- what holds of each two of the sixteen, and of what stands for the others
all_of_two : (P : PassView → PassView → Type 0) (ps qs : List PassView) → length ps ≡ 16 → length qs ≡ 16 → P no_pass no_pass → ((k : ℕ) → k < 16 → P (pass_at ps k) (pass_at qs k)) → (k : ℕ) → P (pass_at ps k) (pass_at qs k)
all_of_two P ps qs wide wide_too none each = either {P = λ k. P (pass_at ps k) (pass_at qs k)} each
    (λ k high. subst (λ (p : PassView). P p (pass_at qs k)) (sym (past ps k wide high)) (subst (P no_pass) (sym (past qs k wide_too high)) none))

node_none : (p : PassView) → ((slot : ℕ) → own_by mail_by p.numbers (mail_at p.mail slot) ≡ []) → (n : ℕ) → own_among mail_by (λ m. has p.numbers m) (node_mail p.mail n) ≡ []
node_none p none zero = refl
node_none p none (suc slot) = none slot

pub split_view : (bs : List (List ℕ)) (v ps qs : List PassView) → ps ≡ v → IsSeated bs ps → AllSplitOff 16 ps qs → IsSplit (passes_view v) (passes_view qs)
split_view bs v ps qs is h s = subst (λ (l : List PassView). IsSplit (passes_view l) (passes_view qs)) is (record {
  size = s.wide ∙ sym h.wide;
  board = all_of_two (λ p q. q.board ≡ p.board) ps qs h.wide s.wide refl (λ k low. (s.each k low).board);
  opened = all_of_two (λ p q. q.opened ≡ p.opened) ps qs h.wide s.wide refl (λ k low. (s.each k low).opened);
  seen = all_of_two (λ p q. q.seen ≡ p.seen) ps qs h.wide s.wide refl (λ k low. (s.each k low).seen);
  mail = λ k n. all_of_two (λ p q. node_mail q.mail n ≡ node_mail p.mail n) ps qs h.wide s.wide refl (λ j low. ap (λ (ls : List (List MailEntry)). node_mail ls n) (s.each j low).mail) k;
  one = λ k n. all_of (λ q. has q.numbers n ≡ (q.number == n)) qs s.wide (or_false (0 == n))
      (λ j low. ap (λ (ns : List ℕ). has ns n) (s.each j low).one ∙ or_false ((pass_at qs j).number == n)) k;
  fresh = λ k low. (s.each k (let w = s.wide in omega arith)).fresh;
  none_own = all_of (λ q. own_among entry_by (λ n. has q.numbers n) q.seen ≡ []) qs s.wide refl (λ k low. (s.each k low).none_own);
  none_own_mail = λ k. node_none (pass_at qs k) (all_of (λ q. (slot : ℕ) → own_by mail_by q.numbers (mail_at q.mail slot) ≡ []) qs s.wide (λ slot. refl) (λ j low. (s.each j low).none_own_mail) k);
})

-- ---- joined

-- passes of the same boards
pub seated_beside : (bs cs : List (List ℕ)) (os : List PassView) → IsSeated cs os → length bs ≡ 16 → ((k : ℕ) → (pass_at os k).board ≡ board_at bs k) → IsSeated bs os
seated_beside bs cs os h boards over = record { wide = h.wide; boards = boards; over = over; numbered = h.numbered; kept = h.kept }

front_of : {A : Type 0} → (by : A → ℕ) (ns : List ℕ) (xs ys : List A) → GrewByOthers by ns xs ys → IsFront xs ys
front_of by ns xs ys g = (g.0, g.1)

module _ (part new : PassView) (h : HasSeenPart new part) where
  mail_front : (n : ℕ) → IsFront (node_mail part.mail n) (node_mail new.mail n)
  mail_front zero = ([], refl)
  mail_front (suc slot) = front_of mail_by part.numbers (mail_at part.mail slot) (mail_at new.mail slot) (h.mail slot)

  mail_own : (n : ℕ) → own_among mail_by (λ m. has part.numbers m) (node_mail new.mail n) ≡ own_among mail_by (λ m. has part.numbers m) (node_mail part.mail n)
  mail_own zero = refl
  mail_own (suc slot) = own_grown mail_by part.numbers (mail_at part.mail slot) (mail_at new.mail slot) (h.mail slot)

part_view : (ps qs : List PassView) → length qs ≡ 16 → ((k : ℕ) → k < 16 → HasSeenPart (pass_at qs k) (pass_at ps k)) → HasPart (passes_view ps) (passes_view qs)
part_view ps qs wide h =
    let small : (k : ℕ) → k < length qs → k < 16 = λ k low. omega arith in
    record {
      seen = λ k low. front_of entry_by (pass_at ps k).numbers (pass_at ps k).seen (pass_at qs k).seen (h k (small k low)).seen;
      own = λ k low. own_grown entry_by (pass_at ps k).numbers (pass_at ps k).seen (pass_at qs k).seen (h k (small k low)).seen;
      mail = λ k n low. mail_front (pass_at ps k) (pass_at qs k) (h k (small k low)) n;
      own_mail = λ k n low. mail_own (pass_at ps k) (pass_at qs k) (h k (small k low)) n;
    }

longer_mail : (xs ys : List (List MailEntry)) (n : ℕ) → node_mail (longer_each xs ys) n ≡ longer (node_mail xs n) (node_mail ys n)
longer_mail xs ys zero = refl
longer_mail xs ys (suc slot) = at_longer_each xs ys slot

pub joined_view : (bs : List (List ℕ)) (v w ps os qs : List PassView) → ps ≡ v → os ≡ w → IsSeated bs ps → AllJoined 16 ps os qs → IsJoined (passes_view v) (passes_view w) (passes_view qs)
joined_view bs v w ps os qs is that h j =
    let wide : length qs ≡ 16 = j.wide ∙ h.wide in
    let small : (k : ℕ) → k < length qs → k < 16 = λ k low. omega arith in
    subst (λ (l : List PassView). IsJoined (passes_view l) (passes_view w) (passes_view qs)) is
    (subst (λ (l : List PassView). IsJoined (passes_view ps) (passes_view l) (passes_view qs)) that (record {
      size = j.wide;
      board = all_of_two (λ p q. q.board ≡ p.board) ps qs h.wide wide refl (λ k low. (j.each k low).board);
      number = all_of_two (λ p q. q.number ≡ p.number) ps qs h.wide wide refl (λ k low. (j.each k low).number);
      opened = all_of_two (λ p q. q.opened ≡ p.opened) ps qs h.wide wide refl (λ k low. (j.each k low).opened);
      is_own = λ k n low. ap (λ (ns : List ℕ). has ns n) (j.each k (small k low)).numbers ∙ list_any-append (λ x. x == n) (pass_at ps k).numbers (pass_at os k).numbers;
      seen = λ k low. (j.each k (small k low)).seen;
      mail = λ k n low. ap (λ (ls : List (List MailEntry)). node_mail ls n) (j.each k (small k low)).mail ∙ longer_mail (pass_at ps k).mail (pass_at os k).mail n;
      this = part_view ps qs wide (λ k low. (j.each k low).this);
      that = part_view os qs wide (λ k low. (j.each k low).that);
    }))

-- ---- asked and closed

asked_unmoved : (ps qs : List PassView) → AllAsked 16 ps qs → AllUnmoved ps qs
asked_unmoved ps qs h = record {
  wide = h.wide;
  each = either {P = λ k. IsUnmoved (pass_at ps k) (pass_at qs k)} (λ k low. (h.each k low).unmoved)
      (λ k high. subst (λ (p : PassView). IsUnmoved (pass_at ps k) p) (sym (h.rest k high)) (unmoved_self (pass_at ps k)));
}

pub asked_calls : (v ps qs : List PassView) → ps ≡ v → AllAsked 16 ps qs → Calls (passes_view v) (passes_view qs) []
asked_calls v ps qs is h = unmoved_calls v ps qs is (asked_unmoved ps qs h)

pub asked_mails : (v ps qs : List PassView) → ps ≡ v → AllAsked 16 ps qs → Mails (passes_view v) (passes_view qs) []
asked_mails v ps qs is h = unmoved_mails v ps qs is (asked_unmoved ps qs h)

pub closed_view : (bs : List (List ℕ)) (v ps qs : List PassView) (ws : List World) → ps ≡ v → IsSeated bs ps → AllAsked 16 ps qs → AllEnded 16 qs ws
    → ((number next : ℕ) (es : List (Entry Step Reply)) → IsLegal step (start number next) es → IsAccounted (start number next) es)
    → ((w : World) (es : List (Entry Step Reply)) → IsReached w → IsLegal step w es → IsReached (world_after step w es))
    → ((w : World) → IsReached w → is_cared w ≡ true)
    → IsClosed (passes_view v) ws
closed_view bs v ps qs ws is h asked ended law onward cared = subst (λ (l : List PassView). IsClosed (passes_view l) ws) is (record {
  wide = ended.wide;
  world = λ k low. (ended.each k low).world ∙ (λ i. world_after step ((asked.each k low).unmoved.same.opened i) ((asked.each k low).unmoved.seen i));
  honest = honest_view bs ps h;
  accounted = λ k. accounted_at ps k (h.kept k) law;
  cared = λ k. cared_at ps k (h.kept k) onward cared;
})
