-- What was sent, one call after the other.
use Rattle.std.proofs.Common.{◌≡◌, ℕ, ◌≤◌, ◌<◌, ◌+◌, List, [], ◌∷◌, ◌++◌, length, get_or, take, drop, map, refl, ap, sym, ◌∙◌, append_assoc, arith, Result, Ok, Err, Option, Some, None}
use Rattle.std.proofs.lemmas.List.{append-nil, map-append, take_more, take-append-drop}
use Rattle.push_model.specs.DeskViews.{IsFront}
use Rattle.push_model.specs.MessageValue.{MessageValue}
use Rattle.push_model.specs.declared.reply.Reply.{Reply}
use Rattle.push_model.specs.declared.reply.Reply.TheVariants.{Page}
use Rattle.push_outside.specs.Chats.{told_more}
use Rattle.session_drive.specs.declared.ends.SessionEnd.{SessionEnd}
use Rattle.session_drive.specs.declared.ends.SessionEnd.TheVariants.{Stale, Outrun, Down, UaidSpent, TokenSpent, Ended, Refused, Left, ChatFault, NoMemory}
use Rattle.session_drive.specs.Chats.{ChatView, AreSent, FaultsBy, Said, IsSendEnd, Sends, end_of}
use Rattle.session_drive.specs.Asked.{AskEnds}

told_twice : {A : Type 0} → (o : Option (List A)) (xs ys : List A) → told_more (told_more o xs) ys ≡ told_more o (xs ++ ys)
told_twice None xs ys = refl
told_twice (Some zs) xs ys = ap Some (append_assoc zs xs ys)

told_none : {A : Type 0} → (o : Option (List A)) → o ≡ told_more o []
told_none None = refl
told_none (Some zs) = ap Some (sym (append-nil zs))

-- ---- nothing

quiet : (a : ChatView) (e : Option SessionEnd) (all : List (List ℕ)) → AreSent e [] all → FaultsBy e a.faults a.faults → Said e all a a
quiet a e all are faults = record { texts = []; sent = told_none a.sent; are = are; faults = faults; left = refl; taken = refl; code = refl }

pub said_nothing : (a : ChatView) → Said None [] a a
said_nothing a = quiet a None [] refl refl

pub said_ended : (a : ChatView) → Said (Some Ended) [] a a
said_ended a = quiet a (Some Ended) [] refl refl

pub said_spent : (a : ChatView) → Said (Some TokenSpent) [] a a
said_spent a = quiet a (Some TokenSpent) [] refl refl

pub said_wanting : (all : List (List ℕ)) (a : ChatView) → Said (Some NoMemory) all a a
said_wanting all a = quiet a (Some NoMemory) all (all, refl) refl

pub sends_nothing : {A : Type 0} → (all : List (List ℕ)) (a : ChatView) → Sends {A = A} (Err NoMemory) all a a
sends_nothing all a = record { only = tt; said = said_wanting all a }

-- ---- one after the other

front_behind : (xs ts ys : List (List ℕ)) → IsFront ts ys → IsFront (xs ++ ts) (xs ++ ys)
front_behind xs ts ys h = (h.0, ap (λ zs. xs ++ zs) h.1 ∙ sym (append_assoc xs ts h.0))

front_within : (ts ys zs : List (List ℕ)) → IsFront ts ys → IsFront ts (ys ++ zs)
front_within ts ys zs h = (h.0 ++ zs, ap (λ ws. ws ++ zs) h.1 ∙ append_assoc ts h.0 zs)

sent_behind : (e : Option SessionEnd) (xs ts ys : List (List ℕ)) → AreSent e ts ys → AreSent e (xs ++ ts) (xs ++ ys)
sent_behind (Some ChatFault) xs ts ys h = front_behind xs ts ys h
sent_behind (Some NoMemory) xs ts ys h = front_behind xs ts ys h
sent_behind None xs ts ys h = ap (λ zs. xs ++ zs) h
sent_behind (Some (Stale at)) xs ts ys h = ap (λ zs. xs ++ zs) h
sent_behind (Some (Outrun at)) xs ts ys h = ap (λ zs. xs ++ zs) h
sent_behind (Some Down) xs ts ys h = ap (λ zs. xs ++ zs) h
sent_behind (Some UaidSpent) xs ts ys h = ap (λ zs. xs ++ zs) h
sent_behind (Some TokenSpent) xs ts ys h = ap (λ zs. xs ++ zs) h
sent_behind (Some Ended) xs ts ys h = ap (λ zs. xs ++ zs) h
sent_behind (Some Refused) xs ts ys h = ap (λ zs. xs ++ zs) h
sent_behind (Some Left) xs ts ys h = ap (λ zs. xs ++ zs) h

-- all of the first, and then what the second sent
pub said_then : (e : Option SessionEnd) (xs ys : List (List ℕ)) (a b c : ChatView) → Said None xs a b → Said e ys b c → Said e (xs ++ ys) a c
said_then e xs ys a b c f g = record {
  texts = xs ++ g.texts;
  sent = g.sent ∙ (ap (λ o. told_more o g.texts) (f.sent ∙ ap (told_more a.sent) f.are) ∙ told_twice a.sent xs g.texts);
  are = sent_behind e xs g.texts ys g.are;
  faults = rw (← f.faults) g.faults;
  left = g.left ∙ f.left;
  taken = g.taken ∙ f.taken;
  code = g.code ∙ f.code;
}

sent_within : (e : SessionEnd) (ts ys zs : List (List ℕ)) → IsSendEnd (Some e) → AreSent (Some e) ts ys → AreSent (Some e) ts (ys ++ zs)
sent_within ChatFault ts ys zs o h = front_within ts ys zs h
sent_within NoMemory ts ys zs o h = front_within ts ys zs h
sent_within e ts ys zs o h = absurd o

-- what failed was to send more
pub said_within : (e : SessionEnd) (xs zs : List (List ℕ)) (a b : ChatView) → IsSendEnd (Some e) → Said (Some e) xs a b → Said (Some e) (xs ++ zs) a b
said_within e xs zs a b o f = record { texts = f.texts; sent = f.sent; are = sent_within e f.texts xs zs o f.are; faults = f.faults; left = f.left; taken = f.taken; code = f.code }

-- ---- a page, message by message

module _ (f : MessageValue → List ℕ) (ms : List MessageValue) (i : ℕ) (m : MessageValue) where
  texts_more : i < length ms → m ≡ get_or ms i m → map f (take (i + 1) ms) ≡ map f (take i ms) ++ f m ∷ []
  texts_more lt e = rw (take_more ms i m lt, ← e) (map-append f (take i ms) (m ∷ []))

  pub page_more : (a b c : ChatView) → i < length ms → m ≡ get_or ms i m → Said None (map f (take i ms)) a b → Said None (f m ∷ []) b c → Said None (map f (take (i + 1) ms)) a c
  page_more a b c lt e h k = rw (texts_more lt e) (said_then None (map f (take i ms)) (f m ∷ []) a b c h k)

  pub page_cut : (end : SessionEnd) (a b c : ChatView) → i < length ms → m ≡ get_or ms i m → Said None (map f (take i ms)) a b → Sends {A = Unit {0}} (Err end) (f m ∷ []) b c → Sends {A = Unit {0}} (Err end) (map f ms) a c
  page_cut end a b c lt e h k =
      let cut = said_within end (map f (take i ms) ++ f m ∷ []) (map f (drop (i + 1) ms)) a c k.only (said_then (Some end) (map f (take i ms)) (f m ∷ []) a b c h k.said) in
      let whole : map f (take (i + 1) ms) ++ map f (drop (i + 1) ms) ≡ map f ms = sym (map-append f (take (i + 1) ms) (drop (i + 1) ms)) ∙ ap (map f) (take-append-drop (i + 1) ms) in
      record { only = k.only; said = rw (← texts_more lt e, whole) at cut }

-- a page that wasn't sent whole
pub page_ends : {A : Type 0} → (Means : A → Reply → Type 0) (e : SessionEnd) (page : List MessageValue) → IsSendEnd (Some e) → AskEnds Means (Err e) (Some (Page page))
page_ends Means ChatFault page h = refl
page_ends Means NoMemory page h = refl
page_ends Means e page h = absurd h
