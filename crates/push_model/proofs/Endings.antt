-- The ends of subscriptions: Unsubscribe and Drop make the pool grow, and the messages sent there have a reason.
use Rattle.std.proofs.Common.{◌≡◌, ℕ, Bool, true, false, not, cond, ◌&&◌, ◌⊎◌, inl, inr, List, [], ◌∷◌, filter, refl, ◌∙◌, ap, sym, subst, arith}
use Rattle.std.specs.Prelude.{map, find, Option, Some, None, is_some, nat_lt, if◌then◌else◌}
use Rattle.std.specs.List.{list_any, list_all}
use Rattle.std.proofs.lemmas.Bool.Decides.{nat_tests}
use Rattle.push_model.specs.declared.ids.Uaid.{Uaid}
use Rattle.push_model.specs.declared.ids.ChannelId.{ChannelId}
use Rattle.push_model.specs.Names.{is_same_channel}
use Rattle.push_model.specs.MessageValue.{MessageValue}
use Rattle.push_model.specs.Pools.{Taken, Pool, Unsubscribe, Drop, taken_at, is_taken, is_live_at, is_subscribed, is_same_user, is_target, is_sent_to, replaces, unsubscribed_at, dropped_at, reason_of, after, IsAt, IsAsTaken}
use Rattle.push_model.proofs.Members.{In, true_not_false, among, list_any-in, in_filter}
use Rattle.push_model.proofs.Marks.{both, and_left, and_right, IsMark, mapped}
use Rattle.push_model.proofs.Reasons.{HasReason, LastsAt, reason_at, unsubscribed_has, dropped_has}
use Rattle.push_model.proofs.Growth.{Touch, GrewAt, Steady}

-- ---- every message is marked

taken_cons : (n : ℕ) (g : Taken → Taken) (b : Bool) (x : Taken) (xs ys : List Taken) → IsMark g → is_taken n x ≡ b →
    find (is_taken n) ys ≡ mapped g (find (is_taken n) xs) → find (is_taken n) (g x ∷ ys) ≡ mapped g (cond b (Some x) (find (is_taken n) xs))
taken_cons n g true x xs ys k e h = rw (k.message x, e) refl
taken_cons n g false x xs ys k e h = rw (k.message x, e) h

taken_mapped : (n : ℕ) (g : Taken → Taken) (xs : List Taken) → IsMark g → find (is_taken n) (map g xs) ≡ mapped g (find (is_taken n) xs)
taken_mapped n g [] k = refl
taken_mapped n g (x ∷ xs) k = taken_cons n g (is_taken n x) x xs (map g xs) k refl (taken_mapped n g xs k)

kept_test : (g : Taken → Taken) (t : Taken) (r : Bool) → IsMark g → (t.kept && r) ≡ true → ((g t).kept && r) ≡ true
kept_test g t r k e = both (g t).kept r (k.kept t (and_left t.kept r e)) (and_right t.kept r e)

replaces_still : (m : MessageValue) (g : Taken → Taken) (t : Taken) → IsMark g → replaces m t ≡ true → replaces m (g t) ≡ true
replaces_still m g t k e = rw (k.message t) (kept_test g t _ k e)

found_or : (b c : Bool) (x y : Taken) (o r : Option Taken) → (b ≡ true → c ≡ true) → (is_some o ≡ true → is_some r ≡ true) → is_some (cond b (Some x) o) ≡ true →
    is_some (cond c (Some y) r) ≡ true
found_or true c x y o r f g h = rw (f refl) refl
found_or false true x y o r f g h = refl
found_or false false x y o r f g h = g h

replaced_mapped : (m : MessageValue) (g : Taken → Taken) (xs : List Taken) → IsMark g → is_some (find (replaces m) xs) ≡ true →
    is_some (find (replaces m) (map g xs)) ≡ true
replaced_mapped m g [] k h = h
replaced_mapped m g (x ∷ xs) k h =
    found_or (replaces m x) (replaces m (g x)) x (g x) (find (replaces m) xs) (find (replaces m) (map g xs)) (replaces_still m g x k) (replaced_mapped m g xs k) h

above_mapped : (k : ℕ) (g : Taken → Taken) (xs : List Taken) → IsMark g → list_all (λ t. nat_lt t.message.id.number k) (map g xs) ≡ list_all (λ t. nat_lt t.message.id.number k) xs
above_mapped k g [] m = refl
above_mapped k g (x ∷ xs) m = rw (m.message x, above_mapped k g xs m) refl

-- a mark of every message makes the pool grow, where reasons last
mapped_steady : (A : Touch) (g : Taken → Taken) (subs : List (Uaid × ChannelId)) (p : Pool) → IsMark g → ((o : Option Taken) → GrewAt A o (mapped g o)) →
    ((o : Option Taken) → LastsAt o (mapped g o)) → ((o : Option Taken) → is_live_at (mapped g o) ≡ true → is_live_at o ≡ true) →
    ((x : Uaid) (h : ChannelId) → is_subscribed x h p ≡ true → (list_any (is_target x h) subs ≡ true) ⊎ A.ended x h) →
    Steady A p (record p { subscribed = subs; taken = map g p.taken })
mapped_steady A g subs p k a l d s =
    let q : Pool = record p { subscribed = subs; taken = map g p.taken } in
    let at : (n : ℕ) → taken_at n q ≡ mapped g (taken_at n p) = λ n. taken_mapped n g p.taken k in
    record {
      grew =
          record {
            at = λ n. subst (GrewAt A (taken_at n p)) (sym (at n)) (a (taken_at n p));
            reasons = λ n h. inl (reason_at p q (taken_at n p) (taken_at n q) (λ m. replaced_mapped m g p.taken k) refl (subst (LastsAt (taken_at n p)) (sym (at n)) (l (taken_at n p))) h);
            clock = refl;
            subscribed = s;
          };
      live = λ n h. d (taken_at n p) (ap is_live_at (sym (at n)) ∙ h);
      above = λ n h. above_mapped n g p.taken k ∙ h;
    }

-- ---- Unsubscribe

abbrev unsubscribed_if : Bool → Taken → Taken
unsubscribed_if b t = if b then record t { unsubscribed = true } else t

unsub_mark : (b : Bool) (t : Taken) → ((unsubscribed_if b t).message ≡ t.message) × (t.kept ≡ true → (unsubscribed_if b t).kept ≡ true)
unsub_mark true t = (refl, λ h. h)
unsub_mark false t = (refl, λ h. h)

unsub_is_mark : (u : Uaid) (h : ChannelId) → IsMark (unsubscribed_at u h)
unsub_is_mark u h = record { message = λ t. (unsub_mark (is_sent_to u h t.message) t).0; kept = λ t. (unsub_mark (is_sent_to u h t.message) t).1 }

unsub_some : (A : Touch) (b : Bool) (t : Taken) → GrewAt A (Some t) (Some (unsubscribed_if b t))
unsub_some A true t = record { later = record { message = refl; kept = λ e. e; shown = λ e. e }; left = refl; answer = inl refl; kept = inl refl }
unsub_some A false t = record { later = record { message = refl; kept = λ e. e; shown = λ e. e }; left = refl; answer = inl refl; kept = inl refl }

unsub_grown : (A : Touch) (u : Uaid) (h : ChannelId) (o : Option Taken) → GrewAt A o (mapped (unsubscribed_at u h) o)
unsub_grown A u h None = tt
unsub_grown A u h (Some t) = unsub_some A (is_sent_to u h t.message) t

unsub_lasts_by : (b : Bool) (t : Taken) → LastsAt (Some t) (Some (unsubscribed_if b t))
unsub_lasts_by true t = record { message = refl; acked = λ e. e; unsubscribed = λ e. refl; dropped = λ e. e; refused = λ e. e; lost = λ e. e }
unsub_lasts_by false t = record { message = refl; acked = λ e. e; unsubscribed = λ e. e; dropped = λ e. e; refused = λ e. e; lost = λ e. e }

unsub_lasts : (u : Uaid) (h : ChannelId) (o : Option Taken) → LastsAt o (mapped (unsubscribed_at u h) o)
unsub_lasts u h None = tt
unsub_lasts u h (Some t) = unsub_lasts_by (is_sent_to u h t.message) t

unsub_live_by : (b : Bool) (t : Taken) → is_live_at (Some (unsubscribed_if b t)) ≡ true → is_live_at (Some t) ≡ true
unsub_live_by true t e = e
unsub_live_by false t e = e

unsub_live : (u : Uaid) (h : ChannelId) (o : Option Taken) → is_live_at (mapped (unsubscribed_at u h) o) ≡ true → is_live_at o ≡ true
unsub_live u h None e = e
unsub_live u h (Some t) e = unsub_live_by (is_sent_to u h t.message) t e

-- the subscription of that user to that channel may end
abbrev pub Ends : Uaid → ChannelId → Touch
Ends u h = record { answered = λ m. ⊥; kept = λ m. ⊥; ended = λ x k. (x.0 ≡ u.0) × (is_same_channel k h ≡ true) }

same_target : (u x : Uaid) (h k : ChannelId) (y : Uaid × ChannelId) → is_target x k y ≡ true → is_target u h y ≡ true → (x.0 ≡ u.0) × (is_same_channel k h ≡ true)
same_target u x h k y a b =
    let e : x.0 ≡ u.0 = grind (arith, nat_tests) in
    let f : is_same_channel k h ≡ true = grind (arith, nat_tests) in
    (e, f)

unsub_by : (u x : Uaid) (h k : ChannelId) (ys : List (Uaid × ChannelId)) (y : Uaid × ChannelId) (b : Bool) → is_target u h y ≡ b → In y ys → is_target x k y ≡ true →
    (list_any (is_target x k) (filter (λ z. not (is_target u h z)) ys) ≡ true) ⊎ ((x.0 ≡ u.0) × (is_same_channel k h ≡ true))
unsub_by u x h k ys y true e i t = inr (same_target u x h k y t e)
unsub_by u x h k ys y false e i t =
    inl (list_any-in (is_target x k) y (filter (λ z. not (is_target u h z)) ys) (in_filter (λ z. not (is_target u h z)) y ys i (ap not e)) t)

unsub_subscribed : (u x : Uaid) (h k : ChannelId) (p : Pool) → is_subscribed x k p ≡ true →
    (list_any (is_target x k) (filter (λ z. not (is_target u h z)) p.subscribed) ≡ true) ⊎ ((x.0 ≡ u.0) × (is_same_channel k h ≡ true))
unsub_subscribed u x h k p e =
    let a = among (is_target x k) p.subscribed e in
    unsub_by u x h k p.subscribed a.one (is_target u h a.one) refl a.member a.passes

-- Unsubscribe makes the pool grow
pub unsubscribe_steady : (u : Uaid) (h : ChannelId) (p : Pool) → Steady (Ends u h) p (after (Unsubscribe u h) p)
unsubscribe_steady u h p =
    mapped_steady (Ends u h) (unsubscribed_at u h) (filter (λ x. not (is_target u h x)) p.subscribed) p (unsub_is_mark u h) (unsub_grown (Ends u h) u h) (unsub_lasts u h) (unsub_live u h)
    (λ x k e. unsub_subscribed u x h k p e)

unsub_has_by : (p : Pool) (b : Bool) (t : Taken) → b ≡ true → is_some (reason_of p (Some (unsubscribed_if b t))) ≡ true
unsub_has_by p true t e = unsubscribed_has p (unsubscribed_if true t) refl
unsub_has_by p false t e = absurd (true_not_false (sym e))

unsub_has : (p : Pool) (u : Uaid) (h : ChannelId) (m : MessageValue) (o : Option Taken) → IsAt o (λ t. (t.left ≡ None) × (t.message ≡ m)) → is_sent_to u h m ≡ true →
    is_some (reason_of p (mapped (unsubscribed_at u h) o)) ≡ true
unsub_has p u h m None a e = absurd a
unsub_has p u h m (Some t) a e = unsub_has_by p (is_sent_to u h t.message) t (ap (is_sent_to u h) a.1 ∙ e)

-- a message sent there has a reason
pub unsubscribe_reason : (u : Uaid) (h : ChannelId) (m : MessageValue) (p : Pool) → IsAsTaken m p → is_sent_to u h m ≡ true →
    HasReason (after (Unsubscribe u h) p) m.id.number
unsubscribe_reason u h m p a e =
    let q = after (Unsubscribe u h) p in
    subst (λ o. is_some (reason_of q o) ≡ true) (sym (taken_mapped m.id.number (unsubscribed_at u h) p.taken (unsub_is_mark u h)))
    (unsub_has q u h m (taken_at m.id.number p) a e)

-- ---- Drop

abbrev dropped_if : Bool → Taken → Taken
dropped_if b t = if b then record t { dropped = true } else t

drop_mark : (b : Bool) (t : Taken) → ((dropped_if b t).message ≡ t.message) × (t.kept ≡ true → (dropped_if b t).kept ≡ true)
drop_mark true t = (refl, λ h. h)
drop_mark false t = (refl, λ h. h)

drop_is_mark : (u : Uaid) → IsMark (dropped_at u)
drop_is_mark u = record { message = λ t. (drop_mark (is_same_user t.message.uaid u) t).0; kept = λ t. (drop_mark (is_same_user t.message.uaid u) t).1 }

drop_some : (A : Touch) (b : Bool) (t : Taken) → GrewAt A (Some t) (Some (dropped_if b t))
drop_some A true t = record { later = record { message = refl; kept = λ e. e; shown = λ e. e }; left = refl; answer = inl refl; kept = inl refl }
drop_some A false t = record { later = record { message = refl; kept = λ e. e; shown = λ e. e }; left = refl; answer = inl refl; kept = inl refl }

drop_grown : (A : Touch) (u : Uaid) (o : Option Taken) → GrewAt A o (mapped (dropped_at u) o)
drop_grown A u None = tt
drop_grown A u (Some t) = drop_some A (is_same_user t.message.uaid u) t

drop_lasts_by : (b : Bool) (t : Taken) → LastsAt (Some t) (Some (dropped_if b t))
drop_lasts_by true t = record { message = refl; acked = λ e. e; unsubscribed = λ e. e; dropped = λ e. refl; refused = λ e. e; lost = λ e. e }
drop_lasts_by false t = record { message = refl; acked = λ e. e; unsubscribed = λ e. e; dropped = λ e. e; refused = λ e. e; lost = λ e. e }

drop_lasts : (u : Uaid) (o : Option Taken) → LastsAt o (mapped (dropped_at u) o)
drop_lasts u None = tt
drop_lasts u (Some t) = drop_lasts_by (is_same_user t.message.uaid u) t

drop_live_by : (b : Bool) (t : Taken) → is_live_at (Some (dropped_if b t)) ≡ true → is_live_at (Some t) ≡ true
drop_live_by true t e = e
drop_live_by false t e = e

drop_live : (u : Uaid) (o : Option Taken) → is_live_at (mapped (dropped_at u) o) ≡ true → is_live_at o ≡ true
drop_live u None e = e
drop_live u (Some t) e = drop_live_by (is_same_user t.message.uaid u) t e

-- all subscriptions of that user may end
abbrev pub EndsAll : Uaid → Touch
EndsAll u = record { answered = λ m. ⊥; kept = λ m. ⊥; ended = λ x k. x.0 ≡ u.0 }

same_owner : (u x : Uaid) (k : ChannelId) (y : Uaid × ChannelId) → is_target x k y ≡ true → is_same_user y.0 u ≡ true → x.0 ≡ u.0
same_owner u x k y a b = grind (arith, nat_tests)

drop_by : (u x : Uaid) (k : ChannelId) (ys : List (Uaid × ChannelId)) (y : Uaid × ChannelId) (b : Bool) → is_same_user y.0 u ≡ b → In y ys → is_target x k y ≡ true →
    (list_any (is_target x k) (filter (λ z. not (is_same_user z.0 u)) ys) ≡ true) ⊎ (x.0 ≡ u.0)
drop_by u x k ys y true e i t = inr (same_owner u x k y t e)
drop_by u x k ys y false e i t =
    inl (list_any-in (is_target x k) y (filter (λ z. not (is_same_user z.0 u)) ys) (in_filter (λ z. not (is_same_user z.0 u)) y ys i (ap not e)) t)

drop_subscribed : (u x : Uaid) (k : ChannelId) (p : Pool) → is_subscribed x k p ≡ true →
    (list_any (is_target x k) (filter (λ z. not (is_same_user z.0 u)) p.subscribed) ≡ true) ⊎ (x.0 ≡ u.0)
drop_subscribed u x k p e =
    let a = among (is_target x k) p.subscribed e in
    drop_by u x k p.subscribed a.one (is_same_user a.one.0 u) refl a.member a.passes

-- Drop makes the pool grow
pub drop_steady : (u : Uaid) (p : Pool) → Steady (EndsAll u) p (after (Drop u) p)
drop_steady u p =
    mapped_steady (EndsAll u) (dropped_at u) (filter (λ x. not (is_same_user x.0 u)) p.subscribed) p (drop_is_mark u) (drop_grown (EndsAll u) u) (drop_lasts u) (drop_live u)
    (λ x k e. drop_subscribed u x k p e)

drop_has_by : (p : Pool) (b : Bool) (t : Taken) → b ≡ true → is_some (reason_of p (Some (dropped_if b t))) ≡ true
drop_has_by p true t e = dropped_has p (dropped_if true t) refl
drop_has_by p false t e = absurd (true_not_false (sym e))

drop_has : (p : Pool) (u : Uaid) (m : MessageValue) (o : Option Taken) → IsAt o (λ t. (t.left ≡ None) × (t.message ≡ m)) → is_same_user m.uaid u ≡ true →
    is_some (reason_of p (mapped (dropped_at u) o)) ≡ true
drop_has p u m None a e = absurd a
drop_has p u m (Some t) a e = drop_has_by p (is_same_user t.message.uaid u) t (ap (λ k. is_same_user k.uaid u) a.1 ∙ e)

-- a message of that user has a reason
pub drop_reason : (u : Uaid) (m : MessageValue) (p : Pool) → IsAsTaken m p → is_same_user m.uaid u ≡ true → HasReason (after (Drop u) p) m.id.number
drop_reason u m p a e =
    let q = after (Drop u) p in
    subst (λ o. is_some (reason_of q o) ≡ true) (sym (taken_mapped m.id.number (dropped_at u) p.taken (drop_is_mark u)))
    (drop_has q u m (taken_at m.id.number p) a e)
