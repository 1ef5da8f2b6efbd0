-- A user's rows: no two have one channel and topic, each has a channel of the user, and each lasts.
use Rattle.std.proofs.Common.{◌≡◌, ℕ, ◌+◌, ◌≤◌, Bool, true, false, ◌&&◌, ◌||◌, not, ◌⊎◌, inl, inr, List, [], ◌∷◌, ◌++◌, filter, refl, ◌∙◌, ap, sym, subst, arith}
use Rattle.std.specs.Prelude.{map, Option, Some, None, if◌then◌else◌, nat_lt, ◌==◌}
use Rattle.std.specs.List.{list_any}
use Rattle.std.specs.Str.{bytes_eq}
use Rattle.std.proofs.lemmas.Bool.Decides.{nat_tests}
use Rattle.std.proofs.lemmas.Slice.Eq.{bytes_eq-Decides}
use Rattle.push_model.specs.declared.ids.ChannelId.{ChannelId}
use Rattle.push_model.specs.declared.ids.MsgId.{MsgId}
use Rattle.push_model.specs.declared.ids.Token.{Token}
use Rattle.push_model.specs.declared.parts.Channel.{Channel}
use Rattle.push_model.specs.declared.parts.Row.{Row}
use Rattle.push_model.specs.SessionKey.{SessionKey}
use Rattle.push_model.specs.MessageValue.{MessageValue}
use Rattle.push_model.specs.Names.{is_same_channel}
use Rattle.push_model.specs.Messages.{is_expired, is_same_topic}
use Rattle.push_model.specs.Keyed.{without_first}
use Rattle.push_model.specs.Rows.{is_of_topic, is_row, new_row, shares_topic, stored_rows}
use Rattle.push_model.specs.Cells.{User, Saver, channels_of, cleared_for, is_channel, is_routed_to, rows_of, unmarked, unmarked_for, unmarked_row, unrouted, with_stored}
use Rattle.push_model.specs.SessionSteps.{is_other_row, is_renewable, renewed, with_channel, without_channel, without_row}
use Rattle.push_model.specs.SaverSteps.{touched}
use Rattle.push_model.specs.ClockSteps.{without_due}
use Rattle.push_model.specs.NodeSteps.{orphaned, with_orphans}
use Rattle.push_model.proofs.Members.{In, filter_passes, from_map, in-filter, in-snoc, in-without_first, in_filter, among, list_any-in, true_not_false}
use Rattle.push_model.proofs.Marks.{and_left, and_right, both}
use Rattle.push_model.proofs.Care.{IsWithin}
use Rattle.push_laws.specs.Sound.{lasts}
use Rattle.push_laws.proofs.Names.{none_any}
use Rattle.push_laws.proofs.Counts.{one, amount, amount-filter, amount-map, amount-moved, amount-none, amount-snoc, amount-without}

-- the user has the message's channel
abbrev pub HasChannel : MessageValue → Option User → Type 0
HasChannel m o = list_any (is_channel m.chid) (channels_of o) ≡ true

pub record RowFacts (moment : ℕ) (o : Option User) : Type 0 where
  pub topics : (m : MessageValue) → amount (shares_topic m) (rows_of o) ≤ 1
  pub registered : (r : Row) → In r (rows_of o) → HasChannel r.message o
  pub lasting : (r : Row) → In r (rows_of o) → lasts moment r.message ≡ true

pub no_row_facts : (moment : ℕ) → RowFacts moment None
no_row_facts moment = record { topics = λ m. omega arith; registered = λ r i. elim i [ ]; lasting = λ r i. elim i [ ] }

-- ---- a user with no more rows: each has a message that was a row's, and its channel stays

pub record Fewer (o v : Option User) : Type 0 where
  pub counted : (m : MessageValue) → amount (shares_topic m) (rows_of v) ≤ amount (shares_topic m) (rows_of o)
  pub back : (r : Row) → In r (rows_of v) → (q : Row) × In q (rows_of o) × (q.message ≡ r.message) × (HasChannel r.message o → HasChannel r.message v)
  pub within : (a : ℕ) → IsWithin a o → IsWithin a v

pub fewer_facts : (moment : ℕ) (o v : Option User) → Fewer o v → RowFacts moment o → RowFacts moment v
fewer_facts moment o v f h =
    record {
      topics = λ m. let a = f.counted m in let b = h.topics m in omega (arith, a, b);
      registered = λ r i. let q = f.back r i in q.3 (subst (λ m. HasChannel m o) q.2 (h.registered q.0 q.1));
      lasting = λ r i. let q = f.back r i in subst (λ m. lasts moment m ≡ true) q.2 (h.lasting q.0 q.1);
    }

pub same_fewer : (o : Option User) → Fewer o o
same_fewer o = record { counted = λ m. omega arith; back = λ r i. (r, i, refl, λ h. h); within = λ a w. w }

-- the rows stay, and so do the channels, but for new ones
more_fewer : (o v : Option User) → rows_of v ≡ rows_of o → ((m : MessageValue) → HasChannel m o → HasChannel m v) → ((a : ℕ) → IsWithin a o → IsWithin a v) → Fewer o v
more_fewer o v e f w =
    record {
      counted = λ m. let k = ap (amount (shares_topic m)) e in omega (arith, k);
      back = λ r i. (r, subst (In r) e i, refl, f r.message);
      within = w;
    }

-- each row has the message that it had
marked_fewer : (g : Row → Row) (u v : User) → ((r : Row) → (g r).message ≡ r.message) → v.rows ≡ map g u.rows → v.channels ≡ u.channels →
    ((a : ℕ) → IsWithin a (Some u) → IsWithin a (Some v)) → Fewer (Some u) (Some v)
marked_fewer g u v h e f w =
    record {
      counted = λ m.
          let k = ap (amount (shares_topic m)) e in
          let l = amount-map (shares_topic m) g u.rows (λ r. ap (is_of_topic m) (h r)) in
          omega (arith, k, l);
      back = λ r i.
          let q = from_map g r u.rows (subst (In r) e i) in
          (q.0, q.1, sym (ap (λ z. z.message) q.2 ∙ h q.0), λ c. ap (list_any (is_channel r.message.chid)) f ∙ c);
      within = w;
    }

pub unmarked_fewer : (o : Option User) → Fewer o (unmarked o)
unmarked_fewer None = same_fewer None
unmarked_fewer (Some u) = marked_fewer unmarked_row u (record u { rows = map unmarked_row u.rows }) (λ r. refl) refl refl (λ a w. w)

unmarked_by : (o : Option User) (b : Bool) → Fewer o (if b then unmarked o else o)
unmarked_by o true = unmarked_fewer o
unmarked_by o false = same_fewer o

pub unmarked_for_fewer : (n a : ℕ) (o : Option User) → Fewer o (unmarked_for n a o)
unmarked_for_fewer n a o = unmarked_by o (is_routed_to n a o)

unrouted_fewer : (o : Option User) → Fewer o (unrouted o)
unrouted_fewer None = same_fewer None
unrouted_fewer (Some u) = more_fewer (Some u) (unrouted (Some u)) refl (λ m h. h) (λ a w. w)

unrouted_by : (o : Option User) (b : Bool) → Fewer o (if b then unrouted o else o)
unrouted_by o true = unrouted_fewer o
unrouted_by o false = same_fewer o

pub cleared_fewer : (n a : ℕ) (o : Option User) → Fewer o (cleared_for n a o)
cleared_fewer n a o = unrouted_by o (is_routed_to n a o)

pub touched_fewer : (moment : ℕ) (o : Option User) → Fewer o (touched moment o)
touched_fewer moment None = same_fewer None
touched_fewer moment (Some u) = more_fewer (Some u) (touched moment (Some u)) refl (λ m h. h) (λ a w. w)

pub orphans_fewer : (n : ℕ) (vs : List Saver) (o : Option User) → Fewer o (with_orphans n vs o)
orphans_fewer n vs None = same_fewer None
orphans_fewer n vs (Some u) = marked_fewer (orphaned n vs) u (record u { rows = map (orphaned n vs) u.rows }) (λ r. refl) refl refl (λ a w. w)

same_number : (a b : ℕ) → (a == b) ≡ true → a ≡ b
same_number a b e = grind (arith, nat_tests)

-- Renew writes the moment that the route row had
pub renewed_fewer : (moment : ℕ) (s : SessionKey) (o : Option User) → is_renewable s o ≡ true → Fewer o (renewed moment s o)
renewed_fewer moment s None e = same_fewer None
renewed_fewer moment s (Some u) e =
    let q = same_number u.route.at s.at (and_left (u.route.at == s.at) _ e) in
    marked_fewer unmarked_row u _ (λ r. refl) refl refl (λ a w. subst (λ n. a ≤ n) q w)

longer_by : (a b c : Bool) → (b ≡ true → c ≡ true) → (a || b) ≡ true → (a || c) ≡ true
longer_by true b c f e = refl
longer_by false b c f e = f e

longer : (h : ChannelId) (x : Channel) (xs : List Channel) → list_any (is_channel h) xs ≡ true → list_any (is_channel h) (xs ++ x ∷ []) ≡ true
longer h x [] e = absurd (true_not_false (sym e))
longer h x (y ∷ xs) e = longer_by (is_channel h y) (list_any (is_channel h) xs) (list_any (is_channel h) (xs ++ x ∷ [])) (longer h x xs) e

pub with_channel_fewer : (h : ChannelId) (t : Token) (o : Option User) → Fewer o (with_channel h t o)
with_channel_fewer h t None = same_fewer None
with_channel_fewer h t (Some u) =
    more_fewer (Some u) (with_channel h t (Some u)) refl (λ m e. longer m.chid (record { chid = h; token = t }) u.channels e) (λ a w. w)

-- some rows go
kept_fewer : (u v : User) (qs : List Row) → v.rows ≡ qs → ((m : MessageValue) → amount (shares_topic m) qs ≤ amount (shares_topic m) u.rows) →
    ((r : Row) → In r qs → In r u.rows) → v.channels ≡ u.channels → ((a : ℕ) → IsWithin a (Some u) → IsWithin a (Some v)) → Fewer (Some u) (Some v)
kept_fewer u v qs e c b f w =
    record {
      counted = λ m. let k = ap (amount (shares_topic m)) e in let l = c m in omega (arith, k, l);
      back = λ r i. (r, b r (subst (In r) e i), refl, λ h. ap (list_any (is_channel r.message.chid)) f ∙ h);
      within = w;
    }

pub without_row_fewer : (i : MsgId) (o : Option User) → Fewer o (without_row i o)
without_row_fewer i None = same_fewer None
without_row_fewer i (Some u) =
    kept_fewer u (record u { rows = without_first (is_row i) u.rows }) (without_first (is_row i) u.rows) refl (λ m. amount-without (shares_topic m) (is_row i) u.rows)
    (λ r j. in-without_first (is_row i) r u.rows j) refl (λ a w. w)

due_fewer : (moment : ℕ) (o : Option User) → Fewer o (without_due moment o)
due_fewer moment None = same_fewer None
due_fewer moment (Some u) =
    let p = λ (r : Row). not (is_expired moment r.message) in
    kept_fewer u (record u { rows = filter p u.rows }) (filter p u.rows) refl (λ m. amount-filter (shares_topic m) p u.rows) (λ r j. in-filter p r u.rows j) refl (λ a w. w)

-- a row of another channel keeps it
other_channel : (h k : ChannelId) (x : Channel) → is_same_channel k h ≡ false → is_channel k x ≡ true → not (is_channel h x) ≡ true
other_channel h k x e f = grind (arith, nat_tests)

not_back : (b : Bool) → not b ≡ true → b ≡ false
not_back true e = cc
not_back false e = refl

stays_registered : (h : ChannelId) (m : MessageValue) (xs : List Channel) → is_same_channel m.chid h ≡ false → list_any (is_channel m.chid) xs ≡ true →
    list_any (is_channel m.chid) (filter (λ x. not (is_channel h x)) xs) ≡ true
stays_registered h m xs e f =
    let a = among (is_channel m.chid) xs f in
    list_any-in (is_channel m.chid) a.one (filter (λ x. not (is_channel h x)) xs)
    (in_filter (λ x. not (is_channel h x)) a.one xs a.member (other_channel h m.chid a.one e a.passes)) a.passes

pub without_channel_fewer : (h : ChannelId) (o : Option User) → Fewer o (without_channel h o)
without_channel_fewer h None = same_fewer None
without_channel_fewer h (Some u) =
    record {
      counted = λ m. amount-filter (shares_topic m) (is_other_row h) u.rows;
      back = λ r i.
          (r, in-filter (is_other_row h) r u.rows i, refl, λ c. stays_registered h r.message u.channels (not_back (is_same_channel r.message.chid h) (filter_passes (is_other_row h) r u.rows i)) c);
      within = λ a w. w;
    }

-- ---- rows that are due go, and then each lasts

still_lasts : (a moment : ℕ) (m : MessageValue) → lasts a m ≡ true → not (is_expired moment m) ≡ true → lasts moment m ≡ true
still_lasts a moment m h e = both (nat_lt 0 m.ask.terms.ttl) (not (is_expired moment m)) (and_left (nat_lt 0 m.ask.terms.ttl) _ h) e

due_lasts : (a moment : ℕ) (o : Option User) (r : Row) → RowFacts a o → In r (rows_of (without_due moment o)) → lasts moment r.message ≡ true
due_lasts a moment None r h i = elim i [ ]
due_lasts a moment (Some u) r h i =
    let p = λ (r : Row). not (is_expired moment r.message) in
    still_lasts a moment r.message (h.lasting r (in-filter p r u.rows i)) (filter_passes p r u.rows i)

pub due_facts : (a moment : ℕ) (o : Option User) → RowFacts a o → RowFacts moment (without_due moment o)
due_facts a moment o h =
    let f = fewer_facts a o (without_due moment o) (due_fewer moment o) h in
    record { topics = f.topics; registered = f.registered; lasting = λ r i. due_lasts a moment o r h i }

pub due_within : (moment a : ℕ) (o : Option User) → IsWithin a o → IsWithin a (without_due moment o)
due_within moment a o w = (due_fewer moment o).within a w

-- ---- a message becomes a row

-- messages that share their topic share it with the same rows
topic_same : (a b c : Option (List ℕ)) → is_same_topic a b ≡ true → is_same_topic a c ≡ is_same_topic b c
topic_same None b c e = cc
topic_same (Some x) None c e = cc
topic_same (Some x) (Some y) None e = refl
topic_same (Some x) (Some y) (Some z) e = ap (λ l. bytes_eq l z) ((bytes_eq-Decides x y).0 e)

chid_same : (a b c : ℕ) → (b == a) ≡ true → (c == a) ≡ (c == b)
chid_same a b c e = ap (λ n. c == n) (sym (same_number b a e))

shared : (m k : MessageValue) (r : Row) → is_of_topic m k ≡ true → shares_topic m r ≡ shares_topic k r
shared m k r e =
    let a = chid_same m.chid.0 k.chid.0 r.message.chid.0 (and_left (is_same_channel k.chid m.chid) _ e) in
    let b = topic_same m.ask.terms.topic k.ask.terms.topic r.message.ask.terms.topic (and_right (is_same_channel k.chid m.chid) _ e) in
    ap (λ x. x && is_same_topic m.ask.terms.topic r.message.ask.terms.topic) a ∙ ap (λ x. is_same_channel r.message.chid k.chid && x) b

stored_by : (n k : MessageValue) (rows : List Row) (b c : Bool) → is_of_topic n k ≡ b → list_any (shares_topic k) rows ≡ c → amount (shares_topic n) rows ≤ 1 →
    amount (shares_topic n) (without_first (shares_topic k) rows) + one b ≤ 1
stored_by n k rows false c e f h = let a = amount-without (shares_topic n) (shares_topic k) rows in omega (arith, a, h)
stored_by n k rows true true e f h =
    let a = amount-moved (shares_topic n) true (shares_topic k) rows (λ r q. shared n k r e ∙ q) f in omega (arith, a, h)
stored_by n k rows true false e f h =
    let z = amount-none (shares_topic n) rows (λ r i. shared n k r e ∙ none_any (shares_topic k) rows r f i) in
    let a = amount-without (shares_topic n) (shares_topic k) rows in
    omega (arith, a, z)

stored_count : (n m : MessageValue) (rows : List Row) → amount (shares_topic n) rows ≤ 1 → amount (shares_topic n) (stored_rows m rows) ≤ 1
stored_count n m rows h =
    let a = amount-snoc (shares_topic n) (without_first (shares_topic m) rows) (new_row m) in
    let b = stored_by n m rows (is_of_topic n m) (list_any (shares_topic m) rows) refl refl h in
    omega (arith, a, b)

pub stored_facts : (moment : ℕ) (m : MessageValue) (o : Option User) → HasChannel m o → lasts moment m ≡ true → RowFacts moment o → RowFacts moment (with_stored m o)
stored_facts moment m None c l h = h
stored_facts moment m (Some u) c l h =
    let old : (r : Row) → In r (stored_rows m u.rows) → In r u.rows ⊎ (r ≡ new_row m) = λ r i.
    elim (in-snoc r (new_row m) (without_first (shares_topic m) u.rows) i) [ inl j ↦ inl (in-without_first (shares_topic m) r u.rows j) | inr q ↦ inr q ] in
    record {
      topics = λ n. stored_count n m u.rows (h.topics n);
      registered = λ r i. elim (old r i) [ inl j ↦ h.registered r j | inr q ↦ subst (λ z. HasChannel z.message (Some u)) (sym q) c ];
      lasting = λ r i. elim (old r i) [ inl j ↦ h.lasting r j | inr q ↦ subst (λ z. lasts moment z.message ≡ true) (sym q) l ];
    }

pub stored_within : (m : MessageValue) (a : ℕ) (o : Option User) → IsWithin a o → IsWithin a (with_stored m o)
stored_within m a None w = w
stored_within m a (Some u) w = w
