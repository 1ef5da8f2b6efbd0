-- Lists of what was sent, as one more pair is read, and as pairs of a channel are taken out.
use Rattle.std.proofs.Common.{◌≡◌, ◌≢◌, ℕ, ◌+◌, Bool, true, false, cond, List, [], ◌∷◌, ◌++◌, length, take, filter, refl, ap, append_assoc, arith, Some}
use Rattle.std.specs.Prelude.{map, not, slice_get, ◌&&◌, ◌||◌}
use Rattle.std.specs.List.{list_any}
use Rattle.std.proofs.lemmas.List.{map-append, take_more}
use Rattle.std.proofs.lemmas.List.Elements.{filter-append}
use Rattle.std.proofs.lemmas.Option.{slice_get_within, get_or_from_slice_get}
use Rattle.std.proofs.lemmas.Bool.{eq-eqb, ne_eqb}
use Rattle.std.proofs.lemmas.List.Folds.{list_any_at}
use Rattle.push_model.specs.declared.ids.ChannelId.{ChannelId}
use Rattle.push_model.specs.declared.ids.MsgId.{MsgId}
use Rattle.push_model.specs.MessageValue.{MessageValue}
use Rattle.push_model.specs.Names.{is_same_channel, is_same_id}
use Rattle.push_model.specs.Keyed.{without_first}
use Rattle.push_model.specs.Sessions.{sent_pair, is_sent}

-- one more pair is copied
pub copied_more : (xs : List (ChannelId × MsgId)) (i : ℕ) (p : ChannelId × MsgId) → slice_get xs i ≡ Some p → take i xs ++ (p.0, p.1) ∷ [] ≡ take (i + 1) xs
copied_more xs i p e = rw (take_more xs i p (slice_get_within xs i p e), get_or_from_slice_get xs i p p e) refl

-- the pair of one more message is added
pub added_more : (xs : List (ChannelId × MsgId)) (ms : List MessageValue) (i : ℕ) (m : MessageValue) → slice_get ms i ≡ Some m → (xs ++ map sent_pair (take i ms)) ++ (m.chid, m.id) ∷ [] ≡ xs ++ map sent_pair (take (i + 1) ms)
added_more xs ms i m e = rw (take_more ms i m (slice_get_within ms i m e), get_or_from_slice_get ms i m m e, map-append sent_pair (take i ms) (m ∷ [])) (append_assoc xs (map sent_pair (take i ms)) ((m.chid, m.id) ∷ []))

-- ---- a filter, where what it drops is taken out first

module _ {A : Type 0} (p keep : A → Bool) (apart : (x : A) → p x ≡ true → keep x ≡ false) where
  kept_step : (b : Bool) (x : A) (xs : List A) → p x ≡ b → filter keep (without_first p xs) ≡ filter keep xs → filter keep (cond b xs (x ∷ without_first p xs)) ≡ filter keep (x ∷ xs)
  kept_step true x xs e h = rw (apart x e) refl
  kept_step false x xs e h = ap (λ ys. cond (keep x) (x ∷ ys) ys) h

  pub filter-without_first : (xs : List A) → filter keep (without_first p xs) ≡ filter keep xs
  filter-without_first [] = refl
  filter-without_first (x ∷ xs) = kept_step (p x) x xs refl (filter-without_first xs)

length_step : {A : Type 0} (b : Bool) (x : A) (xs ws : List A) (any : Bool) → (b || any) ≡ true → (any ≡ true → length ws + 1 ≡ length xs) → length (cond b xs (x ∷ ws)) + 1 ≡ length (x ∷ xs)
length_step true x xs ws any e h = omega arith
length_step false x xs ws any e h = omega (arith, h e)

-- one less
pub length-without_first : {A : Type 0} (p : A → Bool) (xs : List A) → list_any p xs ≡ true → length (without_first p xs) + 1 ≡ length xs
length-without_first p [] e = cc
length-without_first p (x ∷ xs) e = length_step (p x) x xs (without_first p xs) (list_any p xs) e (length-without_first p xs)

and_left : (a b : Bool) → (a && b) ≡ true → a ≡ true
and_left true b e = refl
and_left false b e = cc

channel_apart : (c : ChannelId) (i : MsgId) (x : ChannelId × MsgId) → is_sent c i x ≡ true → not (is_same_channel x.0 c) ≡ false
channel_apart c i x e = ap not (and_left (is_same_channel x.0 c) (is_same_id x.1 i) e)

-- what remains of the other channels, where a pair of this one is taken out
pub others_stay : (c : ChannelId) (i : MsgId) (xs : List (ChannelId × MsgId)) →
    filter (λ y. not (is_same_channel y.0 c)) (without_first (is_sent c i) xs) ≡ filter (λ y. not (is_same_channel y.0 c)) xs
others_stay c i xs = filter-without_first (is_sent c i) (λ y. not (is_same_channel y.0 c)) (channel_apart c i) xs

-- ---- the first pair of a channel

-- a pair of the channel is there
pub found_pair : (c : ChannelId) (xs : List (ChannelId × MsgId)) (place : ℕ) (p : ChannelId × MsgId) → slice_get xs place ≡ Some p → p.0.0 ≡ c.0 → list_any (is_sent c p.1) xs ≡ true
found_pair c xs place p e same =
    let passes : is_sent c p.1 p ≡ true = rw (eq-eqb p.0.0 c.0 same, eq-eqb p.1.shard p.1.shard refl, eq-eqb p.1.number p.1.number refl) refl in
    list_any_at (is_sent c p.1) xs place p (slice_get_within xs place p e) (rw (get_or_from_slice_get xs place p p e) passes)

-- one more pair is of another channel
pub passed_more : (c : ChannelId) (xs : List (ChannelId × MsgId)) (place : ℕ) (p : ChannelId × MsgId) → slice_get xs place ≡ Some p → p.0.0 ≢ c.0 →
    filter (λ y. not (is_same_channel y.0 c)) (take place xs) ≡ take place xs → filter (λ y. not (is_same_channel y.0 c)) (take (place + 1) xs) ≡ take (place + 1) xs
passed_more c xs place p e other h =
    let last : filter (λ y. not (is_same_channel y.0 c)) (p ∷ []) ≡ p ∷ [] = rw (ne_eqb p.0.0 c.0 other) refl in
    rw (take_more xs place p (slice_get_within xs place p e), get_or_from_slice_get xs place p p e, filter-append (λ y. not (is_same_channel y.0 c)) (take place xs) (p ∷ []), h, last) refl
