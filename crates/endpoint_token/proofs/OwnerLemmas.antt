-- A table of tokens as a function from tokens to their owners.
use Rattle.std.proofs.Common.{◌≡◌, ℕ, Bool, true, false, cond, not, ◌==◌, List, [], ◌∷◌, Option, Some, None, refl, sym, ap, ◌∙◌}
use Rattle.std.specs.Prelude.{filter, is_some}
use Rattle.std.specs.Map.{lookup, keys_of}
use Rattle.std.specs.BTreeMap.{is_at}
use Rattle.std.specs.Ordering.{nat_cmp}
use Rattle.std.specs.Cmp.{eq_by_cmp_equiv}
use Rattle.std.specs.Cmp.Lexicographic.{slice_cmp, nat_list_cmp_total}
use Rattle.std.specs.List.Sorted.{IsStrictlySortedBy}
use Rattle.std.proofs.lemmas.Map.Text.{is_eq-slice_cmp}
use Rattle.std.proofs.lemmas.Map.Keys.{IsDistinct-from_sorted}
use Rattle.std.proofs.lemmas.Map.Entries.{option_filter, lookup-filter-values}
use Rattle.push_model.specs.declared.ids.ChannelId.{ChannelId}
use Rattle.push_model.specs.declared.ids.Token.{Token}
use Rattle.push_model.specs.declared.ids.Uaid.{Uaid}
use Rattle.endpoint_token.specs.TokenOwners.{ChangesOwner, LosesUser, TokenRow, owner_of, unless_user}

lookup_same : {K X : Type 0} (p q : K → Bool) → ((k : K) → p k ≡ q k) → (es : List (K × X)) → lookup p es ≡ lookup q es
lookup_same p q same [] = refl
lookup_same p q same (e ∷ es) = rw (same e.0, lookup_same p q same es) refl

-- the order of the tokens finds the token's owner
pub lookup-owner : (rows : List TokenRow) (t : Token) → lookup (is_at (slice_cmp nat_cmp t.0)) rows ≡ owner_of rows t
lookup-owner rows t = lookup_same _ _ (is_eq-slice_cmp t.0) rows

pub none_from : {A : Type 0} (o : Option A) → is_some o ≡ false → o ≡ None
none_from None e = refl
none_from (Some x) e = cc

-- one token's owner changes
pub owner_changes : (old new : List TokenRow) (t : Token) (x : Option (Uaid × ChannelId))
    → ((q : List ℕ) → lookup (is_at (slice_cmp nat_cmp q)) new ≡ cond (is_at (slice_cmp nat_cmp t.0) q) x (lookup (is_at (slice_cmp nat_cmp q)) old))
    → ChangesOwner old new t x
owner_changes old new t x u = λ s. sym (lookup-owner new s) ∙ u s.0 ∙ rw (is_eq-slice_cmp t.0 s.0, lookup-owner old s) refl

-- the row is another user's
abbrev pub is_of_other : Uaid → Uaid × ChannelId → Bool
is_of_other u x = not (x.0.0 == u.0)

other_cases : (b : Bool) (x : Uaid × ChannelId) → cond (not b) (Some x) None ≡ cond b None (Some x)
other_cases true x = refl
other_cases false x = refl

option_filter-user : (u : Uaid) (o : Option (Uaid × ChannelId)) → option_filter (is_of_other u) o ≡ unless_user u o
option_filter-user u None = refl
option_filter-user u (Some x) = other_cases (x.0.0 == u.0) x

-- the rows of other users are left
pub user_leaves : (old : List TokenRow) (u : Uaid) → IsStrictlySortedBy (slice_cmp nat_cmp) (keys_of old) → LosesUser old (filter (λ e. is_of_other u e.1) old) u
user_leaves old u ordered = λ s.
    sym (lookup-owner (filter (λ e. is_of_other u e.1) old) s)
    ∙ lookup-filter-values (eq_by_cmp_equiv nat_list_cmp_total) (is_of_other u) s.0 old (IsDistinct-from_sorted (slice_cmp nat_cmp) (keys_of old) ordered)
    ∙ option_filter-user u (lookup (is_at (slice_cmp nat_cmp s.0)) old)
    ∙ ap (unless_user u) (lookup-owner old s)
