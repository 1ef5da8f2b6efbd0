use Rattle.std.proofs.Common.{◌≡◌, rules}
use Rattle.std.specs.Prelude.{filter}
use Rattle.std.proofs.lemmas.Map.Made.{filter_same_pairs}
use Rattle.endpoint_token.proofs.OwnerLemmas.{is_of_other, user_leaves}
use Rattle.endpoint_token.proofs.rows.TokenRows.drop_user.Goals as goal

pub returns : goal.returns
returns c =
    let left : c.retain.new.self.entries ≡ filter (λ e. is_of_other c.args.uaid e.1) c.self.inside.rows.entries =
    filter_same_pairs _ (λ e. is_of_other c.args.uaid e.1) _ (λ k v b w f t. search rules) _ _ c.retain.ensures.filtered in
    rw (left, ← c.self.view_is) (user_leaves c.self.inside.rows.entries c.args.uaid c.retain.ensures.was_ordered)
