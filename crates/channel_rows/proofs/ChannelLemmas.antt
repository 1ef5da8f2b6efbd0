-- A channel that is found by its id, or by its token.
use Rattle.std.proofs.Common.{◌≡◌, List, Some, ap, ◌∙◌, ℕ}
use Rattle.std.specs.Prelude.{find}
use Rattle.std.proofs.lemmas.Bool.{eqb-true}
use Rattle.std.proofs.lemmas.Slice.Eq.{bytes_eq-Decides}
use Rattle.push_model.specs.declared.ids.ChannelId.{ChannelId}
use Rattle.push_model.specs.declared.ids.Token.{Token}
use Rattle.push_model.specs.declared.parts.Channel.{Channel}
use Rattle.push_model.specs.Cells.{is_channel, is_token}
use Rattle.push_model.proofs.Members.{find_passes}
use Rattle.channel_rows.specs.Channels.{channel}

-- the channel that is found has that id
pub found_by_id : (h : ChannelId) (x : Channel) (xs : List Channel) → find (is_channel h) xs ≡ Some x → find (is_channel h) xs ≡ Some (channel h x.token)
found_by_id h x xs e =
    let same : x.chid.0 ≡ h.0 = eqb-true x.chid.0 h.0 (find_passes (is_channel h) x xs e) in
    e ∙ ap (λ (n : ℕ). Some (channel (record { 0 = n }) x.token)) same

-- the channel that is found has that token
pub found_by_token : (t : Token) (x : Channel) (xs : List Channel) → find (is_token t) xs ≡ Some x → find (is_token t) xs ≡ Some (channel x.chid t)
found_by_token t x xs e =
    let same : x.token.0 ≡ t.0 = (bytes_eq-Decides x.token.0 t.0).0 (find_passes (is_token t) x xs e) in
    e ∙ ap (λ (bytes : List ℕ). Some (channel x.chid (record { 0 = bytes }))) same
