-- On which shard a user is.
use Rattle.std.specs.Prelude.{ℕ, ◌/◌, ◌%◌}
use Rattle.push_model.specs.declared.ids.Uaid.{Uaid}
use Rattle.endpoint_token.specs.TokenTexts.{first_byte}

-- the first four bits of the uaid name it, among so many shards
abbrev pub shard_of : Uaid → ℕ → ℕ
shard_of u size = (first_byte u / 16) % size
