-- Which shard a token is on.
use Rattle.std.specs.Prelude.{ℕ, ◌/◌, ◌%◌, slice_index}
use Rattle.push_model.specs.declared.ids.Token.{Token}

-- its first byte says so, where there are that many shards
abbrev pub shard_of : Token → ℕ → ℕ
shard_of t size = (slice_index t.0 0 / 16) % size
