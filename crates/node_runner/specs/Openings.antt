-- Desks whose shards began empty.
use Rattle.std.specs.Prelude.{◌≡◌, ℕ, ◌<◌}
use Rattle.push_model.specs.Worlds.{start}
use Rattle.push_model.specs.DeskViews.{DeskView}

abbrev pub OpensEmpty : DeskView → Type 0
OpensEmpty v = (k : ℕ) → k < v.size → (number : ℕ) × (next : ℕ) × (v.opened k ≡ start number next)
