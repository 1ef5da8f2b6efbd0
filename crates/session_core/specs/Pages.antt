-- How a page grows.
use Rattle.std.specs.Prelude.{ℕ, List, [], ◌∷◌, ◌++◌, ◌&&◌, not, nat_lt, length, if◌then◌else◌}
use Rattle.push_model.specs.MessageValue.{MessageValue}
use Rattle.push_model.specs.Messages.{is_expired}

-- the page with one more message, where there is room and it isn't expired
abbrev pub page_with : ℕ → MessageValue → List MessageValue → List MessageValue
page_with moment m page = if nat_lt (length page) 10 && not (is_expired moment m) then page ++ m ∷ [] else page
