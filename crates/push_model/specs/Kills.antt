-- What a kill leaves: which copies of a message don't go with a node.
use Rattle.std.specs.Prelude.{ℕ, ◌==◌, ◌&&◌, ◌||◌, not, Bool, false}
use Rattle.std.specs.List.{list_any}
use Rattle.push_model.specs.Sessions.{held}
use Rattle.push_model.specs.Cells.{Cell, rows_of}
use Rattle.push_model.specs.Worlds.{World}
use Rattle.push_model.specs.Images.{is_numbered}
use Rattle.push_model.specs.Pools.{PoolStep, Leave}

-- the message of that number is a row, is held at another node, or belongs to a flight
abbrev pub outlives_in : ℕ → ℕ → Cell → Bool
outlives_in n k c =
    list_any (λ r. is_numbered k r.message) (rows_of c.user) || list_any (λ x. not (x.node == n) && list_any (is_numbered k) (held x)) c.sessions ||
    list_any (λ v. not (v.node == n) && list_any (is_numbered k) v.held) c.savers || list_any (λ f. is_numbered k f.message) c.flights

abbrev pub outlives : ℕ → ℕ → World → Bool
outlives n k w = list_any (λ e. outlives_in n k e.1) w.cells

-- it is a Leave of that number
abbrev pub is_leave_of : ℕ → PoolStep → Bool
is_leave_of k (Leave n r) = n == k
is_leave_of k _ = false
