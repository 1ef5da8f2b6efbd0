-- What a control line asks for.
use Rattle.std.specs.Prelude.{ℕ, ◌-◌, ◌&&◌, List, [], ◌∷◌, codes, drop, length, nat_le, take, if◌then◌else◌, Option, Some, None}
use Rattle.std.specs.Str.{bytes_eq}
use Rattle.node_control.specs.declared.commands.Command.{Command}
use Rattle.node_control.specs.declared.commands.Command.TheVariants.{Kill, Up, Report, Stop, Unknown}

-- the node that a digit names, from 1 to 8
abbrev pub node_of : ℕ → Option ℕ
node_of digit = if nat_le 49 digit && nat_le digit 56 then Some (digit - 48) else None

-- the node that these bytes name, which are one digit
abbrev pub one_node : List ℕ → Option ℕ
one_node (digit ∷ []) = node_of digit
one_node _ = None

-- the node that stands behind that name, and ends the line
abbrev pub node_behind : List ℕ → List ℕ → Option ℕ
node_behind name line = if bytes_eq (take (length name) line) name then one_node (drop (length name) line) else None

abbrev pub up_or_unknown : Option ℕ → Command
up_or_unknown (Some node) = Up node
up_or_unknown None = Unknown

abbrev pub kill_or : Option ℕ → Command → Command
kill_or (Some node) other = Kill node
kill_or None other = other

-- the whole line, without its LF
abbrev pub command_of : List ℕ → Command
command_of line =
    if bytes_eq line (codes "stop") then Stop
    else if bytes_eq line (codes "report") then Report
    else kill_or (node_behind (codes "kill ") line) (up_or_unknown (node_behind (codes "up ") line))
