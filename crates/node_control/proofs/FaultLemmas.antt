-- Faults, behind calls without any.
use Rattle.std.proofs.Common.{ℕ, List, Option, Some, None}
use Rattle.push_model.specs.DeskViews.{DeskView}
use Rattle.autopush_main.specs.Known.{NoFault}
use Rattle.autopush_main.proofs.Causes.{CausedBy-then, NoFault-then}
use Rattle.node_control.specs.Controls.{BlamesInput, BlamesOutput}
use Rattle.node_control.specs.Steps.{Blames, DoesLine, TakesBytes}
use Rattle.node_control.specs.declared.ends.ControlEnd.{ControlEnd}
use Rattle.node_control.specs.declared.ends.ControlEnd.TheVariants.{Done, ReadFault, WriteFault, NoMemory}

pub output_then : (end : ControlEnd) (f g h l m n : ℕ) → NoFault f g l m → BlamesOutput end g h m n → BlamesOutput end f h l n
output_then Done f g h l m n a b = NoFault-then f g h l m n a b
output_then (ReadFault k) f g h l m n a b = NoFault-then f g h l m n a b
output_then (WriteFault k) f g h l m n a b = CausedBy-then k f g h l m n a b
output_then NoMemory f g h l m n a b = NoFault-then f g h l m n a b

pub blames_then : (end : Option ControlEnd) (f g h l m n : ℕ) → NoFault f g l m → Blames end g h m n → Blames end f h l n
blames_then None f g h l m n a b = NoFault-then f g h l m n a b
blames_then (Some end) f g h l m n a b = output_then end f g h l m n a b

-- where no line ended it with a fault of the source
pub input_then : (end : ControlEnd) (a b : DeskView) (held now : Option (List ℕ)) (read front : List ℕ) (f g l m : ℕ) → TakesBytes (Some end) a b held now read front → NoFault f g l m → BlamesInput end f g l m
input_then Done a b held now read front f g l m h n = n
input_then (ReadFault k) a b held now read front f g l m h n = absurd h
input_then (WriteFault k) a b held now read front f g l m h n = n
input_then NoMemory a b held now read front f g l m h n = n

pub line_input : (end : ControlEnd) (line : List ℕ) (a b : DeskView) (held now : Option (List ℕ)) (f g l m : ℕ) → DoesLine (Some end) line a b held now → NoFault f g l m → BlamesInput end f g l m
line_input Done line a b held now f g l m h n = n
line_input (ReadFault k) line a b held now f g l m h n = absurd h
line_input (WriteFault k) line a b held now f g l m h n = n
line_input NoMemory line a b held now f g l m h n = n
