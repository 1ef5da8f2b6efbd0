-- What one who nudges replies.
use Rattle.std.specs.Prelude.{Bool, if◌then◌else◌}
use Rattle.push_model.specs.declared.reply.Reply.{Reply}
use Rattle.push_model.specs.declared.reply.Reply.TheVariants.{Here, NotHere}
use Rattle.push_model.specs.Cells.{Cell}

abbrev pub told_to : Bool → Cell → Reply
told_to found c = if found then Here c.uaid else NotHere
