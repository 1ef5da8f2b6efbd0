-- Which rows go where several go at once.
use Rattle.std.specs.Prelude.{not, Bool}
use Rattle.push_model.specs.declared.parts.Row.{Row}
use Rattle.push_model.specs.Messages.{is_expired}
use Rattle.push_model.specs.SessionSteps.{is_other_row}
use Rattle.message_rows.specs.declared.going.Going.{Going}
use Rattle.message_rows.specs.declared.going.Going.TheVariants.{Channel as OfChannel, Due as AtMoment}

abbrev pub stays : Going → Row → Bool
stays (OfChannel c) r = is_other_row c r
stays (AtMoment moment) r = not (is_expired moment r.message)
