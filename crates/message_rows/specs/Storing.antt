-- What becomes of the rows where a message is stored or saved, and what is answered.
use Rattle.std.specs.Prelude.{List}
use Rattle.push_model.specs.declared.parts.Row.{Row}
use Rattle.push_model.specs.declared.standing.Verdict.{Verdict}
use Rattle.push_model.specs.declared.standing.Verdict.TheVariants.{Stays, Older, Full, Joins}
use Rattle.push_model.specs.MessageValue.{MessageValue}
use Rattle.push_model.specs.Rows.{stored_rows}
use Rattle.message_rows.specs.declared.answers.StoreAnswer.{StoreAnswer}
use Rattle.message_rows.specs.declared.answers.StoreAnswer.TheVariants.{Stored as IsStored, Older as IsOlder, Full as IsFull}
use Rattle.message_rows.specs.declared.answers.PutAnswer.{PutAnswer}
use Rattle.message_rows.specs.declared.answers.PutAnswer.TheVariants.{Saved as IsSaved, Older as IsReplaced}

-- a flight's message: the table may be full
abbrev pub store_answer : Verdict → StoreAnswer
store_answer Stays = IsStored
store_answer Older = IsOlder
store_answer Full = IsFull
store_answer Joins = IsStored

abbrev pub rows_with_stored : Verdict → MessageValue → List Row → List Row
rows_with_stored Stays m rows = rows
rows_with_stored Older m rows = rows
rows_with_stored Full m rows = rows
rows_with_stored Joins m rows = stored_rows m rows

-- a saver's message, which becomes a row also where the table is full
abbrev pub put_answer : Verdict → PutAnswer
put_answer Stays = IsSaved
put_answer Older = IsReplaced
put_answer Full = IsSaved
put_answer Joins = IsSaved

abbrev pub rows_with_put : Verdict → MessageValue → List Row → List Row
rows_with_put Stays m rows = rows
rows_with_put Older m rows = rows
rows_with_put Full m rows = stored_rows m rows
rows_with_put Joins m rows = stored_rows m rows
