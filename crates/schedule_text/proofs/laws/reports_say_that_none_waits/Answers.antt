use Rattle.schedule_text.proofs.Reports.{report_ends}
use Rattle.schedule_text.proofs.laws.reports_say_that_none_waits.Goals as goal

pub returns : goal.returns
returns c = report_ends
