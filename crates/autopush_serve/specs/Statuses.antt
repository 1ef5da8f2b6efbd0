-- The exit statuses.
use Rattle.std.specs.Prelude.{ℕ}
use Rattle.serve_run.specs.Statuses.{status_of as serve_status}
use Rattle.autopush_serve.specs.declared.ended.Ended.{Ended}
use Rattle.autopush_serve.specs.declared.ended.Ended.TheVariants.{WrongWords, NoSeed, Served}

abbrev pub status_of : Ended → ℕ
status_of WrongWords = 2
status_of NoSeed = 12
status_of (Served end) = serve_status end
