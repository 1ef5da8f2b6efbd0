-- What came of starting all loops and answering the operator's lines.
use Rattle.std.specs.Prelude.{◌≡◌, ◌<◌, ℕ, List, Option, Result, Ok, Err}
use Rattle.push_model.specs.DeskViews.{DeskView, IsSameDesk}
use Rattle.push_exchange.specs.PassViews.{PassView}
use Rattle.autopush_main.specs.Known.{NoFault}
use Rattle.node_control.specs.Controls.{BlamesInput, BlamesOutput, Controls}
use Rattle.node_control.specs.declared.ends.ControlEnd.{ControlEnd}
use Rattle.serve_run.specs.Crews.{Staffed}
use Rattle.serve_run.specs.declared.halt.Halt.{Halt}

-- All of n loops were started, and then the lines were answered, from the desks m on.
pub record Answered {T : Type 0} (end : ControlEnd) (job : T → List PassView) (n : ℕ) (v w : DeskView) (old new : List T) (started started_now : ℕ) (before after held now : Option (List ℕ)) : Type 0 where
  pub m : DeskView
  pub staffed : Staffed job n v m old new started started_now
  pub same : IsSameDesk m w
  pub controls : Controls end before after held now m w

-- A loop was refused, or there was no memory for it; nothing was read or written.
pub record Refused {T : Type 0} (job : T → List PassView) (n : ℕ) (v w : DeskView) (old new : List T) (started started_now : ℕ) (before after held now : Option (List ℕ)) : Type 0 where
  pub m : ℕ
  pub fewer : m < n
  pub staffed : Staffed job m v w old new started started_now
  pub unread : after ≡ before
  pub unwritten : now ≡ held

abbrev pub Worked : {T : Type 0} → Result ControlEnd Halt → (T → List PassView) → ℕ → DeskView → DeskView → List T → List T → ℕ → ℕ → Option (List ℕ) → Option (List ℕ) → Option (List ℕ) → Option (List ℕ) → Type 0
Worked (Ok end) job n v w old new started started_now before after held now = Answered end job n v w old new started started_now before after held now
Worked (Err halt) job n v w old new started started_now before after held now = Refused job n v w old new started started_now before after held now

abbrev pub WorkBlamesInput : Result ControlEnd Halt → ℕ → ℕ → ℕ → ℕ → Type 0
WorkBlamesInput (Ok end) faults faults_now lulls lulls_now = BlamesInput end faults faults_now lulls lulls_now
WorkBlamesInput (Err halt) faults faults_now lulls lulls_now = NoFault faults faults_now lulls lulls_now

abbrev pub WorkBlamesOutput : Result ControlEnd Halt → ℕ → ℕ → ℕ → ℕ → Type 0
WorkBlamesOutput (Ok end) faults faults_now lulls lulls_now = BlamesOutput end faults faults_now lulls lulls_now
WorkBlamesOutput (Err halt) faults faults_now lulls lulls_now = NoFault faults faults_now lulls lulls_now
