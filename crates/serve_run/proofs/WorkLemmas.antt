-- What came of the work, and how the service ends then.
use Rattle.std.proofs.Common.{◌≡◌, ◌≤◌, ◌+◌, ℕ, List, length, Option, Some, None, Result, Ok, Err, IfSome, inl, inr, sym, subst, ◌∙◌, arith}
use Rattle.push_model.specs.Worlds.{World}
use Rattle.push_model.specs.DeskViews.{DeskView, IsSameDesk}
use Rattle.push_exchange.specs.PassViews.{PassView}
use Rattle.node_loops.specs.Together.{raised}
use Rattle.node_control.specs.Controls.{Controls, IsOver}
use Rattle.node_control.specs.declared.ends.ControlEnd.{ControlEnd}
use Rattle.node_control.specs.declared.ends.ControlEnd.TheVariants as control
use Rattle.serve_run.specs.Crews.{EachBeside, IsOpenedAlike}
use Rattle.serve_run.specs.Doors.{Started}
use Rattle.serve_run.specs.Lasts.{EndsAs, EndsSo}
use Rattle.serve_run.specs.Serves.{BlamesSpawner, IsCut, IsNoPort, LoopsRun, Serves, StartedAndJoined}
use Rattle.serve_run.specs.Works.{Worked}
use Rattle.serve_run.specs.Worlds.{AreSound, IsEmpty}
use Rattle.serve_run.specs.declared.halt.Halt.{Halt}
use Rattle.serve_run.specs.declared.halt.Halt.TheVariants.{Port, Loop, NoMemory as HaltNoMemory}
use Rattle.serve_run.specs.declared.ends.ServeEnd.{ServeEnd}
use Rattle.serve_run.specs.declared.ends.ServeEnd.TheVariants.{Done, Halted, ReadFault, WriteFault, NoMemory}
use Rattle.serve_run.proofs.CrewLemmas.{alike_through, beside_along, same_alike}
use Rattle.serve_run.proofs.HouseLemmas.{empty_along}

-- ---- the desks of the operator's lines

same_then : (a b c : DeskView) → IsSameDesk a b → IsSameDesk b c → IsSameDesk a c
same_then a b c p q =
    record {
      size = q.size ∙ p.size;
      board = λ k. q.board k ∙ p.board k;
      number = λ k. q.number k ∙ p.number k;
      is_own = λ k n. q.is_own k n ∙ p.is_own k n;
      opened = λ k. q.opened k ∙ p.opened k;
    }

pub controls_same : (end : ControlEnd) (before after held now : Option (List ℕ)) (a b : DeskView) → Controls end before after held now a b → IsSameDesk a b
controls_same control.Done before after held now a b c = c.answered.does.calls.same
controls_same (control.ReadFault f) before after held now a b c = c.answered.does.calls.same
controls_same (control.WriteFault f) before after held now a b c = same_then a c.between b c.answered.does.calls.same c.cuts.does.calls.same
controls_same control.NoMemory before after held now a b c = same_then a c.between b c.answered.does.calls.same c.cuts.does.calls.same

-- ---- what is kept by the work, however it went

pub record Kept {T : Type 0} (job : T → List PassView) (n : ℕ) (v w : DeskView) (old new : List T) (started started_now : ℕ) : Type 0 where
  pub m : ℕ
  pub within : m ≤ n
  pub count : length new ≡ length old + m
  pub all_started : started_now ≡ raised m started
  pub beside : EachBeside job w new
  pub opening : IsOpenedAlike v w

pub worked_keeps : {T : Type 0} (result : Result ControlEnd Halt) (job : T → List PassView) (n : ℕ) (v w : DeskView) (old new : List T) (started started_now : ℕ) (before after held now : Option (List ℕ))
    → Worked result job n v w old new started started_now before after held now → Kept job n v w old new started started_now
worked_keeps (Ok end) job n v w old new started started_now before after held now k =
    record {
      m = n;
      within = omega arith;
      count = k.staffed.count;
      all_started = k.staffed.started;
      beside = beside_along job k.m w new k.same.board k.staffed.beside;
      opening = alike_through v k.m w k.staffed.opening (same_alike k.m w k.same);
    }
worked_keeps (Err halt) job n v w old new started started_now before after held now k =
    let less = k.fewer in
    record { m = k.m; within = omega arith; count = k.staffed.count; all_started = k.staffed.started; beside = k.staffed.beside; opening = k.staffed.opening }

-- ---- the end

ends_serve : (end : ServeEnd) (c : ControlEnd) (shards : Option (List World)) (before after held mid now : Option (List ℕ)) (a b : DeskView)
    → IsEmpty a → Controls c before after held mid a b → IfSome shards AreSound → EndsAs end c shards mid now → Serves end before after held now
ends_serve Done control.Done (Some ws) before after held mid now a b e c sound ends = record { a = a; b = b; empty = e; mid = mid; lines = c; worlds = ws; sound = sound; sums = ends }
ends_serve Done control.Done None before after held mid now a b e c sound ends = absurd ends
ends_serve (WriteFault f) control.Done (Some ws) before after held mid now a b e c sound ends = inr (record { a = a; b = b; empty = e; mid = mid; lines = c; worlds = ws; sound = sound; sums = ends })
ends_serve (WriteFault f) control.Done None before after held mid now a b e c sound ends = absurd ends
ends_serve NoMemory control.Done (Some ws) before after held mid now a b e c sound ends = inr (inl (record { a = a; b = b; empty = e; mid = mid; lines = c; worlds = ws; sound = sound; sums = ends }))
ends_serve NoMemory control.Done None before after held mid now a b e c sound ends =
    inr (inr (record { a = a; b = b; empty = e; lines = subst (λ (z : Option (List ℕ)). IsOver before after held z a b) (sym ends) c }))
ends_serve (Halted halt) control.Done shards before after held mid now a b e c sound ends = absurd ends
ends_serve (ReadFault f) control.Done shards before after held mid now a b e c sound ends = absurd ends
ends_serve end (control.ReadFault f) shards before after held mid now a b e c sound ends =
    let lines = subst (λ (z : Option (List ℕ)). Controls (control.ReadFault f) before after held z a b) (sym ends.1) c in
    subst (λ (z : ServeEnd). Serves z before after held now) (sym ends.0) (record { a = a; b = b; empty = e; lines = lines })
ends_serve end (control.WriteFault f) shards before after held mid now a b e c sound ends =
    let lines = subst (λ (z : Option (List ℕ)). Controls (control.WriteFault f) before after held z a b) (sym ends.1) c in
    let cut : IsCut before after held now = record { a = a; b = b; empty = e; lines = lines } in
    subst (λ (z : ServeEnd). Serves z before after held now) (sym ends.0) (inl cut)
ends_serve end control.NoMemory shards before after held mid now a b e c sound ends =
    let lines = subst (λ (z : Option (List ℕ)). Controls control.NoMemory before after held z a b) (sym ends.1) c in
    let cut : IsCut before after held now = record { a = a; b = b; empty = e; lines = lines } in
    subst (λ (z : ServeEnd). Serves z before after held now) (sym ends.0) (inl cut)

pub serves_so : {T : Type 0} (end : ServeEnd) (result : Result ControlEnd Halt) (job : T → List PassView) (n : ℕ) (v w : DeskView) (old new : List T) (started started_now : ℕ) (shards : Option (List World)) (before after held mid now : Option (List ℕ))
    → IsEmpty v → Worked result job n v w old new started started_now before after held mid → IfSome shards AreSound → EndsSo end result shards mid now → Serves end before after held now
serves_so end (Ok c) job n v w old new started started_now shards before after held mid now e k sound ends =
    ends_serve end c shards before after held mid now k.m w (empty_along v k.m k.staffed.opening e) k.controls sound ends
serves_so end (Err halt) job n v w old new started started_now shards before after held mid now e k sound ends =
    subst (λ (z : ServeEnd). Serves z before after held now) (sym ends.0) (k.unread, ends.1 ∙ k.unwritten)

-- ---- how many ran

all_ran : (end : ServeEnd) (c : ControlEnd) (shards : Option (List World)) (mid now : Option (List ℕ)) (n s s' j j' : ℕ)
    → StartedAndJoined n s s' j j' → EndsAs end c shards mid now → LoopsRun end n s s' j j'
all_ran Done control.Done shards mid now n s s' j j' ran ends = ran
all_ran (WriteFault f) control.Done shards mid now n s s' j j' ran ends = ran
all_ran NoMemory control.Done shards mid now n s s' j j' ran ends = ran
all_ran (Halted halt) control.Done shards mid now n s s' j j' ran ends = absurd ends
all_ran (ReadFault f) control.Done shards mid now n s s' j j' ran ends = ran
all_ran end (control.ReadFault f) shards mid now n s s' j j' ran ends = subst (λ (z : ServeEnd). LoopsRun z n s s' j j') (sym ends.0) ran
all_ran end (control.WriteFault f) shards mid now n s s' j j' ran ends = subst (λ (z : ServeEnd). LoopsRun z n s s' j j') (sym ends.0) ran
all_ran end control.NoMemory shards mid now n s s' j j' ran ends = subst (λ (z : ServeEnd). LoopsRun z n s s' j j') (sym ends.0) ran

pub loops_so : {T : Type 0} (end : ServeEnd) (result : Result ControlEnd Halt) (job : T → List PassView) (n : ℕ) (v w : DeskView) (old new : List T) (s s' j j' : ℕ) (shards : Option (List World)) (before after held mid now : Option (List ℕ))
    → length old ≡ 0 → Worked result job n v w old new s s' before after held mid → j' ≡ raised (length new) j → EndsSo end result shards mid now → LoopsRun end n s s' j j'
loops_so end (Ok c) job n v w old new s s' j j' shards before after held mid now none k joined ends =
    let count = k.staffed.count in
    let all : length new ≡ n = omega arith in
    all_ran end c shards mid now n s s' j j' (k.staffed.started, subst (λ (z : ℕ). j' ≡ raised z j) all joined) ends
loops_so end (Err halt) job n v w old new s s' j j' shards before after held mid now none k joined ends =
    let count = k.staffed.count in
    let less = k.fewer in
    let all : length new ≡ k.m = omega arith in
    let within : k.m ≤ n = omega arith in
    subst (λ (z : ServeEnd). LoopsRun z n s s' j j') (sym ends.0) (k.m, within, (k.staffed.started, subst (λ (z : ℕ). j' ≡ raised z j) all joined))

-- ---- what is blamed

halt_blames : (halt : Halt) (before after : ℕ) → Started {A = ControlEnd} (Err halt) before after → BlamesSpawner (Halted halt) before after × IsNoPort (Halted halt)
halt_blames Port before after started = absurd started
halt_blames Loop before after started = (started, tt)
halt_blames HaltNoMemory before after started = (tt, tt)

no_halt : (end : ServeEnd) (c : ControlEnd) (shards : Option (List World)) (mid now : Option (List ℕ)) (before after : ℕ) → EndsAs end c shards mid now → BlamesSpawner end before after × IsNoPort end
no_halt Done c shards mid now before after ends = (tt, tt)
no_halt (WriteFault f) c shards mid now before after ends = (tt, tt)
no_halt NoMemory c shards mid now before after ends = (tt, tt)
no_halt (ReadFault f) c shards mid now before after ends = (tt, tt)
no_halt (Halted halt) control.Done shards mid now before after ends = absurd ends
no_halt (Halted halt) (control.ReadFault f) shards mid now before after ends = subst (λ (z : ServeEnd). BlamesSpawner z before after × IsNoPort z) (sym ends.0) (tt, tt)
no_halt (Halted halt) (control.WriteFault f) shards mid now before after ends = subst (λ (z : ServeEnd). BlamesSpawner z before after × IsNoPort z) (sym ends.0) (tt, tt)
no_halt (Halted halt) control.NoMemory shards mid now before after ends = subst (λ (z : ServeEnd). BlamesSpawner z before after × IsNoPort z) (sym ends.0) (tt, tt)

pub blames_so : (end : ServeEnd) (result : Result ControlEnd Halt) (shards : Option (List World)) (mid now : Option (List ℕ)) (before after : ℕ)
    → Started result before after → EndsSo end result shards mid now → BlamesSpawner end before after × IsNoPort end
blames_so end (Ok c) shards mid now before after started ends = no_halt end c shards mid now before after ends
blames_so end (Err halt) shards mid now before after started ends = subst (λ (z : ServeEnd). BlamesSpawner z before after × IsNoPort z) (sym ends.0) (halt_blames halt before after started)
