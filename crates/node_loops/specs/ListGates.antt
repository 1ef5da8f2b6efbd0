-- What a call of a `ListGate` answers, and what it leaves.
use Rattle.std.specs.Prelude.{Bool, [], ◌∷◌, ◌++◌, ◌-◌, ◌==◌, nat_le, ◌||◌, if◌then◌else◌}
use Rattle.push_outside.specs.Counts.{next_count}
use Rattle.node_loops.specs.ListGateValue.{ListGateValue}
use Rattle.node_loops.specs.declared.list_gate.GateNote.{GateNote}
use Rattle.node_loops.specs.declared.list_gate.GateNote.TheVariants.{Stop}

-- the call is noted, where there is room
abbrev pub noted : GateNote → ListGateValue → ListGateValue
noted call g =
    record {
      stops = g.stops;
      last = g.last;
      stopped = g.stopped;
      notes = if g.room == 0 then g.notes else g.notes ++ call ∷ [];
      room = g.room - 1;
    }

-- whether the next stop answers true
abbrev pub stops_now : ListGateValue → Bool
stops_now g = nat_le g.last (next_count g.stops)

-- the gate after a stop
abbrev pub gate_after : ListGateValue → ListGateValue
gate_after g =
    record {
      stops = next_count g.stops;
      last = g.last;
      stopped = g.stopped || stops_now g;
      notes = (noted Stop g).notes;
      room = (noted Stop g).room;
    }
