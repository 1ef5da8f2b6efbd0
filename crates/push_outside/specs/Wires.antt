-- What a call of a wire in memory answers, and what it leaves.
use Rattle.std.specs.Prelude.{ℕ, List, ◌++◌, drop}
use Rattle.push_outside.specs.Counts.{next_count}
use Rattle.push_outside.specs.Calls.{by_call}
use Rattle.push_outside.specs.WireValue.{ListWireValue}
use Rattle.push_outside.specs.Reads.{faults_after_read, lulls_after_read}
use Rattle.push_outside.specs.Writes.{faults_after_write, lulls_after_write}
use Rattle.push_outside.specs.Sources.{usual_read, given}
use Rattle.push_outside.specs.Sinks.{usual_write, taken}
use Rattle.push_outside.specs.declared.source.Got.{Got}
use Rattle.push_outside.specs.declared.source.Got.TheVariants.{Failed, NotYet}
use Rattle.push_outside.specs.declared.sink.Put.{Put}
use Rattle.push_outside.specs.declared.sink.Put.TheVariants as put

-- the answer of the next call, a read into a room of that length
abbrev pub wire_read : ListWireValue → ℕ → Got
wire_read s size = by_call s.failing s.not_yet (next_count s.calls) Failed NotYet (usual_read s.left size)

-- the answer of the next call, a write of a piece of that length, where a usual one answered `done`
abbrev pub wire_write : ListWireValue → Put → ℕ → Put
wire_write s done size = by_call s.failing s.not_yet (next_count s.calls) put.Failed put.NotYet (usual_write done size)

-- the wire after a read with that answer
abbrev pub wire_after_read : ListWireValue → Got → ListWireValue
wire_after_read s got =
    record {
      left = drop (given got) s.left;
      written = s.written;
      calls = next_count s.calls;
      failing = s.failing;
      not_yet = s.not_yet;
      faults = faults_after_read got s.faults;
      lulls = lulls_after_read got s.lulls;
    }

-- the wire after a write of that piece with that answer
abbrev pub wire_after_write : ListWireValue → Put → List ℕ → ListWireValue
wire_after_write s done piece =
    record {
      left = s.left;
      written = s.written ++ taken done piece;
      calls = next_count s.calls;
      failing = s.failing;
      not_yet = s.not_yet;
      faults = faults_after_write done s.faults;
      lulls = lulls_after_write done s.lulls;
    }
