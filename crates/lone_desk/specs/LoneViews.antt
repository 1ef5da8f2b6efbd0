-- What is told of a desk of one shard.
use Rattle.std.specs.Prelude.{◌==◌, [], if◌then◌else◌}
use Rattle.push_model.specs.DeskViews.{DeskView}
use Rattle.lone_desk.specs.declared.notes.Notes.{Notes}
use Rattle.lone_desk.specs.Notes.{mail_at}

-- it is on no board, and signs with 0, which is its only number
abbrev pub lone_view : Notes → DeskView
lone_view n =
    record {
      size = 1;
      board = λ k. [];
      number = λ k. 0;
      is_own = λ k by. by == 0;
      opened = λ k. n.first;
      seen = λ k. if k == 0 then n.seen else [];
      mail = λ k node. if k == 0 then mail_at n node else [];
    }
