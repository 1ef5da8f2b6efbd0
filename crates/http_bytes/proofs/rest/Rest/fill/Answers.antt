use Rattle.std.proofs.Common.{◌∙◌, ◌-◌}
use Rattle.http_bytes.proofs.Rooms.{filled}
use Rattle.http_bytes.proofs.rest.Rest.fill.Goals as goal

pub returns-in-Bytes-clause-bytes : goal.returns-in-Bytes-clause-bytes
returns-in-Bytes-clause-bytes g c =
    let e = c.in-Bytes.ensures in
    filled _ _ _ _ (c.self.inside.end - c.self.inside.start) c.in-Bytes.count
    (e.front ∙ (c.make_room.ensures.kept ∙ (c.move_to_front.ensures.moved ∙ c.self.view_is))) e.bytes.0 e.bytes.1 e.bytes.2
