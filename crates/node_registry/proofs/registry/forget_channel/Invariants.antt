use Rattle.std.proofs.Common.{◌≡◌, ◌++◌, take, drop}
use Rattle.std.specs.Prelude.{map}
use Rattle.push_model.specs.Sessions.{forgot}
use Rattle.node_registry.proofs.registry.forget_channel.Given as goal

abbrev pub invariant-loop-session : goal.invariant-loop-session
invariant-loop-session l = l.session-items ≡ map (forgot l.c) (take l.session-index l.fn.sessions.items) ++ drop l.session-index l.fn.sessions.items
