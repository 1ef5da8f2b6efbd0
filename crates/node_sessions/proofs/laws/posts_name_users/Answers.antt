use Rattle.node_sessions.proofs.LawLemmas.{post_names}
use Rattle.node_sessions.proofs.SeatLemmas.{none_named}
use Rattle.node_sessions.proofs.laws.posts_name_users.Goals as goal

pub returns-clause-named : goal.returns-clause-named
returns-clause-named c = post_names

pub returns-clause-quiet : goal.returns-clause-quiet
returns-clause-quiet c = none_named
