use Rattle.http_front.proofs.CutLemmas.{cut_at}
use Rattle.http_front.proofs.laws.each_answer_leaves_a_cared_world.Goals as goal

pub returns : goal.returns
returns c = cut_at
