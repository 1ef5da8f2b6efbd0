use Rattle.http_front.proofs.FrontLemmas.{sound_of}
use Rattle.http_front.proofs.laws.requests_are_sound.Goals as goal

pub returns : goal.returns
returns c = sound_of
