use Rattle.push_laws.proofs.Sounds.{reached_sound}
use Rattle.push_laws.proofs.laws.reached_worlds_are_sound.Goals as goal

pub returns : goal.returns
returns c = reached_sound
