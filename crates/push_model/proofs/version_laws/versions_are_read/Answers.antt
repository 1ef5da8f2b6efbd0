use Rattle.push_model.proofs.VersionLemmas.{version_read}
use Rattle.push_model.proofs.version_laws.versions_are_read.Goals as goal

pub returns : goal.returns
returns c = version_read
