use Rattle.push_model.proofs.VersionLemmas.{version_only}
use Rattle.push_model.proofs.version_laws.only_versions_are_read.Goals as goal

pub returns : goal.returns
returns c = version_only
