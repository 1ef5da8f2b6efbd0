use Rattle.std.proofs.Common.{◌≡◌}
use Rattle.push_model.proofs.VersionLemmas.{number_put}
use Rattle.push_model.proofs.version.version_text.Goals as goal

pub returns : goal.returns
returns c =
    let shard : c.copy_from_slice.new.self ≡ c.shard_digits-shard.result = cc in
    let number : c.copy_from_slice-2.new.self ≡ c.number_digits-number.result = cc in
    let put = number_put c.copy_from_slice.new.self c.copy_from_slice-2.new.self c.copy_from_slice.ensures.len in
    cc
