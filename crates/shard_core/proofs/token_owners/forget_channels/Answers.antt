use Rattle.shard_core.proofs.TokenOwners.{forgot_at}
use Rattle.shard_core.proofs.token_owners.forget_channels.Goals as goal

pub loop-channel-preserved : goal.loop-channel-preserved
loop-channel-preserved c = λ t.
    forgot_at c.args.owners.now.entries c.loop-channel.owners.entries c.remove.new.self.entries c.args.channels.now c.loop-channel.channel-index _ t c.loop-channel-test.true
    c.remove.ensures.updates.0 (c.loop-channel.invariant t)
