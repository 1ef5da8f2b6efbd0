use Rattle.std.proofs.Common.{◌∙◌}
use Rattle.node_control.proofs.TallyLemmas.{tally_written}
use Rattle.node_control.proofs.tallies.line_of.Goals as goal

pub returns : goal.returns
returns c =
    c.in_ok-push_str.ensures.bytes
    ∙ tally_written c.args.tally.now _ _ _ _ _ _ _ _ _ _ c.in_ok-text.ensures.ok c.in_ok-put_count.ensures c.in_ok-put_count-2.ensures c.in_ok-put_count-3.ensures
    c.in_ok-put_count-4.ensures c.in_ok-put_count-5.ensures c.in_ok-put_count-6.ensures c.in_ok-put_count-7.ensures c.in_ok-put_count-8.ensures c.in_ok-put_count-9.ensures
