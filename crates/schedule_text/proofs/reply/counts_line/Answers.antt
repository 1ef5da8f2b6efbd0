use Rattle.std.proofs.Common.{◌≡◌, List, ℕ, subst}
use Rattle.std.specs.Prelude.{IfOk}
use Rattle.std.specs.String.{string_bytes}
use Rattle.schedule_text.proofs.Reports.{report_written}
use Rattle.schedule_text.proofs.reply.counts_line.Goals as goal

pub returns : goal.returns
returns c =
    let written = report_written c.args.counts.now _ _ _ _ _ _ _ _ c.in_ok-text.ensures c.in_ok-put_count.ensures c.in_ok-put_count-2.ensures c.in_ok-put_count-3.ensures
    c.in_ok-put_count-4.ensures c.in_ok-put_count-5.ensures c.in_ok-put_count-6.ensures c.in_ok-put_count-7.ensures in
    subst (λ (v : List ℕ). IfOk c.closed.result (λ line. string_bytes line ≡ v)) written c.closed.ensures
