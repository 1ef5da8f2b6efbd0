use Rattle.std.proofs.Common.{arith, rules, true, false, ◌≡◌, ◌+◌, ◌-◌, ◌^◌}
use Rattle.std.specs.Prelude.{min}
use Rattle.std.proofs.lemmas.Result.{err_from_is_err_and}
use Rattle.session_drive.proofs.RunLemmas.{answered}
use Rattle.session_drive.proofs.TurnLemmas.{direct_failed, check_failed, not_due, topic_failed, plain_failed, all_shown}
use Rattle.session_drive.proofs.turns.turn_on.Goals as goal

pub returns-in_err-direct-clause-made : goal.returns-in_err-direct-clause-made
returns-in_err-direct-clause-made g c =
    let p = err_from_is_err_and c.from_residual.result c.from_residual.ensures.1 in
    rw (p.1, p.2) (direct_failed _ _ _ _ _ c.in_err-direct.ensures.asked)

pub returns-in_err-due-clause-made : goal.returns-in_err-due-clause-made
returns-in_err-due-clause-made g c =
    let p = err_from_is_err_and c.from_residual-in_err-due.result c.from_residual-in_err-due.ensures.1 in
    let d = answered _ _ _ _ _ _ _ c.in_ok-direct.ensures.asked in
    rw (p.1, p.2) (check_failed _ _ _ _ d.0 _ _ _ d.1 c.in_err-due.ensures.asked)

pub returns-then-not-due-clause-made : goal.returns-then-not-due-clause-made
returns-then-not-due-clause-made g c =
    let d = answered _ _ _ _ _ _ _ c.in_ok-direct.ensures.asked in
    let k = answered _ _ _ _ _ _ _ c.in_ok-due.ensures.asked in
    let waits : c.in_ok-due.due ≡ false = search rules in
    not_due _ _ _ _ d.0 k.0 _ _ _ _ waits c.idle_or_sent.ensures d.1 k.1

pub returns-in_err-topic-clause-made : goal.returns-in_err-topic-clause-made
returns-in_err-topic-clause-made g c =
    let p = err_from_is_err_and c.from_residual-in_err-topic.result c.from_residual-in_err-topic.ensures.1 in
    let d = answered _ _ _ _ _ _ _ c.in_ok-direct.ensures.asked in
    let k = answered _ _ _ _ _ _ _ c.in_ok-due.ensures.asked in
    let is_on : c.in_ok-due.due ≡ true = search rules in
    rw (p.1, p.2) (topic_failed _ _ _ d.0 k.0 _ _ _ _ is_on d.1 k.1 _ _ c.in_err-topic.ensures.asked)

pub returns-in_err-plain-clause-made : goal.returns-in_err-plain-clause-made
returns-in_err-plain-clause-made g c =
    let p = err_from_is_err_and c.from_residual-in_err-plain.result c.from_residual-in_err-plain.ensures.1 in
    let d = answered _ _ _ _ _ _ _ c.in_ok-direct.ensures.asked in
    let k = answered _ _ _ _ _ _ _ c.in_ok-due.ensures.asked in
    let t = answered _ _ _ _ _ _ _ c.in_ok-topic.ensures.asked in
    let is_on : c.in_ok-due.due ≡ true = search rules in
    rw (p.1, p.2) (plain_failed _ _ _ d.0 k.0 _ _ _ _ is_on d.1 k.1 _ _ t.0 _ _ t.1 c.in_err-plain.ensures.asked)

pub returns-clause-made : goal.returns-clause-made
returns-clause-made g c =
    let d = answered _ _ _ _ _ _ _ c.in_ok-direct.ensures.asked in
    let k = answered _ _ _ _ _ _ _ c.in_ok-due.ensures.asked in
    let t = answered _ _ _ _ _ _ _ c.in_ok-topic.ensures.asked in
    let p = answered _ _ _ _ _ _ _ c.in_ok-plain.ensures.asked in
    let is_on : c.in_ok-due.due ≡ true = search rules in
    let total : c.saturating_add-2.result ≡ min (c.in_ok-direct.direct + c.in_ok-topic.topic + c.in_ok-plain.plain) (2 ^ 64 - 1) = omega (arith, c.saturating_add.ensures, c.saturating_add-2.ensures) in
    all_shown _ _ _ d.0 k.0 _ _ _ _ is_on d.1 k.1 _ _ _ t.0 p.0 _ _ total t.1 p.1
