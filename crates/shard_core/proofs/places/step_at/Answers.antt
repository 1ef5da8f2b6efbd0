use Rattle.std.proofs.Common.{◌≡◌, true, false, ◌∙◌, ap, sym, subst}
use Rattle.std.specs.Prelude.{Some, is_some}
use Rattle.std.proofs.lemmas.Map.Steps.{set_value_same}
use Rattle.push_model.specs.Cells.{is_there}
use Rattle.push_model.specs.Steps.{action, Does, Costs}
use Rattle.shard_core.proofs.Puts.{cell_found, puts_set, puts_gone}
use Rattle.shard_core.proofs.Values.{on_err}
use Rattle.shard_core.proofs.places.step_at.Goals as goal

pub returns-in_err-reply-clause-err : goal.returns-in_err-reply-clause-err
returns-in_err-reply-clause-err c =
    let es = c.args.cells.now.entries in
    let u = c.args.uaid in
    let v = c.step.new.self in
    let err = c.in_err-reply.ensures.err in
    let found = sym c.in-Some.ensures.value in
    on_err c.from_residual.result (
      (c.get_mut.follows.holds v).0 ∙ set_value_same _ es v (found ∙ ap Some (sym err.0)),
      err.1,
      subst (Costs (action c.args.moment c.args.asked.now)) (sym (cell_found es u c.in-Some.cell.now found)) err.2,
    )

pub returns-then-is_there-clause-ok : goal.returns-then-is_there-clause-ok
returns-then-is_there-clause-ok c =
    let es = c.args.cells.now.entries in
    let u = c.args.uaid in
    let old = c.in-Some.cell.now in
    let v = c.step.new.self in
    let a = action c.args.moment c.args.asked.now in
    let r = c.in_ok-reply.reply in
    let found = sym c.in-Some.ensures.value in
    let there : is_there v ≡ true = sym c.is_there.ensures ∙ c.if-is_there.true in
    let writes = c.get_mut.follows.holds v in
    record {
      cell = v;
      does = subst (λ z. Does a z (record { cell = v; reply = r })) (sym (cell_found es u old found)) c.in_ok-reply.ensures.ok;
      puts = puts_set u old v es _ found there writes.0 (writes.3 (ap is_some found)).0;
    }

pub returns-clause-ok : goal.returns-clause-ok
returns-clause-ok c =
    let es = c.args.cells.now.entries in
    let u = c.args.uaid in
    let old = c.in-Some.cell.now in
    let v = c.step.new.self in
    let a = action c.args.moment c.args.asked.now in
    let r = c.in_ok-reply.reply in
    let found = sym c.in-Some.ensures.value in
    let gone : is_there v ≡ false = sym c.is_there.ensures ∙ c.if-is_there.false in
    let writes = c.get_mut.follows.holds v in
    record {
      cell = v;
      does = subst (λ z. Does a z (record { cell = v; reply = r })) (sym (cell_found es u old found)) c.in_ok-reply.ensures.ok;
      puts = puts_gone u v es _ _ gone writes.0 (writes.3 (ap is_some found)).0 c.remove.ensures.entries c.remove.ensures.updates.0;
    }
