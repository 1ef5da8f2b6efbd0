use Rattle.std.proofs.Common.{◌≡◌, true, ◌∙◌, ap, sym, subst}
use Rattle.std.specs.Prelude.{Some, is_some}
use Rattle.std.proofs.lemmas.Map.Steps.{set_value_same}
use Rattle.push_model.specs.FlightSteps.{begin}
use Rattle.push_model.specs.Steps.{Costs, OnUser}
use Rattle.shard_core.specs.Shards.{HasUser}
use Rattle.shard_core.proofs.Begun.{begun_steps}
use Rattle.shard_core.proofs.Puts.{cell_found}
use Rattle.shard_core.proofs.Values.{err_map, ok_map}
use Rattle.shard_core.proofs.places.begin_at.Goals as goal

pub returns-clause-ok : goal.returns-clause-ok
returns-clause-ok c =
    let es = c.args.cells.now.entries in
    let u = c.args.uaid in
    let old = c.in-Some.cell.now in
    let v = c.begin.new.self in
    let found = sym c.in-Some.ensures.value in
    let user : is_some old.user ≡ true = subst HasUser (sym c.in-Some.ensures.value) c.requires in
    let writes = c.get_mut.follows.holds v in
    ok_map c.begin.result
    (λ r d. begun_steps u c.args.op c.args.token c.args.message old v r es _ found user d writes.0 (writes.3 (ap is_some found)).0)
    c.begin.ensures.ok

pub returns-clause-err : goal.returns-clause-err
returns-clause-err c =
    let es = c.args.cells.now.entries in
    let u = c.args.uaid in
    let old = c.in-Some.cell.now in
    let v = c.begin.new.self in
    let found = sym c.in-Some.ensures.value in
    err_map c.begin.result
    (λ e. (
      (c.get_mut.follows.holds v).0 ∙ set_value_same _ es v (found ∙ ap Some (sym e.0)),
      subst (Costs (OnUser u (begin c.args.op c.args.token c.args.message))) (sym (cell_found es u old found)) e.2,
    ))
    c.begin.ensures.err
