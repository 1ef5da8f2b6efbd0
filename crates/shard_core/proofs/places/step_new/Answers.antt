use Rattle.std.proofs.Common.{◌≡◌, true, false, refl, ◌∙◌, sym, subst, rules}
use Rattle.push_model.specs.Cells.{empty_cell, is_there}
use Rattle.push_model.specs.Steps.{action, Does, Costs}
use Rattle.shard_core.proofs.Making.{makes}
use Rattle.shard_core.proofs.Puts.{cell_new, puts_new, puts_none, at_ok}
use Rattle.shard_core.proofs.Values.{on_err}
use Rattle.shard_core.proofs.places.step_new.Goals as goal

pub returns-in_err-reply-clause-err : goal.returns-in_err-reply-clause-err
returns-in_err-reply-clause-err c =
    let u = c.args.uaid in
    let a = action c.args.moment c.args.asked.now in
    let err = c.in_err-reply.ensures.err in
    let costs : Costs a (empty_cell u) = rw (← c.new-cell.ensures) err.2 in
    on_err c.from_residual.result (refl, err.1, subst (Costs a) (sym (cell_new c.args.cells.now.entries u c.requires.absent)) costs)

pub returns-then-not-is_there-clause-ok : goal.returns-then-not-is_there-clause-ok
returns-then-not-is_there-clause-ok c =
    let es = c.args.cells.now.entries in
    let u = c.args.uaid in
    let v = c.step.new.self in
    let a = action c.args.moment c.args.asked.now in
    let r = c.in_ok-reply.reply in
    let gone : is_there v ≡ false = sym c.is_there.ensures ∙ c.if-not-is_there.true in
    let does : Does a (empty_cell u) (record { cell = v; reply = r }) = rw (← c.new-cell.ensures) c.in_ok-reply.ensures.ok in
    record {
      cell = v;
      does = subst (λ z. Does a z (record { cell = v; reply = r })) (sym (cell_new es u c.requires.absent)) does;
      puts = puts_none u v es _ c.requires.absent gone refl;
    }

pub returns-then-is_err-clause-err : goal.returns-then-is_err-clause-err
returns-then-is_err-clause-err c =
    let u = c.args.uaid in
    let v = c.step.new.self in
    let a = action c.args.moment c.args.asked.now in
    let there : is_there v ≡ true = sym c.is_there.ensures ∙ c.if-not-is_there.false in
    let does : Does a (empty_cell u) (record { cell = v; reply = c.in_ok-reply.reply }) = rw (← c.new-cell.ensures) c.in_ok-reply.ensures.ok in
    let m = makes c.args.moment c.args.asked.now u _ does there in
    (search rules, m.0, subst (Costs a) (sym (cell_new c.args.cells.now.entries u c.requires.absent)) m.1)

pub returns-clause-ok : goal.returns-clause-ok
returns-clause-ok c =
    let es = c.args.cells.now.entries in
    let u = c.args.uaid in
    let v = c.step.new.self in
    let a = action c.args.moment c.args.asked.now in
    let r = c.in_ok-reply.reply in
    let there : is_there v ≡ true = sym c.is_there.ensures ∙ c.if-not-is_there.false in
    let fine = sym c.is_err.ensures.value ∙ c.if-is_err.false in
    let does : Does a (empty_cell u) (record { cell = v; reply = r }) = rw (← c.new-cell.ensures) c.in_ok-reply.ensures.ok in
    record {
      cell = v;
      does = subst (λ z. Does a z (record { cell = v; reply = r })) (sym (cell_new es u c.requires.absent)) does;
      puts = puts_new u v es _ c.requires.absent there (at_ok c.insert.result fine c.insert.ensures.entries) (at_ok c.insert.result fine c.insert.ensures.updates).0;
    }
