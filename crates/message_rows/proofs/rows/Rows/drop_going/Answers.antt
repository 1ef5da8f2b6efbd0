use Rattle.std.proofs.Common.{◌≡◌, ◌∙◌, ap, sym, arith, filter, rules}
use Rattle.std.proofs.lemmas.Fn.{filter_same}
use Rattle.message_rows.specs.RowDues.{dues_of}
use Rattle.message_rows.specs.Going.{stays}
use Rattle.message_rows.proofs.rows.Rows.drop_going.Goals as goal

-- the rows that are left
left : (c : goal.After-len) → c.retain.new.self.items ≡ filter (stays c.args.going.now) c.self.inside.rows.items
left c = filter_same _ (stays c.args.going.now) _ (λ x b f k. search rules) _ _ c.retain.ensures.filtered

pub invariant_of-self : goal.invariant_of-self
invariant_of-self c = (
  omega (arith, c.retain.ensures.bound, c.retain.ensures.capacity, c.self.invariant.0),
  record {
    entries =
        c.drop_entries.ensures.entries
        ∙ ap (λ rows. dues_of (filter (stays c.args.going.now) rows)) c.deref.ensures.value
        ∙ ap dues_of (sym (left c));
    room = omega (arith, c.self.invariant.1.room, c.drop_entries.ensures.kept);
  },
)

pub returns-clause-rows : goal.returns-clause-rows
returns-clause-rows c = rw (← c.self.view_is) (left c)
