use Rattle.std.proofs.Common.{◌≡◌, Some, None, sym}
use Rattle.endpoint_token.specs.TokenOwners.{owner_of}
use Rattle.endpoint_token.proofs.OwnerLemmas.{lookup-owner, none_from, owner_changes}
use Rattle.endpoint_token.proofs.rows.TokenRows.insert.Goals as goal
use Rattle.endpoint_token.proofs.rows.TokenRows.insert.Goals.{in-Ok, in-Err}

pub returns-then-contains_key-clause-fault : goal.returns-then-contains_key-clause-fault
returns-then-contains_key-clause-fault c =
    rw (← c.self.view_is, ← lookup-owner c.self.inside.rows.entries c.args.token) (sym c.if-contains_key.ensures)

pub returns-clause-free : goal.returns-clause-free
returns-clause-free c =
    let free : owner_of c.args.self.now c.args.token ≡ None = rw (← c.self.view_is, ← lookup-owner c.self.inside.rows.entries c.args.token) (none_from _ (sym c.if-contains_key.ensures)) in
    elim c.match-insert.branch [ in-Ok w ↦ rw w.result-is free | in-Err w ↦ rw w.result-is tt ]

pub returns-clause-inserted : goal.returns-clause-inserted
returns-clause-inserted c =
    elim c.match-insert.branch [
      | in-Ok w ↦ rw (w.result-is, ← c.self.view_is) (owner_changes c.self.inside.rows.entries c.insert.new.self.entries c.args.token (Some (c.args.uaid, c.args.chid)) w.in-Ok.ensures.updates.0)
      | in-Err w ↦ rw w.result-is tt
    ]

pub returns-clause-fault : goal.returns-clause-fault
returns-clause-fault c =
    let free : owner_of c.args.self.now c.args.token ≡ None = rw (← c.self.view_is, ← lookup-owner c.self.inside.rows.entries c.args.token) (none_from _ (sym c.if-contains_key.ensures)) in
    elim c.match-insert.branch [ in-Ok w ↦ rw w.result-is tt | in-Err w ↦ rw w.result-is free ]
