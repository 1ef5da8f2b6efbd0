-- What happens to a user at one node: its session there is told to look at the rows, and the node is killed.
use Rattle.std.specs.Prelude.{ℕ, Bool, true, false, List, Option, Some, None, find, length, filter, map, sum_by, count_by, not, ◌==◌, ◌&&◌, ◌||◌, ◌+◌}
use Rattle.std.specs.List.{list_any}
use Rattle.push_model.specs.declared.parts.Row.{Row}
use Rattle.push_model.specs.declared.step.Stage.{Stage}
use Rattle.push_model.specs.declared.reply.Reply.{Reply}
use Rattle.push_model.specs.declared.step.Stage.TheVariants.{ToldNudge as AtToldNudge}
use Rattle.push_model.specs.declared.reply.Reply.TheVariants.{Here, NotHere}
use Rattle.push_model.specs.Names.{is_same_id}
use Rattle.push_model.specs.Keyed.{with_first}
use Rattle.push_model.specs.Sessions.{Session, checked, held, is_attached_at}
use Rattle.push_model.specs.Cells.{Cell, Saver, User, rows_of, unmarked_for}
use Rattle.push_model.specs.Outcomes.{Outcome, outcome}

-- ---- the session attached there is to look at the rows, and where the route row names it, it takes over the orphans

abbrev pub told : ℕ → Option Session → Cell → Cell
told n None c = c
told n (Some x) c = record c { user = unmarked_for n x.at c.user; sessions = with_first (is_attached_at n) checked c.sessions }

abbrev pub told_reply : Option Session → Cell → Reply
told_reply None c = NotHere
told_reply (Some x) c = Here c.uaid

-- ---- Notif

abbrev pub notif : ℕ → Cell → Outcome
notif n c = outcome (told n (find (is_attached_at n) c.sessions) c) (told_reply (find (is_attached_at n) c.sessions) c)

-- ---- Kill: what was on the node goes, and the rows that its savers had yet to tell of become orphans

-- a saver at this stage has told
abbrev pub is_told : Stage → Bool
is_told (AtToldNudge here n a) = true
is_told _ = false

-- a saver on the node saved the row, and told nobody
abbrev pub leaves_orphan : ℕ → Row → Saver → Bool
leaves_orphan n r v = (v.node == n) && (not (is_told v.stage) && list_any (λ i. is_same_id i r.message.id) v.saved)

abbrev pub is_left_orphan : ℕ → List Saver → Row → Bool
is_left_orphan n vs r = list_any (leaves_orphan n r) vs

abbrev pub orphaned : ℕ → List Saver → Row → Row
orphaned n vs r = record r { orphan = r.orphan || is_left_orphan n vs r }

abbrev pub with_orphans : ℕ → List Saver → Option User → Option User
with_orphans n vs None = None
with_orphans n vs (Some u) = Some (record u { rows = map (orphaned n vs) u.rows })

abbrev pub killed : ℕ → Cell → Cell
killed n c =
    record c {
      user = with_orphans n c.savers c.user;
      claims = filter (λ k. not (k.node == n)) c.claims;
      sessions = filter (λ x. not (x.node == n)) c.sessions;
      savers = filter (λ v. not (v.node == n)) c.savers;
    }

-- what they held, and the rows newly marked
abbrev pub held_on : ℕ → Cell → ℕ
held_on n c = sum_by (λ x. length (held x)) (filter (λ x. x.node == n) c.sessions) + sum_by (λ v. length v.held) (filter (λ v. v.node == n) c.savers)

abbrev pub orphaned_on : ℕ → Cell → ℕ
orphaned_on n c = count_by (λ r. not r.orphan && is_left_orphan n c.savers r) (rows_of c.user)
