-- Which stored rows the routed session wasn't sent, and who is about to tell it of them.
use Rattle.std.specs.Prelude.{ℕ, ◌==◌, ◌&&◌, ◌||◌, not, Bool, true, false, Option, Some, None, find, length, count_by, sum_by, ◌+◌}
use Rattle.std.specs.List.{list_any, list_all}
use Rattle.push_model.specs.declared.parts.Row.{Row}
use Rattle.push_model.specs.declared.parts.FlightRow.{FlightRow}
use Rattle.push_model.specs.declared.step.Fetch.{Fetch}
use Rattle.push_model.specs.declared.step.Fetch.TheVariants.{Idle, Topic, Plain}
use Rattle.push_model.specs.declared.step.Stage.{Stage}
use Rattle.push_model.specs.declared.step.Stage.TheVariants.{Reread, Nudge, Clear, Saving}
use Rattle.push_model.specs.Names.{is_same_id}
use Rattle.push_model.specs.Rows.{has_topic, is_unsent}
use Rattle.push_model.specs.Sessions.{Session, held}
use Rattle.push_model.specs.Cells.{Cell, User, Saver, rows_of, is_routed_to}

-- the session is attached, and the route row names it
abbrev pub is_routed : Option User → Session → Bool
is_routed user x = not x.displaced && is_routed_to x.node x.at user

abbrev pub routed_session : Cell → Option Session
routed_session c = find (is_routed c.user) c.sessions

-- ---- who covers a row for that session

-- a fetch that has not passed the row's kind
abbrev pub fetch_covers : Fetch → Row → Bool
fetch_covers Topic r = true
fetch_covers Plain r = not (has_topic r)
fetch_covers Idle r = false

abbrev pub names_session : ℕ → ℕ → Session → Bool
names_session n a x = (n == x.node) && (a == x.at)

-- an actor that is to read the route row again, or that tells or unroutes exactly that session
abbrev pub stage_covers : Stage → Session → Bool
stage_covers Reread x = true
stage_covers (Nudge n a) x = names_session n a x
stage_covers (Clear n a) x = names_session n a x
stage_covers _ x = false

abbrev pub flight_covers : Session → Row → FlightRow → Bool
flight_covers x r f = is_same_id f.message.id r.message.id && stage_covers f.stage x

abbrev pub is_saving : Stage → Bool
is_saving Saving = true
is_saving _ = false

abbrev pub saver_covers : Session → Row → Saver → Bool
saver_covers x r v = list_any (λ i. is_same_id i r.message.id) v.saved && (is_saving v.stage || stage_covers v.stage x)

abbrev pub is_covered : Cell → Session → Row → Bool
is_covered c x r = x.check || fetch_covers x.fetch r || list_any (flight_covers x r) c.flights || list_any (saver_covers x r) c.savers || r.orphan

-- ---- what a cell owes to its routed sessions

-- the row was sent to the session, or somebody is about to tell of it
abbrev pub is_minded : Cell → Session → Row → Bool
is_minded c x r = not (is_unsent x.sent r) || is_covered c x r

abbrev pub is_cared_for : Cell → Session → Bool
is_cared_for c x = not (is_routed c.user x) || list_all (is_minded c x) (rows_of c.user)

-- each row is, for each routed session
abbrev pub is_cared_in : Cell → Bool
is_cared_in c = list_all (is_cared_for c) c.sessions

-- ---- the numbers of a cell

abbrev pub unsent_for : Option Session → Cell → ℕ
unsent_for None c = 0
unsent_for (Some x) c = count_by (is_unsent x.sent) (rows_of c.user)

abbrev pub waiting_for : Option Session → Cell → ℕ
waiting_for None c = 0
waiting_for (Some x) c = count_by (λ r. is_unsent x.sent r && not (is_covered c x r)) (rows_of c.user)

abbrev pub stored_in : Cell → ℕ
stored_in c = length (rows_of c.user)

abbrev pub orphans_in : Cell → ℕ
orphans_in c = count_by (λ r. r.orphan) (rows_of c.user)

abbrev pub held_in : Cell → ℕ
held_in c = sum_by (λ x. length (held x)) c.sessions + sum_by (λ v. length v.held) c.savers

abbrev pub unsent_in : Cell → ℕ
unsent_in c = unsent_for (routed_session c) c

abbrev pub waiting_in : Cell → ℕ
waiting_in c = waiting_for (routed_session c) c
