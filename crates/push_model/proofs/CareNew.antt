-- The steps of a handover keep the care for the world: one line each.
use Rattle.std.proofs.Common.{ℕ, max, refl}
use Rattle.std.specs.Prelude.{find}
use Rattle.push_model.specs.declared.ids.ChannelId.{ChannelId}
use Rattle.push_model.specs.declared.ids.Op.{Op}
use Rattle.push_model.specs.declared.ids.Uaid.{Uaid}
use Rattle.push_model.specs.SessionKey.{SessionKey}
use Rattle.push_model.specs.Sessions.{is_attached_at}
use Rattle.push_model.specs.Cells.{Cell}
use Rattle.push_model.specs.UserSteps.{claim, drop_user, expire}
use Rattle.push_model.specs.SessionSteps.{renew, unregister}
use Rattle.push_model.specs.FlightSteps.{clear}
use Rattle.push_model.specs.SaverSteps.{saver_clear, close, release, save}
use Rattle.push_model.specs.NodeSteps.{notif, killed}
use Rattle.push_model.specs.ClockSteps.{ticked}
use Rattle.push_model.specs.Worlds.{World, on_cell, on_flight, cell_at}
use Rattle.push_model.specs.ShardSteps.{tick, kill, up}
use Rattle.push_model.specs.Pools.{Pool}
use Rattle.push_model.proofs.Care.{CareFacts}
use Rattle.push_model.proofs.CareTold.{told_care}
use Rattle.push_model.proofs.CareRoute.{claim_care, renew_care, clear_care, saver_clear_care, release_care, drop_care, expire_care}
use Rattle.push_model.proofs.CareSessions.{unregister_care}
use Rattle.push_model.proofs.CareRows.{close_care, save_care, ticked_care, killed_care}
use Rattle.push_model.proofs.CareLift.{AllCared, on_cell_cared, on_flight_cared, on_all_cared}
use Rattle.push_model.proofs.InStep.{InStep}
use Rattle.push_model.proofs.Lift.{mine}

notif_care : (n : ℕ) (c : Cell) → CareFacts c → CareFacts (notif n c).cell
notif_care n c h = told_care n (find (is_attached_at n) c.sessions) c h refl

pub claim_cared : (w : World) (s : SessionKey) → AllCared w.cells → AllCared (on_cell w s.uaid (claim w.clock s)).0.cells
claim_cared w s h = on_cell_cared w s.uaid (claim w.clock s) h (claim_care w.clock s (cell_at w.cells s.uaid))

pub renew_cared : (w : World) (s : SessionKey) → AllCared w.cells → AllCared (on_cell w s.uaid (renew w.clock s)).0.cells
renew_cared w s h = on_cell_cared w s.uaid (renew w.clock s) h (renew_care w.clock s (cell_at w.cells s.uaid))

pub clear_cared : (w : World) (o : Op) → AllCared w.cells → AllCared (on_flight w o (clear o)).0.cells
clear_cared w o h = on_flight_cared w o (clear o) h (clear_care o)

pub saver_clear_cared : (w : World) (s : SessionKey) → AllCared w.cells → AllCared (on_cell w s.uaid (saver_clear s)).0.cells
saver_clear_cared w s h = on_cell_cared w s.uaid (saver_clear s) h (saver_clear_care s (cell_at w.cells s.uaid))

-- what was sent is of the channel that the pool knows
pub unregister_cared : (p : Pool) (w : World) (s : SessionKey) (k : ChannelId) → InStep p w → AllCared w.cells → AllCared (on_cell w s.uaid (unregister s k)).0.cells
unregister_cared p w s k i h = on_cell_cared w s.uaid (unregister s k) h (unregister_care p s k (cell_at w.cells s.uaid) (mine p w s.uaid i.sound).facts)

pub notif_cared : (w : World) (n : ℕ) (u : Uaid) → AllCared w.cells → AllCared (on_cell w u (notif n)).0.cells
notif_cared w n u h = on_cell_cared w u (notif n) h (notif_care n (cell_at w.cells u))

pub close_cared : (w : World) (s : SessionKey) → AllCared w.cells → AllCared (on_cell w s.uaid (close w.clock s)).0.cells
close_cared w s h = on_cell_cared w s.uaid (close w.clock s) h (close_care w.clock s (cell_at w.cells s.uaid))

pub release_cared : (w : World) (s : SessionKey) → AllCared w.cells → AllCared (on_cell w s.uaid (release s)).0.cells
release_cared w s h = on_cell_cared w s.uaid (release s) h (release_care s (cell_at w.cells s.uaid))

pub save_cared : (w : World) (s : SessionKey) → AllCared w.cells → AllCared (on_cell w s.uaid (save w.clock s)).0.cells
save_cared w s h = on_cell_cared w s.uaid (save w.clock s) h (save_care w.clock s (cell_at w.cells s.uaid))

pub drop_cared : (w : World) (u : Uaid) → AllCared w.cells → AllCared (on_cell w u drop_user).0.cells
drop_cared w u h = on_cell_cared w u drop_user h (drop_care (cell_at w.cells u))

pub expire_cared : (w : World) (u : Uaid) → AllCared w.cells → AllCared (on_cell w u (expire w.clock)).0.cells
expire_cared w u h = on_cell_cared w u (expire w.clock) h (expire_care w.clock (cell_at w.cells u))

pub tick_cared : (w : World) (t : ℕ) → AllCared w.cells → AllCared (tick t w).0.cells
tick_cared w t h = on_all_cared (ticked (max w.clock t)) w.cells h (ticked_care (max w.clock t))

pub kill_cared : (w : World) (n : ℕ) → AllCared w.cells → AllCared (kill n w).0.cells
kill_cared w n h = on_all_cared (killed n) w.cells h (killed_care n)

pub up_cared : (w : World) (n : ℕ) → AllCared w.cells → AllCared (up n w).0.cells
up_cared w n h = h
