-- Each step keeps pool and world in step, and so every legal history is accounted.
use Rattle.std.proofs.Common.{◌≡◌, ℕ, List, [], ◌∷◌, refl, sym, subst}
use Rattle.push_model.specs.declared.entry.Entry.{Entry}
use Rattle.push_model.specs.declared.step.Actor.TheVariants.{Flight as OfFlight, Saver as OfSaver}
use Rattle.push_model.specs.declared.step.Step.{Step}
use Rattle.push_model.specs.declared.step.Step.TheVariants.{Create, Attach, Register, Begin, Direct, Store, GiveUp, Reread, Nudge, Heard, Lost, TakeCheck, FetchTopic, FetchPlain, TakeDirect, Ack as AckStep, Report, Tick, Claim, Unregister, Renew, Close, Release, SaveOne, Clear, Notif, Kill, Up, Expire, DropUser, ListOrphans, ListIdle}
use Rattle.push_model.specs.declared.reply.Reply.{Reply}
use Rattle.push_model.specs.Worlds.{World, start}
use Rattle.push_model.specs.Steps.{made, step}
use Rattle.push_model.specs.Histories.{IsLegal}
use Rattle.push_model.specs.Pools.{Pool, empty_pool, after_all}
use Rattle.push_model.specs.Images.{events, image}
use Rattle.push_model.specs.Accounting.{IsAccounted, IsAccountedFrom}
use Rattle.push_model.proofs.Members.{true_not_false}
use Rattle.push_model.proofs.InStep.{InStep, Stepped, StepKept, tallied, finish, in_step-exact}
use Rattle.push_model.proofs.Lift.{same_stepped}
use Rattle.push_model.proofs.JoinKept.{create_kept, attach_kept, register_kept}
use Rattle.push_model.proofs.DirectKept.{direct_kept}
use Rattle.push_model.proofs.AdvanceKept.{heard_kept, lost_kept, give_up_kept, reread_kept}
use Rattle.push_model.proofs.SaverKept.{saver_heard_kept, saver_lost_kept, saver_reread_kept, saver_nudge_kept}
use Rattle.push_model.proofs.NudgeKept.{nudge_kept, take_check_kept}
use Rattle.push_model.proofs.FetchKept.{fetch_topic_kept, fetch_plain_kept}
use Rattle.push_model.proofs.StoreKept.{store_kept}
use Rattle.push_model.proofs.AckKept.{take_direct_kept, ack_kept}
use Rattle.push_model.proofs.BeginKept.{begin_kept}
use Rattle.push_model.proofs.LiftEach.{tick_kept}
use Rattle.push_model.proofs.KillKept.{kill_kept, up_kept}
use Rattle.push_model.proofs.HandoverKept.{claim_kept, clear_kept, saver_clear_kept, release_kept, notif_kept, renew_kept, close_kept}
use Rattle.push_model.proofs.SaveKept.{save_kept, unregister_kept, drop_kept, expire_kept}

-- the step, before it is counted
made_kept : (p : Pool) (w : World) (x : Step) → InStep p w → Stepped p (events w x (made w x).1) (made w x).0
made_kept p w (Create s) h = create_kept p w s h
made_kept p w (Attach s) h = attach_kept p w s h
made_kept p w (Register s k t) h = register_kept p w s k t h
made_kept p w (Begin o t a) h = begin_kept p w o t a h
made_kept p w (Direct o) h = direct_kept p w o h
made_kept p w (Store o) h = store_kept p w o h
made_kept p w (GiveUp o) h = give_up_kept p w o h
made_kept p w (Reread (OfFlight o)) h = reread_kept p w o h
made_kept p w (Reread (OfSaver s)) h = saver_reread_kept p w s h
made_kept p w (Nudge (OfFlight o)) h = nudge_kept p w o h
made_kept p w (Nudge (OfSaver s)) h = saver_nudge_kept p w s h
made_kept p w (Heard (OfFlight o)) h = heard_kept p w o h
made_kept p w (Heard (OfSaver s)) h = saver_heard_kept p w s h
made_kept p w (Lost (OfFlight o)) h = lost_kept p w o h
made_kept p w (Lost (OfSaver s)) h = saver_lost_kept p w s h
made_kept p w (TakeCheck s) h = take_check_kept p w s h
made_kept p w (FetchTopic s) h = fetch_topic_kept p w s h
made_kept p w (FetchPlain s) h = fetch_plain_kept p w s h
made_kept p w (TakeDirect s) h = take_direct_kept p w s h
made_kept p w (AckStep s k i) h = ack_kept p w s k i h
made_kept p w Report h = same_stepped p w h
made_kept p w ListOrphans h = same_stepped p w h
made_kept p w ListIdle h = same_stepped p w h
made_kept p w (Tick t) h = tick_kept p w t h
made_kept p w (Claim s) h = claim_kept p w s h
made_kept p w (Unregister s k) h = unregister_kept p w s k h
made_kept p w (Renew s) h = renew_kept p w s h
made_kept p w (Close s) h = close_kept p w s h
made_kept p w (Release s) h = release_kept p w s h
made_kept p w (SaveOne s) h = save_kept p w s h
made_kept p w (Clear (OfFlight o)) h = clear_kept p w o h
made_kept p w (Clear (OfSaver s)) h = saver_clear_kept p w s h
made_kept p w (Notif n u) h = notif_kept p w n u h
made_kept p w (Kill n) h = kill_kept p w n h
made_kept p w (Up n) h = up_kept p w n h
made_kept p w (Expire u) h = expire_kept p w u h
made_kept p w (DropUser u) h = drop_kept p w u h

step_kept : (p : Pool) (w : World) (x : Step) → InStep p w → StepKept p (events w x (step w x).1) (step w x).0
step_kept p w x h = finish p (step w x).0 (events w x (step w x).1) (tallied p (events w x (made w x).1) (made w x).0 (step w x).0.tally (made_kept p w x h))

pub entry_kept : (p : Pool) (w : World) (e : Entry Step Reply) → InStep p w → e.reply ≡ (step w e.step).1 → StepKept p (events w e.step e.reply) (step w e.step).0
entry_kept p w e h l = subst (λ r. StepKept p (events w e.step r) (step w e.step).0) (sym l) (step_kept p w e.step h)

accounted_from : (p : Pool) (w : World) (es : List (Entry Step Reply)) → InStep p w → IsLegal step w es → IsAccountedFrom p w es
accounted_from p w [] h l = in_step-exact p w h
accounted_from p w (e ∷ es) h l =
    let k = entry_kept p w e h l.0 in
    (k.meets, accounted_from (after_all (image p w e) p) (step w e.step).0 es k.in_step l.1)

pub start_in_step : (shard next : ℕ) → InStep empty_pool (start shard next)
start_in_step shard next =
    record {
      sound = record { clock = refl; keys = λ e i. elim i [ ]; distinct = tt; above = refl; cells = λ e i. elim i [ ] };
      covered = λ n l. absurd (true_not_false (sym l));
    }

pub accounted : (shard next : ℕ) (es : List (Entry Step Reply)) → IsLegal step (start shard next) es → IsAccounted (start shard next) es
accounted shard next es l = accounted_from empty_pool (start shard next) es (start_in_step shard next) l
