-- Which replies each kind of step can have.
use Rattle.std.specs.Prelude.{ℕ, ◌==◌, ◌||◌, Bool, true, false}
use Rattle.push_model.specs.declared.step.Actor.TheVariants.{Flight as OfFlight, Saver as OfSaver}
use Rattle.push_model.specs.declared.step.Stage.{Stage}
use Rattle.push_model.specs.declared.step.Stage.TheVariants.{Store as AtStore, Clear as AtClear}
use Rattle.push_model.specs.declared.step.Step.{Step}
use Rattle.push_model.specs.declared.step.Step.TheVariants.{Create, Attach, Register, Begin, Direct, Store, GiveUp, Reread, Nudge, Heard, Lost, TakeCheck, FetchTopic, FetchPlain, TakeDirect, Ack, Report, Tick, Claim, Unregister, Renew, Close, Release, SaveOne, Clear, Notif, Kill, Up, Expire, DropUser, ListOrphans, ListIdle}
use Rattle.push_model.specs.declared.reply.Reply.{Reply}
use Rattle.push_model.specs.declared.reply.Reply.TheVariants.{Made, Taken, NotClaimed, NodeDown, Outrun, Attached, Endpoint, TokenTaken, NoSession, NoFlight, Stage as StageIs, NoToken, IdsSpent, Begun, Here, NotHere, Stored, Names, End, Moved, Due, NotDue, Page, Acked, Unknown, Counts, Done, NoUser, Stale, Claimed, Renewed, Kept, Cleared, Saving, Saved, Left, AllSaved, Dropped, Killed, Users}

-- the flight isn't there, or is at another stage
abbrev pub is_refusal : Reply → Bool
is_refusal NoFlight = true
is_refusal (StageIs s) = true
is_refusal _ = false

-- the session isn't there, or a saver or a session is at another stage
abbrev pub is_elsewhere : Reply → Bool
is_elsewhere NoSession = true
is_elsewhere (StageIs s) = true
is_elsewhere _ = false

-- ---- what a step replies that isn't refused so

abbrev pub is_create_reply : Reply → Bool
is_create_reply Made = true
is_create_reply Taken = true
is_create_reply _ = false

abbrev pub is_attach_reply : Reply → Bool
is_attach_reply NodeDown = true
is_attach_reply NotClaimed = true
is_attach_reply (Outrun a) = true
is_attach_reply (Attached displaced) = true
is_attach_reply _ = false

abbrev pub is_register_reply : Reply → Bool
is_register_reply NoSession = true
is_register_reply TokenTaken = true
is_register_reply (Endpoint t) = true
is_register_reply _ = false

abbrev pub is_begin_reply : Reply → Bool
is_begin_reply NoToken = true
is_begin_reply IdsSpent = true
is_begin_reply (StageIs s) = true
is_begin_reply (Begun i place) = true
is_begin_reply _ = false

abbrev pub is_told_reply : Reply → Bool
is_told_reply (Here u) = true
is_told_reply NotHere = true
is_told_reply _ = false

abbrev pub is_store_reply : Reply → Bool
is_store_reply Stored = true
is_store_reply (End code) = (code == 201) || (code == 410) || (code == 503)
is_store_reply _ = false

abbrev pub is_end_reply : ℕ → Reply → Bool
is_end_reply n (End code) = code == n
is_end_reply n _ = false

abbrev pub is_read_reply : ℕ → Reply → Bool
is_read_reply n (Names k a) = true
is_read_reply n r = is_end_reply n r

abbrev pub is_clear_stage : Stage → Bool
is_clear_stage (AtClear n a) = true
is_clear_stage _ = false

abbrev pub goes_to_clear : Reply → Bool
goes_to_clear (Moved s) = is_clear_stage s
goes_to_clear _ = false

abbrev pub is_unheard_stage : Stage → Bool
is_unheard_stage AtStore = true
is_unheard_stage s = is_clear_stage s

abbrev pub is_heard_reply : Reply → Bool
is_heard_reply (Moved s) = is_unheard_stage s
is_heard_reply r = is_end_reply 201 r

abbrev pub is_page_reply : Reply → Bool
is_page_reply (Page messages) = true
is_page_reply _ = false

abbrev pub is_check_reply : Reply → Bool
is_check_reply NoSession = true
is_check_reply Due = true
is_check_reply NotDue = true
is_check_reply _ = false

abbrev pub is_taken_reply : Reply → Bool
is_taken_reply NoSession = true
is_taken_reply r = is_page_reply r

abbrev pub is_ack_reply : Reply → Bool
is_ack_reply NoSession = true
is_ack_reply Unknown = true
is_ack_reply (Acked from) = true
is_ack_reply _ = false

abbrev pub is_report_reply : Reply → Bool
is_report_reply (Counts c) = true
is_report_reply _ = false

abbrev pub is_list_reply : Reply → Bool
is_list_reply (Users list) = true
is_list_reply _ = false

abbrev pub is_done : Reply → Bool
is_done Done = true
is_done _ = false

abbrev pub is_claim_reply : Reply → Bool
is_claim_reply NoUser = true
is_claim_reply (Stale a) = true
is_claim_reply (Claimed n) = true
is_claim_reply _ = false

abbrev pub is_unregister_reply : Reply → Bool
is_unregister_reply NoSession = true
is_unregister_reply r = is_done r

abbrev pub is_renew_reply : Reply → Bool
is_renew_reply NoSession = true
is_renew_reply Renewed = true
is_renew_reply Kept = true
is_renew_reply _ = false

abbrev pub is_close_reply : Reply → Bool
is_close_reply (Saving n) = true
is_close_reply _ = false

abbrev pub is_release_reply : Reply → Bool
is_release_reply Cleared = true
is_release_reply Kept = true
is_release_reply _ = false

abbrev pub is_save_reply : Reply → Bool
is_save_reply (Saved i) = true
is_save_reply (Left i reason) = true
is_save_reply AllSaved = true
is_save_reply _ = false

abbrev pub is_kill_reply : Reply → Bool
is_kill_reply (Killed held orphans) = true
is_kill_reply _ = false

abbrev pub is_drop_reply : Reply → Bool
is_drop_reply Dropped = true
is_drop_reply Kept = true
is_drop_reply _ = false

-- ---- the table

abbrev pub replies_to : Step → Reply → Bool
replies_to (Create s) r = is_create_reply r
replies_to (Attach s) r = is_attach_reply r
replies_to (Register s h t) r = is_register_reply r
replies_to (Begin o t a) r = is_begin_reply r
replies_to (Direct o) r = is_refusal r || is_told_reply r
replies_to (Store o) r = is_refusal r || is_store_reply r
replies_to (GiveUp o) r = is_refusal r || is_end_reply 500 r
replies_to (Reread (OfFlight o)) r = is_refusal r || is_read_reply 201 r
replies_to (Reread (OfSaver s)) r = is_elsewhere r || is_read_reply 200 r
replies_to (Nudge (OfFlight o)) r = is_refusal r || is_told_reply r
replies_to (Nudge (OfSaver s)) r = is_elsewhere r || is_told_reply r
replies_to (Heard (OfFlight o)) r = is_refusal r || is_heard_reply r
replies_to (Heard (OfSaver s)) r = is_elsewhere r || (is_end_reply 200 r || goes_to_clear r)
replies_to (Lost (OfFlight o)) r = is_refusal r || is_heard_reply r
replies_to (Lost (OfSaver s)) r = is_elsewhere r || goes_to_clear r
replies_to (TakeCheck s) r = is_check_reply r
replies_to (FetchTopic s) r = is_elsewhere r || is_page_reply r
replies_to (FetchPlain s) r = is_elsewhere r || is_page_reply r
replies_to (TakeDirect s) r = is_taken_reply r
replies_to (Ack s h i) r = is_ack_reply r
replies_to Report r = is_report_reply r
replies_to ListOrphans r = is_list_reply r
replies_to ListIdle r = is_list_reply r
replies_to (Tick t) r = is_done r
replies_to (Claim s) r = is_claim_reply r
replies_to (Unregister s h) r = is_unregister_reply r
replies_to (Renew s) r = is_renew_reply r
replies_to (Close s) r = is_elsewhere r || is_close_reply r
replies_to (Release s) r = is_elsewhere r || is_release_reply r
replies_to (SaveOne s) r = is_elsewhere r || is_save_reply r
replies_to (Clear (OfFlight o)) r = is_refusal r || is_end_reply 201 r
replies_to (Clear (OfSaver s)) r = is_elsewhere r || is_end_reply 200 r
replies_to (Notif n u) r = is_told_reply r
replies_to (Kill n) r = is_kill_reply r
replies_to (Up n) r = is_done r
replies_to (Expire u) r = is_drop_reply r
replies_to (DropUser u) r = is_drop_reply r
