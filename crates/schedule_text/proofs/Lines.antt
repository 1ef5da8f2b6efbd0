-- The two laws of lines: what is read is spelled so, and what is spelled so is read.
use Rattle.std.proofs.Common.{◌≡◌, ℕ, true, List, [], ◌∷◌, ◌++◌, Option, Some, refl, sym, ap, subst, ◌∙◌, inl, inr}
use Rattle.std.specs.Prelude.{codes, decimal, IfOk, Result, Ok, Err}
use Rattle.std.specs.List.{position_or_len}
use Rattle.std.specs.Str.{bytes_eq}
use Rattle.std.proofs.lemmas.List.{append-nil, take-append-drop}
use Rattle.std.proofs.lemmas.Slice.Eq.{bytes_eq-Decides}
use Rattle.push_model.specs.declared.step.Actor.TheVariants.{Flight, Saver}
use Rattle.push_model.specs.declared.step.Step.{Step}
use Rattle.push_model.specs.declared.step.Step.TheVariants.{Create, Attach, Register, Begin, Direct, Store, GiveUp, Reread, Nudge, Heard, Lost, TakeCheck, FetchTopic, FetchPlain, TakeDirect, Ack, Tick, Claim, Unregister, Renew, Close, Release, SaveOne, Clear, Notif, Kill, Up, Expire, DropUser, ListOrphans, ListIdle, Report}
use Rattle.schedule_text.specs.declared.fault.LineFault.{LineFault}
use Rattle.schedule_text.specs.declared.fault.LineFault.TheVariants.{Outside, NoMemory}
use Rattle.schedule_text.specs.Words.{word, hex, token_word}
use Rattle.schedule_text.specs.Spelling.{user_words, session_words, op_words, actor_words, ask_words, IsMoment, IsNode, IsUser, IsSession, IsOp, IsActor, IsChannel, IsToken, IsId, IsLineAsk, spell, InRange}
use Rattle.schedule_text.specs.Reading.{Gives, is_space, first_word, after_word, both, moment_at, node_at, user_at, session_at, op_at, channel_at, token_at, id_at, actor_at, ask_at, nothing_at, at_end, line_of, begin_at, create_at, claim_at, attach_at, check_at, topics_at, plains_at, take_at, renew_at, close_at, release_at, save_at, register_at, unregister_at, ack_at, direct_at, store_at, give_up_at, reread_at, nudge_at, heard_at, lost_at, clear_at, tick_at, notif_at, kill_at, up_at, expire_at, drop_user_at, orphans_at, idle_at, report_at, by_verb, verbs, line_at, WantsFor}
use Rattle.schedule_text.proofs.Fields.{bind_some, some_is, chosen, Field, both_fields}
use Rattle.schedule_text.proofs.ValueLaws.{token_field}
use Rattle.schedule_text.proofs.FieldLaws.{moment_field, node_field, user_field, session_field, op_field, channel_field, id_field, actor_field, ask_field}

-- ---- a line of any fields

end_takes : (rest : List ℕ) (step s : Step) → at_end rest step ≡ Some s → (rest ≡ []) × (step ≡ s)
end_takes [] step s e = (refl, some_is step s e)
end_takes (b ∷ rest) step s e = absurd cc

-- the verb and what stands behind it are the line
verb_line : (verb line args : List ℕ) → bytes_eq (first_word line) verb ≡ true → after_word line ≡ args → line ≡ verb ++ args
verb_line verb line args h e =
    let front : first_word line ≡ verb = (bytes_eq-Decides (first_word line) verb).0 h in
    sym (take-append-drop (position_or_len is_space line) line) ∙ ap (λ (v : List ℕ). v ++ after_word line) front ∙ ap (λ (r : List ℕ). verb ++ r) e

abbrev Is : List ℕ → Step → Type 0
Is line s = (line ≡ spell s) × InRange s

-- A line's fields, and what its step spells and keeps.
record Line {A : Type 0} (verb : List ℕ) (read : List ℕ → Option (A × List ℕ)) (spelled : A → List ℕ) (fits : A → Type 0) (step : A → Step) : Type 0 where
  field : Field read spelled fits
  spells : (x : A) → spell (step x) ≡ verb ++ spelled x
  ranges : (x : A) → fits x → InRange (step x)

takes : {A : Type 0} {verb : List ℕ} {read : List ℕ → Option (A × List ℕ)} {spelled : A → List ℕ} {fits : A → Type 0} {step : A → Step} → Line verb read spelled fits step
    → (line : List ℕ) (s : Step) → bytes_eq (first_word line) verb ≡ true → line_of step read (after_word line) ≡ Some s → Is line s
takes {A} {verb} {read} {spelled} {fits} {step} l line s h e =
    let a = bind_some (read (after_word line)) (λ x. at_end x.1 (step x.0)) s e in
    let t = l.field.takes (after_word line) a.0 a.1 in
    let d = end_takes a.0.1 (step a.0.0) s a.2 in
    let args : after_word line ≡ spelled a.0.0 = t.0 ∙ ap (λ (r : List ℕ). spelled a.0.0 ++ r) d.0 ∙ append-nil (spelled a.0.0) in
    subst (Is line) d.1 (verb_line verb line (spelled a.0.0) h args ∙ sym (l.spells a.0.0), l.ranges a.0.0 t.1)

again : {A : Type 0} {verb : List ℕ} {read : List ℕ → Option (A × List ℕ)} {spelled : A → List ℕ} {fits : A → Type 0} {step : A → Step} → Line verb read spelled fits step
    → (x : A) → fits x → line_of step read (spelled x) ≡ Some (step x)
again {A} {verb} {read} {spelled} {fits} {step} l x h =
    let e : read (spelled x) ≡ Some (x, []) = ap read (sym (append-nil (spelled x))) ∙ l.field.again x [] h tt in
    rw e refl

-- ---- the lines

create_line : Line (codes "create") session_at session_words IsSession Create
create_line = record { field = session_field; spells = λ x. refl; ranges = λ x h. h }

claim_line : Line (codes "claim") session_at session_words IsSession Claim
claim_line = record { field = session_field; spells = λ x. refl; ranges = λ x h. h }

attach_line : Line (codes "attach") session_at session_words IsSession Attach
attach_line = record { field = session_field; spells = λ x. refl; ranges = λ x h. h }

check_line : Line (codes "check") session_at session_words IsSession TakeCheck
check_line = record { field = session_field; spells = λ x. refl; ranges = λ x h. h }

topics_line : Line (codes "topics") session_at session_words IsSession FetchTopic
topics_line = record { field = session_field; spells = λ x. refl; ranges = λ x h. h }

plains_line : Line (codes "plains") session_at session_words IsSession FetchPlain
plains_line = record { field = session_field; spells = λ x. refl; ranges = λ x h. h }

take_line : Line (codes "take") session_at session_words IsSession TakeDirect
take_line = record { field = session_field; spells = λ x. refl; ranges = λ x h. h }

renew_line : Line (codes "renew") session_at session_words IsSession Renew
renew_line = record { field = session_field; spells = λ x. refl; ranges = λ x h. h }

close_line : Line (codes "close") session_at session_words IsSession Close
close_line = record { field = session_field; spells = λ x. refl; ranges = λ x h. h }

release_line : Line (codes "release") session_at session_words IsSession Release
release_line = record { field = session_field; spells = λ x. refl; ranges = λ x h. h }

save_line : Line (codes "save") session_at session_words IsSession SaveOne
save_line = record { field = session_field; spells = λ x. refl; ranges = λ x h. h }

register_line :
    Line (codes "register") (both session_at (both channel_at token_at)) (λ x. session_words x.0 ++ (word (hex x.1.0.0) ++ word (token_word x.1.1)))
    (λ x. IsSession x.0 × (IsChannel x.1.0 × IsToken x.1.1)) (λ x. Register x.0 x.1.0 x.1.1)
register_line = record { field = both_fields session_field (both_fields channel_field token_field); spells = λ x. refl; ranges = λ x h. h }

unregister_line :
    Line (codes "unregister") (both session_at channel_at) (λ x. session_words x.0 ++ word (hex x.1.0))
    (λ x. IsSession x.0 × IsChannel x.1) (λ x. Unregister x.0 x.1)
unregister_line = record { field = both_fields session_field channel_field; spells = λ x. refl; ranges = λ x h. h }

ack_line :
    Line (codes "ack") (both session_at (both channel_at id_at)) (λ x. session_words x.0 ++ (word (hex x.1.0.0) ++ word (decimal x.1.1.number)))
    (λ x. IsSession x.0 × (IsChannel x.1.0 × IsId x.1.1)) (λ x. Ack x.0 x.1.0 x.1.1)
ack_line = record { field = both_fields session_field (both_fields channel_field id_field); spells = λ x. refl; ranges = λ x h. h }

begin_line :
    Line (codes "begin") (both op_at (both token_at ask_at)) (λ x. op_words x.0 ++ (word (token_word x.1.0) ++ ask_words x.1.1))
    (λ x. IsOp x.0 × (IsToken x.1.0 × IsLineAsk x.1.1)) (λ x. Begin x.0 x.1.0 x.1.1)
begin_line = record { field = both_fields op_field (both_fields token_field ask_field); spells = λ x. refl; ranges = λ x h. h }

direct_line : Line (codes "direct") op_at op_words IsOp Direct
direct_line = record { field = op_field; spells = λ x. refl; ranges = λ x h. h }

store_line : Line (codes "store") op_at op_words IsOp Store
store_line = record { field = op_field; spells = λ x. refl; ranges = λ x h. h }

give_up_line : Line (codes "giveup") op_at op_words IsOp GiveUp
give_up_line = record { field = op_field; spells = λ x. refl; ranges = λ x h. h }

reread_line : Line (codes "reread") actor_at actor_words IsActor Reread
reread_line = record { field = actor_field; spells = λ x. refl; ranges = λ x h. h }

nudge_line : Line (codes "nudge") actor_at actor_words IsActor Nudge
nudge_line = record { field = actor_field; spells = λ x. refl; ranges = λ x h. h }

heard_line : Line (codes "heard") actor_at actor_words IsActor Heard
heard_line = record { field = actor_field; spells = λ x. refl; ranges = λ x h. h }

lost_line : Line (codes "lost") actor_at actor_words IsActor Lost
lost_line = record { field = actor_field; spells = λ x. refl; ranges = λ x h. h }

clear_line : Line (codes "clear") actor_at actor_words IsActor Clear
clear_line = record { field = actor_field; spells = λ x. refl; ranges = λ x h. h }

tick_line : Line (codes "tick") moment_at (λ m. word (decimal m)) IsMoment Tick
tick_line = record { field = moment_field; spells = λ x. refl; ranges = λ x h. h }

notif_line :
    Line (codes "notif") (both node_at user_at) (λ x. word (decimal x.0) ++ user_words x.1)
    (λ x. IsNode x.0 × IsUser x.1) (λ x. Notif x.0 x.1)
notif_line = record { field = both_fields node_field user_field; spells = λ x. refl; ranges = λ x h. h }

kill_line : Line (codes "kill") node_at (λ n. word (decimal n)) IsNode Kill
kill_line = record { field = node_field; spells = λ x. refl; ranges = λ x h. h }

up_line : Line (codes "up") node_at (λ n. word (decimal n)) IsNode Up
up_line = record { field = node_field; spells = λ x. refl; ranges = λ x h. h }

expire_line : Line (codes "expire") user_at user_words IsUser Expire
expire_line = record { field = user_field; spells = λ x. refl; ranges = λ x h. h }

drop_user_line : Line (codes "drop") user_at user_words IsUser DropUser
drop_user_line = record { field = user_field; spells = λ x. refl; ranges = λ x h. h }

nothing_field : Field nothing_at (λ x. []) (λ x. Unit {0})
nothing_field = record {
  takes = λ bytes x e. (ap (λ (y : Unit {0} × List ℕ). y.1) (some_is (tt, bytes) x e), tt);
  again = λ x rest h brk. refl;
  breaks = λ x rest h brk. brk;
}

orphans_line : Line (codes "orphans") nothing_at (λ x. []) (λ x. Unit {0}) (λ x. ListOrphans)
orphans_line = record { field = nothing_field; spells = λ x. refl; ranges = λ x h. tt }

idle_line : Line (codes "idle") nothing_at (λ x. []) (λ x. Unit {0}) (λ x. ListIdle)
idle_line = record { field = nothing_field; spells = λ x. refl; ranges = λ x h. tt }

report_line : Line (codes "report") nothing_at (λ x. []) (λ x. Unit {0}) (λ x. Report)
report_line = record { field = nothing_field; spells = λ x. refl; ranges = λ x h. tt }

-- ---- all verbs

abbrev AllTake : List (List ℕ × (List ℕ → Option Step)) → Type 0
AllTake [] = Unit {0}
AllTake (v ∷ vs) = ((line : List ℕ) (s : Step) → bytes_eq (first_word line) v.0 ≡ true → v.1 (after_word line) ≡ Some s → Is line s) × AllTake vs

verbs_take : AllTake verbs
unfolding begin_at create_at claim_at attach_at check_at topics_at plains_at take_at renew_at close_at release_at save_at register_at unregister_at ack_at direct_at store_at give_up_at reread_at nudge_at heard_at lost_at clear_at tick_at notif_at kill_at up_at expire_at drop_user_at orphans_at idle_at report_at
verbs_take =
    (takes begin_line, (takes create_line, (takes claim_line, (takes attach_line, (takes check_line, (takes topics_line, (takes plains_line, (takes take_line, (takes renew_line, (takes close_line, (takes release_line, (takes save_line, (takes register_line, (takes unregister_line, (takes ack_line, (takes direct_line, (takes store_line, (takes give_up_line, (takes reread_line, (takes nudge_line, (takes heard_line, (takes lost_line, (takes clear_line, (takes tick_line, (takes notif_line, (takes kill_line, (takes up_line, (takes expire_line, (takes drop_user_line, (takes orphans_line, (takes idle_line, (takes report_line, tt))))))))))))))))))))))))))))))))

verb_takes : (vs : List (List ℕ × (List ℕ → Option Step))) → AllTake vs → (line : List ℕ) (s : Step) → by_verb vs (first_word line) (after_word line) ≡ Some s → Is line s
verb_takes [] all line s e = absurd cc
verb_takes (v ∷ vs) all line s e =
    elim (chosen (bytes_eq (first_word line) v.0) _ _ _ e) [
      | inl h ↦ all.0 line s h.0 h.1
      | inr h ↦ verb_takes vs all.1 line s h.1
    ]

pub line_takes : (line : List ℕ) (s : Step) → line_at line ≡ Some s → (line ≡ spell s) × InRange s
unfolding line_at
line_takes line s e = verb_takes verbs verbs_take line s e

pub line_again : (s : Step) → InRange s → line_at (spell s) ≡ Some s
unfolding line_at begin_at create_at claim_at attach_at check_at topics_at plains_at take_at renew_at close_at release_at save_at register_at unregister_at ack_at direct_at store_at give_up_at reread_at nudge_at heard_at lost_at clear_at tick_at notif_at kill_at up_at expire_at drop_user_at orphans_at idle_at report_at
line_again (Create s) h = again create_line s h
line_again (Claim s) h = again claim_line s h
line_again (Attach s) h = again attach_line s h
line_again (TakeCheck s) h = again check_line s h
line_again (FetchTopic s) h = again topics_line s h
line_again (FetchPlain s) h = again plains_line s h
line_again (TakeDirect s) h = again take_line s h
line_again (Renew s) h = again renew_line s h
line_again (Close s) h = again close_line s h
line_again (Release s) h = again release_line s h
line_again (SaveOne s) h = again save_line s h
line_again (Register s c t) h = again register_line (s, (c, t)) h
line_again (Unregister s c) h = again unregister_line (s, c) h
line_again (Ack s c i) h = again ack_line (s, (c, i)) h
line_again (Begin o t a) h = again begin_line (o, (t, a)) h
line_again (Direct o) h = again direct_line o h
line_again (Store o) h = again store_line o h
line_again (GiveUp o) h = again give_up_line o h
line_again (Reread (Flight o)) h = again reread_line (Flight o) h
line_again (Reread (Saver x)) h = again reread_line (Saver x) h
line_again (Nudge (Flight o)) h = again nudge_line (Flight o) h
line_again (Nudge (Saver x)) h = again nudge_line (Saver x) h
line_again (Heard (Flight o)) h = again heard_line (Flight o) h
line_again (Heard (Saver x)) h = again heard_line (Saver x) h
line_again (Lost (Flight o)) h = again lost_line (Flight o) h
line_again (Lost (Saver x)) h = again lost_line (Saver x) h
line_again (Clear (Flight o)) h = again clear_line (Flight o) h
line_again (Clear (Saver x)) h = again clear_line (Saver x) h
line_again (Tick m) h = again tick_line m h
line_again (Notif n u) h = again notif_line (n, u) h
line_again (Kill n) h = again kill_line n h
line_again (Up n) h = again up_line n h
line_again (Expire u) h = again expire_line u h
line_again (DropUser u) h = again drop_user_line u h
line_again ListOrphans h = again orphans_line tt tt
line_again ListIdle h = again idle_line tt tt
line_again Report h = again report_line tt tt

pub one_step : (s t : Step) → InRange s → InRange t → spell s ≡ spell t → s ≡ t
one_step s t h g e = some_is s t (sym (line_again s h) ∙ ap line_at e ∙ line_again t g)

pub is_found : (line : List ℕ) (r : Result Step LineFault) → Gives (λ x. x) r (line_at line) → IfOk r (λ s. (line ≡ spell s) × InRange s)
is_found line (Ok s) h = line_takes line s h
is_found line (Err e) h = tt

pub wants_spelled : (line : List ℕ) (r : Result Step LineFault) → WantsFor (λ s. line_at line ≡ Some s) r → WantsFor (λ s. (line ≡ spell s) × InRange s) r
wants_spelled line (Ok s) h = tt
wants_spelled line (Err Outside) h = tt
wants_spelled line (Err NoMemory) h = (h.0, (line_takes line h.0 h.1.0, h.1.1))
