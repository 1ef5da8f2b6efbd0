-- Kinds of steps and replies.
use Rattle.std.specs.Prelude.{◌==◌, Bool, true, false}
use Rattle.push_model.specs.declared.reply.Reply.{Reply}
use Rattle.push_model.specs.declared.reply.Reply.TheVariants.{Made, Attached, Endpoint, Begun, Here, Stored as IsStored, Page, Claimed, Users}
use Rattle.push_model.specs.declared.step.Step.{Step}
use Rattle.push_model.specs.declared.step.Step.TheVariants.{Create, Attach, Register, Begin, Direct, Store, FetchTopic, FetchPlain, TakeDirect, Claim, ListOrphans, ListIdle, Report}

-- the steps that may want memory
abbrev pub takes_memory : Step → Bool
takes_memory (Create s) = true
takes_memory (Attach s) = true
takes_memory (Register s h t) = true
takes_memory (Begin o t a) = true
takes_memory (Direct o) = true
takes_memory (Store o) = true
takes_memory (FetchTopic s) = true
takes_memory (FetchPlain s) = true
takes_memory (TakeDirect s) = true
takes_memory (Claim s) = true
takes_memory ListOrphans = true
takes_memory ListIdle = true
takes_memory _ = false

-- the replies in whose place want of memory may come
abbrev pub costs_memory : Reply → Bool
costs_memory Made = true
costs_memory (Attached displaced) = true
costs_memory (Endpoint t) = true
costs_memory (Begun i place) = true
costs_memory (Here u) = true
costs_memory IsStored = true
costs_memory (Page messages) = true
costs_memory (Claimed previous) = true
costs_memory (Users list) = true
costs_memory _ = false

-- the begin of a message with ttl 0
abbrev pub begins_unkept : Step → Bool
begins_unkept (Begin o t a) = a.terms.ttl == 0
begins_unkept _ = false

abbrev pub is_report : Step → Bool
is_report Report = true
is_report _ = false
