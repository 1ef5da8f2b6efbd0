-- Only a step and a reply that cost memory make a cell that is there.
use Rattle.std.proofs.Common.{◌≡◌, ℕ, true, false, refl, ◌∙◌, ap}
use Rattle.push_model.specs.declared.ids.Uaid.{Uaid}
use Rattle.push_model.specs.declared.step.Actor.TheVariants.{Flight as OfFlight, Saver as OfSaver}
use Rattle.push_model.specs.declared.step.Step.{Step}
use Rattle.push_model.specs.declared.step.Step.TheVariants.{Create, Attach, Register, Begin, Direct, Store, GiveUp, Reread, Nudge, Heard, Lost, TakeCheck, FetchTopic, FetchPlain, TakeDirect, Ack, Tick, Claim, Unregister, Renew, Close, Release, SaveOne, Clear, Notif, Kill, Up, Expire, DropUser, ListOrphans, ListIdle, Report}
use Rattle.push_model.specs.Cells.{empty_cell, is_there}
use Rattle.push_model.specs.Kinds.{takes_memory}
use Rattle.push_model.specs.Outcomes.{Outcome}
use Rattle.push_model.specs.Steps.{action, Does, Costs}

nobody : {P : Type 0} → false ≡ true → P
nobody e = absurd (cc e)

pub makes : (moment : ℕ) (x : Step) (u : Uaid) (out : Outcome) → Does (action moment x) (empty_cell u) out → is_there out.cell ≡ true → (takes_memory x ≡ true) × Costs (action moment x) (empty_cell u)
makes moment (Create s) u out d e = (refl, refl)
makes moment (Attach s) u out d e = nobody (ap (λ o. is_there o.cell) d ∙ e)
makes moment (Register s h t) u out d e = nobody (ap (λ o. is_there o.cell) d ∙ e)
makes moment (Begin o t a) u out d e = absurd d
makes moment (Direct o) u out d e = nobody (ap (λ o. is_there o.cell) d ∙ e)
makes moment (Store o) u out d e = nobody (ap (λ o. is_there o.cell) d ∙ e)
makes moment (FetchTopic s) u out d e = nobody (ap (λ o. is_there o.cell) d ∙ e)
makes moment (FetchPlain s) u out d e = nobody (ap (λ o. is_there o.cell) d ∙ e)
makes moment (TakeDirect s) u out d e = nobody (ap (λ o. is_there o.cell) d ∙ e)
makes moment (GiveUp o) u out d e = nobody (ap (λ o. is_there o.cell) d ∙ e)
makes moment (Reread (OfFlight o)) u out d e = nobody (ap (λ o. is_there o.cell) d ∙ e)
makes moment (Reread (OfSaver s)) u out d e = nobody (ap (λ o. is_there o.cell) d ∙ e)
makes moment (Nudge (OfFlight o)) u out d e = nobody (ap (λ o. is_there o.cell) d ∙ e)
makes moment (Nudge (OfSaver s)) u out d e = nobody (ap (λ o. is_there o.cell) d ∙ e)
makes moment (Heard (OfFlight o)) u out d e = nobody (ap (λ o. is_there o.cell) d ∙ e)
makes moment (Heard (OfSaver s)) u out d e = nobody (ap (λ o. is_there o.cell) d ∙ e)
makes moment (Lost (OfFlight o)) u out d e = nobody (ap (λ o. is_there o.cell) d ∙ e)
makes moment (Lost (OfSaver s)) u out d e = nobody (ap (λ o. is_there o.cell) d ∙ e)
makes moment (TakeCheck s) u out d e = nobody (ap (λ o. is_there o.cell) d ∙ e)
makes moment (Ack s h i) u out d e = nobody (ap (λ o. is_there o.cell) d ∙ e)
makes moment (Claim s) u out d e = nobody (ap (λ o. is_there o.cell) d ∙ e)
makes moment (Unregister s h) u out d e = nobody (ap (λ o. is_there o.cell) d ∙ e)
makes moment (Renew s) u out d e = nobody (ap (λ o. is_there o.cell) d ∙ e)
makes moment (Close s) u out d e = nobody (ap (λ o. is_there o.cell) d ∙ e)
makes moment (Release s) u out d e = nobody (ap (λ o. is_there o.cell) d ∙ e)
makes moment (SaveOne s) u out d e = nobody (ap (λ o. is_there o.cell) d ∙ e)
makes moment (Clear (OfFlight o)) u out d e = nobody (ap (λ o. is_there o.cell) d ∙ e)
makes moment (Clear (OfSaver s)) u out d e = nobody (ap (λ o. is_there o.cell) d ∙ e)
makes moment (Notif n v) u out d e = nobody (ap (λ o. is_there o.cell) d ∙ e)
makes moment (Expire v) u out d e = nobody (ap (λ o. is_there o.cell) d ∙ e)
makes moment (DropUser v) u out d e = nobody (ap (λ o. is_there o.cell) d ∙ e)
makes moment (Tick t) u out d e = absurd d
makes moment (Kill n) u out d e = absurd d
makes moment (Up n) u out d e = absurd d
makes moment ListOrphans u out d e = absurd d
makes moment ListIdle u out d e = absurd d
makes moment Report u out d e = absurd d
