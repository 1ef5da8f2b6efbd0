-- A world that is reached, one step on.
use Rattle.std.proofs.Common.{◌≡◌, true, ap, sym, subst}
use Rattle.std.specs.Prelude.{Result, Ok, Err, IfOk, OnErr}
use Rattle.push_model.specs.declared.reply.Reply.{Reply}
use Rattle.push_model.specs.declared.step.Step.{Step}
use Rattle.push_model.specs.Kinds.{takes_memory, costs_memory}
use Rattle.push_model.specs.Worlds.{World}
use Rattle.push_model.specs.Steps.{step}
use Rattle.push_model.specs.Reached.{IsReached}
use Rattle.push_model.proofs.Reached.{reached_more}

-- made or refused for want of memory, it leaves a world that is reached
pub reached_after : {E : Type 0} (r : Result Reply E) (w n : World) (x : Step) → IsReached w → IfOk r (λ reply. step w x ≡ (n, reply)) → OnErr r ((n ≡ w) × (takes_memory x ≡ true) × (costs_memory (step w x).1 ≡ true)) → IsReached n
reached_after (Ok reply) w n x i ok err = subst IsReached (ap (λ m. m.0) ok) (reached_more w x i)
reached_after (Err e) w n x i ok err = subst IsReached (sym err.0) i
