-- A link that is lost at the calls that it was told.
use Rattle.std.specs.Prelude.{◌≡◌, ℕ, List, []}
use Rattle.push_model.specs.declared.step.Step.{Step}
use Rattle.push_model.specs.DeskViews.{DeskView, Calls, Mails}
use Rattle.push_outside.specs.Counts.{next_count}
use Rattle.push_outside.specs.Calls.{by_call}
use Rattle.node_routes.specs.declared.link.Linked.{Linked}
use Rattle.node_routes.specs.declared.link.Linked.TheVariants.{Lost as LinkedLost}
use Rattle.node_routes.specs.declared.fail.Luck.{Luck}
use Rattle.node_routes.specs.declared.fail.Luck.TheVariants.{LostBefore, LostAfter, Works}
use Rattle.node_routes.specs.Posts.{LinksHere}

-- the number of calls so far, the numbers of those that are lost before their step and after it, and the number of faults so far
pub record FailLinkValue : Type 0 where
  pub calls : ℕ
  pub before : List ℕ
  pub after : List ℕ
  pub faults : ℕ

-- what the next call does; one in both lists is lost before
abbrev pub luck_of : FailLinkValue → Luck
luck_of s = by_call s.before s.after (next_count s.calls) LostBefore LostAfter Works

abbrev pub faults_after : Luck → ℕ → ℕ
faults_after LostBefore faults = next_count faults
faults_after LostAfter faults = next_count faults
faults_after Works faults = faults

-- the link after a call
abbrev pub link_after : FailLinkValue → FailLinkValue
link_after s =
    record {
      calls = next_count s.calls;
      before = s.before;
      after = s.after;
      faults = faults_after (luck_of s) s.faults;
    }

-- what a call did that was asked for the step x on the shard k, for the node n
abbrev pub LinksBy : Luck → DeskView → DeskView → ℕ → ℕ → Step → Linked → Type 0
LinksBy LostBefore a b k n x answer = (answer ≡ LinkedLost) × Calls a b [] × Mails a b []
LinksBy LostAfter a b k n x answer = (answer ≡ LinkedLost) × ((told : Linked) × LinksHere a b k n x told)
LinksBy Works a b k n x answer = LinksHere a b k n x answer
