-- What is known of each world that is reached.
use Rattle.std.proofs.Common.{◌≡◌, ℕ, true, List, [], ◌∷◌, ◌++◌, refl, subst}
use Rattle.std.specs.Prelude.{Some}
use Rattle.std.specs.Map.{lookup}
use Rattle.push_model.specs.declared.entry.Entry.{Entry}
use Rattle.push_model.specs.declared.step.Step.{Step}
use Rattle.push_model.specs.declared.reply.Reply.{Reply}
use Rattle.push_model.specs.Cells.{Cell}
use Rattle.push_model.specs.Worlds.{World, start}
use Rattle.push_model.specs.Steps.{step}
use Rattle.push_model.specs.Histories.{IsLegal, world_after, entry}
use Rattle.push_model.specs.Pools.{Pool, empty_pool, after_all}
use Rattle.push_model.specs.Images.{image}
use Rattle.push_model.specs.Caring.{is_cared, none_waited}
use Rattle.push_model.specs.Reached.{IsReached}
use Rattle.push_model.proofs.Members.{In}
use Rattle.push_model.proofs.HistoryLemmas.{after_last, legal_last}
use Rattle.push_model.proofs.InStep.{InStep}
use Rattle.push_model.proofs.Entries.{at, lookup_member}
use Rattle.push_model.proofs.CareLift.{AllCared}
use Rattle.push_model.proofs.Accounted.{entry_kept, start_in_step}
use Rattle.push_model.proofs.Cared.{made_cared, world_cared, cared_from}

-- a pool in step with the world, and care for it
pub record Known (w : World) : Type 0 where
  pub pool : Pool
  pub in_step : InStep pool w
  pub cared : AllCared w.cells

known_from : (p : Pool) (w : World) (es : List (Entry Step Reply)) → InStep p w → AllCared w.cells → IsLegal step w es → Known (world_after step w es)
known_from p w [] h c l = record { pool = p; in_step = h; cared = c }
known_from p w (e ∷ es) h c l = known_from (after_all (image p w e) p) (step w e.step).0 es (entry_kept p w e h l.0).in_step (made_cared p w e.step h c) l.1

pub known : (w : World) → IsReached w → Known w
known w r = subst Known r.is (known_from empty_pool (start r.shard r.next) r.entries (start_in_step r.shard r.next) (λ e i. elim i [ ]) r.legal)

-- its stored rows are cared for
pub reached_cared : (w : World) → IsReached w → is_cared w ≡ true
reached_cared w r = world_cared w (known w r).cared

-- a cell stands under its user
pub reached_key : (w : World) (e : ℕ × Cell) → IsReached w → In e w.cells → e.0 ≡ e.1.uaid.0
reached_key w e r i = (known w r).in_step.sound.keys e i

-- and is what is found there
pub reached_there : (w : World) (e : ℕ × Cell) → IsReached w → In e w.cells → lookup (at e.1.uaid.0) w.cells ≡ Some e.1
reached_there w e r i =
    let s = (known w r).in_step.sound in
    subst (λ n. lookup (at n) w.cells ≡ Some e.1) (s.keys e i) (lookup_member e w.cells s.distinct i)

-- ---- one step more

pub reached_start : (shard next : ℕ) → IsReached (start shard next)
reached_start shard next = record { shard = shard; next = next; entries = []; legal = tt; is = refl }

pub reached_more : (w : World) (x : Step) → IsReached w → IsReached (step w x).0
reached_more w x r =
    let v = world_after step (start r.shard r.next) r.entries in
    subst (λ z. IsReached (step z x).0) r.is
    (record {
      shard = r.shard;
      next = r.next;
      entries = r.entries ++ entry 0 x (step v x).1 ∷ [];
      legal = legal_last step (start r.shard r.next) r.entries (entry 0 x (step v x).1) r.legal refl;
      is = after_last step (start r.shard r.next) r.entries (entry 0 x (step v x).1);
    })

-- ---- and any number of steps

pub reached_after : (w : World) (es : List (Entry Step Reply)) → IsReached w → IsLegal step w es → IsReached (world_after step w es)
reached_after w [] r l = r
reached_after w (e ∷ es) r l = reached_after (step w e.step).0 es (reached_more w e.step r) l.1

pub reached_reported : (w : World) (es : List (Entry Step Reply)) → IsReached w → IsLegal step w es → none_waited es ≡ true
reached_reported w es r l = let k = known w r in (cared_from k.pool w es k.in_step k.cared l).reported
