-- What was done, and then more.
use Rattle.std.proofs.Common.{◌≡◌, ℕ, true, List, [], ◌∷◌, ◌++◌, refl, ap, sym, ◌∙◌, append_assoc}
use Rattle.push_model.specs.Caring.{is_cared}
use Rattle.push_model.specs.DeskViews.{DeskView, Calls, Made, world_at}
use Rattle.push_model.specs.declared.step.Step.{Step}
use Rattle.push_model.proofs.DeskLemmas.{calls_none, calls_more, mails_none, mails_more}
use Rattle.node_sweep.specs.Entries.{AreMade, Does, all_posts, posts_of}

pub does_none : (a : DeskView) → Does a a []
does_none a = record { calls = calls_none a; mail = mails_none a }

pub posts_more : (ms ns : List Made) → all_posts (ms ++ ns) ≡ all_posts ms ++ all_posts ns
posts_more [] ns = refl
posts_more (m ∷ ms) ns =
    ap (λ ws. posts_of m.shard m.step m.reply ++ ws) (posts_more ms ns) ∙ sym (append_assoc (posts_of m.shard m.step m.reply) (all_posts ms) (all_posts ns))

pub does_more : (a b c : DeskView) (ms ns : List Made) → Does a b ms → Does b c ns → Does a c (ms ++ ns)
does_more a b c ms ns f g = record {
  calls = calls_more a b c ms ns f.calls g.calls;
  mail = rw (posts_more ms ns) (mails_more a b c (all_posts ms) (all_posts ns) f.mail g.mail);
}

pub made_more : (k : ℕ) (xs ys : List Step) (ms ns : List Made) → AreMade k xs ms → AreMade k ys ns → AreMade k (xs ++ ys) (ms ++ ns)
made_more k [] ys [] ns f g = g
made_more k [] ys (m ∷ ms) ns f g = absurd f
made_more k (x ∷ xs) ys [] ns f g = absurd f
made_more k (x ∷ xs) ys (m ∷ ms) ns f g = (f.0, f.1, made_more k xs ys ms ns f.2 g)

-- where nothing is made a world stays
pub cared_still : (a b : DeskView) (k : ℕ) → Calls a b [] → is_cared (world_at a k) ≡ true → is_cared (world_at b k) ≡ true
cared_still a b k s h = rw (s.same.opened k, s.others k refl) h
