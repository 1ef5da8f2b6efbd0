-- Parts of a route, one after the other.
use Rattle.std.proofs.Common.{◌≡◌, ℕ, Bool, true, false, ◌||◌, List, [], ◌∷◌, ◌++◌, refl}
use Rattle.std.specs.List.{list_any}
use Rattle.push_model.specs.declared.step.Step.{Step}
use Rattle.push_model.specs.declared.reply.Reply.{Reply}
use Rattle.push_model.specs.DeskViews.{Calls, DeskView, Made, Mails, Written, made}
use Rattle.push_model.proofs.DeskLemmas.{calls_more, mails_more}
use Rattle.node_routes.specs.Links.{Makes}
use Rattle.node_routes.specs.Posts.{ArePosts, OnlyPosts}
use Rattle.endpoint_router.specs.Routes.{Next}
use Rattle.endpoint_router.specs.Went.{ArePostsOn, PostsOn, Went, is_lost, is_loss}

-- ---- mail

posts_more : (k : ℕ) (vs ws : List Written) → ArePostsOn k vs → ArePostsOn k ws → ArePostsOn k (vs ++ ws)
posts_more k [] ws f g = g
posts_more k (v ∷ vs) ws f g = (f.0, posts_more k vs ws f.1 g)

mail_more : (a b c : DeskView) (k : ℕ) → PostsOn a b k → PostsOn b c k → PostsOn a c k
mail_more a b c k f g = (f.0 ++ g.0, posts_more k f.0 g.0 f.1 g.1, mails_more a b c f.0 g.0 f.2 g.2)

pub silent : (a b : DeskView) (k : ℕ) → Mails a b [] → PostsOn a b k
silent a b k h = ([], tt, h)

posts_of_node : (k n : ℕ) (ws : List Written) → ArePosts k n ws → ArePostsOn k ws
posts_of_node k n [] h = tt
posts_of_node k n (w ∷ ws) h = ((n, h.0.0, h.0.1), posts_of_node k n ws h.1)

pub linked_mail : (a b : DeskView) (k n : ℕ) → OnlyPosts a b k n → PostsOn a b k
linked_mail a b k n h = (h.0, posts_of_node k n h.0 h.1, h.2)

-- ---- entries

or_false : (p : Bool) → (p || false) ≡ true → p ≡ true
or_false true e = refl
or_false false e = e

-- one entry, and no more
pub went_once : (a b : DeskView) (k : ℕ) (asked : Step) (r : Reply) (L : Type 0) (follows : Reply → List Made → Type 0) → Makes a b k asked r → PostsOn a b k →
    (is_loss asked ≡ true → L) → follows r [] → Went a b k L (Next k asked follows)
went_once a b k asked r L follows m mail loss f = record {
  entries = made k asked r ∷ [];
  calls = m.calls;
  are = (refl, refl, f);
  mail = mail;
  losses = λ e. loss (or_false (is_loss asked) e);
}

-- the first entry's loss, or one of the others
either_loss : (L M : Type 0) (p q : Bool) → (p ≡ true → L) → (q ≡ true → M) → (M → L) → (p || q) ≡ true → L
either_loss L M true q f g h e = f refl
either_loss L M false q f g h e = h (g e)

-- one entry, and then a part of the route
pub went_next : (a m b : DeskView) (k : ℕ) (asked : Step) (r : Reply) (L M : Type 0) (P Q : List Made → Type 0) → Makes a m k asked r → PostsOn a m k →
    (is_loss asked ≡ true → L) → (M → L) → Went m b k M P → ((ms : List Made) → P ms → Q (made k asked r ∷ ms)) → Went a b k L Q
went_next a m b k asked r L M P Q f mail loss wider w q = record {
  entries = made k asked r ∷ w.entries;
  calls = calls_more a m b (made k asked r ∷ []) w.entries f.calls w.calls;
  are = q w.entries w.are;
  mail = mail_more a m b k mail w.mail;
  losses = either_loss L M (is_loss asked) (list_any is_lost w.entries) loss w.losses wider;
}

-- no entry, and then a part of the route
pub went_still : (a m b : DeskView) (k : ℕ) (L M : Type 0) (P Q : List Made → Type 0) → Calls a m [] → PostsOn a m k → (M → L) → Went m b k M P →
    ((ms : List Made) → P ms → Q ms) → Went a b k L Q
went_still a m b k L M P Q c mail wider w q = record {
  entries = w.entries;
  calls = calls_more a m b [] w.entries c w.calls;
  are = q w.entries w.are;
  mail = mail_more a m b k mail w.mail;
  losses = λ e. wider (w.losses e);
}
