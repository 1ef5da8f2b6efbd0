-- What a request comes to, by what it asks for.
use Rattle.std.proofs.Common.{◌≡◌, ℕ, ◌+◌, true, false, List, [], ◌∷◌, refl, ap, arith}
use Rattle.std.specs.Prelude.{Option, Result}
use Rattle.push_model.specs.declared.entry.NoMemory.{NoMemory}
use Rattle.push_model.specs.declared.ids.Token.{Token}
use Rattle.push_model.specs.AskValue.{AskValue}
use Rattle.push_model.specs.DeskViews.{DeskView, Written}
use Rattle.push_model.proofs.DeskLemmas.{calls_none, mails_none}
use Rattle.http_wire.specs.declared.request.Request.{Request}
use Rattle.endpoint_router.specs.declared.answer.Answer.{Answer}
use Rattle.endpoint_router.specs.Went.{ArePostsOn, PostsOn}
use Rattle.http_front.specs.declared.fault.Fault.{Fault}
use Rattle.http_front.specs.declared.judging.Judged.TheVariants.{Asked, Faulty as IsFaulty}
use Rattle.http_front.specs.declared.outcome.Outcome.TheVariants.{Faulty, Unread, Routed}
use Rattle.http_front.specs.Comings.{Comes, Routes}
use Rattle.http_front.specs.Exchanges.{ArePosts, OnlyPosts}
use Rattle.http_front.specs.Faults.{IsJudged}

posts_of : (k : ℕ) (ws : List Written) → ArePostsOn k ws → ArePosts ws
posts_of k [] h = tt
posts_of k (w ∷ ws) h = ((h.0.1, ap (λ z. z.change) h.0.2), posts_of k ws h.1)

pub only_posts : (a b : DeskView) (k : ℕ) → PostsOn a b k → OnlyPosts a b
only_posts a b k h = (h.0, posts_of k h.0 h.1, h.2)

pub no_posts : (a : DeskView) → OnlyPosts a a
no_posts a = ([], tt, mails_none a)

no_loss : (L : Type 0) → false ≡ true → L
no_loss L e = let odd : false ≡ true = e in cc

module _ (moment : Option ℕ) (n : ℕ) (r : Request) (a : DeskView) where
  pub comes_faulty : (fault : Fault) (before after : ℕ) → IsJudged (IsFaulty fault) r → Comes moment n n r (Faulty fault) a a before after
  comes_faulty fault before after h = record { entries = []; are = (h, refl); calls = calls_none a; mail = no_posts a; losses = no_loss _; number = omega arith }

  pub comes_unread : (before after : ℕ) → Comes moment n n r Unread a a before after
  comes_unread before after = record { entries = []; are = refl; calls = calls_none a; mail = no_posts a; losses = no_loss _; number = omega arith }

  pub comes_routed : (m : ℕ) (t : Token) (ask : AskValue) (answer : Result Answer NoMemory) (b : DeskView) (before after : ℕ) → m ≡ n + 1 → IsJudged (Asked t ask) r →
      Routes moment n t ask answer a b before after → Comes moment n m r (Routed answer) a b before after
  comes_routed m t ask answer b before after e h w = record {
    entries = w.went.entries;
    are = (h.0, record { token = t; ask = ask; asks = h.1; millis = w.millis; told = w.told; route = w.went.are });
    calls = w.went.calls;
    mail = only_posts a b _ w.went.mail;
    losses = w.went.losses;
    number = e;
  }
