-- A link that makes its steps on the same desks is a link.
use Rattle.std.proofs.Common.{◌≡◌, ◌⊎◌, ℕ, ◌≤◌, true, inl, inr, [], ◌∷◌, refl, sym, subst, ◌∙◌, arith}
use Rattle.push_model.specs.declared.step.Step.{Step}
use Rattle.push_model.specs.declared.reply.Reply.{Reply}
use Rattle.push_model.specs.declared.reply.Reply.TheVariants.{Here}
use Rattle.push_model.specs.MailWords.{bit_of}
use Rattle.push_model.specs.DeskViews.{DeskView, Calls, Mails, made}
use Rattle.push_model.proofs.DeskLemmas.{calls_more, mails_more}
use Rattle.push_outside.specs.Counts.{next_count}
use Rattle.node_routes.specs.declared.link.Linked.{Linked}
use Rattle.node_routes.specs.declared.link.Linked.TheVariants.{Here as LinkedHere, NotHere as LinkedNotHere, Lost as LinkedLost, NoMemory as LinkedNoMemory}
use Rattle.node_routes.specs.declared.fail.Luck.{Luck}
use Rattle.node_routes.specs.declared.fail.Luck.TheVariants.{LostBefore, LostAfter, Works}
use Rattle.node_routes.specs.Links.{LinkFails, Links, Makes}
use Rattle.node_routes.specs.Failing.{LinksBy, faults_after}
use Rattle.node_routes.specs.Posts.{ArePosts, LinksHere, MakesThenPosts, OnlyPosts, posts_of}

-- a step that was made is still the last, after calls that made none
pub makes_still : (a m b : DeskView) (k : ℕ) (x : Step) (r : Reply) → Makes a m k x r → Calls m b [] → Makes a b k x r
makes_still a m b k x r f s = record {
  calls = calls_more a m b (made k x r ∷ []) [] f.calls s;
  last = record {
    between = f.last.between;
    seen = s.others k refl ∙ f.last.seen;
    foreign = f.last.foreign;
    legal = rw (s.same.opened k, s.others k refl) f.last.legal;
    each_proper = rw (s.others k refl) f.last.each_proper;
  };
  fits = f.fits;
  accounted = λ number next is. rw (s.others k refl) (f.accounted number next (sym (s.same.opened k) ∙ is));
  cared = rw (s.same.opened k, s.others k refl) f.cared;
}

makes_of : (a b : DeskView) (k n : ℕ) (x : Step) (r : Reply) → MakesThenPosts a b k n x r → Makes a b k x r
makes_of a b k n x r h = makes_still a h.between b k x r h.makes h.still

pub links_of : (a b : DeskView) (k n : ℕ) (x : Step) (answer : Linked) → LinksHere a b k n x answer → Links a b k x answer
links_of a b k n x LinkedHere h = (h.0, h.1, makes_of a b k n x h.0 h.2)
links_of a b k n x LinkedNotHere h = (h.0, h.1, makes_of a b k n x h.0 h.2)
links_of a b k n x LinkedLost h = absurd h
links_of a b k n x LinkedNoMemory h = (h.0, h.2)

-- ---- mail

posts_are : (k n : ℕ) (r : Reply) → ArePosts k n (posts_of k n r)
posts_are k n (Here u) = ((bit_of u, refl), tt)
posts_are k n _ = tt

posts_after : (a b : DeskView) (k n : ℕ) (x : Step) (r : Reply) → MakesThenPosts a b k n x r → OnlyPosts a b k n
posts_after a b k n x r h = (posts_of k n r, posts_are k n r, mails_more a h.between b [] (posts_of k n r) h.silent h.posts)

pub only_posts : (a b : DeskView) (k n : ℕ) (x : Step) (answer : Linked) → LinksHere a b k n x answer → OnlyPosts a b k n
only_posts a b k n x LinkedHere h = posts_after a b k n x h.0 h.2
only_posts a b k n x LinkedNotHere h = posts_after a b k n x h.0 h.2
only_posts a b k n x LinkedLost h = absurd h
only_posts a b k n x LinkedNoMemory h = ([], tt, h.1)

-- ---- a link that is lost at times

lost_after : (a b : DeskView) (k n : ℕ) (x : Step) (told : Linked) → LinksHere a b k n x told → Calls a b [] ⊎ ((r : Reply) × Makes a b k x r)
lost_after a b k n x LinkedHere h = inr (h.0, makes_of a b k n x h.0 h.2)
lost_after a b k n x LinkedNotHere h = inr (h.0, makes_of a b k n x h.0 h.2)
lost_after a b k n x LinkedLost h = absurd h
lost_after a b k n x LinkedNoMemory h = inl h.0

pub lucky_links : (a b : DeskView) (k n : ℕ) (x : Step) (luck : Luck) (answer : Linked) → LinksBy luck a b k n x answer → Links a b k x answer
lucky_links a b k n x LostBefore answer h = subst (λ z. Links a b k x z) (sym h.0) (inl h.1)
lucky_links a b k n x LostAfter answer h = subst (λ z. Links a b k x z) (sym h.0) (lost_after a b k n x h.1.0 h.1.1)
lucky_links a b k n x Works answer h = links_of a b k n x answer h

pub lucky_posts : (a b : DeskView) (k n : ℕ) (x : Step) (luck : Luck) (answer : Linked) → LinksBy luck a b k n x answer → OnlyPosts a b k n
lucky_posts a b k n x LostBefore answer h = ([], tt, h.2)
lucky_posts a b k n x LostAfter answer h = only_posts a b k n x h.1.0 h.1.1
lucky_posts a b k n x Works answer h = only_posts a b k n x answer h

works_fails : (a b : DeskView) (k n : ℕ) (x : Step) (answer : Linked) (f g : ℕ) → LinksHere a b k n x answer → g ≡ f → LinkFails answer f g
works_fails a b k n x LinkedHere f g h e = e
works_fails a b k n x LinkedNotHere f g h e = e
works_fails a b k n x LinkedLost f g h e = absurd h
works_fails a b k n x LinkedNoMemory f g h e = e

same_le : (m g : ℕ) → g ≡ m → m ≤ g
same_le m g e = omega arith

pub lucky_fails : (a b : DeskView) (k n : ℕ) (x : Step) (luck : Luck) (answer : Linked) (f g : ℕ) → LinksBy luck a b k n x answer → f ≤ g → g ≡ faults_after luck f → LinkFails answer f g
lucky_fails a b k n x LostBefore answer f g h le e = subst (λ z. LinkFails z f g) (sym h.0) (le, same_le (next_count f) g e)
lucky_fails a b k n x LostAfter answer f g h le e = subst (λ z. LinkFails z f g) (sym h.0) (le, same_le (next_count f) g e)
lucky_fails a b k n x Works answer f g h le e = works_fails a b k n x answer f g h e
