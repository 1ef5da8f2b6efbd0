-- What leaves a user's channels as they are.
use Rattle.std.proofs.Common.{◌≡◌, ℕ, Bool, true, false, not, List, [], filter, refl}
use Rattle.std.specs.Prelude.{find, is_some, Option, Some, None, if◌then◌else◌}
use Rattle.push_model.specs.declared.ids.ChannelId.{ChannelId}
use Rattle.push_model.specs.declared.ids.Token.{Token}
use Rattle.push_model.specs.declared.ids.MsgId.{MsgId}
use Rattle.push_model.specs.declared.reply.Reply.TheVariants.{Endpoint}
use Rattle.push_model.specs.SessionKey.{SessionKey}
use Rattle.push_model.specs.MessageValue.{MessageValue}
use Rattle.push_model.specs.Sessions.{Session}
use Rattle.push_model.specs.Cells.{Cell, User, Saver, channels_of, cleared_for, is_channel, is_routed_to, unmarked, unmarked_for, unrouted, with_stored}
use Rattle.push_model.specs.SessionSteps.{renewed, with_channel, without_channel, without_row}
use Rattle.push_model.specs.SaverSteps.{touched}
use Rattle.push_model.specs.NodeSteps.{told, with_orphans}
use Rattle.push_model.specs.ClockSteps.{without_due}
use Rattle.push_model.specs.Narrow.{Registered, Same, Added}

-- both have the same channels
abbrev pub SameIn : Option User → Option User → Type 0
SameIn o p = channels_of p ≡ channels_of o

same_by : (b : Bool) (o p : Option User) → SameIn o p → SameIn o (if b then p else o)
same_by true o p h = h
same_by false o p h = refl

same_unmarked : (o : Option User) → SameIn o (unmarked o)
same_unmarked None = refl
same_unmarked (Some u) = refl

pub same_unmarked_for : (n a : ℕ) (o : Option User) → SameIn o (unmarked_for n a o)
same_unmarked_for n a o = same_by (is_routed_to n a o) o (unmarked o) (same_unmarked o)

same_unrouted : (o : Option User) → SameIn o (unrouted o)
same_unrouted None = refl
same_unrouted (Some u) = refl

pub same_cleared : (n a : ℕ) (o : Option User) → SameIn o (cleared_for n a o)
same_cleared n a o = same_by (is_routed_to n a o) o (unrouted o) (same_unrouted o)

pub same_stored : (m : MessageValue) (o : Option User) → SameIn o (with_stored m o)
same_stored m None = refl
same_stored m (Some u) = refl

pub same_without_row : (i : MsgId) (o : Option User) → SameIn o (without_row i o)
same_without_row i None = refl
same_without_row i (Some u) = refl

pub same_renewed : (moment : ℕ) (s : SessionKey) (o : Option User) → SameIn o (renewed moment s o)
same_renewed moment s None = refl
same_renewed moment s (Some u) = refl

pub same_touched : (moment : ℕ) (o : Option User) → SameIn o (touched moment o)
same_touched moment None = refl
same_touched moment (Some u) = refl

pub same_without_due : (moment : ℕ) (o : Option User) → SameIn o (without_due moment o)
same_without_due moment None = refl
same_without_due moment (Some u) = refl

pub same_with_orphans : (n : ℕ) (vs : List Saver) (o : Option User) → SameIn o (with_orphans n vs o)
same_with_orphans n vs None = refl
same_with_orphans n vs (Some u) = refl

pub same_told : (n : ℕ) (x : Option Session) (c : Cell) → SameIn c.user (told n x c).user
same_told n None c = refl
same_told n (Some x) c = same_unmarked_for n x.at c.user

-- ---- a user who isn't there has no channel

pub none_there : (o : Option User) → is_some o ≡ false → channels_of o ≡ []
none_there None e = refl
none_there (Some u) e = cc

-- ---- Register and Unregister

pub registered : (h : ChannelId) (t : Token) (o : Option User) → find (is_channel h) (channels_of o) ≡ None →
    Registered h t (channels_of o) (channels_of (with_channel h t o)) (Endpoint t)
registered h t None e = Same refl
registered h t (Some u) e = Added e refl refl

pub unregistered : (h : ChannelId) (o : Option User) → channels_of (without_channel h o) ≡ filter (λ x. not (is_channel h x)) (channels_of o)
unregistered h None = refl
unregistered h (Some u) = refl
