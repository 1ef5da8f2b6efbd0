-- Tokens, as the index of whose they are knows them.
use Rattle.std.proofs.Common.{◌≡◌, ℕ, Bool, true, false, cond, not, inl, inr, List, [], ◌∷◌, ◌++◌, ◌+◌, take, length, get_or, ◌<◌, refl, ap, sym, subst, ◌∙◌, Ordering, Less, Equal, Greater}
use Rattle.std.specs.Prelude.{Option, Some, None, Result, Ok, Err, IfOk, OnErr, IfSome, is_some, find, ◌&&◌, ◌||◌, if◌then◌else◌}
use Rattle.std.specs.List.{list_any}
use Rattle.std.specs.Map.{lookup}
use Rattle.std.specs.Ordering.{nat_cmp, is_eq}
use Rattle.std.specs.Cmp.Lexicographic.{slice_cmp}
use Rattle.std.specs.BTreeMap.{is_at}
use Rattle.std.proofs.lemmas.List.{take_more}
use Rattle.std.proofs.lemmas.Map.Lookups.{exact_bytes}
use Rattle.std.proofs.lemmas.Map.Text.{is_eq-slice_cmp}
use Rattle.std.proofs.lemmas.Slice.Eq.{bytes_eq-Decides}
use Rattle.push_model.specs.declared.ids.ChannelId.{ChannelId}
use Rattle.push_model.specs.declared.ids.Op.{Op}
use Rattle.push_model.specs.declared.ids.Token.{Token}
use Rattle.push_model.specs.declared.ids.Uaid.{Uaid}
use Rattle.push_model.specs.declared.parts.Channel.{Channel}
use Rattle.push_model.specs.declared.reply.Reply.{Reply}
use Rattle.push_model.specs.declared.reply.Reply.TheVariants.{Endpoint, NoSession, Dropped, Kept}
use Rattle.push_model.specs.declared.step.Step.{Step}
use Rattle.push_model.specs.declared.step.Step.TheVariants.{Register, Expire, DropUser}
use Rattle.push_model.specs.MessageValue.{MessageValue}
use Rattle.push_model.specs.Cells.{Cell, User, is_channel, is_token, channels_of}
use Rattle.push_model.specs.Outcomes.{Outcome, outcome}
use Rattle.push_model.specs.Kinds.{costs_memory, takes_memory}
use Rattle.push_model.specs.SessionSteps.{attached, lacks, register_beside}
use Rattle.push_model.specs.UserSteps.{dropped, is_idle_user}
use Rattle.push_model.specs.FlightSteps.{begin}
use Rattle.push_model.specs.Steps.{Costs, Does, OnUser, action}
use Rattle.push_model.specs.Worlds.{cell_at, has_token_in}
use Rattle.push_model.proofs.Members.{among, list_any-in}
use Rattle.push_model.proofs.SameChannels.{none_there}
use Rattle.push_model.proofs.Narrow.{IsNewBy, begin_narrow, channel_from, narrowed}
use Rattle.shard_core.specs.Made.{StepsTo}
use Rattle.shard_core.specs.Owners.{IsComplete, brought, drops, holds, token_owner}
use Rattle.shard_core.proofs.Values.{any_found}
use Rattle.shard_core.proofs.Owners.{NoneHas, complete_at, complete_put, complete_changed, complete_without}

-- ---- the index

equal : (r : Ordering) → is_eq r ≡ true → r ≡ Equal
equal Less e = absurd (cc e)
equal Equal e = refl
equal Greater e = absurd (cc e)

token_found : (k q : Token) → is_at (slice_cmp nat_cmp k.0) q.0 ≡ true → q ≡ k
token_found k q e =
    let same : k.0 ≡ q.0 = exact_bytes k.0 q.0 (equal _ e) in
    let token : List ℕ → Token = λ bytes. record { 0 = bytes } in
    ap token (sym same)

-- where no cell has the token, any owner may be written for it
pub token_changes : (old new : List (List ℕ × ℕ)) (k : Token) (w : Option ℕ) (es : List (ℕ × Cell)) →
    ((q : List ℕ) → lookup (is_at (slice_cmp nat_cmp q)) new ≡ cond (is_at (slice_cmp nat_cmp k.0) q) w (lookup (is_at (slice_cmp nat_cmp q)) old)) →
    NoneHas holds k es → IsComplete holds (token_owner old) es → IsComplete holds (token_owner new) es
token_changes old new k w es changes none h =
    complete_changed holds (token_owner old) (token_owner new) k (λ q. is_at (slice_cmp nat_cmp k.0) q.0) w es (token_found k) (λ q. changes q.0) none h

-- ---- a step on one user

token_is : (k : Token) (y : Channel) → is_token k y ≡ true → k ≡ y.token
token_is k y e =
    let same : y.token.0 ≡ k.0 = (bytes_eq-Decides y.token.0 k.0).0 e in
    let token : List ℕ → Token = λ bytes. record { 0 = bytes } in
    ap token (sym same)

-- a new channel is Register's, and has the token that it brings
attached_by : (b : Bool) (p : Outcome) (c : Cell) (out : Outcome) (t : Token) → (if b then p else outcome c NoSession) ≡ out → out.reply ≡ Endpoint t → b ≡ true
attached_by true p c out t d e = refl
attached_by false p c out t d e = let reply = ap (λ (q : Outcome). q.reply) d ∙ e in cc

any_cons : (p : Channel → Bool) (b : Bool) (x : Channel) (xs : List Channel) → cond b (Some x) (find p xs) ≡ None → (find p xs ≡ None → list_any p xs ≡ false) →
    (b || list_any p xs) ≡ false
any_cons p true x xs e f = cc
any_cons p false x xs e f = f e

none_any : (p : Channel → Bool) (xs : List Channel) → find p xs ≡ None → list_any p xs ≡ false
none_any p [] e = refl
none_any p (x ∷ xs) e = any_cons p (p x) x xs e (none_any p xs)

lacking : (a b : Bool) (t : Token) → a ≡ true → b ≡ false → (if a && not b then Some t else None) ≡ Some t
lacking true true t e f = cc
lacking true false t e f = refl
lacking false b t e f = cc

new_brought : (moment : ℕ) (x : Step) (c : Cell) (out : Outcome) (y : Channel) → Does (action moment x) c out → IsNewBy x (channels_of c.user) out.reply y →
    brought x c ≡ Some y.token
new_brought moment (Register s h t) c out y d n =
    let there = attached_by (is_some (attached s c)) (register_beside (find (is_channel h) (channels_of c.user)) h t c) c out t d n.given in
    lacking (is_some (attached s c)) (list_any (is_channel h) (channels_of c.user)) t there (none_any (is_channel h) (channels_of c.user) n.absent)
    ∙ ap (λ (z : Channel). Some z.token) (sym n.is)
new_brought moment x c out y d n = absurd n

-- the index names the user for the token that the step brings
abbrev pub KnowsBrought : (Token → Option ℕ) → Uaid → Option Token → Type 0
KnowsBrought owner u o = IfSome o (λ t. owner t ≡ Some u.0)

known_new : (owner : Token → Option ℕ) (u : Uaid) (o : Option Token) (y : Channel) (k : Token) → KnowsBrought owner u o → o ≡ Some y.token → is_token k y ≡ true →
    owner k ≡ Some u.0
known_new owner u None y k h e i = absurd (cc e)
known_new owner u (Some t) y k h e i =
    let same : t ≡ y.token = cc in
    ap owner (token_is k y i ∙ sym same) ∙ h

pub tokens_step : (owner : Token → Option ℕ) (moment : ℕ) (x : Step) (u : Uaid) (es fs : List (ℕ × Cell)) (r : Reply) → StepsTo (action moment x) u es fs r →
    KnowsBrought owner u (brought x (cell_at es u)) → IsComplete holds owner es → IsComplete holds owner fs
tokens_step owner moment x u es fs r h known old =
    let c = cell_at es u in
    complete_put holds owner u h.cell es fs h.puts old
    (λ k e. let y = among (is_token k) (channels_of h.cell.user) e in
    elim (channel_from x c (outcome h.cell r) y.one (narrowed moment x c _ h.does) y.member) [
      | inl i ↦ complete_at holds owner u es (λ q. refl) old k (list_any-in (is_token k) y.one (channels_of c.user) i y.passes)
      | inr n ↦ known_new owner u (brought x c) y.one k known (new_brought moment x c (outcome h.cell r) y.one h.does n) y.passes
    ])

-- made or refused for want of memory
pub tokens_after : {E : Type 0} (result : Result Reply E) (owner : Token → Option ℕ) (moment : ℕ) (x : Step) (u : Uaid) (es fs : List (ℕ × Cell)) (P Q : Type 0) →
    IfOk result (λ r. StepsTo (action moment x) u es fs r) → OnErr result ((fs ≡ es) × P × Q) → KnowsBrought owner u (brought x (cell_at es u)) →
    IsComplete holds owner es → IsComplete holds owner fs
tokens_after (Ok r) owner moment x u es fs P Q ok err known old = tokens_step owner moment x u es fs r ok known old
tokens_after (Err e) owner moment x u es fs P Q ok err known old = subst (IsComplete holds owner) (sym err.0) old

-- a message that is begun leaves the channels
pub tokens_begun : (owner : Token → Option ℕ) (u : Uaid) (o : Op) (t : Token) (m : MessageValue) (es fs : List (ℕ × Cell)) (r : Reply) →
    StepsTo (OnUser u (begin o t m)) u es fs r → IsComplete holds owner es → IsComplete holds owner fs
tokens_begun owner u o t m es fs r h old =
    let c = cell_at es u in
    let same : h.cell.user ≡ c.user = ap (λ (q : Outcome). q.cell.user) (sym h.does) ∙ (begin_narrow o t m c).user in
    complete_put holds owner u h.cell es fs h.puts old
    (λ k e. complete_at holds owner u es (λ q. refl) old k (ap (λ (p : Option User). list_any (is_token k) (channels_of p)) (sym same) ∙ e))

-- ---- what the step that brings a token costs

and_left : (a b : Bool) → (a && b) ≡ true → a ≡ true
and_left true b e = refl
and_left false b e = e

beside_costs : (o : Option Channel) (h : ChannelId) (t : Token) (c : Cell) → costs_memory (register_beside o h t c).reply ≡ true
beside_costs None h t c = refl
beside_costs (Some x) h t c = refl

brought_if : (b : Bool) (t k : Token) → (if b then Some t else None) ≡ Some k → b ≡ true
brought_if true t k e = refl
brought_if false t k e = absurd (cc e)

picked : (b : Bool) (p q : Outcome) → b ≡ true → costs_memory p.reply ≡ true → costs_memory (if b then p else q).reply ≡ true
picked true p q e h = h
picked false p q e h = absurd (cc e)

pub brought_costs : (moment : ℕ) (x : Step) (c : Cell) (k : Token) → brought x c ≡ Some k → (takes_memory x ≡ true) × Costs (action moment x) c
brought_costs moment (Register s h t) c k e =
    let there = and_left (is_some (attached s c)) _ (brought_if (lacks s h c) t k e) in
    (refl, picked (is_some (attached s c)) _ (outcome c NoSession) there (beside_costs (find (is_channel h) (channels_of c.user)) h t c))
brought_costs moment x c k e = absurd (cc e)

-- ---- the steps that drop the user

idle_dropped : (b : Bool) (c : Cell) → b ≡ true → channels_of (if b then outcome (dropped c) Dropped else outcome c Kept).cell.user ≡ []
idle_dropped true c e = refl
idle_dropped false c e = absurd (cc e)

there_dropped : (b : Bool) (c : Cell) → is_some c.user ≡ b → channels_of (if b then outcome (dropped c) Dropped else outcome c Kept).cell.user ≡ []
there_dropped true c e = refl
there_dropped false c e = none_there c.user e

-- leave no channel, and want no memory
pub drops_all : (moment : ℕ) (x : Step) (c : Cell) (out : Outcome) → drops moment x c ≡ true → Does (action moment x) c out → channels_of out.cell.user ≡ []
drops_all moment (Expire u) c out e d =
    ap (λ (q : Outcome). channels_of q.cell.user) (sym d) ∙ idle_dropped (is_idle_user moment c.user c.sessions) c e
drops_all moment (DropUser u) c out e d = ap (λ (q : Outcome). channels_of q.cell.user) (sym d) ∙ there_dropped (is_some c.user) c refl
drops_all moment x c out e d = absurd (cc e)

pub drops_free : (moment : ℕ) (x : Step) (c : Cell) → drops moment x c ≡ true → takes_memory x ≡ false
drops_free moment (Expire u) c e = refl
drops_free moment (DropUser u) c e = refl
drops_free moment x c e = absurd (cc e)

-- where the index has forgotten those of the user
pub tokens_dropped : (owner after : Token → Option ℕ) (moment : ℕ) (x : Step) (u : Uaid) (es fs : List (ℕ × Cell)) (r : Reply) →
    StepsTo (action moment x) u es fs r → drops moment x (cell_at es u) ≡ true → ((k : Token) → after k ≡ cond (holds k (cell_at es u)) None (owner k)) →
    IsComplete holds owner es → IsComplete holds after fs
tokens_dropped owner after moment x u es fs r h e left old =
    let none : channels_of h.cell.user ≡ [] = drops_all moment x (cell_at es u) _ e h.does in
    complete_without holds owner after u h.cell es fs h.puts (λ k. refl) (λ k. ap (list_any (is_token k)) none) left old

-- made, since none of them is refused for want of memory
pub dropped_or_not : {E : Type 0} (result : Result Reply E) (owner after : Token → Option ℕ) (moment : ℕ) (x : Step) (u : Uaid) (es fs : List (ℕ × Cell)) (Q : Type 0) →
    IfOk result (λ r. StepsTo (action moment x) u es fs r) → OnErr result ((fs ≡ es) × (takes_memory x ≡ true) × Q) → drops moment x (cell_at es u) ≡ true →
    ((k : Token) → after k ≡ cond (holds k (cell_at es u)) None (owner k)) → IsComplete holds owner es → IsComplete holds after fs
dropped_or_not (Ok r) owner after moment x u es fs Q ok err e left old = tokens_dropped owner after moment x u es fs r ok e left old
dropped_or_not (Err z) owner after moment x u es fs Q ok err e left old = let free = drops_free moment x (cell_at es u) e in let want = err.1 in absurd (cc free)

-- ---- the tokens of some channels are taken out

forgot_by : (a b : Bool) (o : Option ℕ) → cond b None (cond a None o) ≡ cond (a || b) None o
forgot_by true true o = refl
forgot_by true false o = refl
forgot_by false true o = refl
forgot_by false false o = refl

or_false : (b : Bool) → (b || false) ≡ b
or_false true = refl
or_false false = refl

or_assoc : (a b c : Bool) → (a || (b || c)) ≡ ((a || b) || c)
or_assoc true b c = refl
or_assoc false b c = refl

any_last : (p : Channel → Bool) (xs : List Channel) (x : Channel) → list_any p (xs ++ x ∷ []) ≡ (list_any p xs || p x)
any_last p [] x = or_false (p x)
any_last p (y ∷ xs) x = ap (λ b. p y || b) (any_last p xs x) ∙ or_assoc (p y) (list_any p xs) (p x)

-- one more
forgot_more : (first old new : List (List ℕ × ℕ)) (xs : List Channel) (x : Channel) (t : Token) →
    ((q : List ℕ) → lookup (is_at (slice_cmp nat_cmp q)) new ≡ cond (is_at (slice_cmp nat_cmp x.token.0) q) None (lookup (is_at (slice_cmp nat_cmp q)) old)) →
    token_owner old t ≡ cond (list_any (is_token t) xs) None (token_owner first t) →
    token_owner new t ≡ cond (list_any (is_token t) (xs ++ x ∷ [])) None (token_owner first t)
forgot_more first old new xs x t changes h =
    changes t.0
    ∙ ap (λ b. cond b None (token_owner old t)) (is_eq-slice_cmp x.token.0 t.0)
    ∙ ap (cond (is_token t x) None) h
    ∙ forgot_by (list_any (is_token t) xs) (is_token t x) (token_owner first t)
    ∙ ap (λ b. cond b None (token_owner first t)) (sym (any_last (is_token t) xs x))

pub forgot_at : (first old new : List (List ℕ × ℕ)) (xs : List Channel) (i : ℕ) (d : Channel) (t : Token) → i < length xs →
    ((q : List ℕ) → lookup (is_at (slice_cmp nat_cmp q)) new ≡ cond (is_at (slice_cmp nat_cmp (get_or xs i d).token.0) q) None (lookup (is_at (slice_cmp nat_cmp q)) old)) →
    token_owner old t ≡ cond (list_any (is_token t) (take i xs)) None (token_owner first t) →
    token_owner new t ≡ cond (list_any (is_token t) (take (i + 1) xs)) None (token_owner first t)
forgot_at first old new xs i d t lt changes h =
    forgot_more first old new (take i xs) (get_or xs i d) t changes h
    ∙ ap (λ (ys : List Channel). cond (list_any (is_token t) ys) None (token_owner first t)) (sym (take_more xs i d lt))

-- ---- where Register isn't refused

none_of : {X : Type 0} (o : Option X) → is_some o ≡ false → o ≡ None
none_of None e = refl
none_of (Some x) e = absurd (cc e)

pub brings_free : (b : Bool) (t : Token) (es : List (ℕ × Cell)) → (b && list_any (has_token_in t) es) ≡ false →
    IfSome (if b then Some t else None) (λ k. find (has_token_in k) es ≡ None)
brings_free true t es e = none_of (find (has_token_in t) es) (sym (any_found (has_token_in t) es) ∙ e)
brings_free false t es e = tt
