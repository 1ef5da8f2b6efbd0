-- A hello, part by part.
use Rattle.std.proofs.Common.{◌≡◌, ℕ, ◌+◌, ◌≤◌, ◌<◌, ◌==◌, Bool, true, false, List, [], ◌∷◌, ◌++◌, length, map, refl, ap, sym, ◌∙◌, append_assoc, subst, arith, Result, Ok, Err, Option, Some, None}
use Rattle.std.specs.List.{concat}
use Rattle.std.proofs.lemmas.List.{append-nil, map-append, length_push}
use Rattle.push_model.specs.SessionKey.{SessionKey}
use Rattle.push_model.specs.DeskViews.{DeskView, Made}
use Rattle.push_model.specs.declared.ids.Uaid.{Uaid}
use Rattle.push_model.specs.declared.step.Step.TheVariants.{Claim, Create}
use Rattle.push_model.specs.declared.reply.Reply.{Reply}
use Rattle.push_model.specs.declared.reply.Reply.TheVariants.{Made as IsMade, Taken, NoUser, Stale as IsStale, Claimed}
use Rattle.push_outside.specs.Draws.{GivesMore}
use Rattle.session_drive.specs.Shards.{shard_of}
use Rattle.session_drive.specs.Runs.{Next, Over, Steps}
use Rattle.session_drive.specs.Hellos.{AreLong, Draws, HelloMade, attaching, creating, claiming, hello_next, session_of, uaid_of}
use Rattle.session_drive.specs.Begins.{Begins, BeginsBy, ClaimSays, Claims, CreateSays, Creates, Leads, Ticks, Tries, created_of}
use Rattle.session_drive.specs.declared.ends.SessionEnd.{SessionEnd}
use Rattle.session_drive.specs.declared.ends.SessionEnd.TheVariants.{Stale, UaidSpent, NoMemory}
use Rattle.session_drive.proofs.DrawLemmas.{gives_none, gives_then}
use Rattle.session_drive.proofs.StepLemmas.{leads_none, leads_then, leads_end, steps_over, ticks_lead, ticks_end}

-- ---- bytes of a draw

long_more : (drawn : List (List ℕ)) (bytes : List ℕ) → AreLong drawn → length bytes ≡ 16 → AreLong (drawn ++ bytes ∷ [])
long_more [] bytes h e = (e, tt)
long_more (b ∷ bs) bytes h e = (h.0, long_more bs bytes h.1 e)

concat_more : (drawn : List (List ℕ)) (bytes : List ℕ) → concat (drawn ++ bytes ∷ []) ≡ concat drawn ++ bytes
concat_more [] bytes = append-nil bytes
concat_more (b ∷ bs) bytes = ap (λ l. b ++ l) (concat_more bs bytes) ∙ sym (append_assoc b (concat bs) bytes)

draws_none : (before : Option (List ℕ)) → Draws before before []
draws_none before = record { long = tt; given = gives_none before }

draws_more : (g0 g1 g2 : Option (List ℕ)) (drawn : List (List ℕ)) (bytes : List ℕ) → length bytes ≡ 16 → Draws g0 g1 drawn → GivesMore g1 g2 bytes → Draws g0 g2 (drawn ++ bytes ∷ [])
draws_more g0 g1 g2 drawn bytes e d g = record {
  long = long_more drawn bytes d.long e;
  given = subst (λ (l : List ℕ). GivesMore g0 g2 l) (sym (concat_more drawn bytes)) (gives_then g0 g1 g2 (concat drawn) bytes d.given g);
}

users_more : (drawn : List (List ℕ)) (bytes : List ℕ) (more : List Uaid) → map uaid_of (drawn ++ bytes ∷ []) ++ more ≡ map uaid_of drawn ++ (uaid_of bytes ∷ more)
users_more drawn bytes more = ap (λ l. l ++ more) (map-append uaid_of drawn (bytes ∷ [])) ∙ append_assoc (map uaid_of drawn) (uaid_of bytes ∷ []) more

users_last : (drawn : List (List ℕ)) (bytes : List ℕ) → map uaid_of drawn ++ (uaid_of bytes ∷ []) ≡ map uaid_of (drawn ++ bytes ∷ [])
users_last drawn bytes = sym (map-append uaid_of drawn (bytes ∷ []))

-- ---- users that are drawn

-- so many were drawn and taken
pub record TakenSoFar (node at n : ℕ) (a b : DeskView) (before after : Option (List ℕ)) : Type 0 where
  pub drawn : List (List ℕ)
  pub count : length drawn ≡ n
  pub draws : Draws before after drawn
  pub leads : (more : List Uaid) → Leads (creating a.size node at 0 (map uaid_of drawn ++ more)) (creating a.size node at n more) a b

module _ (node at : ℕ) where
  pub taken_none : (a : DeskView) (g : Option (List ℕ)) → TakenSoFar node at 0 a a g g
  taken_none a g = record { drawn = []; count = refl; draws = draws_none g; leads = λ more. leads_none (creating a.size node at 0 more) a }

  module _ (n : ℕ) (a b c : DeskView) (g0 g1 g2 : Option (List ℕ)) (so : TakenSoFar node at n a b g0 g1) (bytes : List ℕ) (long : length bytes ≡ 16) (given : GivesMore g1 g2 bytes) where
    -- the entries of one more try are on the same shard, however its size is named
    moved : (x : ℕ → Type 0) → x (shard_of (uaid_of bytes) b.size) → b.size ≡ a.size → x (shard_of (uaid_of bytes) a.size)
    moved x h e = subst (λ (size : ℕ). x (shard_of (uaid_of bytes) size)) e h

    same_size : b.size ≡ a.size
    same_size = (so.leads []).calls.same.size

    count_on : length (so.drawn ++ bytes ∷ []) ≡ n + 1
    count_on = length_push so.drawn bytes ∙ ap (λ m. m + 1) so.count

    none_at : (o : Option Reply) → Ticks (shard_of (uaid_of bytes) b.size) at (Create (session_of (uaid_of bytes) node at)) o b c → CreateSays (Ok false) o → TakenSoFar node at (n + 1) a c g0 g2
    none_at None h e = absurd e
    none_at (Some Taken) h e =
        let ticks = moved (λ k. Ticks k at (Create (session_of (uaid_of bytes) node at)) (Some Taken) b c) h same_size in
        record {
          drawn = so.drawn ++ bytes ∷ [];
          count = count_on;
          draws = draws_more g0 g1 g2 so.drawn bytes long so.draws given;
          leads = λ more. subst (λ (us : List Uaid). Leads (creating a.size node at 0 us) (creating a.size node at (n + 1) more) a c) (sym (users_more so.drawn bytes more))
              (leads_then (creating a.size node at 0 (map uaid_of so.drawn ++ (uaid_of bytes ∷ more))) (creating a.size node at n (uaid_of bytes ∷ more)) (creating a.size node at (n + 1) more) a b c (so.leads (uaid_of bytes ∷ more))
              (ticks_lead (creating a.size node at n (uaid_of bytes ∷ more)) (creating a.size node at (n + 1) more) (shard_of (uaid_of bytes) a.size) at (Create (session_of (uaid_of bytes) node at)) Taken b c refl (λ t. refl) (λ t rs. refl) ticks));
        }
    none_at (Some r) h e = absurd e

    some_at : (o : Option Reply) → n < 4 → Ticks (shard_of (uaid_of bytes) b.size) at (Create (session_of (uaid_of bytes) node at)) o b c → CreateSays (Ok true) o → Begins (creating a.size node at 0) (Ok (session_of (uaid_of bytes) node at)) a c g0 g2
    some_at None lt h e = absurd e
    some_at (Some IsMade) lt h e =
        let ticks = moved (λ k. Ticks k at (Create (session_of (uaid_of bytes) node at)) (Some IsMade) b c) h same_size in
        let others = attaching (shard_of (uaid_of bytes) a.size) (session_of (uaid_of bytes) node at) in
        record {
          drawn = so.drawn ++ bytes ∷ [];
          draws = draws_more g0 g1 g2 so.drawn bytes long so.draws given;
          few = omega (arith, count_on);
          begins = subst (λ (us : List Uaid). Leads (creating a.size node at 0 us) others a c) (users_last so.drawn bytes)
              (leads_then (creating a.size node at 0 (map uaid_of so.drawn ++ (uaid_of bytes ∷ []))) (creating a.size node at n (uaid_of bytes ∷ [])) others a b c (so.leads (uaid_of bytes ∷ []))
              (ticks_lead (creating a.size node at n (uaid_of bytes ∷ [])) others (shard_of (uaid_of bytes) a.size) at (Create (session_of (uaid_of bytes) node at)) IsMade b c refl (λ t. refl) (λ t rs. refl) ticks));
        }
    some_at (Some r) lt h e = absurd e

    err_at : (end : SessionEnd) (o : Option Reply) → n < 4 → Ticks (shard_of (uaid_of bytes) b.size) at (Create (session_of (uaid_of bytes) node at)) o b c → CreateSays (Err end) o → Begins (creating a.size node at 0) (Err end) a c g0 g2
    err_at NoMemory None lt h e =
        let ticks = moved (λ k. Ticks k at (Create (session_of (uaid_of bytes) node at)) None b c) h same_size in
        record {
          drawn = so.drawn ++ bytes ∷ [];
          draws = draws_more g0 g1 g2 so.drawn bytes long so.draws given;
          few = omega (arith, count_on);
          begins = subst (λ (us : List Uaid). Steps (creating a.size node at 0 us) (Err NoMemory) a c) (users_last so.drawn bytes)
              (leads_end (creating a.size node at 0 (map uaid_of so.drawn ++ (uaid_of bytes ∷ []))) (creating a.size node at n (uaid_of bytes ∷ [])) (Err NoMemory) a b c (so.leads (uaid_of bytes ∷ []))
              (ticks_end (creating a.size node at n (uaid_of bytes ∷ [])) (Err NoMemory) (shard_of (uaid_of bytes) a.size) at (Create (session_of (uaid_of bytes) node at)) b c refl (λ t. tt) ticks));
        }
    err_at end o lt h e = absurd e

    none_by : (answer : Result Bool SessionEnd) → Creates answer (shard_of (uaid_of bytes) b.size) (session_of (uaid_of bytes) node at) b c → Ok None ≡ created_of (session_of (uaid_of bytes) node at) answer → TakenSoFar node at (n + 1) a c g0 g2
    none_by (Ok false) h e = none_at h.reply h.ticks h.says
    none_by (Ok true) h e = cc
    none_by (Err end) h e = cc

    some_by : (s : SessionKey) (answer : Result Bool SessionEnd) → n < 4 → Creates answer (shard_of (uaid_of bytes) b.size) (session_of (uaid_of bytes) node at) b c → Ok (Some s) ≡ created_of (session_of (uaid_of bytes) node at) answer → Begins (creating a.size node at 0) (Ok s) a c g0 g2
    some_by s (Ok true) lt h e =
        let is : session_of (uaid_of bytes) node at ≡ s = cc in
        subst (λ (z : SessionKey). Begins (creating a.size node at 0) (Ok z) a c g0 g2) is (some_at h.reply lt h.ticks h.says)
    some_by s (Ok false) lt h e = cc
    some_by s (Err end) lt h e = cc

    err_by : (end : SessionEnd) (answer : Result Bool SessionEnd) → n < 4 → Creates answer (shard_of (uaid_of bytes) b.size) (session_of (uaid_of bytes) node at) b c → Err end ≡ created_of (session_of (uaid_of bytes) node at) answer → Begins (creating a.size node at 0) (Err end) a c g0 g2
    err_by end (Err other) lt h e =
        let is : other ≡ end = cc in
        subst (λ (z : SessionEnd). Begins (creating a.size node at 0) (Err z) a c g0 g2) is (err_at other h.reply lt h.ticks h.says)
    err_by end (Ok true) lt h e = cc
    err_by end (Ok false) lt h e = cc

  module _ (n : ℕ) (a b c : DeskView) (g0 g1 g2 : Option (List ℕ)) where
    pub taken_on : TakenSoFar node at n a b g0 g1 → Tries (Ok None) node at b c g1 g2 → TakenSoFar node at (n + 1) a c g0 g2
    taken_on so h = none_by n a b c g0 g1 g2 so h.bytes h.long h.given h.answer h.creates h.is

    pub created_some : (s : SessionKey) → n < 4 → TakenSoFar node at n a b g0 g1 → Tries (Ok (Some s)) node at b c g1 g2 → Begins (creating a.size node at 0) (Ok s) a c g0 g2
    created_some s lt so h = some_by n a b c g0 g1 g2 so h.bytes h.long h.given s h.answer lt h.creates h.is

    pub created_err : (end : SessionEnd) → n < 4 → TakenSoFar node at n a b g0 g1 → Tries (Err end) node at b c g1 g2 → Begins (creating a.size node at 0) (Err end) a c g0 g2
    created_err end lt so h = err_by n a b c g0 g1 g2 so h.bytes h.long h.given end h.answer lt h.creates h.is

  pub all_taken : (n : ℕ) (a b : DeskView) (g0 g1 : Option (List ℕ)) → n ≡ 4 → TakenSoFar node at n a b g0 g1 → Begins (creating a.size node at 0) (Err UaidSpent) a b g0 g1
  all_taken n a b g0 g1 four so = record {
    drawn = so.drawn;
    draws = so.draws;
    few = omega (arith, so.count);
    begins = subst (λ (us : List Uaid). Steps (creating a.size node at 0 us) (Err UaidSpent) a b) (append-nil (map uaid_of so.drawn))
        (leads_end (creating a.size node at 0 (map uaid_of so.drawn ++ [])) (creating a.size node at n []) (Err UaidSpent) a b b (so.leads []) (steps_over (creating a.size node at n []) (Err UaidSpent) b (rw four refl)));
  }

  -- ---- a user that is given

  module _ (u : Uaid) (a b : DeskView) (k : ℕ) (is : k ≡ shard_of u a.size) where
    here : (o : Option Reply) → Ticks k at (Claim (session_of u node at)) o a b → Ticks (shard_of u a.size) at (Claim (session_of u node at)) o a b
    here o h = subst (λ (j : ℕ). Ticks j at (Claim (session_of u node at)) o a b) is h

    done_at : (g : Option (List ℕ)) (o : Option Reply) → Ticks k at (Claim (session_of u node at)) o a b → ClaimSays (Ok true) o → Begins (claiming a.size node at u) (Ok (session_of u node at)) a b g g
    done_at g None h e = absurd e
    done_at g (Some (Claimed previous)) h e = record {
      drawn = [];
      draws = draws_none g;
      few = omega arith;
      begins = ticks_lead (claiming a.size node at u []) (attaching (shard_of u a.size) (session_of u node at)) (shard_of u a.size) at (Claim (session_of u node at)) (Claimed previous) a b refl (λ t. refl) (λ t rs. refl) (here (Some (Claimed previous)) h);
    }
    done_at g (Some r) h e = absurd e

    ended_at : (g : Option (List ℕ)) (end : SessionEnd) (o : Option Reply) → Ticks k at (Claim (session_of u node at)) o a b → ClaimSays (Err end) o → Begins (claiming a.size node at u) (Err end) a b g g
    ended_at g (Stale kept) (Some (IsStale met)) h e = record {
      drawn = [];
      draws = draws_none g;
      few = omega arith;
      begins = leads_end (claiming a.size node at u []) (λ rs. Over (Err (Stale met))) (Err (Stale kept)) a b b
          (ticks_lead (claiming a.size node at u []) (λ rs. Over (Err (Stale met))) (shard_of u a.size) at (Claim (session_of u node at)) (IsStale met) a b refl (λ t. refl) (λ t rs. refl) (here (Some (IsStale met)) h))
          (steps_over (λ rs. Over (Err (Stale met))) (Err (Stale kept)) b (ap (λ z. Over (Err (Stale z))) (sym e)));
    }
    ended_at g NoMemory None h e = record {
      drawn = [];
      draws = draws_none g;
      few = omega arith;
      begins = ticks_end (claiming a.size node at u []) (Err NoMemory) (shard_of u a.size) at (Claim (session_of u node at)) a b refl (λ t. tt) (here None h);
    }
    ended_at g end o h e = absurd e

    none_there : (us : List Uaid) (o : Option Reply) → Ticks k at (Claim (session_of u node at)) o a b → ClaimSays (Ok false) o → Leads (claiming a.size node at u us) (creating a.size node at 0 us) a b
    none_there us None h e = absurd e
    none_there us (Some NoUser) h e = ticks_lead (claiming a.size node at u us) (creating a.size node at 0 us) (shard_of u a.size) at (Claim (session_of u node at)) NoUser a b refl (λ t. refl) (λ t rs. refl) (here (Some NoUser) h)
    none_there us (Some r) h e = absurd e

    behind : (answer : Result SessionKey SessionEnd) (us : List Uaid) (c : DeskView) → Leads (claiming a.size node at u us) (creating a.size node at 0 us) a b → BeginsBy (creating a.size node at 0 us) a.size answer b c → BeginsBy (claiming a.size node at u us) a.size answer a c
    behind (Ok s) us c f g = leads_then (claiming a.size node at u us) (creating a.size node at 0 us) (attaching (shard_of s.uaid a.size) s) a b c f g
    behind (Err e) us c f g = leads_end (claiming a.size node at u us) (creating a.size node at 0 us) (Err e) a b c f g

    pub claim_done : (g : Option (List ℕ)) → Claims (Ok true) k (session_of u node at) a b → Begins (claiming a.size node at u) (Ok (session_of u node at)) a b g g
    claim_done g h = done_at g h.reply h.ticks h.says

    pub claim_ended : (g : Option (List ℕ)) (end : SessionEnd) → Claims (Err end) k (session_of u node at) a b → Begins (claiming a.size node at u) (Err end) a b g g
    claim_ended g end h = ended_at g end h.reply h.ticks h.says

    pub created_behind : (answer : Result SessionKey SessionEnd) (c : DeskView) (g0 g1 : Option (List ℕ)) → Claims (Ok false) k (session_of u node at) a b → Begins (creating b.size node at 0) answer b c g0 g1 → Begins (claiming a.size node at u) answer a c g0 g1
    created_behind answer c g0 g1 h g =
        let first = none_there (map uaid_of g.drawn) h.reply h.ticks h.says in
        record {
          drawn = g.drawn;
          draws = g.draws;
          few = g.few;
          begins = behind answer (map uaid_of g.drawn) c first (subst (λ (size : ℕ). BeginsBy (creating size node at 0 (map uaid_of g.drawn)) size answer b c) first.calls.same.size g.begins);
        }

  -- ---- and then the attach

  pub attach_behind : (given : Option Uaid) (s : SessionKey) (answer : Result SessionKey SessionEnd) (a b c : DeskView) (g0 g1 : Option (List ℕ)) → Begins (hello_next a.size node at given) (Ok s) a b g0 g1 → Steps (attaching (shard_of s.uaid b.size) s) answer b c → HelloMade answer node at given a c g0 g1
  attach_behind given s answer a b c g0 g1 f g = record {
    drawn = f.drawn;
    draws = f.draws;
    few = f.few;
    steps = leads_end (hello_next a.size node at given (map uaid_of f.drawn)) (attaching (shard_of s.uaid a.size) s) answer a b c f.begins
        (subst (λ (size : ℕ). Steps (attaching (shard_of s.uaid size) s) answer b c) f.begins.calls.same.size g);
  }
