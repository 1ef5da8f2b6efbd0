-- Jobs that run beside the same desks.
use Rattle.std.proofs.Common.{◌≡◌, ◌<◌, ◌≤◌, ◌+◌, ℕ, zero, suc, List, [], ◌∷◌, ◌++◌, length, Result, Ok, Err, refl, sym, subst, ap, ◌∙◌, arith}
use Rattle.std.proofs.lemmas.List.{length_push}
use Rattle.push_outside.specs.Counts.{next_count}
use Rattle.node_loops.specs.Together.{raised}
use Rattle.serve_run.specs.declared.halt.Halt.{Halt}
use Rattle.push_model.specs.DeskViews.{DeskView, IsSameDesk}
use Rattle.push_exchange.specs.PassViews.{PassView}
use Rattle.push_exchange.specs.Boards.{IsBeside, IsJoined, passes_view}
use Rattle.serve_run.specs.Crews.{EachBeside, IsOpenedAlike, Launched, RunsBeside, Staffed, StaffedBy, started_after}

pub then : {A : Type 0} {a b c : A} → a ≡ b → b ≡ c → a ≡ c
then p q = p ∙ q

-- one more behind
pub beside_push : {T : Type 0} (job : T → List PassView) (v : DeskView) (ts : List T) (t : T) → EachBeside job v ts → RunsBeside job v t → EachBeside job v (ts ++ t ∷ [])
beside_push job v [] t each one = (one, tt)
beside_push job v (s ∷ ts) t each one = (each.0, beside_push job v ts t each.1 one)

-- without the last
pub beside_front : {T : Type 0} (job : T → List PassView) (v : DeskView) (ts : List T) (t : T) → EachBeside job v (ts ++ t ∷ []) → EachBeside job v ts
beside_front job v [] t each = tt
beside_front job v (s ∷ ts) t each = (each.0, beside_front job v ts t each.1)

pub beside_last : {T : Type 0} (job : T → List PassView) (v : DeskView) (ts : List T) (t : T) → EachBeside job v (ts ++ t ∷ []) → RunsBeside job v t
beside_last job v [] t each = each.0
beside_last job v (s ∷ ts) t each = beside_last job v ts t each.1

-- of desks with the same boards
pub beside_along : {T : Type 0} (job : T → List PassView) (v w : DeskView) (ts : List T) → IsBeside v w → EachBeside job v ts → EachBeside job w ts
beside_along job v w [] same each = tt
beside_along job v w (s ∷ ts) same each = (λ k. then (each.0 k) (sym (same k)), beside_along job v w ts same each.1)

pub alike_itself : (v : DeskView) → IsOpenedAlike v v
alike_itself v = record { size = refl; board = λ k. refl; opened = λ k. refl }

pub alike_through : (u v w : DeskView) → IsOpenedAlike u v → IsOpenedAlike v w → IsOpenedAlike u w
alike_through u v w a b = record { size = then b.size a.size; board = λ k. then (b.board k) (a.board k); opened = λ k. then (b.opened k) (a.opened k) }

pub joined_alike : (v o w : DeskView) → IsJoined v o w → IsOpenedAlike v w
joined_alike v o w j = record { size = j.size; board = j.board; opened = j.opened }

-- ---- counts

pub raised_more : (m n a : ℕ) → raised (m + n) a ≡ raised n (raised m a)
unfolding raised
raised_more m zero a = let e : m + zero ≡ m = omega arith in ap (λ (z : ℕ). raised z a) e
raised_more m (suc n) a = let e : m + suc n ≡ suc (m + n) = omega arith in ap (λ (z : ℕ). raised z a) e ∙ ap next_count (raised_more m n a)

-- ---- jobs that are started

-- none was
pub staffed_none : {T : Type 0} (job : T → List PassView) (halt : Halt) (n : ℕ) (v w : DeskView) (ts : List T) (started : ℕ)
    → 0 < n → EachBeside job v ts → IsOpenedAlike v w → StaffedBy (Err halt) job n v w ts ts started started
unfolding raised
staffed_none job halt n v w ts started some each alike =
    (0, some, record { count = omega arith; started = refl; beside = beside_along job v w ts alike.board each; opening = alike })

-- one was
pub staffed_one : {T : Type 0} (job : T → List PassView) (v w : DeskView) (j : List PassView) (ts : List T) (t : T) (us : List T) (before after : ℕ)
    → EachBeside job v ts → IsOpenedAlike v w → IsBeside v (passes_view j) → job t ≡ j → us ≡ ts ++ t ∷ [] → after ≡ next_count before → Staffed job 1 v w ts us before after
unfolding raised
staffed_one {T = T} job v w j ts t us before after each alike beside is grown started =
    let mine : IsBeside w (passes_view j) = λ k. then (beside k) (sym (alike.board k)) in
    let one : RunsBeside job w t = subst (λ (z : List PassView). IsBeside w (passes_view z)) (sym is) mine in
    record {
      count = subst (λ (z : List T). length z ≡ length ts + 1) (sym grown) (length_push ts t);
      started = started;
      beside = subst (EachBeside job w) (sym grown) (beside_push job w ts t (beside_along job v w ts alike.board each) one);
      opening = alike;
    }

-- by what a start answered
pub staffed_by : {T : Type 0} (job : T → List PassView) (result : Result (Unit {0}) Halt) (v w : DeskView) (j : List PassView) (ts us : List T) (before after : ℕ)
    → EachBeside job v ts → IsOpenedAlike v w → IsBeside v (passes_view j) → Launched job result j ts us → after ≡ started_after result before
    → StaffedBy result job 1 v w ts us before after
staffed_by job (Ok u) v w j ts us before after each alike beside launched started = staffed_one job v w j ts launched.0 us before after each alike beside launched.1 launched.2 started
staffed_by {T = T} job (Err halt) v w j ts us before after each alike beside launched started =
    subst (λ (z : List T). StaffedBy (Err halt) job 1 v w ts z before after) (sym launched)
    (subst (λ (z : ℕ). StaffedBy (Err halt) job 1 v w ts ts before z) (sym started) (staffed_none job halt 1 v w ts before (omega arith) each alike))

pub both : {T : Type 0} (job : T → List PassView) (m n : ℕ) (u v w : DeskView) (ts us xs : List T) (a b c : ℕ)
    → Staffed job m u v ts us a b → Staffed job n v w us xs b c → Staffed job (m + n) u w ts xs a c
both job m n u v w ts us xs a b c s t =
    let p = s.count in let q = t.count in
    record {
      count = omega arith;
      started = then (then t.started (subst (λ (z : ℕ). raised n b ≡ raised n z) s.started refl)) (sym (raised_more m n a));
      beside = t.beside;
      opening = alike_through u v w s.opening t.opening;
    }

-- some, and then some more
pub staffed_more : {T : Type 0} (job : T → List PassView) (result : Result (Unit {0}) Halt) (m n : ℕ) (u v w : DeskView) (ts us xs : List T) (a b c : ℕ)
    → Staffed job m u v ts us a b → StaffedBy result job n v w us xs b c → StaffedBy result job (m + n) u w ts xs a c
staffed_more job (Ok tt) m n u v w ts us xs a b c s t = both job m n u v w ts us xs a b c s t
staffed_more job (Err halt) m n u v w ts us xs a b c s t =
    let less = t.1 in (m + t.0, omega arith, both job m t.0 u v w ts us xs a b c s t.2)

pub same_alike : (v w : DeskView) → IsSameDesk v w → IsOpenedAlike v w
same_alike v w s = record { size = s.size; board = s.board; opened = s.opened }

-- none so far
pub staffed_start : {T : Type 0} (job : T → List PassView) (v : DeskView) (ts : List T) (started : ℕ) → EachBeside job v ts → Staffed job 0 v v ts ts started started
unfolding raised
staffed_start job v ts started each = record { count = omega arith; started = refl; beside = each; opening = alike_itself v }

-- fewer than k are fewer than n
pub staffed_within : {T : Type 0} (job : T → List PassView) (halt : Halt) (k n : ℕ) (v w : DeskView) (ts us : List T) (before after : ℕ)
    → k ≤ n → StaffedBy (Err halt) job k v w ts us before after → StaffedBy (Err halt) job n v w ts us before after
staffed_within job halt k n v w ts us before after within s = let less = s.1 in (s.0, omega arith, s.2)
