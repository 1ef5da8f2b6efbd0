-- Registering, token by token.
use Rattle.std.proofs.Common.{◌≡◌, ℕ, ◌+◌, ◌≤◌, ◌<◌, ◌==◌, Bool, true, false, List, [], ◌∷◌, ◌++◌, length, drop, refl, ap, sym, ◌∙◌, append_assoc, subst, arith, Result, Ok, Err, Option, Some, None}
use Rattle.std.proofs.lemmas.List.{append-nil, length_push}
use Rattle.push_model.specs.SessionKey.{SessionKey}
use Rattle.push_model.specs.DeskViews.{Calls, Mails}
use Rattle.push_model.specs.declared.ids.Uaid.{Uaid}
use Rattle.push_model.specs.declared.ids.ChannelId.{ChannelId}
use Rattle.push_model.specs.declared.ids.Token.{Token}
use Rattle.push_model.specs.declared.step.Step.TheVariants.{Register}
use Rattle.push_model.specs.declared.reply.Reply.{Reply}
use Rattle.push_model.specs.declared.reply.Reply.TheVariants.{NoSession, Endpoint, TokenTaken}
use Rattle.push_outside.specs.Draws.{GivesMore}
use Rattle.endpoint_token.specs.TokenTexts.{IsDrawn, IsToken, first_byte}
use Rattle.session_drive.specs.declared.ends.SessionEnd.{SessionEnd}
use Rattle.session_drive.specs.declared.ends.SessionEnd.TheVariants.{TokenSpent, Ended, ChatFault, NoMemory}
use Rattle.session_drive.specs.Chats.{IsSendEnd, Said, end_of}
use Rattle.session_drive.specs.Asked.{asked, texts_in}
use Rattle.session_drive.specs.Runs.{Next, Over, Runs, Sides}
use Rattle.session_drive.specs.Registers.{AreTokensOf, GivenEnds, Registers, Tells, drawn_bytes, endpoint_texts, registering}
use Rattle.session_drive.proofs.DrawLemmas.{gives_none, gives_then}
use Rattle.session_drive.proofs.RunLemmas.{run_asked, run_spent}
use Rattle.session_drive.proofs.GoesLemmas.{Goes, goes_end, goes_none, goes_then, lead_one}

pub given_ends : (end : SessionEnd) (t : Token) → IsSendEnd (Some end) → GivenEnds (Err end) (Some (Endpoint t))
given_ends ChatFault t h = tt
given_ends NoMemory t h = tt
given_ends end t h = absurd h

own_more : (u : Uaid) (ts : List Token) (t : Token) → AreTokensOf u ts → IsToken t → t.0 ≡ first_byte u ∷ drop 1 t.0 → AreTokensOf u (ts ++ t ∷ [])
own_more u [] t h i e = (i, e, tt)
own_more u (s ∷ ts) t h i e = (h.0, h.1, own_more u ts t h.2 i e)

bytes_more : (ts : List Token) (t : Token) → drawn_bytes (ts ++ t ∷ []) ≡ drawn_bytes ts ++ drop 1 t.0
bytes_more [] t = append-nil (drop 1 t.0)
bytes_more (s ∷ ts) t = ap (λ l. drop 1 s.0 ++ l) (bytes_more ts t) ∙ sym (append_assoc (drop 1 s.0) (drawn_bytes ts) (drop 1 t.0))

module _ (k : ℕ) (s : SessionKey) (h : ChannelId) (port : ℕ) where
  -- so many tokens were drawn, and are taken
  pub record TokensSoFar (n : ℕ) (a b : Sides) (before after : Option (List ℕ)) : Type 0 where
    pub tokens : List Token
    pub count : length tokens ≡ n
    pub own : AreTokensOf s.uaid tokens
    pub given : GivesMore before after (drawn_bytes tokens)
    pub goes : (more : List Token) → Goes (registering k s h 0 (tokens ++ more)) (registering k s h n more) (endpoint_texts h port) a b

  pub tokens_none : (a : Sides) (g : Option (List ℕ)) → TokensSoFar 0 a a g g
  tokens_none a g = record { tokens = []; count = refl; own = tt; given = gives_none g; goes = λ more. goes_none (endpoint_texts h port) (registering k s h 0 more) a }

  pub still_within : (n : ℕ) (a b : Sides) (g0 g1 : Option (List ℕ)) → k < a.desks.size → TokensSoFar n a b g0 g1 → k < b.desks.size
  still_within n a b g0 g1 low so = subst (λ (m : ℕ). k < m) (sym (so.goes []).leads.calls.same.size) low

  module _ (n : ℕ) (a b c : Sides) (g0 g1 g2 : Option (List ℕ)) (t : Token) (so : TokensSoFar n a b g0 g1) (is : IsToken t) (d : IsDrawn s.uaid t g1 g2) where
    on : length (so.tokens ++ t ∷ []) ≡ n + 1
    on = length_push so.tokens t ∙ ap (λ m. m + 1) so.count

    own_on : AreTokensOf s.uaid (so.tokens ++ t ∷ [])
    own_on = own_more s.uaid so.tokens t so.own is d.first

    given_on : GivesMore g0 g2 (drawn_bytes (so.tokens ++ t ∷ []))
    given_on = subst (λ (l : List ℕ). GivesMore g0 g2 l) (sym (bytes_more so.tokens t)) (gives_then g0 g1 g2 (drawn_bytes so.tokens) (drop 1 t.0) so.given d.drawn)

    last : (result : Result (Unit {0}) SessionEnd) → n < 4 → Runs (registering k s h n (t ∷ [])) (endpoint_texts h port) result b c → Registers k s h port result a c g0 g2
    last result lt r = record {
      tokens = so.tokens ++ t ∷ [];
      few = omega (arith, on);
      own = own_on;
      given = given_on;
      runs = goes_end (endpoint_texts h port) (registering k s h 0 (so.tokens ++ t ∷ [])) (registering k s h n (t ∷ [])) result a b c (so.goes (t ∷ [])) r;
    }

    taken_at : (o : Option Reply) → Calls b.desks c.desks (asked k (Register s h t) o) → Mails b.desks c.desks [] → GivenEnds (Ok false) o → Said None (texts_in (endpoint_texts h port) o) b.chat c.chat → TokensSoFar (n + 1) a c g0 g2
    taken_at (Some TokenTaken) calls mail e said = record {
      tokens = so.tokens ++ t ∷ [];
      count = on;
      own = own_on;
      given = given_on;
      goes = λ more. subst (λ (ts : List Token). Goes (registering k s h 0 ts) (registering k s h (n + 1) more) (endpoint_texts h port) a c) (sym (append_assoc so.tokens (t ∷ []) more))
          (goes_then (endpoint_texts h port) (registering k s h 0 (so.tokens ++ (t ∷ more))) (registering k s h n (t ∷ more)) (registering k s h (n + 1) more) a b c (so.goes (t ∷ more))
          (record { leads = lead_one (registering k s h n (t ∷ more)) (registering k s h (n + 1) more) k (Register s h t) TokenTaken b.desks c.desks refl (λ rs. refl) calls mail; said = said }));
    }
    taken_at o calls mail e said = absurd e

    given_at : (o : Option Reply) → Calls b.desks c.desks (asked k (Register s h t) o) → Mails b.desks c.desks [] → GivenEnds (Ok true) o → Said None (texts_in (endpoint_texts h port) o) b.chat c.chat → Runs (registering k s h n (t ∷ [])) (endpoint_texts h port) (Ok tt) b c
    given_at (Some (Endpoint u)) calls mail e said = run_asked (registering k s h n (t ∷ [])) (endpoint_texts h port) (Ok tt) k (Register s h t) (Some (Endpoint u)) b c refl calls mail refl said
    given_at o calls mail e said = absurd e

    failed_at : (end : SessionEnd) (o : Option Reply) → Calls b.desks c.desks (asked k (Register s h t) o) → Mails b.desks c.desks [] → GivenEnds (Err end) o → Said (Some end) (texts_in (endpoint_texts h port) o) b.chat c.chat → Runs (registering k s h n (t ∷ [])) (endpoint_texts h port) (Err end) b c
    failed_at Ended (Some NoSession) calls mail e said = run_asked (registering k s h n (t ∷ [])) (endpoint_texts h port) (Err Ended) k (Register s h t) (Some NoSession) b c refl calls mail refl said
    failed_at ChatFault (Some (Endpoint u)) calls mail e said = run_asked (registering k s h n (t ∷ [])) (endpoint_texts h port) (Err ChatFault) k (Register s h t) (Some (Endpoint u)) b c refl calls mail tt said
    failed_at NoMemory (Some (Endpoint u)) calls mail e said = run_asked (registering k s h n (t ∷ [])) (endpoint_texts h port) (Err NoMemory) k (Register s h t) (Some (Endpoint u)) b c refl calls mail tt said
    failed_at NoMemory None calls mail e said = run_asked (registering k s h n (t ∷ [])) (endpoint_texts h port) (Err NoMemory) k (Register s h t) None b c refl calls mail tt said
    failed_at end o calls mail e said = absurd e

    pub token_taken : Tells k (Register s h t) (endpoint_texts h port) (Ok false) b c → TokensSoFar (n + 1) a c g0 g2
    token_taken r = taken_at r.reply r.calls r.mail r.ends r.said

    pub token_given : n < 4 → Tells k (Register s h t) (endpoint_texts h port) (Ok true) b c → Registers k s h port (Ok tt) a c g0 g2
    token_given lt r = last (Ok tt) lt (given_at r.reply r.calls r.mail r.ends r.said)

    pub token_failed : (end : SessionEnd) → n < 4 → Tells k (Register s h t) (endpoint_texts h port) (Err end) b c → Registers k s h port (Err end) a c g0 g2
    token_failed end lt r = last (Err end) lt (failed_at end r.reply r.calls r.mail r.ends r.said)

  pub tokens_spent : (n : ℕ) (a b : Sides) (g0 g1 : Option (List ℕ)) → n ≡ 4 → TokensSoFar n a b g0 g1 → Registers k s h port (Err TokenSpent) a b g0 g1
  tokens_spent n a b g0 g1 four so = record {
    tokens = so.tokens;
    few = omega (arith, so.count);
    own = so.own;
    given = so.given;
    runs = subst (λ (ts : List Token). Runs (registering k s h 0 ts) (endpoint_texts h port) (Err TokenSpent) a b) (append-nil so.tokens)
        (goes_end (endpoint_texts h port) (registering k s h 0 (so.tokens ++ [])) (registering k s h n []) (Err TokenSpent) a b b (so.goes []) (run_spent (registering k s h n []) (endpoint_texts h port) b (rw four refl)));
  }
