-- The laws of the fields of several words.
use Rattle.std.proofs.Common.{◌≡◌, ℕ, ◌-◌, ◌^◌, List, ◌++◌, Option, Some, refl, sym, ap, subst, ◌∙◌, append_assoc, true, arith, inl, inr}
use Rattle.std.specs.Prelude.{decimal, codes}
use Rattle.std.specs.Str.{bytes_eq}
use Rattle.std.proofs.lemmas.Slice.Eq.{bytes_eq-Decides}
use Rattle.push_model.specs.declared.step.Actor.{Actor}
use Rattle.push_model.specs.declared.step.Actor.TheVariants.{Flight, Saver}
use Rattle.push_model.specs.AskValue.{AskValue}
use Rattle.schedule_text.specs.Spelling.{user_words, session_words, op_words, actor_words, ask_words, IsSession, IsOp, IsActor, IsChannel, IsId, IsLineAsk, IsMoment, IsNode, IsUser}
use Rattle.schedule_text.specs.Words.{word, hex}
use Rattle.schedule_text.specs.Reading.{word_at, made_at, moment_at, node_at, user_at, session_at, op_at, channel_at, id_at, tagged_at, actor_at, ask_of, ask_at}
use Rattle.schedule_text.proofs.Fields.{bind_some, some_is, chosen, word_takes, IsBreak, Field, narrowed, both_fields, made_field}
use Rattle.schedule_text.proofs.ValueLaws.{hex_field, decimal_field, topic_field, urgency_field, payload_field}

pub moment_field : Field moment_at (λ m. word (decimal m)) IsMoment
unfolding moment_at
moment_field = narrowed (decimal_field 0 (2 ^ 62 - 1) (omega arith)) (λ m h. omega (arith, h.1)) (λ m h. (omega arith, omega (arith, h)))

pub node_field : Field node_at (λ n. word (decimal n)) IsNode
unfolding node_at
node_field = decimal_field 1 8 (omega arith)

pub user_field : Field user_at user_words IsUser
unfolding user_at
user_field = made_field hex_field (record { spells = λ x. refl; ranges = λ x h. h; parts = λ u h. (u.0, refl, h) })

pub session_field : Field session_at session_words IsSession
unfolding session_at
session_field = made_field (both_fields user_field (both_fields node_field (decimal_field 0 (2 ^ 63 - 1) (omega arith)))) (record {
  spells = λ x. refl;
  ranges = λ x h. record { uaid = h.0; node_low = h.1.0.0; node_high = h.1.0.1; at = omega (arith, h.1.1.1) };
  parts = λ s h. ((s.uaid, (s.node, s.at)), refl, (h.uaid, ((h.node_low, h.node_high), (omega arith, omega (arith, h.at)))));
})

pub op_field : Field op_at op_words IsOp
unfolding op_at
op_field = made_field (both_fields (decimal_field 0 (2 ^ 64 - 1) (omega arith)) (decimal_field 0 (2 ^ 63 - 1) (omega arith))) (record {
  spells = λ x. refl;
  ranges = λ x h. record { pass = omega (arith, h.0.1); k = omega (arith, h.1.1) };
  parts = λ o h. ((o.pass, o.k), refl, ((omega arith, omega (arith, h.pass)), (omega arith, omega (arith, h.k))));
})

pub channel_field : Field channel_at (λ h. word (hex h.0)) IsChannel
unfolding channel_at
channel_field = made_field hex_field (record { spells = λ x. refl; ranges = λ x h. h; parts = λ c h. (c.0, refl, h) })

pub id_field : Field id_at (λ i. word (decimal i.number)) IsId
unfolding id_at
id_field = made_field (decimal_field 1 (2 ^ 63 - 1) (omega arith)) (record {
  spells = λ x. refl;
  ranges = λ x h. record { shard = refl; low = h.0; high = omega (arith, h.1) };
  parts = λ i h. (i.number, λ j. record { shard = sym h.shard j; number = i.number }, (h.low, omega (arith, h.high)));
})

-- ---- the ask

same_ask : (a : AskValue) → IsLineAsk a → ask_of (a.terms.ttl, (a.terms.topic, (a.terms.urgency, a.payload))) ≡ a
same_ask a h = λ j. record {
  terms = record { ttl = a.terms.ttl; topic = a.terms.topic; urgency = a.terms.urgency; coding = sym h.coding j };
  encryption = sym h.encryption j;
  crypto_key = sym h.crypto_key j;
  payload = a.payload;
}

pub ask_field : Field ask_at ask_words IsLineAsk
unfolding ask_at
ask_field = made_field (both_fields (decimal_field 0 2592000 (omega arith)) (both_fields topic_field (both_fields urgency_field payload_field))) (record {
  spells = λ x. refl;
  ranges = λ x h. record { ttl = h.0.1; topic = h.1.0; coding = refl; encryption = refl; crypto_key = refl; payload = h.1.1.1 };
  parts = λ a h. ((a.terms.ttl, (a.terms.topic, (a.terms.urgency, a.payload))), same_ask a h, ((omega arith, h.ttl), (h.topic, (tt, h.payload))));
})

-- ---- actors

abbrev IsRead : List ℕ → Actor × List ℕ → Type 0
IsRead bytes x = (bytes ≡ actor_words x.0 ++ x.1) × IsActor x.0

tagged : {A : Type 0} {read : List ℕ → Option (A × List ℕ)} {spelled : A → List ℕ} {fits : A → Type 0} → Field read spelled fits → (tag : List ℕ) (make : A → Actor)
    → ((y : A) → actor_words (make y) ≡ word tag ++ spelled y) → ((y : A) → fits y → IsActor (make y))
    → (bytes : List ℕ) (t : List ℕ × List ℕ) (x : Actor × List ℕ) → bytes ≡ word t.0 ++ t.1 → bytes_eq t.0 tag ≡ true → made_at make read t.1 ≡ Some x → IsRead bytes x
tagged {A} {read} {spelled} {fits} f tag make spells ranges bytes t x front is e =
    let a = bind_some (read t.1) (λ y. Some (make y.0, y.1)) x e in
    let k = f.takes t.1 a.0 a.1 in
    let same : t.0 ≡ tag = (bytes_eq-Decides t.0 tag).0 is in
    let whole : bytes ≡ (word tag ++ spelled a.0.0) ++ a.0.1 =
    front ∙ ap (λ (w : List ℕ). word w ++ t.1) same ∙ ap (λ (r : List ℕ). word tag ++ r) k.0 ∙ sym (append_assoc (word tag) (spelled a.0.0) a.0.1)
    in
    subst (IsRead bytes) (some_is (make a.0.0, a.0.1) x a.2) (whole ∙ ap (λ (w : List ℕ). w ++ a.0.1) (sym (spells a.0.0)), ranges a.0.0 k.1)

actor_takes : (bytes : List ℕ) (x : Actor × List ℕ) → actor_at bytes ≡ Some x → IsRead bytes x
unfolding actor_at
actor_takes bytes x e =
    let t = bind_some (word_at bytes) tagged_at x e in
    let front = word_takes bytes t.0 t.1 in
    elim (chosen (bytes_eq t.0.0 (codes "f")) _ _ _ t.2) [
      | inl h ↦ tagged op_field (codes "f") Flight (λ y. refl) (λ y h. h) bytes t.0 x front h.0 h.1
      | inr h ↦
          elim (chosen (bytes_eq t.0.0 (codes "s")) _ _ _ h.1) [
            | inl h ↦ tagged session_field (codes "s") Saver (λ y. refl) (λ y h. h) bytes t.0 x front h.0 h.1
            | inr h ↦ absurd (cc h.1)
          ]
    ]

actor_again : (a : Actor) (rest : List ℕ) → IsActor a → IsBreak rest → actor_at (actor_words a ++ rest) ≡ Some (a, rest)
unfolding actor_at word_at
actor_again (Flight o) rest h brk = rw (op_field.again o rest h brk) refl
actor_again (Saver s) rest h brk = rw (session_field.again s rest h brk) refl

actor_breaks : (a : Actor) (rest : List ℕ) → IsBreak (actor_words a ++ rest)
actor_breaks (Flight o) rest = refl
actor_breaks (Saver s) rest = refl

pub actor_field : Field actor_at actor_words IsActor
actor_field = record { takes = actor_takes; again = actor_again; breaks = λ a rest h brk. actor_breaks a rest }
