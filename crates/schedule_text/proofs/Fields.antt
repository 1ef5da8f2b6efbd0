-- A field that is read is spelled so, and what is spelled so is read again.
use Rattle.std.proofs.Common.{◌≡◌, ℕ, Bool, true, false, cond, eqb, List, [], ◌∷◌, ◌++◌, length, take, drop, Option, Some, None, refl, sym, ap, subst, ◌∙◌, append_assoc, arith, inl, inr, ◌⊎◌}
use Rattle.std.specs.List.{position_or_len}
use Rattle.std.proofs.lemmas.Bool.{eqb-true}
use Rattle.std.proofs.lemmas.List.{take_at, drop_at, take-append-drop}
use Rattle.schedule_text.specs.Words.{word}
use Rattle.schedule_text.specs.Reading.{◌>>=◌, is_space, first_word, after_word, word_at, field_at, both, made_at}

-- ---- options

pub bind_some : {A B : Type 0} (o : Option A) (f : A → Option B) (y : B) → (o >>= f) ≡ Some y → (x : A) × (o ≡ Some x) × (f x ≡ Some y)
bind_some (Some x) f y e = (x, refl, e)
bind_some None f y e = absurd cc

-- a test that was passed
pub if_some : {A : Type 0} (b : Bool) (o : Option A) (y : A) → cond b o None ≡ Some y → (b ≡ true) × (o ≡ Some y)
if_some true o y e = (refl, e)
if_some false o y e = absurd cc

abbrev just : {A : Type 0} → A → Option A
just x = Some x

pub some_is : {A : Type 0} (x y : A) → just x ≡ just y → x ≡ y
some_is x y e = cc

pub chosen : {A : Type 0} (b : Bool) (x y z : A) → cond b x y ≡ z → ((b ≡ true) × (x ≡ z)) ⊎ ((b ≡ false) × (y ≡ z))
chosen true x y z e = inl (refl, e)
chosen false x y z e = inr (refl, e)

-- ---- words

abbrev pub NoSpace : List ℕ → Type 0
NoSpace [] = Unit {0}
NoSpace (b ∷ bytes) = (is_space b ≡ false) × NoSpace bytes

-- nothing, or a space first
abbrev pub IsBreak : List ℕ → Type 0
IsBreak [] = Unit {0}
IsBreak (b ∷ bytes) = b ≡ 32

word_length : (w rest : List ℕ) → NoSpace w → IsBreak rest → position_or_len is_space (w ++ rest) ≡ length w
word_length [] [] n h = refl
word_length [] (b ∷ rest) n h = rw h refl
word_length (b ∷ w) rest n h = rw (n.0, word_length w rest n.1 h) (omega arith)

first_is : (w rest : List ℕ) → NoSpace w → IsBreak rest → first_word (w ++ rest) ≡ w
first_is w rest n h = ap (λ (k : ℕ). take k (w ++ rest)) (word_length w rest n h) ∙ take_at w rest (length w) refl

after_is : (w rest : List ℕ) → NoSpace w → IsBreak rest → after_word (w ++ rest) ≡ rest
after_is w rest n h = ap (λ (k : ℕ). drop k (w ++ rest)) (word_length w rest n h) ∙ drop_at w rest (length w) refl

word_again : (w rest : List ℕ) → NoSpace w → IsBreak rest → word_at (word w ++ rest) ≡ Some (w, rest)
unfolding word_at
word_again w rest n h = ap (λ (p : List ℕ × List ℕ). Some p) (λ i. (first_is w rest n h i, after_is w rest n h i))

pub word_takes : (bytes : List ℕ) (x : List ℕ × List ℕ) → word_at bytes ≡ Some x → bytes ≡ word x.0 ++ x.1
unfolding word_at
word_takes [] x e = absurd cc
word_takes (b ∷ bytes) x e =
    let g = if_some (eqb b 32) (Some (first_word bytes, after_word bytes)) x e in
    let parts = some_is (first_word bytes, after_word bytes) x g.1 in
    let front : first_word bytes ++ after_word bytes ≡ bytes = take-append-drop (position_or_len is_space bytes) bytes in
    subst (λ (y : List ℕ × List ℕ). b ∷ bytes ≡ word y.0 ++ y.1) parts (rw (eqb-true b 32 g.0) (ap (λ (t : List ℕ). 32 ∷ t) (sym front)))

-- ---- values of words

pub record Value {A : Type 0} (value : List ℕ → Option A) (spelled : A → List ℕ) (fits : A → Type 0) : Type 0 where
  pub takes : (w : List ℕ) (x : A) → value w ≡ Some x → (w ≡ spelled x) × fits x
  pub again : (x : A) → fits x → value (spelled x) ≡ Some x
  pub no_space : (x : A) → fits x → NoSpace (spelled x)

-- ---- fields

pub record Field {A : Type 0} (read : List ℕ → Option (A × List ℕ)) (spelled : A → List ℕ) (fits : A → Type 0) : Type 0 where
  pub takes : (bytes : List ℕ) (x : A × List ℕ) → read bytes ≡ Some x → (bytes ≡ spelled x.0 ++ x.1) × fits x.0
  pub again : (x : A) (rest : List ℕ) → fits x → IsBreak rest → read (spelled x ++ rest) ≡ Some (x, rest)
  pub breaks : (x : A) (rest : List ℕ) → fits x → IsBreak rest → IsBreak (spelled x ++ rest)

-- a value behind a space
pub field : {A : Type 0} (value : List ℕ → Option A) (spelled : A → List ℕ) (fits : A → Type 0) → Value value spelled fits → Field (field_at value) (λ x. word (spelled x)) fits
field {A} value spelled fits v = record {
  takes = λ bytes x e.
      let a = bind_some (word_at bytes) (λ w. value w.0 >>= λ y. Some (y, w.1)) x e in
      let b = bind_some (value a.0.0) (λ y. Some (y, a.0.1)) x a.2 in
      let t = v.takes a.0.0 b.0 b.1 in
      subst (λ (y : A × List ℕ). (bytes ≡ word (spelled y.0) ++ y.1) × fits y.0) (some_is (b.0, a.0.1) x b.2)
      (word_takes bytes a.0 a.1 ∙ ap (λ (w : List ℕ). word w ++ a.0.1) t.0, t.1);
  again = λ x rest f h. rw (word_again (spelled x) rest (v.no_space x f) h, v.again x f) refl;
  breaks = λ x rest f h. refl;
}

-- the same ranges in other words
pub narrowed : {A : Type 0} {p : List ℕ → Option (A × List ℕ)} {s : A → List ℕ} {f g : A → Type 0} → Field p s f → ((x : A) → f x → g x) → ((x : A) → g x → f x) → Field p s g
narrowed {A} {p} {s} {f} {g} a there back = record {
  takes = λ bytes x e. let t = a.takes bytes x e in (t.0, there x.0 t.1);
  again = λ x rest h brk. a.again x rest (back x h) brk;
  breaks = λ x rest h brk. a.breaks x rest (back x h) brk;
}

-- two fields, one after the other
pub both_fields : {A B : Type 0} {p : List ℕ → Option (A × List ℕ)} {q : List ℕ → Option (B × List ℕ)} {s : A → List ℕ} {t : B → List ℕ} {f : A → Type 0} {g : B → Type 0}
    → Field p s f → Field q t g → Field (both p q) (λ x. s x.0 ++ t x.1) (λ x. f x.0 × g x.1)
both_fields {A} {B} {p} {q} {s} {t} {f} {g} a b = record {
  takes = λ bytes x e.
      let u = bind_some (p bytes) (λ y. q y.1 >>= λ z. Some ((y.0, z.0), z.1)) x e in
      let w = bind_some (q u.0.1) (λ z. Some ((u.0.0, z.0), z.1)) x u.2 in
      let k = a.takes bytes u.0 u.1 in
      let l = b.takes u.0.1 w.0 w.1 in
      subst (λ (y : (A × B) × List ℕ). (bytes ≡ (s y.0.0 ++ t y.0.1) ++ y.1) × (f y.0.0 × g y.0.1)) (some_is ((u.0.0, w.0.0), w.0.1) x w.2)
      (k.0 ∙ ap (λ (v : List ℕ). s u.0.0 ++ v) l.0 ∙ sym (append_assoc (s u.0.0) (t w.0.0) w.0.1), (k.1, l.1));
  again = λ x rest h brk.
      ap (both p q) (append_assoc (s x.0) (t x.1) rest) ∙ rw (a.again x.0 (t x.1 ++ rest) h.0 (b.breaks x.1 rest h.1 brk), b.again x.1 rest h.1 brk) refl;
  breaks = λ x rest h brk. rw append_assoc (a.breaks x.0 (t x.1 ++ rest) h.0 (b.breaks x.1 rest h.1 brk));
}

-- How a value is made of the fields that it is spelled by.
pub record Made {A B : Type 0} (make : A → B) (spelled : A → List ℕ) (fits : A → Type 0) (words : B → List ℕ) (is : B → Type 0) : Type 0 where
  pub spells : (x : A) → words (make x) ≡ spelled x
  pub ranges : (x : A) → fits x → is (make x)
  pub parts : (y : B) → is y → (x : A) × (make x ≡ y) × fits x

pub made_field : {A B : Type 0} {make : A → B} {read : List ℕ → Option (A × List ℕ)} {spelled : A → List ℕ} {fits : A → Type 0} {words : B → List ℕ} {is : B → Type 0}
    → Field read spelled fits → Made make spelled fits words is → Field (made_at make read) words is
made_field {A} {B} {make} {read} {spelled} {fits} {words} {is} f m = record {
  takes = λ bytes y e.
      let a = bind_some (read bytes) (λ x. Some (make x.0, x.1)) y e in
      let t = f.takes bytes a.0 a.1 in
      subst (λ (z : B × List ℕ). (bytes ≡ words z.0 ++ z.1) × is z.0) (some_is (make a.0.0, a.0.1) y a.2)
      (t.0 ∙ ap (λ (w : List ℕ). w ++ a.0.1) (sym (m.spells a.0.0)), m.ranges a.0.0 t.1);
  again = λ y rest h brk.
      let p = m.parts y h in
      let same : words y ≡ spelled p.0 = sym (ap words p.1) ∙ m.spells p.0 in
      rw (same, f.again p.0 rest p.2 brk) (ap (λ (z : B). just (z, rest)) p.1);
  breaks = λ y rest h brk.
      let p = m.parts y h in
      let same : words y ≡ spelled p.0 = sym (ap words p.1) ∙ m.spells p.0 in
      rw same (f.breaks p.0 rest p.2 brk);
}
