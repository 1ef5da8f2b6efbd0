-- Reads one after another.
use Rattle.std.proofs.Common.{◌≡◌, ℕ, List, [], ◌++◌, Option, Some, None, refl, sym, ap, ◌∙◌, append_assoc}
use Rattle.std.proofs.Common.{take, drop, length, ◌≤◌, ◌-◌, ◌+◌, arith, subst}
use Rattle.std.proofs.lemmas.List.{append-nil, take-append-drop, take_all, length-drop}
use Rattle.std.proofs.Math.Seq.{take-add}
use Rattle.http_bytes.specs.Puts.{AppendsFront}
use Rattle.std.specs.Prelude.{IfSome}
use Rattle.std.specs.Io.KnownBytes.{Consumes, Appends, Keeps, IsAtEnd}
use Rattle.http_bytes.specs.Moves.{Moves, MovesAll, Takes}

pub Keeps-same : (a : Option (List ℕ)) → Keeps a a
Keeps-same None = tt
Keeps-same (Some x) = refl

pub Keeps-then : (a b c : Option (List ℕ)) → Keeps a b → Keeps b c → Keeps a c
Keeps-then None b c h k = tt
Keeps-then (Some x) None c h k = absurd h
Keeps-then (Some x) (Some y) None h k = absurd k
Keeps-then (Some x) (Some y) (Some z) h k = k ∙ h

pub Consumes-none : (a b : Option (List ℕ)) → Keeps a b → Consumes a b []
Consumes-none None b h = tt
Consumes-none (Some x) None h = absurd h
Consumes-none (Some x) (Some y) h = sym h

pub Consumes-then : (a b c : Option (List ℕ)) (x y : List ℕ) → Consumes a b x → Consumes b c y → Consumes a c (x ++ y)
Consumes-then None b c x y h k = tt
Consumes-then (Some p) None c x y h k = absurd h
Consumes-then (Some p) (Some q) None x y h k = absurd k
Consumes-then (Some p) (Some q) (Some r) x y h k = h ∙ ap (λ (t : List ℕ). x ++ t) k ∙ sym (append_assoc x y r)

-- what was consumed where nothing is left was all
pub all_consumed : (a b : Option (List ℕ)) (x : List ℕ) → Consumes a b x → IsAtEnd b → IfSome a (λ all. all ≡ x)
all_consumed None b x h k = tt
all_consumed (Some p) None x h k = absurd h
all_consumed (Some p) (Some q) x h k = h ∙ ap (λ (t : List ℕ). x ++ t) k ∙ append-nil x

pub Moves-none : (a : Option (List ℕ)) (old : List ℕ) → Moves a a old old
Moves-none a old = record { read = []; input = Consumes-none a a (Keeps-same a); joined = sym (append-nil old) }

pub Moves-then : (a b c : Option (List ℕ)) (x y z : List ℕ) → Moves a b x y → Moves b c y z → Moves a c x z
Moves-then a b c x y z h k =
    record {
      read = h.read ++ k.read;
      input = Consumes-then a b c h.read k.read h.input k.input;
      joined = k.joined ∙ ap (λ (t : List ℕ). t ++ k.read) h.joined ∙ append_assoc x h.read k.read;
    }

pub Moves-kept : (a b c : Option (List ℕ)) (x y z : List ℕ) → Moves a b x y → Keeps b c → z ≡ y → Moves a c x z
Moves-kept a b c x y z h k e =
    Moves-then a b c x y z h (record { read = []; input = Consumes-none b c k; joined = e ∙ sym (append-nil y) })

-- the reads before the one that found the end
pub MovesAll-end : (a b c : Option (List ℕ)) (x y z : List ℕ) → Moves a b x y → Keeps b c → IsAtEnd b → z ≡ y → MovesAll a c x z
MovesAll-end a b c x y z h k e same =
    let all = Moves-kept a b c x y z h k same in
    record {
      read = h.read;
      input = let shorter = Consumes-then a b c h.read [] h.input (Consumes-none b c k) in rw (← append-nil h.read) shorter;
      joined = same ∙ h.joined;
      whole = all_consumed a b h.read h.input e;
    }

-- what was waited for is taken
pub Takes-moved : (a b : Option (List ℕ)) (x y z text : List ℕ) → Moves a b x y → y ≡ text ++ z → Takes a b x z text
Takes-moved a b x y z text h e = record { read = h.read; input = h.input; joined = sym h.joined ∙ e }

pub Takes-none : (a : Option (List ℕ)) (x : List ℕ) → Takes a a x x []
Takes-none a x = record { read = []; input = Consumes-none a a (Keeps-same a); joined = append-nil x }

pub Takes-then : (a b c : Option (List ℕ)) (x y z s t : List ℕ) → Takes a b x y s → Takes b c y z t → Takes a c x z (s ++ t)
Takes-then a b c x y z s t h k =
    record {
      read = h.read ++ k.read;
      input = Consumes-then a b c h.read k.read h.input k.input;
      joined = sym (append_assoc x h.read k.read) ∙ ap (λ (u : List ℕ). u ++ k.read) h.joined ∙ append_assoc s y k.read
          ∙ ap (λ (u : List ℕ). s ++ u) k.joined ∙ sym (append_assoc s t z);
    }

-- the bytes seen behind what was taken
pub Moves-behind : (a b c : Option (List ℕ)) (x y s seen : List ℕ) → Takes a b x y s → Moves b c y seen → Moves a c x (s ++ seen)
Moves-behind a b c x y s seen h k =
    record {
      read = h.read ++ k.read;
      input = Consumes-then a b c h.read k.read h.input k.input;
      joined = ap (λ (u : List ℕ). s ++ u) k.joined ∙ sym (append_assoc s y k.read)
          ∙ ap (λ (u : List ℕ). u ++ k.read) (sym h.joined) ∙ append_assoc x h.read k.read;
    }

all_behind : (a b : Option (List ℕ)) (x y : List ℕ) → Consumes a b x → IfSome b (λ all. all ≡ y) → IfSome a (λ all. all ≡ x ++ y)
all_behind None b x y h k = tt
all_behind (Some p) None x y h k = absurd h
all_behind (Some p) (Some q) x y h k = h ∙ ap (λ (t : List ℕ). x ++ t) k

pub MovesAll-behind : (a b c : Option (List ℕ)) (x y s seen : List ℕ) → Takes a b x y s → MovesAll b c y seen → MovesAll a c x (s ++ seen)
MovesAll-behind a b c x y s seen h k =
    record {
      read = h.read ++ k.read;
      input = Consumes-then a b c h.read k.read h.input k.input;
      joined = ap (λ (u : List ℕ). s ++ u) k.joined ∙ sym (append_assoc s y k.read)
          ∙ ap (λ (u : List ℕ). u ++ k.read) (sym h.joined) ∙ append_assoc x h.read k.read;
      whole = all_behind a b h.read k.read h.input k.whole;
    }

-- ---- writes

pub Appends-none : (a b : Option (List ℕ)) → Keeps a b → Appends a b []
Appends-none None b h = tt
Appends-none (Some x) None h = absurd h
Appends-none (Some x) (Some y) h = h ∙ sym (append-nil x)

pub Appends-then : (a b c : Option (List ℕ)) (x y : List ℕ) → Appends a b x → Appends b c y → Appends a c (x ++ y)
Appends-then None b c x y h k = tt
Appends-then (Some p) None c x y h k = absurd h
Appends-then (Some p) (Some q) None x y h k = absurd k
Appends-then (Some p) (Some q) (Some r) x y h k = k ∙ ap (λ (t : List ℕ). t ++ y) h ∙ append_assoc p x y

pub Appends-kept : (a b c : Option (List ℕ)) (x : List ℕ) → Appends a b x → Keeps b c → Appends a c x
Appends-kept None b c x h k = tt
Appends-kept (Some p) None c x h k = absurd h
Appends-kept (Some p) (Some q) None x h k = absurd k
Appends-kept (Some p) (Some q) (Some r) x h k = k ∙ h

-- one more piece is written
pub writes_on : (a b c : Option (List ℕ)) (at n : ℕ) (bytes : List ℕ) → at ≤ length bytes → n ≤ length (take (length bytes - at) (drop at bytes))
    → Appends a b (take at bytes) → Appends b c (take n (take (length bytes - at) (drop at bytes))) → Appends a c (take (at + n) bytes)
writes_on a b c at n bytes inside le h k =
    let whole : take (length bytes - at) (drop at bytes) ≡ drop at bytes = take_all (length bytes - at) (drop at bytes) (omega (arith, length-drop at bytes)) in
    let piece : Appends b c (take n (drop at bytes)) = subst (λ (t : List ℕ). Appends b c (take n t)) whole k in
    let both : take (at + n) bytes ≡ take at bytes ++ take n (drop at bytes) = take-add at n bytes in
    subst (Appends a c) (sym both) (Appends-then a b c (take at bytes) (take n (drop at bytes)) h piece)

pub front_stays : (a b c : Option (List ℕ)) (at : ℕ) (bytes : List ℕ) → Appends a b (take at bytes) → Keeps b c → AppendsFront a c bytes
front_stays a b c at bytes h k = record { front = take at bytes; rest = drop at bytes; parts = sym (take-append-drop at bytes); appended = Appends-kept a b c (take at bytes) h k }
