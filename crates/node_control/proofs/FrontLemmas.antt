-- The front of a line that is kept says what the line asks for.
use Rattle.std.proofs.Common.{◌≡◌, ℕ, zero, suc, Bool, true, false, List, [], ◌∷◌, ◌++◌, take, refl, ap, sym, ◌∙◌, Option, Some, None}
use Rattle.std.specs.Prelude.{codes}
use Rattle.std.specs.Str.{bytes_eq}
use Rattle.std.proofs.lemmas.Slice.Eq.{bytes_eq-Decides}
use Rattle.node_control.specs.Commands.{command_of, kill_or, node_behind, up_or_unknown}
use Rattle.node_control.specs.Fronts.{front_of}
use Rattle.node_control.specs.declared.commands.Command.TheVariants.{Report, Stop}

pub front_says : (line : List ℕ) → command_of (front_of line) ≡ command_of line
front_says [] = refl
front_says (a ∷ []) = refl
front_says (a ∷ b ∷ []) = refl
front_says (a ∷ b ∷ c ∷ []) = refl
front_says (a ∷ b ∷ c ∷ d ∷ []) = refl
front_says (a ∷ b ∷ c ∷ d ∷ e ∷ []) = refl
front_says (a ∷ b ∷ c ∷ d ∷ e ∷ f ∷ []) = refl
front_says (a ∷ b ∷ c ∷ d ∷ e ∷ f ∷ g ∷ line) = refl

-- ---- bytes one after the other

take_on : (n : ℕ) (xs ys : List ℕ) → take n (take n xs ++ ys) ≡ take n (xs ++ ys)
take_on zero xs ys = refl
take_on (suc n) [] ys = refl
take_on (suc n) (x ∷ xs) ys = ap (λ (l : List ℕ). x ∷ l) (take_on n xs ys)

pub front_on : (front behind ys : List ℕ) → front ≡ front_of behind → front_of (front ++ ys) ≡ front_of (behind ++ ys)
front_on front behind ys e = ap (λ (l : List ℕ). front_of (l ++ ys)) e ∙ take_on 7 behind ys

pub front_none : (behind : List ℕ) → front_of behind ≡ [] → behind ≡ []
front_none [] e = refl
front_none (b ∷ behind) e = let odd : front_of (b ∷ behind) ≡ [] = e in cc

-- ---- the one line that stops

never_stop : (o p : Option ℕ) → kill_or o (up_or_unknown p) ≡ Stop → ⊥
never_stop (Some n) p e = cc
never_stop None (Some n) e = cc
never_stop None None e = cc

not_report : (b : Bool) (line : List ℕ) → bytes_eq line (codes "report") ≡ b → bytes_eq line (codes "stop") ≡ false → command_of line ≡ Stop → ⊥
not_report true line r s e = let is : command_of line ≡ Report = rw (s, r) refl in let odd : Report ≡ Stop = sym is ∙ e in cc
not_report false line r s e =
    let is : command_of line ≡ kill_or (node_behind (codes "kill ") line) (up_or_unknown (node_behind (codes "up ") line)) = rw (s, r) refl in
    never_stop (node_behind (codes "kill ") line) (node_behind (codes "up ") line) (sym is ∙ e)

stop_by : (b : Bool) (line : List ℕ) → bytes_eq line (codes "stop") ≡ b → command_of line ≡ Stop → line ≡ codes "stop"
stop_by true line s e = (bytes_eq-Decides line (codes "stop")).0 s
stop_by false line s e = absurd (not_report (bytes_eq line (codes "report")) line refl s e)

pub stop_is : (line : List ℕ) → command_of line ≡ Stop → line ≡ codes "stop"
stop_is line e = stop_by (bytes_eq line (codes "stop")) line refl e
