-- What a head and a payload ask for.
use Rattle.std.specs.Prelude.{◌≡◌, ℕ, List, [], ◌∷◌, Result, Ok, Err, codes}
use Rattle.push_model.specs.AskValue.{AskValue}
use Rattle.push_model.specs.declared.ask.Terms.{Terms}
use Rattle.push_model.specs.declared.ask.Coding.{Coding}
use Rattle.push_model.specs.declared.ask.Coding.TheVariants.{Bare, Aes128gcm, Aesgcm}
use Rattle.http_wire.specs.HeadValue.{HeadValue}
use Rattle.http_wire.specs.Heads.{values_of}
use Rattle.push_headers.specs.Terms.{terms_of}
use Rattle.push_headers.specs.declared.ask.AskFault.{AskFault}
use Rattle.push_headers.specs.declared.ask.AskFault.TheVariants.{Head, NoMemory}

-- the value of Encryption or Crypto-Key, which the older draft alone uses
abbrev pub parameter_of : Coding → List (List ℕ) → List ℕ
parameter_of Aesgcm [] = []
parameter_of Aesgcm (v ∷ []) = v
parameter_of Aesgcm (a ∷ b ∷ more) = []
parameter_of Bare values = []
parameter_of Aes128gcm values = []

-- with these terms
abbrev pub ask_with : HeadValue → List ℕ → Terms → AskValue
ask_with h payload terms =
    record {
      terms = terms;
      encryption = parameter_of terms.coding (values_of (codes "encryption") h.lines);
      crypto_key = parameter_of terms.coding (values_of (codes "crypto-key") h.lines);
      payload = payload;
    }

-- what was asked for
pub record Asks (h : HeadValue) (payload : List ℕ) (ask : AskValue) : Type 0 where
  pub terms : terms_of h ≡ Ok ask.terms
  pub whole : ask ≡ ask_with h payload ask.terms

-- the head's first fault; memory is wanted only for a head without one
abbrev pub IsAskFault : AskFault → HeadValue → Type 0
IsAskFault (Head fault) h = terms_of h ≡ Err fault
IsAskFault NoMemory h = (terms : Terms) × (terms_of h ≡ Ok terms)
