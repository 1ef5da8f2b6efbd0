use Rattle.std.proofs.Common.{◌≡◌, ℕ, ◌↔◌, [], ◌∷◌, refl, arith}
use Rattle.push_model.specs.declared.ask.Coding.TheVariants.{Bare, Aes128gcm}
use Rattle.push_model.specs.AskValue.{IsHeaderValue}
use Rattle.push_model.proofs.pins.asks_are_limited.Goals as goal

no_header : IsHeaderValue Aes128gcm []
no_header = record { short = omega arith; printable = refl; unused = λ n. refl }

not_bare : (n : ℕ) → (Aes128gcm ≡ Bare) ↔ (n ∷ [] ≡ [])
not_bare n = (λ e. cc, λ e. cc)

pub returns-clause-longest : goal.returns-clause-longest
returns-clause-longest c = record { ttl = omega arith; size = omega arith; bare = not_bare 7; encryption = no_header; crypto_key = no_header }

pub returns-clause-too_long : goal.returns-clause-too_long
returns-clause-too_long c = λ h. let most = h.ttl in absurd (omega arith)
