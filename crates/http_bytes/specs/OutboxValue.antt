-- What callers see of an outbox.
use Rattle.std.specs.Prelude.{ℕ, List, Option}
use Rattle.http_bytes.specs.declared.fault.WireFault.{WireFault}

pub record OutboxValue : Type 0 where
  pub text : List ℕ
  pub fault : Option WireFault
