-- When a message expires.
use Rattle.std.specs.Prelude.{ℕ, ◌+◌, ◌==◌, Option, Some, None, if◌then◌else◌}
use Rattle.push_model.specs.MessageValue.{MessageValue}

-- the moment from which it is expired; with ttl 0 it never is
abbrev pub expires_at : MessageValue → Option ℕ
expires_at m = if m.ask.terms.ttl == 0 then None else Some (m.accepted + m.ask.terms.ttl)
