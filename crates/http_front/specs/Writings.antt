-- How the replies of a connection were written.
use Rattle.std.specs.Prelude.{◌≡◌, List, ℕ, Option}
use Rattle.std.specs.Io.KnownBytes.{Appends}
use Rattle.http_bytes.specs.declared.fault.WireFault.TheVariants.{NoMemory}
use Rattle.http_front.specs.declared.ends.HttpEnd.{HttpEnd}
use Rattle.http_front.specs.declared.ends.HttpEnd.TheVariants.{Fault}
use Rattle.http_front.specs.Exchanges.{Exchange}
use Rattle.http_front.specs.Served.{Scene, replies_of}

-- each was written whole, and behind the last of them, if anything, what tells of bytes that are no request
pub record AreWritten (xs : List Exchange) (a b : Scene) : Type 0 where
  pub written : Option (List ℕ)
  pub replied : Appends a.written written (replies_of xs)
  pub told : List ℕ
  pub behind : Appends written b.written told

-- the connection ended since memory was wanted
abbrev pub WantsMemory : HttpEnd → Type 0
WantsMemory end = end ≡ Fault NoMemory
