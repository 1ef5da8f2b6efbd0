-- Where 65,536 bytes are open.
use Rattle.std.proofs.Common.{◌≡◌, ℕ, List, [], length, sym}
use Rattle.std.proofs.lemmas.List.{append-nil}
use Rattle.http_bytes.specs.Breaks.{IsFull}

pub full_now : (Open : List ℕ → Type 0) (seen : List ℕ) → length seen ≡ 65536 → Open seen → IsFull Open seen
full_now Open seen size open_front = record { front = seen; rest = []; parts = sym (append-nil seen); size = size; open_front = open_front }
