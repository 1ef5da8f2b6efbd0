use Rattle.std.proofs.Common.{◌≡◌, ◌++◌, drop}
use Rattle.std.specs.Prelude.{codes}
use Rattle.std.specs.List.{flat_map}
use Rattle.std.specs.String.{string_bytes}
use Rattle.schedule_text.specs.Words.{word}
use Rattle.schedule_text.specs.Replies.{user_word}
use Rattle.schedule_text.proofs.reply.users_line.Given as goal

abbrev pub invariant-loop-place : goal.invariant-loop-place
invariant-loop-place l = string_bytes l.text ++ flat_map (λ u. word (user_word u)) (drop l.place l.users) ≡ codes "users" ++ flat_map (λ u. word (user_word u)) l.users
