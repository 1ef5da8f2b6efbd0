-- Worked values by which a reader tries what is told of desks and of mail words.
use Rattle.std.specs.Prelude.{ℕ, ◌==◌, ◌||◌, [], ◌∷◌, if◌then◌else◌}
use Rattle.push_model.specs.declared.ids.Uaid.{Uaid}
use Rattle.push_model.specs.declared.entry.Entry.{Entry}
use Rattle.push_model.specs.declared.mail.MailChange.TheVariants.{Post, Taken}
use Rattle.push_model.specs.declared.mail.MailEntry.{MailEntry}
use Rattle.push_model.specs.declared.step.Step.{Step}
use Rattle.push_model.specs.declared.step.Step.TheVariants.{Tick}
use Rattle.push_model.specs.declared.reply.Reply.{Reply}
use Rattle.push_model.specs.declared.reply.Reply.TheVariants.{Done}
use Rattle.push_model.specs.Worlds.{start}
use Rattle.push_model.specs.Histories.{entry}
use Rattle.push_model.specs.MailWords.{mail_entry}
use Rattle.push_model.specs.DeskViews.{DeskView}

abbrev pub uaid_of : ℕ → Uaid
uaid_of n = record { 0 = n }

-- a tick to that moment
abbrev pub ticked : ℕ → ℕ → Entry Step Reply
ticked by moment = entry by (Tick moment) Done

abbrev pub posted : ℕ → ℕ → MailEntry
posted by bits = mail_entry by (Post bits)

abbrev pub taken : ℕ → ℕ → MailEntry
taken by bits = mail_entry by (Taken bits)

-- Two shards. On the shard 0 the numbers 3 and 4 are own and 3 signs, on the shard 1 only 5. Each was ticked three times by
-- these. In the mail word of the node 2 of the shard 0 two bits were posted, and taken; all other words are untouched.
abbrev pub worked_view : DeskView
worked_view =
    record {
      size = 2;
      board = λ k. [];
      number = λ k. if k == 0 then 3 else 5;
      is_own = λ k n. if k == 0 then (n == 3) || (n == 4) else (n == 5);
      opened = λ k. start k 1;
      seen = λ k. if k == 0 then ticked 3 1 ∷ ticked 5 2 ∷ ticked 4 3 ∷ [] else ticked 3 1 ∷ ticked 5 2 ∷ ticked 4 3 ∷ [];
      mail = λ k n. if (k == 0) then (if n == 2 then posted 3 1 ∷ posted 5 4 ∷ taken 4 5 ∷ [] else []) else [];
    }
