-- What the one seat knows, and what its notes keep.
use Rattle.std.specs.Prelude.{◌≡◌, ◌==◌, ℕ, zero, suc, List, [], ◌∷◌, ◌++◌, map, length, slice_index_or, slice_set}
use Rattle.atomic_table.specs.Table.{State, Me}
use Rattle.atomic_table.specs.Table as table
use Rattle.push_model.specs.declared.entry.Entry.{Entry}
use Rattle.push_model.specs.declared.mail.MailChange.TheVariants.{Post, Taken}
use Rattle.push_model.specs.declared.mail.MailEntry.{MailEntry}
use Rattle.push_model.specs.declared.reply.Reply.{Reply}
use Rattle.push_model.specs.declared.step.Step.{Step}
use Rattle.push_model.specs.DeskViews.{entry_by, own_among}
use Rattle.push_model.specs.Worlds.{World}
use Rattle.push_model.specs.Steps.{proper, step}
use Rattle.push_model.specs.Histories.{AllProper, IsLegal, world_after}
use Rattle.push_model.specs.MailWords.{IsLegalMail, mail_entry, out}
use Rattle.lone_desk.specs.declared.notes.Notes.{Notes}

-- nothing was done yet
abbrev pub fresh : World → Notes
fresh w = record { first = w; seen = []; mail = [] ∷ [] ∷ [] ∷ [] ∷ [] ∷ [] ∷ [] ∷ [] ∷ [] }

abbrev pub with_entries : Notes → List (Entry Step Reply) → Notes
with_entries n es = record { first = n.first; seen = n.seen ++ es; mail = n.mail }

-- what was done to the mail word of that node, of the lists for the nodes 1 to 8
abbrev pub mail_in : List (List MailEntry) → ℕ → List MailEntry
mail_in ls zero = []
mail_in ls (suc k) = slice_index_or ls k []

abbrev pub mail_at : Notes → ℕ → List MailEntry
mail_at n node = mail_in n.mail node

-- the lists with one entry more for that node
abbrev pub mail_with : List (List MailEntry) → ℕ → MailEntry → List (List MailEntry)
mail_with ls zero e = ls
mail_with ls (suc k) e = slice_set ls k (slice_index_or ls k [] ++ e ∷ [])

abbrev pub with_mail : Notes → ℕ → MailEntry → Notes
with_mail n node e = record { first = n.first; seen = n.seen; mail = mail_with n.mail node e }

-- ---- the table

-- There is one seat. The words are a count that says nothing, and for each node the bits that are out.
pub record Kept (s : State (Unit {0}) Notes) : Type 0 where
  pub notes : Notes
  pub count : ℕ
  pub one : s.views ≡ notes ∷ []
  pub words : s.words ≡ count ∷ map out notes.mail
  pub eight : length notes.mail ≡ 8

-- what a step on the word of a node tells
abbrev pub Posted : table.Step (Unit {0}) → Me (Unit {0}) Notes → ℕ → Me (Unit {0}) Notes → Type 0
Posted st me found m = m.0 ≡ with_mail me.0 st.word (mail_entry 0 (Post st.first))

abbrev pub Took : table.Step (Unit {0}) → Me (Unit {0}) Notes → ℕ → Me (Unit {0}) Notes → Type 0
Took st me found m = (m.0 ≡ with_mail me.0 st.word (mail_entry 0 (Taken found))) × (found ≡ out (mail_at me.0 st.word))

-- ---- what is always so of the notes of a shard that is in the world w by now

pub record IsNoted (n : Notes) (w : World) : Type 0 where
  pub numbered : n.first.shard ≡ 0
  pub legal : IsLegal step n.first n.seen
  pub leads : world_after step n.first n.seen ≡ w
  pub each_proper : AllProper proper n.seen
  pub alone : own_among entry_by (λ by. by == 0) n.seen ≡ n.seen
  pub eight : length n.mail ≡ 8
  pub mail : (node : ℕ) → IsLegalMail (mail_at n node)
