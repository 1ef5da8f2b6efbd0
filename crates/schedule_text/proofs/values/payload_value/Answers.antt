use Rattle.std.proofs.Common.{arith, rules}
use Rattle.schedule_text.proofs.ValueLaws.{payload_dot, payload_read, payload_other}
use Rattle.schedule_text.proofs.values.payload_value.Goals as goal
use Rattle.schedule_text.proofs.values.payload_value.Goals.{then-word-lt2-via-then-word-lt2, then-word-lt2-via-else-word-lt2+then-word-gt8192, then-word-lt2-via-else-word-lt2+else-word-gt8192+then-word-ne0}

pub returns-then-eq-clause-value : goal.returns-then-eq-clause-value
returns-then-eq-clause-value c = search (rules, payload_dot)

pub returns-then-word-lt2-clause-value : goal.returns-then-word-lt2-clause-value
returns-then-word-lt2-clause-value c =
    payload_other c.args.word.now (search rules) (λ some short even all.
    elim c.then-word-lt2.branch [
      | then-word-lt2-via-then-word-lt2 w ↦ absurd (omega arith)
      | then-word-lt2-via-else-word-lt2+then-word-gt8192 w ↦ absurd (omega arith)
      | then-word-lt2-via-else-word-lt2+else-word-gt8192+then-word-ne0 w ↦ absurd (omega arith)
    ])

pub returns-then-are_digits-clause-value : goal.returns-then-are_digits-clause-value
returns-then-are_digits-clause-value c = payload_read c.args.word.now (omega arith) (omega arith) (omega arith) (search rules)

pub returns-else-are_digits-clause-value : goal.returns-else-are_digits-clause-value
returns-else-are_digits-clause-value c = payload_other c.args.word.now (search rules) (λ some short even all. cc)
