use Rattle.std.proofs.Common.{◌≡◌, ◌+◌, List, ℕ, ap, ◌∙◌, sym, drop, add-one}
use Rattle.schedule_text.specs.Reading.{after_word}
use Rattle.schedule_text.specs.Wrongs.{behind}
use Rattle.schedule_text.proofs.wrong.wrong_behind.Goals as goal

pub loop-place-preserved : goal.loop-place-preserved
loop-place-preserved c =
    let next : c.cut.result.1.now ≡ after_word (drop 1 c.loop-place.rest.now) = c.cut.ensures.back ∙ ap after_word c.behind_space.ensures in
    rw add-one (next ∙ ap (λ (rest : List ℕ). after_word (drop 1 rest)) c.loop-place.invariant)
