use Rattle.std.proofs.Common.{rules, ◌≡◌, ◌∷◌, ◌++◌, [], sym, ◌∙◌}
use Rattle.http_wire.proofs.TextLemmas.{added_lines, added_within, grows_on, lines_at_more}
use Rattle.http_wire.proofs.head.put_lines.Goals as goal

pub loop-span-preserved : goal.loop-span-preserved
loop-span-preserved c =
    let before = c.loop-span.invariant in
    let made = c.in_ok-line.ensures in
    let pushed : c.push.new.self.items ≡ c.loop-span.lines.items ++ c.in_ok-line.line ∷ [] = search rules in
    let lines = added_lines _ _ _ _ _ _ _ made.0 before.1 before.2 made.2 pushed in
    (grows_on _ _ _ before.0 made.0, added_within _ _ _ _ _ made.0 before.1 made.1 pushed, lines ∙ sym (lines_at_more c.args.bytes.now c.args.spans.now c.loop-span.span-index _ c.loop-span-test.true))
