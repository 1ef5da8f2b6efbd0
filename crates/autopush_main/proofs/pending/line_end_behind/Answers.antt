use Rattle.std.proofs.Common.{◌≡◌, ℕ, ap, ◌+◌, ◌-◌, ◌<◌, ◌∷◌, drop, take, length, arith, sym, ◌∙◌}
use Rattle.std.proofs.lemmas.List.{drop-drop, length-drop, take_all}
use Rattle.autopush_main.proofs.LfLaws.{NoLf-join, NoLf-further}
use Rattle.autopush_main.proofs.pending.line_end_behind.Goals as goal

pub returns-in-Some : goal.returns-in-Some
returns-in-Some c =
    let k = c.args.scanned in
    let bytes = c.args.bytes.now in
    let whole : take (length bytes - k) (drop k bytes) ≡ drop k bytes = take_all (length bytes - k) (drop k bytes) (omega (arith, length-drop k bytes)) in
    let found = rw whole at c.in-Some.ensures in
    let inside : c.in-Some.n < length bytes - k = rw (← length-drop k bytes) found.0 in
    let behind : drop (c.in-Some.n + 1) (drop k bytes) ≡ drop (k + c.in-Some.n + 1) bytes =
    drop-drop (c.in-Some.n + 1) k bytes ∙ ap (λ (i : ℕ). drop i bytes) (omega arith) in
    (omega arith, NoLf-further k c.in-Some.n bytes c.requires.front found.1, sym (drop-drop c.in-Some.n k bytes) ∙ found.2 ∙ ap (λ l. 10 ∷ l) behind)

pub returns-in-None : goal.returns-in-None
returns-in-None c =
    let k = c.args.scanned in
    let bytes = c.args.bytes.now in
    let whole : take (length bytes - k) (drop k bytes) ≡ drop k bytes = take_all (length bytes - k) (drop k bytes) (omega (arith, length-drop k bytes)) in
    NoLf-join k bytes c.requires.front (rw whole at c.in-None.ensures)
