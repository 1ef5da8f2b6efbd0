use Rattle.std.proofs.Common.{◌≡◌, false, true, not, sym, ◌∙◌, arith, Bool}
use Rattle.std.specs.Prelude.{codes, string_bytes}
use Rattle.std.proofs.lemmas.Slice.Eq.{bytes_eq-Decides}
use Rattle.serve_words.proofs.PlanLemmas.{five_words, some_words}
use Rattle.serve_words.proofs.reads.read_serve.Goals as goal

not_false : (b c : Bool) → c ≡ not b → c ≡ false → b ≡ true
not_false true c e f = cc
not_false false c e f = let odd : true ≡ false = sym e ∙ f in cc

pub returns-else-ne-clause-some : goal.returns-else-ne-clause-some
returns-else-ne-clause-some c =
    let name : string_bytes c.name-item.result ≡ codes "serve" = sym c.as_str.ensures.value ∙ (bytes_eq-Decides c.as_str.result.now (codes "serve")).0 (not_false _ _ c.ne.ensures c.if-ne.false) in
    some_words c.plan_of.result (string_bytes c.name-item.result) c.as_str-in-len5.result.now c.as_str-in-len5-2.result.now c.as_str-in-len5-3.result.now c.as_str-in-len5-4.result.now _
    (five_words string_bytes c.args.words.now c.name-item.result c.connections-item.result c.endpoints-item.result c.connection_port-item.result c.endpoint_port-item.result
    (omega arith) (omega arith) c.name-item.is c.connections-item.is c.endpoints-item.is c.connection_port-item.is c.endpoint_port-item.is
    ∙ rw (c.as_str-in-len5.ensures.value, c.as_str-in-len5-2.ensures.value, c.as_str-in-len5-3.ensures.value, c.as_str-in-len5-4.ensures.value))
    name c.plan_of.ensures.some
