use Rattle.std.proofs.Common.{◌≡◌, ℕ, List, length, Result, Ok, Err, sym, ap, ◌∙◌, arith}
use Rattle.std.specs.Prelude.{IfOk, IfErr, is_ok}
use Rattle.std.specs.Bool.{OnTrue}
use Rattle.base64.specs.declared.decode.DecodeError.{DecodeError}
use Rattle.base64.specs.Engines.{url_safe_no_pad}
use Rattle.base64.specs.GeneralPurpose.{IsBytes, IsDecodedInto, decode_of}
use Rattle.endpoint_token.specs.TokenTexts.{IsToken, is_token_text, spelled}
use Rattle.endpoint_token.proofs.SpellingLemmas.{is_token_text-spelled, refused, spelled_by}
use Rattle.endpoint_token.proofs.texts.read_into.Goals as goal

decided : (r : Result ℕ DecodeError) (s old new : List ℕ) → length s ≡ 32 → IsBytes s → IsToken (record { 0 = new }) → IfOk r (λ n. IsDecodedInto url_safe_no_pad s n old new) → IfErr r (λ e. decode_of url_safe_no_pad s ≡ Err e) → is_ok r ≡ is_token_text s
decided (Ok n) s old new long bytes token ok err = sym (ap is_token_text (spelled_by s new n long token.long bytes ok.0) ∙ is_token_text-spelled (record { 0 = new }) token)
decided (Err e) s old new long bytes token ok err = sym (refused s e bytes err)

spells : (r : Result ℕ DecodeError) (s old new : List ℕ) → length s ≡ 32 → IsBytes s → length new ≡ 24 → IfOk r (λ n. IsDecodedInto url_safe_no_pad s n old new) → OnTrue (is_ok r) (s ≡ spelled (record { 0 = new }))
spells (Ok n) s old new long bytes room ok = spelled_by s new n long room bytes ok.0
spells (Err e) s old new long bytes room ok = tt

pub returns-clause-value : goal.returns-clause-value
returns-clause-value c =
    c.is_ok.ensures.value ∙ decided c.decode_slice_unchecked.result c.args.text.now c.args.bytes.now c.decode_slice_unchecked.new.output c.requires.characters
    (λ i. let f = c.type_inv.text i in omega arith)
    (record { long = omega arith; bytes = λ i. let f = c.type_inv.bytes i in omega arith })
    c.decode_slice_unchecked.ensures.ok c.decode_slice_unchecked.ensures.err

pub returns-clause-spelled : goal.returns-clause-spelled
returns-clause-spelled c =
    rw c.is_ok.ensures.value (spells c.decode_slice_unchecked.result c.args.text.now c.args.bytes.now c.decode_slice_unchecked.new.output c.requires.characters
    (λ i. let f = c.type_inv.text i in omega arith) (omega arith) c.decode_slice_unchecked.ensures.ok)
