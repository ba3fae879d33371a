use Rattle.std.proofs.Common.{refl, sym, subst, ap, ◌∙◌}
use Rattle.std.specs.Prelude.{IsUtf8}
use Rattle.base64.specs.Engines.{standard}
use Rattle.base64.specs.GeneralPurpose.{decode_of, encode_of}
use Rattle.task_again.specs.Whole.{IsBody}
use Rattle.task_again.proofs.Texts.{content_back}
use Rattle.task_again.proofs.body.encoded.Goals as goal

pub returns-clause-body : goal.returns-clause-body
returns-clause-body c =
    let text = c.as_slice.result.now in
    let back = ap (decode_of standard) (sym c.in_ok-body.ensures.text) ∙ c.in_ok-body.ensures.round_trip refl in
    let utf8 = subst IsUtf8 (sym c.as_slice.ensures.value) c.in_ok-text.ensures.utf8 in
    subst (λ x. IsBody (encode_of standard x)) (c.as_slice.ensures.value ∙ c.in_ok-text.ensures.text c.requires) (text, content_back text back utf8)
