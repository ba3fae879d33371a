use Rattle.std.proofs.Common.{◌≡◌, sym, ap, ◌∙◌, subst, rules}
use Rattle.std.specs.Prelude.{IsUtf8}
use Rattle.base64.specs.Engines.{standard}
use Rattle.base64.specs.GeneralPurpose.{decode_of}
use Rattle.envelope_trees.specs.Reading.{needed}
use Rattle.envelope_trees.specs.declared.fault.EnvelopeFault.TheVariants.{BadBody}
use Rattle.envelope.proofs.Texts.{content_some, content_no_text, content_no_base64}
use Rattle.envelope.proofs.reading.content.Goals as goal

pub returns-in-Err-DecodeError : goal.returns-in-Err-DecodeError
returns-in-Err-DecodeError c =
    let failed = rw c.in-Err-DecodeError.field-0-is at c.in-Err-DecodeError.ensures.err in
    ap (needed BadBody) (content_no_base64 c.args.body.now _ (ap (decode_of standard) (sym c.as_bytes.ensures.value) ∙ failed))

pub returns-in-Ok-from_utf8 : goal.returns-in-Ok-from_utf8
returns-in-Ok-from_utf8 c =
    let is : c.from_vec.result ≡ c.in-Ok.bytes.items = search rules in
    rw is (ap (needed BadBody) (content_some c.args.body.now c.in-Ok.bytes.items (ap (decode_of standard) (sym c.as_bytes.ensures.value) ∙ c.in-Ok.ensures.ok) (subst IsUtf8 c.deref.ensures.value c.in-Ok-from_utf8.ensures.cases.1)))

pub returns-in-Err : goal.returns-in-Err
returns-in-Err c =
    ap (needed BadBody) (content_no_text c.args.body.now c.in-Ok.bytes.items (ap (decode_of standard) (sym c.as_bytes.ensures.value) ∙ c.in-Ok.ensures.ok) (λ u. c.in-Err.ensures.cases.0 (subst IsUtf8 (sym c.deref.ensures.value) u)))
