use Rattle.std.proofs.Common.{Some, ap, sym, ◌∙◌}
use Rattle.serde_json.specs.View.{view as data_of}
use Rattle.delivery_tags.specs.Tags.{tag_text}
use Rattle.envelope_laws.proofs.Entered.{entered}
use Rattle.manner_texts.proofs.Texts.{tag_said}
use Rattle.manner_texts.proofs.popped.popped.Goals as goal

pub returns : goal.returns
returns c =
    let d = data_of c.args.envelope.now in
    let v = c.args.bytes.now in
    (tag_said v d c.requires ∙ ap (λ n. Some (tag_text n)) (sym c.tag.ensures), c.in_ok-entry.ensures.text ∙ sym (entered v d c.requires).0)
