use Rattle.std.proofs.Common.{sym, subst, ap, ◌∙◌, codes}
use Rattle.std.specs.Prelude.{IsUtf8}
use Rattle.serde_json.specs.Data.{put, string}
use Rattle.serde_json.specs.View.{view as data_of}
use Rattle.delivery_tags.proofs.TagTexts.{tag_ascii}
use Rattle.envelope_trees.specs.Marks.{on_object}
use Rattle.delivery_tags.specs.Tags.{tag_text}
use Rattle.task_again.proofs.change.renew_properties.Goals as goal

pub text_of-requires : goal.text_of-requires
text_of-requires c = subst IsUtf8 (sym c.text-text.ensures.value) (tag_ascii c.args.tag.0)

pub returns : goal.returns
returns c =
    c.in_ok-put_text.ensures ∙ ap (λ s. on_object (put (codes "delivery_tag") (string s)) (data_of c.unmark_at.new.value)) (c.text_of.ensures ∙ c.text-text.ensures.value)
    ∙ ap (on_object (put (codes "delivery_tag") (string (tag_text c.args.tag.0)))) c.unmark_at.ensures
