use Rattle.std.proofs.Common.{◌∙◌, ◌∷◌, [], ap, sym}
use Rattle.delivery_tags.specs.Tags.{is_tag}
use Rattle.manner_laws.specs.Cursor.{same_words, third}
use Rattle.client_asks.proofs.Tests.{first_off, second_off, both_on}
use Rattle.client_asks.proofs.tagged.said_tag.Goals as goal

pub returns-then-not-is_tag : goal.returns-then-not-is_tag
returns-then-not-is_tag c = λ q. first_off (is_tag (third c.args.words.now)) _ (sym (c.is_tag.ensures ∙ ap is_tag c.third-tag.ensures) ∙ c.if-not-is_tag.true)

pub returns-then-not-says_three : goal.returns-then-not-says_three
returns-then-not-says_three c = λ q. second_off (is_tag (third c.args.words.now)) (same_words (c.args.name.now ∷ c.args.key.now ∷ third c.args.words.now ∷ []) c.args.words.now) q
    (sym (c.says_three.ensures ∙ ap (λ t. same_words (c.args.name.now ∷ c.args.key.now ∷ t ∷ []) c.args.words.now) c.third-tag.ensures) ∙ c.if-not-says_three.true)

pub returns : goal.returns
returns c = (
  λ q. both_on (is_tag (third c.args.words.now)) (same_words (c.args.name.now ∷ c.args.key.now ∷ third c.args.words.now ∷ []) c.args.words.now) q
      (sym (c.is_tag.ensures ∙ ap is_tag c.third-tag.ensures) ∙ c.if-not-is_tag.false)
      (sym (c.says_three.ensures ∙ ap (λ t. same_words (c.args.name.now ∷ c.args.key.now ∷ t ∷ []) c.args.words.now) c.third-tag.ensures) ∙ c.if-not-says_three.false),
  c.third-tag.ensures,
)
