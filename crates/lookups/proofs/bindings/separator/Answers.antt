use Rattle.std.proofs.Common.{◌∙◌, ◌∷◌, [], ap, sym}
use Rattle.queue_keys.specs.Names.{has_front}
use Rattle.lookups.proofs.Members.{passed}
use Rattle.lookups.proofs.bindings.separator.Goals as goal

pub loop-place-preserved : goal.loop-place-preserved
loop-place-preserved c =
    passed c.args.text.now c.loop-place.place c.loop-place-test.true (ap (has_front (6 ∷ 22 ∷ [])) (sym c.after.ensures.rest) ∙ sym c.is_separated.ensures.told ∙ c.if-is_separated.false) ∙ c.loop-place.invariant
