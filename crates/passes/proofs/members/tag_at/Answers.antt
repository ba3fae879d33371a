use Rattle.passes.proofs.Tagged.{tag_there}
use Rattle.passes.proofs.members.tag_at.Goals as goal

pub returns-then-place-tags : goal.returns-then-place-tags
returns-then-place-tags c = tag_there c.args.tags.now c.args.place (record { 0 = 0 }) c.if-place-tags.true
