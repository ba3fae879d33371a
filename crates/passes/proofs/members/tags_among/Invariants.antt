use Rattle.std.proofs.Common.{drop}
use Rattle.passes.proofs.Tagged.{AreFound}
use Rattle.passes.proofs.members.tags_among.Given as goal

abbrev pub invariant-loop-member : goal.invariant-loop-member
invariant-loop-member l = AreFound l.members l.tags (drop l.member-index l.members)
