use Rattle.passes.proofs.Tagged.{not_added, was_added}
use Rattle.passes.proofs.members.add_read.Goals as goal

pub returns-in-Some : goal.returns-in-Some
returns-in-Some c = was_added c.push.result c.args.tags.now c.push.new.self c.args.member.now c.in-Some.tag c.read.result c.push.ensures.ok c.read.ensures.value c.in-Some.is

pub returns-in-None : goal.returns-in-None
returns-in-None c = not_added c.args.tags.now c.args.member.now c.read.result c.read.ensures.value c.in-None.is
