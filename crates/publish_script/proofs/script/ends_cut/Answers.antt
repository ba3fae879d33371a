use Rattle.publish_script.proofs.Numbered.{cut_at_none, cut_at_some}
use Rattle.publish_script.proofs.script.ends_cut.Goals as goal

pub returns-in-Some : goal.returns-in-Some
returns-in-Some c = λ rest. cut_at_some c.args.is_cut c.args.next.now _ rest c.in-Some.is

pub returns-in-None : goal.returns-in-None
returns-in-None c = λ rest. cut_at_none c.args.is_cut c.args.next.now rest c.in-None.is
