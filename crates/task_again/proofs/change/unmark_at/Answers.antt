use Rattle.std.proofs.Common.{ap, rules}
use Rattle.envelope_trees.proofs.Changes.{member_changed, member_absent}
use Rattle.task_message.specs.Again.{unmarked}
use Rattle.task_again.proofs.change.unmark_at.Goals as goal

pub returns-in-Some-get_mut : goal.returns-in-Some-get_mut
returns-in-Some-get_mut c =
    let w = c.unmark.new.value in
    member_changed c.args.name.now unmarked (c.get_mut.follows.lender w) c.in-Some.map.now.entries c.in-Some-get_mut.member.now w _ (c.get_mut.follows.holds w).0 c.in-Some-get_mut.ensures.value c.unmark.ensures c.in-Some.ensures.value

pub returns-in_default-get_mut : goal.returns-in_default-get_mut
returns-in_default-get_mut c =
    member_absent c.args.name.now unmarked c.get_mut.follows.lender-at-none c.in-Some.map.now.entries _ (ap (λ m. m.entries) c.get_mut.follows.holds-at-none) (search rules) c.in-Some.ensures.value
