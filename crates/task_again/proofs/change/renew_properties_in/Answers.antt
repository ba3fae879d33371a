use Rattle.std.proofs.Common.{ap, rules, codes}
use Rattle.envelope_trees.proofs.Changes.{member_changed, member_absent}
use Rattle.task_message.specs.Again.{properties_again}
use Rattle.task_again.proofs.change.renew_properties_in.Goals as goal

pub returns-in_ok-renew_properties : goal.returns-in_ok-renew_properties
returns-in_ok-renew_properties c =
    let w = c.renew_properties.new.properties in
    member_changed (codes "properties") (properties_again c.args.tag.0) (c.get_mut.follows.lender w) c.in-Some.map.now.entries c.in-Some-get_mut.properties.now w _ (c.get_mut.follows.holds w).0 c.in-Some-get_mut.ensures.value c.in_ok-renew_properties.ensures c.in-Some.ensures.value

pub returns-in_default-get_mut : goal.returns-in_default-get_mut
returns-in_default-get_mut c =
    member_absent (codes "properties") (properties_again c.args.tag.0) c.get_mut.follows.lender-at-none c.in-Some.map.now.entries _ (ap (λ m. m.entries) c.get_mut.follows.holds-at-none) (search rules) c.in-Some.ensures.value
