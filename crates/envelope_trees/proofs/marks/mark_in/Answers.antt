use Rattle.std.proofs.Common.{ap, rules}
use Rattle.envelope_trees.specs.Marks.{marked_object, with_member}
use Rattle.envelope_trees.proofs.Changes.{member_changed, member_absent}
use Rattle.envelope_trees.proofs.marks.mark_in.Goals as goal

pub returns-in_ok-mark_at : goal.returns-in_ok-mark_at
returns-in_ok-mark_at c =
    let w = c.mark_at.new.value in
    member_changed c.args.outer.now (with_member c.args.inner.now marked_object) (c.get_mut.follows.lender w) c.in-Some.map.now.entries c.in-Some-get_mut.member.now w _ (c.get_mut.follows.holds w).0 c.in-Some-get_mut.ensures.value c.in_ok-mark_at.ensures c.in-Some.ensures.value

pub returns-in_default-get_mut : goal.returns-in_default-get_mut
returns-in_default-get_mut c =
    member_absent c.args.outer.now (with_member c.args.inner.now marked_object) c.get_mut.follows.lender-at-none c.in-Some.map.now.entries _ (ap (λ m. m.entries) c.get_mut.follows.holds-at-none) (search rules) c.in-Some.ensures.value
