use Rattle.std.proofs.Common.{ap, rules, codes}
use Rattle.envelope_trees.proofs.Changes.{member_changed, member_absent}
use Rattle.task_message.specs.Again.{headers_again}
use Rattle.task_again.proofs.change.renew_headers_in.Goals as goal

pub returns-in_ok-renew_headers : goal.returns-in_ok-renew_headers
returns-in_ok-renew_headers c =
    let w = c.renew_headers.new.headers in
    member_changed (codes "headers") (headers_again c.args.version c.args.next.retries c.args.next.eta.0) (c.get_mut.follows.lender w) c.in-Some.map.now.entries c.in-Some-get_mut.headers.now w _ (c.get_mut.follows.holds w).0 c.in-Some-get_mut.ensures.value c.in_ok-renew_headers.ensures c.in-Some.ensures.value

pub returns-in_default-get_mut : goal.returns-in_default-get_mut
returns-in_default-get_mut c =
    member_absent (codes "headers") (headers_again c.args.version c.args.next.retries c.args.next.eta.0) c.get_mut.follows.lender-at-none c.in-Some.map.now.entries _ (ap (λ m. m.entries) c.get_mut.follows.holds-at-none) (search rules) c.in-Some.ensures.value
