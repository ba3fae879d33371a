use Rattle.std.proofs.Common.{◌≡◌, ◌<◌, ◌^◌, sym, subst, rules}
use Rattle.serde_json.specs.View.{view as data_of}
use Rattle.envelope.specs.Envelopes.{parts_in}
use Rattle.task_message.specs.Again.{again_tree}
use Rattle.task_again.specs.Whole.{IsWhole}
use Rattle.task_again.proofs.WholeAgain.{whole_again}
use Rattle.task_again.proofs.sending.tree_again.Goals as goal

pub returns-clause-whole : goal.returns-clause-whole
returns-clause-whole c =
    let d = data_of c.args.e.now in
    let same : data_of c.renew_body.new.tree ≡ again_tree (data_of c.args.e.now) c.args.t.now.version c.args.next.retries c.args.tag.0 c.args.next.eta.0 = search rules in
    let fits : c.args.tag.0 < 2 ^ 128 = search rules in
    subst IsWhole (sym same) (whole_again d (parts_in d) c.args.t.now.version c.args.next.retries c.args.tag.0 c.args.next.eta.0 fits c.tree.ensures.said c.in_ok-renew_body.ensures.body)
