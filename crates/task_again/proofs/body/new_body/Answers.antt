use Rattle.std.proofs.Common.{sym, subst, ap, ◌∙◌}
use Rattle.std.specs.Prelude.{unwrap_or}
use Rattle.base64.specs.Engines.{standard}
use Rattle.base64.specs.GeneralPurpose.{encode_of}
use Rattle.serde_json.specs.Data.{null}
use Rattle.serde_json.specs.Written.{compact_text, has_float}
use Rattle.task_message.specs.Again.{retried}
use Rattle.task_again.specs.Whole.{IsBody}
use Rattle.task_again.proofs.Texts.{retried_whole}
use Rattle.task_again.proofs.body.new_body.Goals as goal

pub encoded-requires : goal.encoded-requires
encoded-requires c = ap has_float (c.in_ok-tree.ensures c.requires.0 c.requires.1) ∙ retried_whole c.args.next.retries c.args.next.eta.0 c.requires.0 c.requires.2

pub returns-clause-body : goal.returns-clause-body
returns-clause-body c =
    let same = c.in_ok-tree.ensures c.requires.0 c.requires.1 ∙ ap (λ o. retried c.args.next.retries c.args.next.eta.0 (unwrap_or o null)) (sym c.requires.1) in
    subst (λ x. IsBody (encode_of standard (compact_text x))) same c.in_ok-body.ensures.body
