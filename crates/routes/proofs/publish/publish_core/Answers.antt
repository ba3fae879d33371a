use Rattle.std.proofs.Common.{◌≡◌, ◌∙◌, Ok, ap, subst, sym}
use Rattle.serde_json.specs.View.{view as data_of}
use Rattle.serde_json.specs.Written.{compact_text}
use Rattle.command_blocks.specs.Scripts.{Publish}
use Rattle.envelope.specs.Envelopes.{envelope_at}
use Rattle.routes.specs.Publishes.{BeginsOn}
use Rattle.routes.proofs.Publishes.{first_had, first_left, lawful_publication}
use Rattle.routes.proofs.publish.publish_core.Goals as goal

pub returns-clause-left : goal.returns-clause-left
returns-clause-left c =
    c.new.ensures.left ∙ first_left (data_of c.args.envelope) c.requires c.first_of-next.result (ap envelope_at (sym c.text-text.ensures.value) ∙ c.text-text.ensures.again)
    (subst (λ e. BeginsOn e c.first_of-next.result) c.exchange.ensures.value c.first_of-next.ensures)

pub returns-clause-lawful : goal.returns-clause-lawful
returns-clause-lawful c = lawful_publication (data_of c.args.envelope) c.requires (ap envelope_at (sym c.text-text.ensures.value) ∙ c.text-text.ensures.again)

pub returns-clause-traced : goal.returns-clause-traced
returns-clause-traced c s p =
    let again : envelope_at (compact_text (data_of c.args.envelope)) ≡ Ok (data_of c.args.envelope) = ap envelope_at (sym c.text-text.ensures.value) ∙ c.text-text.ensures.again in
    let first = subst (λ e. BeginsOn e c.first_of-next.result) c.exchange.ensures.value c.first_of-next.ensures in
    c.new.ensures.traced s p (Publish (compact_text (data_of c.args.envelope)))
    (first_left (data_of c.args.envelope) c.requires c.first_of-next.result again first)
    (again, first_had (data_of c.args.envelope) c.requires c.first_of-next.result first)
