use Rattle.std.proofs.Common.{◌∙◌, ap}
use Rattle.serde_json.specs.View.{view as data_of}
use Rattle.unacked.specs.Pops.{index_words, table_words}
use Rattle.unacked.specs.Steps.{multi_left}
use Rattle.unacked.specs.declared.pop.Delivery.{Delivery}
use Rattle.unacked.proofs.Kept.{kept}
use Rattle.unacked.proofs.pop.delivered.Goals as goal

pub returns-in_ok-delivery-in-Ok-clause-left : goal.returns-in_ok-delivery-in-Ok-clause-left
returns-in_ok-delivery-in-Ok-clause-left c =
    ap (λ (d : Delivery). multi_left (index_words (data_of d.envelope)) (table_words (data_of d.envelope))) c.in_ok-delivery-in-Ok.ensures.ok
    ∙ kept (data_of c.in-Ok.envelope) c.args.element.now c.in-Ok.ensures.value
