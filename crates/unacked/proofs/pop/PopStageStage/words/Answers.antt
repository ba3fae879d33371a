use Rattle.std.proofs.Common.{◌≡◌, sym, subst, Some}
use Rattle.std.specs.Prelude.{IfOk}
use Rattle.serde_json.specs.View.{view as data_of}
use Rattle.store_model.specs.Words.{Words}
use Rattle.command_blocks.specs.Scripts.{next_words}
use Rattle.unacked.specs.Pops.{index_words, popping_left, table_words}
use Rattle.unacked.specs.Steps.{steps_left}
use Rattle.unacked.specs.declared.pop.Delivery.{Delivery}
use Rattle.unacked.proofs.pop.PopStageStage.words.Goals as goal

pub returns-in-Keeping-clause-words : goal.returns-in-Keeping-clause-words
returns-in-Keeping-clause-words c =
    subst (λ q. IfOk c.keep_words.result (λ (words : Words). Some words ≡ next_words (popping_left q) c.args.at)) (sym c.in-Keeping.is)
    (subst (λ (d : Delivery). IfOk c.keep_words.result (λ (words : Words). Some words ≡ next_words (steps_left (index_words (data_of d.envelope)) (table_words (data_of d.envelope)) c.in-Keeping.step) c.args.at)) c.deref.ensures
    c.keep_words.ensures.words)
