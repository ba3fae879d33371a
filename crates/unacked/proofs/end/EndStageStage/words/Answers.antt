use Rattle.unacked.specs.Ends.{end_stage_left}
use Rattle.unacked.proofs.Ends.{words_at}
use Rattle.unacked.proofs.end.EndStageStage.words.Goals as goal

pub returns-clause-words : goal.returns-clause-words
returns-clause-words c = words_at c.end_words.result (end_stage_left c.args.self.now) c.args._at c.end_words.ensures.words
