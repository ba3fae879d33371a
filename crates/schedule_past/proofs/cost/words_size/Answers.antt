use Rattle.std.proofs.Common.{Some, length}
use Rattle.schedule_past.proofs.Sizing.{counted_more}
use Rattle.schedule_past.proofs.cost.words_size.Goals as goal

pub loop-word-preserved : goal.loop-word-preserved
loop-word-preserved c =
    counted_more (λ w. length w) c.args.words.now c.loop-word.word-index c.word-item.result c.loop-word.size (Some c.len.result) c.sum-size.result c.loop-word-test.true c.word-item.is c.len.ensures c.sum-size.ensures c.loop-word.invariant
