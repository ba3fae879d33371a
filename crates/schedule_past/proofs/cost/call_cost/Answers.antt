use Rattle.std.proofs.Common.{refl, subst, sum_by, ◌+◌}
use Rattle.schedule_model.specs.Costs.{bulk_size, reply_size, words_size}
use Rattle.schedule_past.specs.Counted.{IsCounted}
use Rattle.schedule_past.proofs.cost.call_cost.Goals as goal

pub returns : goal.returns
returns c =
    let pushed = subst (λ vs. IsCounted (sum_by bulk_size vs) c.values_size.result) c.as_slice.ensures c.values_size.ensures in
    c.sum.ensures (64 + words_size c.args.words.now) (reply_size c.args.reply.now)
    (c.sum-said.ensures 64 (words_size c.args.words.now) refl c.words_size.ensures)
    (c.sum-heard.ensures (sum_by bulk_size c.args.reply.now.pushed) (bulk_size c.args.reply.now.answer) pushed c.bulk_size.ensures)
