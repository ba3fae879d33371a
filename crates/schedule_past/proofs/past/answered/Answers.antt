use Rattle.std.proofs.Common.{◌≡◌, ◌+◌, rules, arith, ap, ◌∙◌}
use Rattle.std.proofs.lemmas.Grind.{common_steps}
use Rattle.schedule_model.specs.Costs.{reply_size, words_size}
use Rattle.schedule_past.proofs.past.answered.Goals as goal

pub returns-clause-cost : goal.returns-clause-cost
returns-clause-cost c =
    let spoken : c.in-Some.cost ≡ 64 + words_size c.args.words.now + reply_size c.args.reply.now = c.in-Some.ensures ∙ ap (λ ws. 64 + words_size ws + reply_size c.args.reply.now) c.as_slice.ensures in
    let whole : c.in-Some-checked_add.cost ≡ c.args.before + c.in-Some.cost = first_of (search rules, grind (arith, common_steps), omega arith) in
    whole ∙ ap (λ n. c.args.before + n) spoken
