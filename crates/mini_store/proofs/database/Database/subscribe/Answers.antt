use Rattle.std.proofs.Common.{ap, ◌∙◌}
use Rattle.store_model.specs.Replies.{channel_answer}
use Rattle.mini_store.proofs.Steps.{subscribe_done}
use Rattle.mini_store.proofs.database.Database.subscribe.Goals as goal

pub returns : goal.returns
returns c = subscribe_done c.self.inside.keys c.self.inside.conns c.args.number c.args.channel.now c.args.self.now c.set.new.self c.take-known.result c.join.new.channels c.len-count.result c.in_ok-answer.answer
    c.self.view_is c.take-known.ensures.taken c.in_ok-join.ensures c.len-count.ensures (c.in_ok-set.ensures ∙ c.take-known.ensures.room _)
    (c.in_ok-answer.ensures ∙ ap (λ w. channel_answer w c.args.channel.now c.len-count.result) c.as_slice.ensures)
