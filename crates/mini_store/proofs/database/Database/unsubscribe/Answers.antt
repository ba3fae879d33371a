use Rattle.std.proofs.Common.{ap, ◌∙◌}
use Rattle.store_model.specs.Replies.{channel_answer}
use Rattle.mini_store.proofs.Steps.{unsubscribe_done}
use Rattle.mini_store.proofs.database.Database.unsubscribe.Goals as goal

pub returns : goal.returns
returns c = unsubscribe_done c.self.inside.keys c.self.inside.conns c.args.number c.args.channel.now c.args.self.now c.set.new.self c.take-known.result c.take_out.new.self c.len-count.result c.in_ok-answer.answer
    c.self.view_is c.take-known.ensures.taken c.take_out.ensures c.len-count.ensures (c.in_ok-set.ensures ∙ c.take-known.ensures.room _)
    (c.in_ok-answer.ensures ∙ ap (λ w. channel_answer w c.args.channel.now c.len-count.result) c.as_slice.ensures)
