use Rattle.std.proofs.Common.{inl, inr, refl, sym, ◌∙◌}
use Rattle.waiting_call.proofs.publishing.publish_call.Goals as goal

pub returns-in-Some : goal.returns-in-Some
returns-in-Some g c = record { ended = inl (c.in-Some.place, sym c.bad_word.ensures ∙ c.in-Some.is, refl, refl, c.finish.ensures) }

pub returns-in-None : goal.returns-in-None
returns-in-None g c = record { ended = inr (sym c.bad_word.ensures ∙ c.in-None.is, c.publish_words.ensures.published) }
