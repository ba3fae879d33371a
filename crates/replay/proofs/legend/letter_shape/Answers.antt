use Rattle.std.proofs.Common.{Some, ap, ◌∙◌}
use Rattle.line_text.specs.declared.short.Shape.TheVariants as shape
use Rattle.replay.proofs.Shaped.{letter_entry, letter_envelope}
use Rattle.replay.proofs.legend.letter_shape.Goals as goal

pub returns-in-Envelope : goal.returns-in-Envelope
returns-in-Envelope c = λ b h. (λ i. shape.Envelope (c.seed.ensures i) (c.counter.ensures i) c.in-Envelope.marked) ∙ letter_envelope b c.in-Envelope.number c.in-Envelope.marked (h ∙ ap (λ l. Some l) c.in-Envelope.is)

pub returns-in-Entry : goal.returns-in-Entry
returns-in-Entry c = λ b h. (λ i. shape.Entry (c.seed-in-Entry.ensures i) (c.counter-in-Entry.ensures i) c.in-Entry.marked) ∙ letter_entry b c.in-Entry.number c.in-Entry.marked (h ∙ ap (λ l. Some l) c.in-Entry.is)
