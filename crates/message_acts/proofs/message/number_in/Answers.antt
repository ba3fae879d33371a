use Rattle.std.proofs.Common.{Some, ap, ◌∙◌, rules}
use Rattle.message_acts.proofs.Messages.{entry_tells, letter_tells}
use Rattle.message_acts.proofs.message.number_in.Goals as goal

pub returns-in-Envelope : goal.returns-in-Envelope
returns-in-Envelope c = λ b h. letter_tells b c.in-Envelope.number _ (h ∙ ap (λ l. Some l) c.in-Envelope.is) (search rules)

pub returns-in-Entry : goal.returns-in-Entry
returns-in-Entry c = λ b h. entry_tells b _ _ (h ∙ ap (λ l. Some l) c.in-Entry.is)
