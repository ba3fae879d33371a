use Rattle.std.proofs.Common.{sym, ◌∙◌}
use Rattle.envelope.specs.Entries.{entry_at}
use Rattle.delivery_tags.specs.Tags.{tag_of_text}
use Rattle.replay.proofs.Shaped.{from_entry, past_entry}
use Rattle.replay.proofs.legend.entry_or_tag.Goals as goal

pub returns-in-Some : goal.returns-in-Some
returns-in-Some c = from_entry (entry_at c.args.bytes.now) (tag_of_text c.args.bytes.now) c.in-Some.shape (sym c.in-Some.is ∙ c.in_ok-shape.ensures)

pub returns-in-None : goal.returns-in-None
returns-in-None c = c.tag_in.ensures ∙ past_entry (entry_at c.args.bytes.now) (tag_of_text c.args.bytes.now) (sym c.in-None.is ∙ c.in_ok-shape.ensures)
