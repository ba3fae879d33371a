-- Whether a message is in the table of those that aren't acknowledged. Serves the proofs of code.
use Rattle.std.specs.Prelude.{ℕ, Bool, ◌&&◌}
use Rattle.store_model.specs.Keys.{Keys}
use Rattle.delivery_tags.specs.Tags.{tag_text}
use Rattle.place_model.specs.Counts.{is_field, is_member}
use Rattle.command_blocks.specs.EnvelopeTexts.{plain_setting}

-- whether a message is a field of the table and a member of the table's index
abbrev pub is_kept : Keys → ℕ → Bool
is_kept m t = is_field plain_setting m (tag_text t) && is_member plain_setting m (tag_text t)
