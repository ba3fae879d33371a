use Rattle.std.proofs.Common.{◌≡◌, drop}
use Rattle.command_blocks.specs.EnvelopeTexts.{plain_setting}
use Rattle.place_walk.specs.Walks.{walk_start, walked_all}
use Rattle.place_walk.proofs.walk.walk_over.Given as goal

abbrev pub invariant-loop-entry : goal.invariant-loop-entry
invariant-loop-entry l = walked_all plain_setting l.walk (drop l.entry-index l.history.entries) ≡ walked_all plain_setting (walk_start l.history.clients) l.history.entries
