use Rattle.std.proofs.Common.{rules}
use Rattle.serde_json.specs.declared.value.Value.{the_lemmas}
use Rattle.envelope_trees.proofs.Changes.{mark_put}
use Rattle.envelope_trees.proofs.marks.mark.Goals as goal

pub returns-in_ok-insert : goal.returns-in_ok-insert
returns-in_ok-insert c = mark_put c.insert.new.self _ c.in_ok-from_str.field-0 _ _ c.in_ok-insert.ensures.entries c.in_ok-from_str.ensures.ok (search (rules, the_lemmas)) c.in-Some.ensures.value
