use Rattle.std.proofs.Common.{◌≡◌, drop}
use Rattle.serde_json.specs.Written.{items_have_float, members_have_float}
use Rattle.serde_json.specs.View.{items_view, members_view}
use Rattle.envelope_trees.proofs.walk.+floats.Given as goal

abbrev pub invariant-items_hold-loop-item : goal.invariant-items_hold-loop-item
invariant-items_hold-loop-item l = items_have_float (items_view (drop l.item-index l.item-items)) ≡ items_have_float (items_view l.item-items)

abbrev pub invariant-members_hold-loop-member : goal.invariant-members_hold-loop-member
invariant-members_hold-loop-member l = members_have_float (members_view l.member-iterator) ≡ members_have_float (members_view l.members.entries)
