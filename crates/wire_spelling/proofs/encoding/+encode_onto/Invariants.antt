use Rattle.std.proofs.Common.{◌≡◌, ◌++◌, ◌∷◌, length, pos, take}
use Rattle.std.specs.Prelude.{flat_map}
use Rattle.wire_grammar.specs.Texts.{spelling, number_text}
use Rattle.wire_spelling.proofs.encoding.+encode_onto.Given as goal

abbrev pub invariant-loop-item : goal.invariant-loop-item
invariant-loop-item l = l.out.items ≡ l.fn.out.items ++ 42 ∷ (number_text (pos (length l.item-items)) ++ flat_map spelling (take l.item-index l.item-items))
