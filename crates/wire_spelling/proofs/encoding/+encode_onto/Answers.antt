use Rattle.std.proofs.Common.{◌≡◌, ◌++◌, ◌∷◌, length, pos, take, arith, sym, ap, ◌∙◌}
use Rattle.std.specs.Prelude.{flat_map}
use Rattle.std.proofs.lemmas.List.{take_all}
use Rattle.wire_values.specs.declared.value.Value.TheVariants.{Array}
use Rattle.wire_grammar.specs.Texts.{spelling, number_text}
use Rattle.wire_grammar.proofs.Writings.{array_text}
use Rattle.wire_spelling.proofs.encoding.+encode_onto.Goals as goal

pub returns-after-loop-item : goal.returns-after-loop-item
returns-after-loop-item t c =
    let xs = c.as_slice-item-items.result.now in
    let all : take c.loop-item.item-index xs ≡ xs = take_all c.loop-item.item-index xs (omega (arith, c.loop-item-test.false)) in
    c.loop-item.invariant
    ∙ ap (λ ys. c.args.out.now.items ++ 42 ∷ (number_text (pos (length xs)) ++ flat_map spelling ys)) all
    ∙ ap (λ l. c.args.out.now.items ++ l) (sym (array_text xs))
    ∙ ap (λ ys. c.args.out.now.items ++ spelling (Array ys)) c.as_slice-item-items.ensures
    ∙ ap (λ v. c.args.out.now.items ++ spelling v) (sym c.in-Array.is)
