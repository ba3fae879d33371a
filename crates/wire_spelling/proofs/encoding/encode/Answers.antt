use Rattle.std.proofs.Common.{◌++◌, ap, ◌∙◌}
use Rattle.wire_grammar.specs.Texts.{spelling}
use Rattle.wire_grammar.proofs.Limited.{read_spelled}
use Rattle.wire_spelling.proofs.Fitting.{spelled}
use Rattle.wire_spelling.proofs.encoding.encode.Goals as goal

pub returns-clause-spelled : goal.returns-clause-spelled
returns-clause-spelled c =
    let v = c.args.value.now in
    spelled v c.from_vec.result c.requires (c.from_vec.ensures ∙ c.in_ok-encode_onto.ensures ∙ ap (λ l. l ++ spelling v) c.new-bytes.ensures.items)

pub returns-clause-read_again : goal.returns-clause-read_again
returns-clause-read_again c =
    let v = c.args.value.now in
    λ p rest. read_spelled v c.from_vec.result rest p (spelled v c.from_vec.result c.requires (c.from_vec.ensures ∙ c.in_ok-encode_onto.ensures ∙ ap (λ l. l ++ spelling v) c.new-bytes.ensures.items))
