use Rattle.std.proofs.Common.{ap, ◌∙◌, ◌+◌, ◌-◌, arith, length, map, Some}
use Rattle.wire_grammar.specs.Limits.{depth_limit}
use Rattle.wire_values.specs.declared.value.Value.TheVariants.{Array, Bulk}
use Rattle.wire_spelling.specs.Lengths.{bulk_length, items_length, joined, spelled_length}
use Rattle.wire_spelling.proofs.Commands.{many_words, word_more, word_over, words_begun}
use Rattle.wire_spelling.proofs.room.command_length.Goals as goal

pub returns-then-count-gt-COUNT_LIMIT-clause-is : goal.returns-then-count-gt-COUNT_LIMIT-clause-is
returns-then-count-gt-COUNT_LIMIT-clause-is c = many_words c.args.words.now (omega (arith, c.if-count-gt-COUNT_LIMIT.true, ap length c.as_slice.ensures))

pub words-init : goal.words-init
words-init c = record {
  within = omega (arith, c.decimal_length-length.ensures.within);
  left =
      ap (λ ws. items_length (depth_limit - 1) (Some (c.decimal_length-length.result + 3)) (map spelled_length (map Bulk ws))) c.as_slice-word-items.ensures
      ∙ words_begun c.args.words.now (c.decimal_length-length.result + 3) (length c.as_slice.result.now) (omega (arith, c.if-count-gt-COUNT_LIMIT.false, ap length c.as_slice.ensures)) (ap length c.as_slice.ensures) (ap (λ k. k + 3) c.decimal_length-length.ensures.is);
}

pub returns-in_err-length-clause-is : goal.returns-in_err-length-clause-is
returns-in_err-length-clause-is c =
    c.from_residual.ensures
    ∙ word_over c.words.length c.words.word-index c.as_slice-word-items.result.now c.word-item.result c.joined.result (spelled_length (Array (map Bulk c.args.words.now)) depth_limit)
    c.words.invariant.left c.words-test.true c.word-item.is (c.joined.ensures.is ∙ ap (joined (Some c.words.length)) (c.bulk_length.ensures.is ∙ ap bulk_length c.len.ensures)) c.in_err-length.was

pub words-preserved : goal.words-preserved
words-preserved c = record {
  within = c.in_ok-length.ensures.within;
  left =
      word_more c.words.length c.words.word-index c.as_slice-word-items.result.now c.word-item.result c.joined.result (spelled_length (Array (map Bulk c.args.words.now)) depth_limit)
      c.words.invariant.left c.words-test.true c.word-item.is (c.joined.ensures.is ∙ ap (joined (Some c.words.length)) (c.bulk_length.ensures.is ∙ ap bulk_length c.len.ensures)) c.in_ok-length.length c.in_ok-length.was;
}
