-- The words are those of the two commands that put an envelope into the table, and are short.
use Rattle.std.proofs.Common.{◌∙◌, ap, arith, codes, sym, subst}
use Rattle.serde_json.specs.View.{view as data_of}
use Rattle.delivery_tags.specs.Tags.{tag_text}
use Rattle.unacked.proofs.Kept.{index_said, table_said}
use Rattle.wire_grammar.specs.Fits.{IsShort}
use Rattle.unacked.proofs.Limits.{decimal_short, entry_short, four_made, one_made, tag_short}
use Rattle.unacked.proofs.pop.keep_words.Goals as goal

pub returns-in_ok-tag-in-Index-clause-words : goal.returns-in_ok-tag-in-Index-clause-words
returns-in_ok-tag-in-Index-clause-words c =
    index_said c.four_words.result (data_of c.args.delivery.now.envelope) c.args.step c.args.at c.as_bytes.result.now c.in_ok-tag-in-Index.tag c.in-Index.is c.four_words.ensures
    (c.as_bytes.ensures.value ∙ c.in_ok-moment-in-Index.ensures) (c.in_ok-tag-in-Index.ensures ∙ c.as_slice.ensures ∙ c.text.ensures.value ∙ ap tag_text c.tag.ensures)

pub returns-in_ok-tag-in-Index-clause-limits : goal.returns-in_ok-tag-in-Index-clause-limits
returns-in_ok-tag-in-Index-clause-limits c =
    four_made c.four_words.result (codes "ZADD") (codes "unacked_index") c.as_bytes.result.now c.in_ok-tag-in-Index.tag c.four_words.ensures (omega arith) (omega arith)
    (subst IsShort (sym (c.as_bytes.ensures.value ∙ c.in_ok-moment-in-Index.ensures)) (decimal_short c.args.at c.ranges.at.fits))
    (subst IsShort (sym (c.in_ok-tag-in-Index.ensures ∙ c.as_slice.ensures ∙ c.text.ensures.value)) (tag_short c.tag.result.0))

pub returns-in_ok-entry-in-Table-clause-words : goal.returns-in_ok-entry-in-Table-clause-words
returns-in_ok-entry-in-Table-clause-words c =
    table_said c.four_words-in-Table.result (data_of c.args.delivery.now.envelope) c.args.step c.args.at c.as_slice-in-Table.result.now c.in_ok-entry-in-Table.entry c.in-Table.is c.four_words-in-Table.ensures
    (c.as_slice-in-Table.ensures ∙ c.text-tag.ensures.value ∙ ap tag_text c.tag-in-Table.ensures) c.in_ok-entry-in-Table.ensures.text

pub returns-in_ok-entry-in-Table-clause-limits : goal.returns-in_ok-entry-in-Table-clause-limits
returns-in_ok-entry-in-Table-clause-limits c =
    four_made c.four_words-in-Table.result (codes "HSET") (codes "unacked") c.as_slice-in-Table.result.now c.in_ok-entry-in-Table.entry c.four_words-in-Table.ensures (omega arith) (omega arith)
    (subst IsShort (sym (c.as_slice-in-Table.ensures ∙ c.text-tag.ensures.value)) (tag_short c.tag-in-Table.result.0))
    (entry_short c.in_ok-entry-in-Table.entry _ c.in_ok-entry-in-Table.ensures.again)

pub returns-in-Begin-clause-limits : goal.returns-in-Begin-clause-limits
returns-in-Begin-clause-limits c = one_made c.one_word.result (codes "MULTI") c.one_word.ensures (omega arith)

pub returns-in-Run-clause-limits : goal.returns-in-Run-clause-limits
returns-in-Run-clause-limits c = one_made c.one_word-in-Run.result (codes "EXEC") c.one_word-in-Run.ensures (omega arith)
