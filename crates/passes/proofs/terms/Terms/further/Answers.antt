use Rattle.std.proofs.Common.{◌+◌, ◌∙◌, [], ap, drop, refl, subst, sym}
use Rattle.command_blocks.specs.EnvelopeTexts.{plain_setting}
use Rattle.command_blocks.specs.Scripts.{returns_script}
use Rattle.passes.specs.Counts.{returned_count, tag_texts}
use Rattle.passes.specs.Told.{HasReturned}
use Rattle.passes.proofs.Counting.{one_more}
use Rattle.passes.proofs.Telling.{one_returned}
use Rattle.passes.proofs.terms.Terms.further.Goals as goal

pub returns-clause-left : goal.returns-clause-left
returns-clause-left c =
    c.turn.ensures.left
    ∙ ap (λ n. returns_script plain_setting c.args.self.token (drop n (tag_texts c.args.returns.tags))) (ap returned_count c.with-counts.ensures ∙ one_more c.args.end c.args.returns.counts c.requires.on)

pub returns-clause-had : goal.returns-clause-had
returns-clause-had c calls h =
    c.turn.ensures.had calls (subst (λ k. HasReturned c.args.returns.tags k [] calls) (sym c.with-counts.ensures)
    (one_returned c.args.returns c.args.end (returned_count c.args.returns.counts + 1) calls refl (one_more c.args.end c.args.returns.counts c.requires.on) c.requires.on h))
