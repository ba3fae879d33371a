use Rattle.std.proofs.Common.{◌+◌, ◌∙◌, [], ap, drop, subst, sym}
use Rattle.delivery_tags.specs.Tags.{tag_text}
use Rattle.command_blocks.specs.EnvelopeTexts.{plain_setting}
use Rattle.command_blocks.specs.Scripts.{Over, release_script, returns_script}
use Rattle.passes.specs.Counts.{returned_count, tag_texts}
use Rattle.passes.specs.Passes.{PassHad, pass_stage_left}
use Rattle.passes.specs.Told.{TellsPass}
use Rattle.passes.proofs.Tagged.{at_end, at_place, found_at, found_end}
use Rattle.passes.proofs.Telling.{all_returned, begins}
use Rattle.passes.proofs.terms.Terms.turn.Goals as goal

pub returns-in-Some-clause-left : goal.returns-in-Some-clause-left
returns-in-Some-clause-left c =
    ap pass_stage_left c.at.ensures
    ∙ c.new-trying.ensures.left (returns_script plain_setting c.args.self.token (drop (returned_count c.args.counts + 1) (tag_texts c.args.tags))) (release_script plain_setting c.args.self.token)
    ∙ ap (returns_script plain_setting c.args.self.token) (sym (found_at c.as_slice.result.now c.args.tags c.total.result (returned_count c.args.counts) c.in-Some.tag c.as_slice.ensures c.total.ensures c.in-Some.ensures))

pub returns-in-Some-clause-had : goal.returns-in-Some-clause-had
returns-in-Some-clause-had c calls h =
    let found = found_at c.as_slice.result.now c.args.tags c.total.result (returned_count c.args.counts) c.in-Some.tag c.as_slice.ensures c.total.ensures c.in-Some.ensures in
    subst (λ s. PassHad calls s) (sym c.at.ensures)
    ([], h, begins (tag_text c.in-Some.tag.0) _ c.new-trying.result (c.new-trying.ensures.left Over Over) c.new-trying.ensures.had (sym (at_place (tag_texts c.args.tags) (returned_count c.args.counts) (tag_text c.in-Some.tag.0) (drop (returned_count c.args.counts + 1) (tag_texts c.args.tags)) found)))

pub returns-in-None-clause-had : goal.returns-in-None-clause-had
returns-in-None-clause-had c calls h =
    let found = found_end c.as_slice.result.now c.args.tags c.total.result (returned_count c.args.counts) c.as_slice.ensures c.total.ensures c.in-None.ensures in
    subst (λ s. PassHad calls s) (sym c.releases.ensures)
    (subst (TellsPass calls) (sym c.end.ensures) (all_returned c.args.tags c.args.counts calls (at_end (tag_texts c.args.tags) (returned_count c.args.counts) found) h))
