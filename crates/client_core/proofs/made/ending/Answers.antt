use Rattle.std.proofs.Common.{[], refl, subst, sym}
use Rattle.block_core.specs.Cores.{HasHad}
use Rattle.command_blocks.specs.Scripts.{End}
use Rattle.delivery_tags.specs.Tags.{tag_text}
use Rattle.unacked.specs.Ends.{end_stage_left}
use Rattle.client_core.specs.Lefts.{EndHad, EndTells_}
use Rattle.client_core.proofs.made.ending.Goals as goal

pub returns : goal.returns
returns c = λ client. record {
  lawful = c.end_core.ensures.lawful client.seed client.drawn;
  had = (refl, subst (HasHad end_stage_left EndHad EndTells_ client.seed client.passes (End (tag_text c.args.tag.0)) []) (sym c.in_ok-new.ensures.ok) (c.end_core.ensures.traced client.seed client.passes));
}
