use Rattle.std.proofs.Common.{[], refl, subst, sym}
use Rattle.block_core.specs.Cores.{HasHad}
use Rattle.command_blocks.specs.Scripts.{Return}
use Rattle.delivery_tags.specs.Tags.{tag_text}
use Rattle.returns.specs.Returns.{ReturnHad, TellsReturn, return_stage_left}
use Rattle.client_core.proofs.made.returning.Goals as goal

pub returns : goal.returns
returns c = λ client. record {
  lawful = c.return_core.ensures.lawful client.seed client.drawn;
  had = (refl, subst (HasHad return_stage_left ReturnHad TellsReturn client.seed client.passes (Return c.args.side (tag_text c.args.tag.0)) []) (sym c.in_ok-new.ensures.ok) (c.return_core.ensures.traced client.seed client.passes));
}
