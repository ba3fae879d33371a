use Rattle.std.proofs.Common.{[], refl, subst, sym}
use Rattle.block_core.specs.Cores.{HasHad}
use Rattle.command_blocks.specs.Scripts.{Publish}
use Rattle.routes.specs.Publishes.{PublishHad, TellsPublish, publish_stage_left}
use Rattle.serde_json.specs.View.{view as data_of}
use Rattle.serde_json.specs.Written.{compact_text}
use Rattle.client_core.proofs.made.publishing.Goals as goal

pub returns : goal.returns
returns c = λ client written. record {
  lawful = c.publish_core.ensures.lawful client.seed client.drawn written;
  had = (refl, subst (HasHad publish_stage_left PublishHad TellsPublish client.seed client.passes (Publish (compact_text (data_of c.args.envelope))) []) (sym c.in_ok-new.ensures.ok) (c.publish_core.ensures.traced client.seed client.passes));
}
