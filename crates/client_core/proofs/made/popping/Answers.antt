use Rattle.std.proofs.Common.{[], refl, subst, sym}
use Rattle.block_core.specs.Cores.{HasHad}
use Rattle.command_blocks.specs.Scripts.{Pop}
use Rattle.unacked.specs.Pops.{pop_stage_left}
use Rattle.client_core.specs.Lefts.{PopsHad, PopTells}
use Rattle.client_core.proofs.made.popping.Goals as goal

pub returns : goal.returns
returns c = λ client. record {
  lawful = c.pop_core.ensures.lawful client.seed client.drawn;
  had = (refl, subst (HasHad pop_stage_left PopsHad PopTells client.seed client.passes (Pop c.args.queues) []) (sym c.in_ok-new.ensures.ok) (c.pop_core.ensures.traced client.seed client.passes));
}
