use Rattle.std.proofs.Common.{refl, ap, ◌∙◌}
use Rattle.std.specs.Box.{with_value}
use Rattle.client_blocks.specs.declared.left.BlockLeft.TheVariants as left
use Rattle.passes.specs.Passes.{pass_stage_left}
use Rattle.returns.specs.Returns.{ReturnHad, TellsReturn, return_stage_left}
use Rattle.routes.specs.Declares.{declare_stage_left}
use Rattle.routes.specs.Publishes.{PublishHad, TellsPublish, publish_stage_left}
use Rattle.unacked.specs.Ends.{end_stage_left}
use Rattle.unacked.specs.Pops.{pop_stage_left}
use Rattle.steps.specs.Ends.{Declares, Publishes, Pops, Acknowledges, Returns, Passes}
use Rattle.steps.specs.declared.ended.BlockEnd.TheVariants as end
use Rattle.client_core.specs.Lefts.{DeclareHad, DeclareTells, PopsHad, PopTells, EndHad, EndTells_, PassesHad, PassTells}
use Rattle.client_core.proofs.Heard.{heard_as}
use Rattle.client_core.proofs.told.hear.Goals as goal

pub returns-in-Declare : goal.returns-in-Declare
returns-in-Declare c =
    heard_as declare_stage_left DeclareHad DeclareTells left.Declare (λ b. b.value) end.Declare Declares (λ x. refl) (λ x. refl) (λ s p plan calls x h. h) (λ s p plan calls x h. h)
    c.args.left.now _ (with_value c.in-Declare.core c.took.new.self) c.deref_mut.result.now c.args.at c.args.reply.now c.took.result c.in-Declare.is (c.deref_mut.ensures.value ∙ ap (λ b. b.value) c.in-Declare.core-is) c.took.ensures.taken c.took.ensures.traced

pub returns-in-Publish : goal.returns-in-Publish
returns-in-Publish c =
    heard_as publish_stage_left PublishHad TellsPublish left.Publish (λ b. b.value) end.Publish Publishes (λ x. refl) (λ x. refl) (λ s p plan calls x h. h) (λ s p plan calls x h. h)
    c.args.left.now _ (with_value c.in-Publish.core c.took-in-Publish.new.self) c.deref_mut-in-Publish.result.now c.args.at c.args.reply.now c.took-in-Publish.result c.in-Publish.is (c.deref_mut-in-Publish.ensures.value ∙ ap (λ b. b.value) c.in-Publish.core-is) c.took-in-Publish.ensures.taken c.took-in-Publish.ensures.traced

pub returns-in-Pop : goal.returns-in-Pop
returns-in-Pop c =
    heard_as pop_stage_left PopsHad PopTells left.Pop (λ b. b.value) end.Pop Pops (λ x. refl) (λ x. refl) (λ s p plan calls x h. h) (λ s p plan calls x h. h)
    c.args.left.now _ (with_value c.in-Pop.core c.took-in-Pop.new.self) c.deref_mut-in-Pop.result.now c.args.at c.args.reply.now c.took-in-Pop.result c.in-Pop.is (c.deref_mut-in-Pop.ensures.value ∙ ap (λ b. b.value) c.in-Pop.core-is) c.took-in-Pop.ensures.taken c.took-in-Pop.ensures.traced

pub returns-in-End : goal.returns-in-End
returns-in-End c =
    heard_as end_stage_left EndHad EndTells_ left.End (λ b. b.value) end.End Acknowledges (λ x. refl) (λ x. refl) (λ s p plan calls x h. h) (λ s p plan calls x h. h)
    c.args.left.now _ (with_value c.in-End.core c.took-in-End.new.self) c.deref_mut-in-End.result.now c.args.at c.args.reply.now c.took-in-End.result c.in-End.is (c.deref_mut-in-End.ensures.value ∙ ap (λ b. b.value) c.in-End.core-is) c.took-in-End.ensures.taken c.took-in-End.ensures.traced

pub returns-in-Return : goal.returns-in-Return
returns-in-Return c =
    heard_as return_stage_left ReturnHad TellsReturn left.Return (λ b. b.value) end.Return Returns (λ x. refl) (λ x. refl) (λ s p plan calls x h. h) (λ s p plan calls x h. h)
    c.args.left.now _ (with_value c.in-Return.core c.took-in-Return.new.self) c.deref_mut-in-Return.result.now c.args.at c.args.reply.now c.took-in-Return.result c.in-Return.is (c.deref_mut-in-Return.ensures.value ∙ ap (λ b. b.value) c.in-Return.core-is) c.took-in-Return.ensures.taken c.took-in-Return.ensures.traced

pub returns-in-Pass : goal.returns-in-Pass
returns-in-Pass c =
    heard_as pass_stage_left PassesHad PassTells left.Pass (λ b. b.value) end.Pass Passes (λ x. refl) (λ x. refl) (λ s p plan calls x h. h) (λ s p plan calls x h. h)
    c.args.left.now _ (with_value c.in-Pass.core c.took-in-Pass.new.self) c.deref_mut-in-Pass.result.now c.args.at c.args.reply.now c.took-in-Pass.result c.in-Pass.is (c.deref_mut-in-Pass.ensures.value ∙ ap (λ b. b.value) c.in-Pass.core-is) c.took-in-Pass.ensures.taken c.took-in-Pass.ensures.traced
