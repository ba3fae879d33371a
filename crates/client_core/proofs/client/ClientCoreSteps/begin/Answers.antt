use Rattle.std.proofs.Common.{Ok, refl, subst, sym}
use Rattle.command_blocks.specs.Scripts.{End, Pop, Return}
use Rattle.delivery_tags.specs.Tags.{tag_text}
use Rattle.routes.specs.Declares.{declaration_plan}
use Rattle.steps.specs.Begins.{errand_of}
use Rattle.steps.specs.Errands.{Planned}
use Rattle.client_core.specs.Begun.{Began}
use Rattle.client_core.specs.Works.{core_client}
use Rattle.client_core.proofs.Beginning.{began_says, declares_none, made_for, took_up}
use Rattle.client_core.proofs.client.ClientCoreSteps.begin.Goals as goal

pub returns-in-Declare-clause-begun : goal.returns-in-Declare-clause-begun
returns-in-Declare-clause-begun c =
    let d = c.into_inner.result in
    let old = c.args.self.now in
    let new = c.take_up.new.self in
    subst (λ b. Began old new (errand_of (core_client old) b) c.take_up.result) (sym c.in-Declare.is)
    (subst (λ x. Began old new (Ok (Planned (declaration_plan x))) c.take_up.result) c.into_inner.ensures
    (took_up old new (declaration_plan d) c.declaring.result c.take_up.result c.requires.idle (declares_none d.change d.exchange d.routing_key d.pattern d.queue) (made_for c.declaring.result (declaration_plan d) (core_client old) c.declaring.ensures) c.take_up.ensures))

pub returns-in-Declare-clause-says : goal.returns-in-Declare-clause-says
returns-in-Declare-clause-says c =
    let p = declaration_plan c.into_inner.result in
    let old = c.args.self.now in
    let new = c.take_up.new.self in
    began_says old new (Ok (Planned p)) c.take_up.result (took_up old new p c.declaring.result c.take_up.result c.requires.idle (let d = c.into_inner.result in declares_none d.change d.exchange d.routing_key d.pattern d.queue) (made_for c.declaring.result p (core_client old) c.declaring.ensures) c.take_up.ensures)

pub returns-in-Pop-clause-begun : goal.returns-in-Pop-clause-begun
returns-in-Pop-clause-begun c =
    let p = Pop c.in-Pop.queues in
    let old = c.args.self.now in
    let new = c.take_up-in-Pop.new.self in
    subst (λ b. Began old new (errand_of (core_client old) b) c.take_up-in-Pop.result) (sym c.in-Pop.is)
    (took_up old new p c.popping.result c.take_up-in-Pop.result c.requires.idle refl (made_for c.popping.result p (core_client old) c.popping.ensures) c.take_up-in-Pop.ensures)

pub returns-in-Pop-clause-says : goal.returns-in-Pop-clause-says
returns-in-Pop-clause-says c =
    let p = Pop c.in-Pop.queues in
    let old = c.args.self.now in
    let new = c.take_up-in-Pop.new.self in
    began_says old new (Ok (Planned p)) c.take_up-in-Pop.result (took_up old new p c.popping.result c.take_up-in-Pop.result c.requires.idle refl (made_for c.popping.result p (core_client old) c.popping.ensures) c.take_up-in-Pop.ensures)

pub returns-in-End-clause-begun : goal.returns-in-End-clause-begun
returns-in-End-clause-begun c =
    let p = End (tag_text c.in-End.tag.0) in
    let old = c.args.self.now in
    let new = c.take_up-in-End.new.self in
    subst (λ b. Began old new (errand_of (core_client old) b) c.take_up-in-End.result) (sym c.in-End.is)
    (took_up old new p c.ending.result c.take_up-in-End.result c.requires.idle refl (made_for c.ending.result p (core_client old) c.ending.ensures) c.take_up-in-End.ensures)

pub returns-in-End-clause-says : goal.returns-in-End-clause-says
returns-in-End-clause-says c =
    let p = End (tag_text c.in-End.tag.0) in
    let old = c.args.self.now in
    let new = c.take_up-in-End.new.self in
    began_says old new (Ok (Planned p)) c.take_up-in-End.result (took_up old new p c.ending.result c.take_up-in-End.result c.requires.idle refl (made_for c.ending.result p (core_client old) c.ending.ensures) c.take_up-in-End.ensures)

pub returns-in-Return-clause-begun : goal.returns-in-Return-clause-begun
returns-in-Return-clause-begun c =
    let p = Return c.in-Return.side (tag_text c.in-Return.tag.0) in
    let old = c.args.self.now in
    let new = c.take_up-in-Return.new.self in
    subst (λ b. Began old new (errand_of (core_client old) b) c.take_up-in-Return.result) (sym c.in-Return.is)
    (took_up old new p c.returning.result c.take_up-in-Return.result c.requires.idle refl (made_for c.returning.result p (core_client old) c.returning.ensures) c.take_up-in-Return.ensures)

pub returns-in-Return-clause-says : goal.returns-in-Return-clause-says
returns-in-Return-clause-says c =
    let p = Return c.in-Return.side (tag_text c.in-Return.tag.0) in
    let old = c.args.self.now in
    let new = c.take_up-in-Return.new.self in
    began_says old new (Ok (Planned p)) c.take_up-in-Return.result (took_up old new p c.returning.result c.take_up-in-Return.result c.requires.idle refl (made_for c.returning.result p (core_client old) c.returning.ensures) c.take_up-in-Return.ensures)
