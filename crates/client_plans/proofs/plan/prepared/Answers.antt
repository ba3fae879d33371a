use Rattle.std.proofs.Common.{Ok, sym, subst}
use Rattle.client_plans.specs.Plans.{IsPrepared}
use Rattle.client_plans.proofs.plan.prepared.Goals as goal

pub returns-in-Declare : goal.returns-in-Declare
returns-in-Declare c = subst (λ a. IsPrepared c.args.counts a c.declaring.result) (sym c.in-Declare.is) (c.declaring.ensures c.args.counts)

pub returns-in-Undeclare : goal.returns-in-Undeclare
returns-in-Undeclare c = subst (λ a. IsPrepared c.args.counts a c.declaring-in-Undeclare.result) (sym c.in-Undeclare.is) (c.declaring-in-Undeclare.ensures c.args.counts)

pub returns-in-Pop : goal.returns-in-Pop
returns-in-Pop c = subst (λ a. IsPrepared c.args.counts a c.popping.result) (sym c.in-Pop.is) (c.popping.ensures c.args.counts)

pub returns-in-Ack : goal.returns-in-Ack
returns-in-Ack c = subst (λ a. IsPrepared c.args.counts a (Ok c.acknowledging.result)) (sym c.in-Ack.is) (c.acknowledging.ensures c.args.counts)

pub returns-in-Restore : goal.returns-in-Restore
returns-in-Restore c = subst (λ a. IsPrepared c.args.counts a (Ok c.returning.result)) (sym c.in-Restore.is) (c.returning.ensures c.args.counts)

pub returns-in-Requeue : goal.returns-in-Requeue
returns-in-Requeue c = subst (λ a. IsPrepared c.args.counts a (Ok c.returning-in-Requeue.result)) (sym c.in-Requeue.is) (c.returning-in-Requeue.ensures c.args.counts)

pub returns-in-Pass : goal.returns-in-Pass
returns-in-Pass c = subst (λ a. IsPrepared c.args.counts a (Ok c.passing.result)) (sym c.in-Pass.is) (c.passing.ensures c.args.counts)
