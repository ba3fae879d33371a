use Rattle.block_runs.proofs.Told.{refused_heard}
use Rattle.block_runs.proofs.saying.hear.Goals as goal

pub returns-in_err-took-clause-heard : goal.returns-in_err-took-clause-heard
returns-in_err-took-clause-heard g c =
    refused_heard g.T.Steps.left g.T.Steps.spent g.T.Steps.had g.T.Steps.ended c.args.at c.args.steps.now c.took.new.self c.args.reply.now
    c.in_err-took.field-0.0 c.from_residual.result c.from_residual.ensures.1 c.in_err-took.ensures.taken

pub returns-clause-heard : goal.returns-clause-heard
returns-clause-heard g c = λ words n. record {
  left_is = c.in_ok-took.ensures.taken.0;
  on = c.in_ok-took.ensures.taken.1;
  end = c.in_ok-took.ensures.end;
  more = λ client errand before old. c.in_ok-took.ensures.had client errand before words old n;
}
