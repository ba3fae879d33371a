use Rattle.std.proofs.Common.{◌++◌}
use Rattle.serve_laws.proofs.Runs.{run_stands}
use Rattle.serve_laws.proofs.serving_run_is_a_history.Goals as goal

pub returns : goal.returns
returns g c = λ clock turns wanted before after old new end r. run_stands (g.C.Clock.gives clock) turns before after (r.1.ends ++ r.1.untold) r.0 r.1.served
