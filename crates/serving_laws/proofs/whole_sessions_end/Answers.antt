use Rattle.serving_laws.proofs.Wholes.{ends_whole}
use Rattle.serving_laws.proofs.whole_sessions_end.Goals as goal

pub returns : goal.returns
returns g c = λ clock fault first now old new turns count why s given. ends_whole g.D.Desk.goes (g.C.Clock.gives clock) g.D.Desk.shared fault first now old new turns count why s given
