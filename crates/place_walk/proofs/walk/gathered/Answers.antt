use Rattle.std.proofs.Common.{sym, subst}
use Rattle.std.proofs.lemmas.Result.{IfOk-weaker}
use Rattle.place_model.specs.Shown.{history_of}
use Rattle.place_walk.specs.Gathered.{IsWalkOf}
use Rattle.place_walk.proofs.Told.{walk_is}
use Rattle.place_walk.proofs.walk.gathered.Goals as goal

pub returns : goal.returns
returns c =
    let h = history_of c.args.history.now in
    IfOk-weaker c.walk_over.result _ (λ walk. IsWalkOf h walk) (λ walk is. subst (IsWalkOf h) (sym is) (walk_is h)) c.walk_over.ensures
