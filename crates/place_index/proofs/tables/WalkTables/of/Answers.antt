use Rattle.std.proofs.lemmas.Result.{IfOk-weaker}
use Rattle.place_model.specs.Shown.{history_of}
use Rattle.place_index.specs.Indexed.{HasTables}
use Rattle.place_index.proofs.tables.WalkTables.of.Goals as goal

pub returns : goal.returns
returns c =
    IfOk-weaker c.of_walk.result _ (λ tables. HasTables (history_of c.args.history.now) tables)
    (λ tables are. (c.in_ok-walk.walk, c.in_ok-walk.ensures, are))
    c.of_walk.ensures
