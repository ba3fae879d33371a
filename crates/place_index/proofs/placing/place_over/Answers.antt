use Rattle.std.proofs.Common.{◌≡◌, ◌^◌, ◌<◌, IfOk, refl, rules, subst}
use Rattle.place_model.specs.Shown.{history_of}
use Rattle.place_index.proofs.Lookups.{place_known}
use Rattle.place_index.proofs.placing.place_over.Goals as goal

pub returns : goal.returns
returns c =
    let fits : c.args.number < 2 ^ 128 = search rules in
    subst (λ q. IfOk c.place.result (λ place. place ≡ q)) (place_known (history_of c.args.history.now) c.in_ok-index.index c.in_ok-index.ensures c.args.keys.now c.requires c.args.number fits refl) c.place.ensures
