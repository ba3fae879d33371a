use Rattle.std.proofs.Common.{◌≡◌, IfOk, ap, sym, ◌∙◌, subst}
use Rattle.std.proofs.lemmas.Cmp.{nat_cmp_total}
use Rattle.std.specs.FinMap as map
use Rattle.store_tables.proofs.Maps.{entries_made}
use Rattle.place_walk.specs.Seats.{hands}
use Rattle.place_walk.proofs.hands.Numbered+ClientSeat.hands.Goals as goal

pub returns : goal.returns
returns c =
    let all = sym (entries_made nat_cmp_total map.nat_cmp-IsAntisymmetric c.self.inside.kept.entries c.held_in.ensures.ordered) ∙ ap map.entries c.self.view_is in
    subst (λ es. IfOk c.held_in.result (λ held. held ≡ hands c.args.gone es)) all c.held_in.ensures.held
