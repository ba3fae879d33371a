use Rattle.std.proofs.Common.{◌≡◌, ◌<◌, ◌^◌, Ok, subst, arith}
use Rattle.delivery_tags.specs.Tags.{tag_number}
use Rattle.sealed_drafts.specs.Sealed.{seal_of}
use Rattle.serde_json.specs.View.{view as data_of}
use Rattle.client_core.proofs.Beginning.{sealed_is}
use Rattle.client_core.proofs.client.sealed_under.Goals as goal

pub returns-in-Ok : goal.returns-in-Ok
returns-in-Ok c =
    let small : tag_number c.args.seed c.args.counter < 2 ^ 128 = omega (arith, c.ranges.seed.fits, c.ranges.counter.fits) in
    sealed_is c.args.draft.now (tag_number c.args.seed c.args.counter) (data_of c.in-Ok.envelope) small
    (subst (λ n. seal_of c.args.draft.now n ≡ Ok (data_of c.in-Ok.envelope)) c.of.ensures c.in-Ok.ensures) c.requires.way
