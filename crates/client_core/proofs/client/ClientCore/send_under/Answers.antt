use Rattle.std.proofs.Common.{◌≡◌, ◌<◌, ◌^◌, refl, subst}
use Rattle.std.proofs.Common.{Ok}
use Rattle.envelope.specs.Envelopes.{envelope_at}
use Rattle.serde_json.specs.View.{view as data_of}
use Rattle.client_core.proofs.Beginning.{send_began}
use Rattle.client_core.proofs.client.ClientCore.send_under.Goals as goal

pub returns : goal.returns
returns c =
    let again = subst (λ v. envelope_at v ≡ Ok (data_of c.args.envelope)) c.text-text.ensures.value c.text-text.ensures.again in
    send_began c.args.self.now c.take_up.new.self _ (data_of c.args.envelope) c.args.counter c.publishing.result c.requires.idle c.in_ok-take_up.ensures c.requires.counter (subst (λ n. n < 2 ^ 64) c.requires.seed c.ranges.seed.fits) c.ranges.counter.fits
    again c.requires.tag c.publishing.ensures refl
