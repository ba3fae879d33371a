use Rattle.std.proofs.Common.{refl, sym, ap, ◌∙◌}
use Rattle.base64.specs.Engines.{standard}
use Rattle.base64.specs.GeneralPurpose.{decode_of}
use Rattle.envelope.proofs.Contents.{content_back}
use Rattle.sealed_drafts.proofs.sealing.body_of.Goals as goal

pub returns-clause-back : goal.returns-clause-back
returns-clause-back c = content_back c.args.content.now (ap (decode_of standard) (sym c.in_ok-text.ensures.text) ∙ c.in_ok-text.ensures.round_trip refl)
