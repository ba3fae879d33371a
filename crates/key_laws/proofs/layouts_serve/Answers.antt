-- What `layouts_serve` ensures.
use Rattle.key_laws.proofs.EnvelopeFacts.{envelopes_serve as serve}
use Rattle.key_laws.proofs.Settings.{lawful_setting}
use Rattle.key_laws.proofs.layouts_serve.Goals as goal

pub returns-clause-layouts : goal.returns-clause-layouts
returns-clause-layouts c = lawful_setting

pub returns-clause-envelopes : goal.returns-clause-envelopes
returns-clause-envelopes c = serve
