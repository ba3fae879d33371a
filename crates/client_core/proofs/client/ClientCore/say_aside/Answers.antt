use Rattle.std.proofs.Common.{refl, sym, ◌∙◌}
use Rattle.client_core.proofs.Beginning.{aside_began}
use Rattle.client_core.proofs.client.ClientCore.say_aside.Goals as goal

pub returns : goal.returns
returns c = aside_began c.args.self.now _ c.args.words c.new.result c.requires.idle (sym c.is_neutral.ensures ∙ c.if-not-is_neutral.false) c.new.ensures.had refl
