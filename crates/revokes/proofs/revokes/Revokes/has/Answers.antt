use Rattle.std.proofs.Common.{◌≡◌, ap, sym, ◌∙◌}
use Rattle.revokes.specs.Revokes.{is_revoked, second_of}
use Rattle.revokes.proofs.KeptRevokes.{second_kept}
use Rattle.revokes.proofs.revokes.Revokes.has.Goals as goal

pub returns-in-Some : goal.returns-in-Some
returns-in-Some c = c.is_live.ensures ∙ ap (is_revoked c.args.now) (c.in-Some.ensures.value ∙ second_kept c.args.id.now c.self.inside.kept.entries ∙ ap (second_of c.args.id.now) c.self.view_is)

pub returns-in-None : goal.returns-in-None
returns-in-None c = ap (is_revoked c.args.now) (c.in-None.ensures.value ∙ second_kept c.args.id.now c.self.inside.kept.entries ∙ ap (second_of c.args.id.now) c.self.view_is)
