use Rattle.std.proofs.Common.{◌≡◌, ap, sym, ◌∙◌, ◌++◌, ◌∷◌, []}
use Rattle.revokes.specs.Revokes.{bounded, without}
use Rattle.revokes.proofs.KeptRevokes.{added}
use Rattle.revokes.proofs.revokes.Revokes.add.Goals as goal

pub returns-clause-ok : goal.returns-clause-ok
returns-clause-ok c =
    c.bound.ensures.view
    ∙ ap bounded (added c.args.id c.as_slice.result.now c.args.now c.self.inside.kept.entries c.reserve.new.self.entries c.shift_remove.new.self.entries c.insert.new.self.entries c.into_vec-id.result
    c.into_vec-id.ensures c.as_slice.ensures.value c.in_ok-reserve.ensures.entries c.shift_remove.ensures.entries c.shift_remove.ensures.updates.1 c.in_ok-insert.ensures.entries)
    ∙ ap (λ rs. bounded (without c.args.id rs ++ (c.args.id, c.args.now) ∷ [])) c.self.view_is
