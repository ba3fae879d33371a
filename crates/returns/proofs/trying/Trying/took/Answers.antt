use Rattle.std.proofs.Common.{◌≡◌, [], ap, codes, refl, subst, sym, ◌∙◌, if◌then◌else◌}
use Rattle.wire_values.specs.Layer.{layer}
use Rattle.command_blocks.specs.Calls.{call}
use Rattle.command_blocks.specs.Scripts.{after_call, status_in}
use Rattle.block_core.specs.declared.stage.Progress.TheVariants as found
use Rattle.returns.specs.Returns.{end_of}
use Rattle.returns.specs.Spots.{read_left, spot_left}
use Rattle.returns.specs.declared.spot.Spot.TheVariants.{Read}
use Rattle.returns.proofs.Points.{listed}
use Rattle.returns.proofs.Told.{left_tells, listed_tells, tells_all, tells_on}
use Rattle.returns.proofs.trying.Trying.took.Goals as goal

pub returns-in-Watch-clause-left : goal.returns-in-Watch-clause-left
returns-in-Watch-clause-left c ended stuck =
    listed ended stuck c.if_listed.result (record { aim = c.args.self.aim; spot = Read }) c.is_status.result _ (read_left ended stuck c.args.self.aim) c.if_listed.ensures c.is_status.ensures refl
    ∙ sym (ap (λ s. after_call (spot_left ended stuck c.args.self.aim s) (call 0 [] c.args.answer.now)) c.in-Watch.is)

pub returns-in-Watch-clause-tells : goal.returns-in-Watch-clause-tells
returns-in-Watch-clause-tells c t calls last e had =
    tells_on c.args.self.aim c.args.answer.now c.if_listed.result t calls last e had.0 (listed_tells c.args.self.aim c.args.answer.now Read c.if_listed.result c.is_status.result c.if_listed.ensures tt)

pub returns-in-Read-clause-tells : goal.returns-in-Read-clause-tells
returns-in-Read-clause-tells c = tells_all c.read.result c.args.self c.args.answer.now c.read.ensures.tells

pub returns-in-Ask-clause-tells : goal.returns-in-Ask-clause-tells
returns-in-Ask-clause-tells c = tells_all c.asked.result c.args.self c.args.answer.now c.asked.ensures.tells

pub returns-in-Take-clause-tells : goal.returns-in-Take-clause-tells
returns-in-Take-clause-tells c t calls last e had = tells_on c.args.self.aim c.args.answer.now c.taken.result t calls last e had.0 c.taken.ensures.tells

pub returns-in-Leave-clause-tells : goal.returns-in-Leave-clause-tells
returns-in-Leave-clause-tells c t calls last e had =
    left_tells c.in-Leave.why c.args.answer.now c.left.result t calls last c.args.self.spot e
    (subst (λ w. c.left.result ≡ (if status_in (codes "OK") (layer c.args.answer.now) then found.Over (end_of w) else found.Refused)) c.in-Leave.why-is c.left.ensures) c.in-Leave.is had.1
