use Rattle.std.proofs.Common.{◌≡◌, Some, sym, ap, ◌∙◌}
use Rattle.std.specs.FinMap as map
use Rattle.std.specs.Option.{option_copied}
use Rattle.client_core.specs.Works.{client_left}
use Rattle.schedule_model.specs.Faults.{is_script_off}
use Rattle.schedule_world.proofs.Presence.{neither}
use Rattle.schedule_world.proofs.book.Books.resting.Goals as goal

pub returns : goal.returns
returns c =
    let k = c.in_ok-book.book.now in
    let there : map.get c.args.self.now c.args.client ≡ Some k = sym c.get.ensures ∙ ap option_copied c.in_ok-book.ensures.ok_part in
    let on = neither k.is_stopped (is_script_off (client_left k.core)) (sym c.is_gone.ensures ∙ c.if-is_gone.false) in
    (k, there, c.counts.ensures, on.0, on.1, sym c.has_more.ensures ∙ c.if-has_more.false)
