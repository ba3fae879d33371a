use Rattle.std.proofs.Common.{◌≡◌, [], Some, sym, ap, ◌∙◌}
use Rattle.std.specs.FinMap as map
use Rattle.std.specs.Option.{option_copied}
use Rattle.std.specs.Prelude.{option_map}
use Rattle.client_core.specs.Works.{client_left}
use Rattle.schedule_model.specs.Faults.{first_reason, is_script_off, present_tests}
use Rattle.schedule_world.specs.Books.{book_of}
use Rattle.schedule_world.proofs.Presence.{here_reason, neither}
use Rattle.schedule_world.proofs.book.Books.present.Goals as goal

pub returns : goal.returns
returns c =
    let k = c.in_ok-book.book.now in
    let there : map.get c.args.self.now c.args.client ≡ Some k = sym c.get.ensures ∙ ap option_copied c.in_ok-book.ensures.ok_part in
    let here = sym c.is_gone.ensures ∙ c.if-is_gone.false in
    (k, there, (neither k.is_stopped (is_script_off (client_left k.core)) here).0, ap (λ b. first_reason (present_tests (option_map book_of b))) there ∙ here_reason k [] here)
