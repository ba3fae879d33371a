use Rattle.std.proofs.Common.{subst}
use Rattle.client_core.specs.Begun.{Began}
use Rattle.client_core.specs.Works.{core_client}
use Rattle.steps.specs.Begins.{errand_of}
use Rattle.schedule_world.proofs.Begins.{memory_alone}
use Rattle.schedule_world.proofs.book.began.Goals as goal

pub lacked-requires : goal.lacked-requires
lacked-requires c =
    let errand = errand_of (core_client c.args.core.now) c.args.block in
    memory_alone c.args.core.now c.begin.new.self errand c.requires.planned.0 c.in-Err.fault c.requires.planned.1.errand_is
    (subst (Began c.args.core.now c.begin.new.self errand) c.in-Err.is c.begin.ensures.begun)
