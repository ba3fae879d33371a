use Rattle.std.proofs.Common.{arith}
use Rattle.std.proofs.lemmas.Slice.{put_mid-rotated}
use Rattle.routes.proofs.cycle.move_to_end.Goals as goal

pub returns-clause-order : goal.returns-clause-order
returns-clause-order c = λ q. put_mid-rotated c.args.place _ c.args.queues.now c.rotate_left.new.self q c.requires (omega arith) c.rotate_left.ensures.after
