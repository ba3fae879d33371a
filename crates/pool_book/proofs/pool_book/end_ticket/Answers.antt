use Rattle.pool_book.proofs.Placing.{kept_without}
use Rattle.pool_book.proofs.pool_book.end_ticket.Goals as goal

pub returns-in-None : goal.returns-in-None
returns-in-None c = kept_without c.args.number c.args.running.now.items c.as_slice.result.now c.as_slice.ensures.value c.in-None.ensures.value
