-- What `cursor_exact` ensures.
use Rattle.manner_laws.proofs.Judged.{front_at, at_front, unlisted_cursor, cursor_unlisted, mannered_cursor, cursor_mannered}
use Rattle.manner_laws.proofs.cursor_exact.Goals as goal

pub returns-clause-front : goal.returns-clause-front
returns-clause-front c = λ σ exchange_at laws readable s l time. (front_at σ exchange_at laws readable s l time, at_front σ exchange_at laws readable s l)

pub returns-clause-unlisted : goal.returns-clause-unlisted
returns-clause-unlisted c = λ σ exchange_at laws readable s l time. (unlisted_cursor σ exchange_at laws readable s l time, cursor_unlisted σ exchange_at laws readable s l time)

pub returns-clause-mannered : goal.returns-clause-mannered
returns-clause-mannered c = λ σ exchange_at laws readable s l time. (mannered_cursor σ exchange_at laws readable s l time, cursor_mannered σ exchange_at laws readable s l time)
