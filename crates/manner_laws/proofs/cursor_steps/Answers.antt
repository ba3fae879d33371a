-- What `cursor_steps` ensures.
use Rattle.manner_laws.proofs.Asked.{ask_is}
use Rattle.manner_laws.proofs.Allowed.{ask-allowed}
use Rattle.manner_laws.proofs.Told.{told_is, told-allowed}
use Rattle.manner_laws.proofs.Judged.{one_more}
use Rattle.manner_laws.proofs.cursor_steps.Goals as goal

pub returns-clause-asks : goal.returns-clause-asks
returns-clause-asks c = λ σ exchange_at laws readable s c a words q time. (ask_is σ exchange_at s c a words q, ask-allowed σ exchange_at s laws readable c a words q time)

pub returns-clause-tells : goal.returns-clause-tells
returns-clause-tells c = λ σ s q r c. (told_is σ s q r c, told-allowed σ s q r c)

pub returns-clause-next : goal.returns-clause-next
returns-clause-next c = one_more
