use Rattle.letters.proofs.Notes.{none_noted}
use Rattle.letters.proofs.letters.Letters.note.Goals as goal

pub returns-in_err-entry-clause-kept : goal.returns-in_err-entry-clause-kept
returns-in_err-entry-clause-kept c = none_noted c.args.self.now
