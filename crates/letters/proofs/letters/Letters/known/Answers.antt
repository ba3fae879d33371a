use Rattle.std.proofs.Common.{sym}
use Rattle.letters.proofs.Notes.{known_by}
use Rattle.letters.proofs.letters.Letters.known.Goals as goal

pub returns-in-Some-clause-noted : goal.returns-in-Some-clause-noted
returns-in-Some-clause-noted c = known_by c.args.self.now c.mark_of.result c.in-Some.note.now c.args.bytes.now c.letter_if.result (sym c.in-Some.ensures.value) c.letter_if.ensures.own
