use Rattle.std.proofs.Common.{sym}
use Rattle.publish_script.proofs.Tagged.{writable_of}
use Rattle.publish_script.proofs.reader.moment_in.Goals as goal

pub returns-in-len1-clause-writable : goal.returns-in-len1-clause-writable
returns-in-len1-clause-writable c = writable_of _ _ (sym c.read.ensures)
