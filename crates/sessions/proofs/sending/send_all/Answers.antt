use Rattle.std.proofs.Common.{◌++◌, ◌∙◌, take}
use Rattle.std.proofs.KnownBytes.{Appends-trans, Keeps-trans}
use Rattle.links.proofs.Pieces.{front_more}
use Rattle.sessions.proofs.sending.send_all.Goals as goal

pub more-preserved : goal.more-preserved
more-preserved g c =
    let (done, split, appended, kept, faults, ends, gains) = c.more.invariant in
    let rest = c.more.rest.now in
    let n = c.in-Ok.count in
    let e = c.in-Ok.ensures in
    (done ++ take n rest, front_more _ done rest n split, Appends-trans _ _ _ _ _ appended e.sent, Keeps-trans _ _ _ kept e.received, e.cause ∙ faults, e.ends ∙ ends, e.gains ∙ gains)
