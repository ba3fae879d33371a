use Rattle.wire_show.proofs.reading.show_all.Goals as goal

pub returns-in-None : goal.returns-in-None
returns-in-None g c =
    let (bytes, lines, so_far, full, given, written) = c.in-None.ensures.shown in
    let (all, read, end, wrote, kept) = c.read_past.ensures _ bytes lines so_far full given _ _ in
    (all, lines, read, end, wrote written)
