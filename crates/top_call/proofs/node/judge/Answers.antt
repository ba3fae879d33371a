use Rattle.std.proofs.Common.{map, sym, true, ◌≡◌}
use Rattle.top_call.proofs.Asked.{asks_replay}
use Rattle.top_call.proofs.Endings.{shown_past, shown_whole}
use Rattle.top_call.specs.Words.{reads_schedule}
use Rattle.top_call.proofs.node.judge.Goals as goal

pub returns-in-Err-Long-clause-shown : goal.returns-in-Err-Long-clause-shown
returns-in-Err-Long-clause-shown g c =
    let words = map (λ w. w.now) c.args.words.now in
    let lawful : reads_schedule words ≡ true = asks_replay words c.requires (sym c.in_default.ensures) in
    let past = rw c.in-Err-Long.field-0-is at c.in-Err-Long.ensures.end in
    shown_past words _ _ _ c.replayed-in-Err-Long.result lawful past (rw (← c.is_recording-recording.ensures, ← c.as_slice-in-Err-Long.ensures) c.replayed-in-Err-Long.ensures)

pub returns-in-Ok-clause-shown : goal.returns-in-Ok-clause-shown
returns-in-Ok-clause-shown g c =
    let words = map (λ w. w.now) c.args.words.now in
    let lawful : reads_schedule words ≡ true = asks_replay words c.requires (sym c.in_default.ensures) in
    let whole = rw c.in-Ok.bytes-is at c.in-Ok.ensures.all in
    shown_whole words _ _ _ c.replayed.result lawful whole (rw (← c.is_recording-recording.ensures, ← c.as_slice.ensures) c.replayed.ensures)
