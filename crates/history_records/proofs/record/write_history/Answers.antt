use Rattle.std.proofs.Common.{◌∙◌}
use Rattle.place_model.specs.Shown.{history_of}
use Rattle.history_records.proofs.Written.{record_written}
use Rattle.history_records.proofs.record.write_history.Goals as goal

pub returns : goal.returns
returns c = c.from_vec.ensures ∙ record_written (history_of c.args.history.now) c.clients.result.now c.entries.result.now _ _ _ c.clients.ensures c.entries.ensures.entries c.in_ok-out.ensures.items c.in_ok-client_rows.ensures c.in_ok-entry_rows.ensures
