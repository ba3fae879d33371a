use Rattle.std.proofs.Common.{Some, sym, ap, ◌∙◌}
use Rattle.serde_json.specs.View.{view as data_of}
use Rattle.envelope.specs.Entries.{entry_for}
use Rattle.letters.proofs.Spelled.{of_entry}
use Rattle.letters.proofs.letters.Letters.add_entry.Goals as goal

pub put-requires : goal.put-requires
put-requires c = of_entry c.args.text (entry_for (data_of c.args.e.now)) c.requires ∙ ap (λ l. Some l) (sym c.of_entry.ensures)
