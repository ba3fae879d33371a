use Rattle.std.proofs.Common.{Some, sym, ap, ◌∙◌}
use Rattle.serde_json.specs.View.{view as data_of}
use Rattle.letters.proofs.Spelled.{of_envelope}
use Rattle.letters.proofs.letters.Letters.add.Goals as goal

pub put-requires : goal.put-requires
put-requires c = of_envelope c.args.text (data_of c.args.e.now) c.requires ∙ ap (λ l. Some l) (sym c.of_envelope.ensures)
