use Rattle.std.proofs.Common.{◌++◌, sym, ap, ◌∙◌, arith}
use Rattle.record_reading.proofs.Spelled.{number_said}
use Rattle.record_reading.proofs.rest.Rest.number.Goals as goal

-- src/number.rt:16:5
pub returns-clause-text : goal.returns-clause-text
returns-clause-text c = number_said c.args.high _ c.args.self.now.bytes.now c.in-Ok.text.now c.number_text.new.self.bytes.now (omega (arith, c.ranges.high.fits)) c.number_in.ensures (c.number_text.ensures ∙ ap (λ w. w ++ c.number_text.new.self.bytes.now) (sym c.in-Ok.ensures.cases.0))
