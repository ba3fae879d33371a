use Rattle.std.proofs.Common.{[], drop, sym, ap, refl}
use Rattle.resp_wire.proofs.Standing.{anew}
use Rattle.resp_wire.proofs.decoder.Decoder.new.Goals as goal

pub returns : goal.returns
returns c = (
  refl,
  (
    [],
    record {
      cut = sym (ap (drop 0) c.new-3.ensures.items);
      means = λ cs. anew (record { phase = _; number = 0; bytes = c.new.result; opens = c.new-2.result.items }) 0 cs refl c.new-2.ensures.items;
      start = refl;
      held = refl;
      later = refl;
    },
  ),
)
