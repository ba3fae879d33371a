use Rattle.std.proofs.Common.{◌≤◌, length, sym, subst}
use Rattle.serde_json.specs.View.{view as data_of}
use Rattle.queue_keys.specs.Names.{Bytes}
use Rattle.wire_grammar.specs.Fits.{IsShort}
use Rattle.returns.proofs.Limits.{text_short}
use Rattle.returns.proofs.carried.Carried.of.Goals as goal

pub invariant_of-result : goal.invariant_of-result
invariant_of-result c = record {
  short = subst IsShort (sym c.in_ok-from_slice.ensures) (text_short (data_of c.args.redelivered.now) c.text.result.now c.text.ensures.again c.text.ensures.value);
  named = subst (λ (b : Bytes). length b ≤ 255) (sym c.in_ok-copy.ensures) c.requires.named;
}
