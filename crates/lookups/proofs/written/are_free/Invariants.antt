use Rattle.std.proofs.Common.{◌≡◌, drop}
use Rattle.queue_keys.specs.Names.{all_free}
use Rattle.lookups.proofs.written.are_free.Given as goal

abbrev pub invariant-loop-byte : goal.invariant-loop-byte
invariant-loop-byte l = all_free (drop l.byte-index l.text) ≡ all_free l.text
