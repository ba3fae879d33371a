use Rattle.std.proofs.Common.{◌≡◌, ◌++◌, drop, flat_map}
use Rattle.wire_grammar.specs.Texts.{spelling}
use Rattle.sessions.proofs.asking.reply_onto.Given as goal

abbrev pub invariant-loop-value : goal.invariant-loop-value
invariant-loop-value l = l.out.items ++ flat_map spelling (drop l.value-index l.fn.reply.pushed) ≡ l.initial.out.items ++ flat_map spelling l.fn.reply.pushed
