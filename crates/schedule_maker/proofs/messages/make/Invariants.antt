use Rattle.std.proofs.Common.{◌≡◌, ◌++◌}
use Rattle.schedule_maker.specs.Made.{made_head, made_messages}
use Rattle.schedule_maker.proofs.messages.make.Given as goal

abbrev pub invariant-loop-before : goal.invariant-loop-before
invariant-loop-before l = l.out.items ≡ made_head ++ made_messages l.before
