use Rattle.std.proofs.Common.{map, string_bytes, take, ◌≡◌}
use Rattle.top_call.proofs.words.views.Given as goal

abbrev pub invariant-loop-text : goal.invariant-loop-text
invariant-loop-text l = map (λ w. w.now) l.words.items ≡ map string_bytes (take l.text-index l.texts)
