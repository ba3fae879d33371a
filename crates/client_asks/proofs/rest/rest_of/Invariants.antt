use Rattle.std.proofs.Common.{◌≡◌, take}
use Rattle.client_asks.proofs.rest.rest_of.Given as goal

abbrev pub invariant-loop-word : goal.invariant-loop-word
invariant-loop-word l = l.rest ≡ take l.word-index l.words
