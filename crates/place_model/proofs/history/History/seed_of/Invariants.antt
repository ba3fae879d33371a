use Rattle.std.proofs.Common.{◌≡◌, drop}
use Rattle.place_model.specs.Shown.{seed_of}
use Rattle.place_model.proofs.history.History.seed_of.Given as goal

abbrev pub invariant-loop-number : goal.invariant-loop-number
invariant-loop-number l = seed_of l.conn l.self.clients ≡ seed_of l.conn (drop l.number-index l.self.clients)
