-- What is made of a binding, and of a publication. Serves the proofs of code.
use Rattle.std.specs.Prelude.{List, ℕ}
use Rattle.schedule_lines.specs.declared.asked.Binding.{Binding}
use Rattle.schedule_lines.specs.declared.asked.Sending.{Sending}
use Rattle.schedule_model.specs.declared.line.Asked.{Asked}

-- what is made of an exchange, a routing key, a pattern and a queue, of those of a binding
abbrev pub bound : (List ℕ → List ℕ → List ℕ → List ℕ → Asked) → Binding → Asked
bound f b = f b.exchange b.routing_key b.pattern b.queue

-- what is made of an exchange, a routing key, a priority and a task, of those of a publication
abbrev pub sent : (List ℕ → List ℕ → ℕ → List ℕ → Asked) → Sending → Asked
sent f s = f s.exchange s.routing_key s.priority s.task
