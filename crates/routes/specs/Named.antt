-- The queue of a message on the empty exchange. Serves the proofs of code.
use Rattle.std.specs.Prelude.{Bool, true}
use Rattle.envelope.specs.Envelopes.{parts_in}
use Rattle.queue_keys.specs.Names.{is_name}
use Rattle.routes.specs.declared.route.Publishing.{Publishing}
use Rattle.routes.specs.declared.route.Publishing.TheVariants.{Direct, Asking, Pushing}
use Rattle.serde_json.specs.Data.{Data}

-- where it is pushed to the queue that its routing key names, whether that is a lawful name
abbrev pub is_named : Data → Publishing → Bool
is_named d Direct = is_name (parts_in d).routing_key
is_named d Asking = true
is_named d (Pushing route) = true
