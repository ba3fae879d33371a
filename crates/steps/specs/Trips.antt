-- Round trips of a client: a command and the whole reply to it.
use Rattle.std.specs.Prelude.{ℕ, List, map}
use Rattle.store_model.specs.Words.{Words}
use Rattle.store_model.specs.declared.reply.Reply.{Reply}
use Rattle.command_blocks.specs.Calls.{Call, call}

-- a command at a moment, and the reply to it
pub record RoundTrip : Type 0 where
  pub at : ℕ
  pub words : Words
  pub reply : Reply

-- a round trip, written short
abbrev pub trip : ℕ → Words → Reply → RoundTrip
trip a w r = record { at = a; words = w; reply = r }

-- the call of a round trip: messages that were pushed before the answer are passed over
abbrev pub trip_call : RoundTrip → Call
trip_call t = call t.at t.words t.reply.answer

-- the calls of round trips
abbrev pub trip_calls : List RoundTrip → List Call
trip_calls trips = map trip_call trips
