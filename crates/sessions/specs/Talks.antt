-- Moments and bytes of a session's commands.
use Rattle.std.specs.Prelude.{List, flat_map, min, ℕ, ◌++◌, ◌-◌, ◌/◌, ◌^◌, ◌≡◌}
use Rattle.wire_grammar.specs.Texts.{spelling}
use Rattle.store_model.specs.declared.reply.Reply.{Reply}

-- the moment in seconds that a store is given at this one in microseconds, below 2^40
abbrev pub store_moment : ℕ → ℕ
store_moment now = min (now / 1000000) (2 ^ 40 - 1)

-- a moment that a store is given by a clock that gives these
abbrev pub IsClocked : (ℕ → Type 0) → ℕ → Type 0
IsClocked gives at = (now : ℕ) × gives now × (at ≡ store_moment now)

-- the bytes of a reply: the values that were pushed before it, and the answer
abbrev pub reply_bytes : Reply → List ℕ
reply_bytes reply = flat_map spelling reply.pushed ++ spelling reply.answer
