-- The limits of what a store holds and gives.
use Rattle.std.specs.Prelude.{ℕ, ◌^◌}

-- the first moment, in seconds, that is too late for a store
abbrev pub moment_limit : ℕ
moment_limit = 2 ^ 40

-- the most commands of a queue
abbrev pub queue_limit : ℕ
queue_limit = 4096

-- the most members of a set
abbrev pub set_limit : ℕ
set_limit = 1024

-- the most bytes of a member of a set or a sorted set, and of a field of a hash
abbrev pub member_limit : ℕ
member_limit = 1024

-- the most messages that a connection hasn't been told yet
abbrev pub pending_limit : ℕ
pending_limit = 1024

-- the most members that a range gives
abbrev pub range_limit : ℕ
range_limit = 4096
