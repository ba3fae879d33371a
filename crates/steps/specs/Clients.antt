-- Clients, by what they drew and began.
use Rattle.std.specs.Prelude.{ℕ, ◌+◌, ◌^◌, nat_lt, if◌then◌else◌, Option, None, Some}
use Rattle.delivery_tags.specs.Tags.{tag_number}
use Rattle.steps.specs.declared.counts.ClientCounts.{ClientCounts}

-- of a client of a seed that did nothing yet
abbrev pub new_counts : ℕ → ClientCounts
new_counts s = record { seed = s; drawn = 0; passes = 0 }

-- the tag that it draws next, none where its counter is at the end
abbrev pub next_tag_of : ClientCounts → Option ℕ
next_tag_of c = if nat_lt (c.drawn + 1) (2 ^ 64) then Some (tag_number c.seed (c.drawn + 1)) else None
