-- The clients, before and after something happened. Serves the proofs of code.
use Rattle.std.specs.Prelude.{◌≡◌, ◌==◌, ℕ, false}
use Rattle.place_model.specs.Shown.{has_stopped, history_of}
use Rattle.schedule_past.specs.declared.past.Past.{Past}

-- the table of clients is as it was
abbrev pub HasSameTable : Past → Past → Type 0
HasSameTable p q = (history_of q.history).clients ≡ (history_of p.history).clients

-- just those are gone who were
abbrev pub HasSameGone : Past → Past → Type 0
HasSameGone p q = (c : ℕ) → has_stopped c (history_of q.history).entries ≡ has_stopped c (history_of p.history).entries

-- so it is with all clients but this one
abbrev pub HasSameGoneBut : ℕ → Past → Past → Type 0
HasSameGoneBut k p q = (c : ℕ) → (k == c) ≡ false → has_stopped c (history_of q.history).entries ≡ has_stopped c (history_of p.history).entries

-- the table is as it was, and just those are gone who were
abbrev pub HasSameClients : Past → Past → Type 0
HasSameClients p q = HasSameTable p q × HasSameGone p q
