-- A try of a return reads the bindings of its entry's own exchange.
use Rattle.std.proofs.Common.{List, None, Option, Some, [], ap, inl, inr, refl, subst, sym, true, ◌∙◌, ◌∷◌, ◌≡◌, ◌⊎◌}
use Rattle.wire_values.specs.declared.value.Value.{Value}
use Rattle.store_model.specs.Commands.{is_queued}
use Rattle.store_model.specs.Replies.{bulks, queued}
use Rattle.store_model.specs.Words.{command_of}
use Rattle.store_model.specs.declared.command.Command.{Command}
use Rattle.store_model.specs.declared.command.Command.TheVariants.{Smembers, Watch}
use Rattle.queue_keys.specs.Names.{Bytes}
use Rattle.command_blocks.specs.Calls.{Call}
use Rattle.place_theorem.specs.Bindings.{set_read_by, set_read_from}
use Rattle.place_theorem.proofs.Full.{Full}
use Rattle.place_theorem.proofs.Machine.{Asks, Begins, Cursor, Ends, Fails, Finds, Finds_none, Finds_other, Leaves, Passes_by, Publishes, Queues, Reads, Refuses, Runs, Step, Talks, Watches}
use Rattle.place_theorem.proofs.Safe.{read_in}

-- these members were read at the key of the exchange that the entry u tells
abbrev pub ReadAt : Full → Bytes → Value → Option (Bytes × Value) → Type 0
ReadAt σ u a o = (e : Bytes) × (σ.names.exchange_in u ≡ Some e) × (o ≡ Some (σ.names.binding e, a))

-- what a cursor knows of the bindings was read so
abbrev pub ReadOf : Full → Option (Bytes × Bytes × Option Value) → Option (Bytes × Value) → Type 0
ReadOf σ None o = Unit {0}
ReadOf σ (Some (t, u, None)) o = Unit {0}
ReadOf σ (Some (t, u, Some a)) o = ReadAt σ u a o

-- a command that is queued reads no set
queued_reads : (o : Option (Bytes × Value)) (c : Command) (x : Value) → is_queued c ≡ true → set_read_by o c x ≡ o
queued_reads o (Smembers k) x q = absurd (cc q)
queued_reads o (Watch ks) x q = absurd (cc q)
queued_reads o other x q = refl

step_reads : (σ : Full) (from to : Cursor) (c : Command) (x : Value) (o : Option (Bytes × Value)) → Step σ from c x to → ReadOf σ (read_in from) o → ReadOf σ (read_in to) (set_read_by o c x)
step_reads σ from to c x o (Passes_by w h cm y far) told = tt
step_reads σ from to c x o (Asks t u e y is) told = (e, is, refl)
step_reads σ from to c x o (Talks cm y t) told = tt
step_reads σ from to c x o (Publishes k v n q) told = tt
step_reads σ from to c x o (Finds_none ks qs) told = tt
step_reads σ from to c x o (Finds_other ks q v qs none) told = tt
step_reads σ from to c x o (Finds ks q v t qs tag) told = tt
step_reads σ from to c x o (Begins w h r) told = told
step_reads σ from to c x o (Queues cs w h r cm q) told = subst (ReadOf σ r) (sym (queued_reads o c queued q)) told
step_reads σ from to c x o (Ends cs w h r xs whole) told = tt
step_reads σ from to c x o (Fails cs w h r whole) told = tt
step_reads σ from to c x o (Watches k) told = tt
step_reads σ from to c x o (Reads t u) told = tt
step_reads σ from to c x o (Leaves w r) told = tt
step_reads σ from to c x o (Refuses f g cm y z st) told = tt

-- so it is after calls in a row
pub runs_read : (σ : Full) (a b : Cursor) (xs : List Call) (o : Option (Bytes × Value)) → Runs σ a xs b → ReadOf σ (read_in a) o → ReadOf σ (read_in b) (set_read_from o xs)
runs_read σ a b [] o r told = subst (λ c. ReadOf σ (read_in c) o) r told
runs_read σ a b (x ∷ xs) o r told = runs_read σ r.0 b xs (set_read_by o (command_of x.words) x.answer) r.2 (step_reads σ a r.0 (command_of x.words) x.answer o r.1 told)

-- the members of a lookup
pub members_read : (σ : Full) (t u : Bytes) (ms : List Bytes) (a : Option Value) (o : Option (Bytes × Value)) → (σ.names.exchange_in u ≡ None) ⊎ (a ≡ Some (bulks ms)) → ReadOf σ (Some (t, u, a)) o → (σ.names.exchange_in u ≡ None) ⊎ ReadAt σ u (bulks ms) o
members_read σ t u ms a o (inl none) told = inl none
members_read σ t u ms None o (inr e) told = absurd (cc e)
members_read σ t u ms (Some y) o (inr e) told = let same : y ≡ bulks ms = cc e in inr (told.0, told.1, told.2 ∙ ap (λ z. Some (σ.names.binding told.0, z)) same)
