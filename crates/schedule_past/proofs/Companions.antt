-- Clients as they were, before and after something happened.
use Rattle.std.proofs.Common.{◌≡◌, ℕ, false, ◌∙◌}
use Rattle.place_model.specs.Shown.{has_stopped}
use Rattle.schedule_past.specs.Clients.{HasSameClients}
use Rattle.schedule_past.specs.declared.past.Past.{Past}

-- as they were before, and before that
pub same_clients : (p q r : Past) → HasSameClients p q → HasSameClients q r → HasSameClients p r
same_clients p q r a b = (b.0 ∙ a.0, λ c. b.1 c ∙ a.1 c)

-- who wasn't gone isn't
pub still_running : (c : ℕ) (p q : Past) → HasSameClients p q → has_stopped c p.history.entries ≡ false → has_stopped c q.history.entries ≡ false
still_running c p q same e = same.1 c ∙ e
