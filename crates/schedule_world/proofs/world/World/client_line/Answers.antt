use Rattle.std.proofs.Common.{◌≡◌, ℕ, ◌∷◌, [], ◌++◌, refl, sym, ap, ◌∙◌}
use Rattle.std.specs.FinMap.{empty, get}
use Rattle.place_model.specs.Shown.{has_stopped}
use Rattle.schedule_model.specs.Faults.{has_number}
use Rattle.schedule_model.specs.Schedules.{Went}
use Rattle.schedule_world.proofs.Clients.{added, client_led, grown_known, repeated_led, stopped_led}
use Rattle.schedule_world.proofs.Here.{same_here, set_here, unstopped}
use Rattle.schedule_world.proofs.Known.{newest}
use Rattle.schedule_world.proofs.Spoken.{set_known}
use Rattle.schedule_world.proofs.Taken.{gone_is}
use Rattle.schedule_world.specs.Desks.{desk_of}
use Rattle.schedule_world.proofs.world.World.client_line.Goals as goal

pub returns-then-is_stopped : goal.returns-then-is_stopped
returns-then-is_stopped c =
    (stopped_led (desk_of c.args.self.now) c.args.client c.args.seed _ _ (gone_is c.args.self.now.books c.args.client _ (sym c.is_stopped.ensures ∙ c.if-is_stopped.true)), refl)

pub returns-then-has_client : goal.returns-then-has_client
returns-then-has_client c =
    (repeated_led (desk_of c.args.self.now) c.args.client c.args.seed _ _ (gone_is c.args.self.now.books c.args.client _ (sym c.is_stopped.ensures ∙ c.if-is_stopped.false)) (sym c.has_client.ensures ∙ c.if-has_client.true), refl)

pub returns : goal.returns
returns c =
    client_led (desk_of c.args.self.now) c.args.client c.args.seed _ _ (gone_is c.args.self.now.books c.args.client _ (sym c.is_stopped.ensures ∙ c.if-is_stopped.false)) (sym c.has_client.ensures ∙ c.if-has_client.false)
    ∙ ap Went (added c.args.self.now.past c.add_client.new.self c.args.self.now.books c.set.new.self c.args.client c.args.seed c.new.result c.new.ensures.client c.new.ensures.idle c.in_ok-set.ensures.ok c.in_ok-add_client.ensures.ok)

pub invariant_of-self-2 : goal.invariant_of-self-2
invariant_of-self-2 c =
    let grown : c.add_client.new.self.history.clients ≡ c.args.self.now.past.history.clients ++ (c.args.client, c.args.seed) ∷ [] = ap (λ d. d.clients) (c.in_ok-add_client.ensures.ok empty) in
    let kept : (k : ℕ) → has_stopped k c.add_client.new.self.history.entries ≡ has_stopped k c.args.self.now.past.history.entries = λ k. ap (λ d. has_stopped k d.entries) (c.in_ok-add_client.ensures.ok empty) in
    record {
      known =
          set_known c.args.self.now.books c.set.new.self c.add_client.new.self.history.clients c.args.client _ c.set.result
          (grown_known c.args.self.now.books c.args.self.now.past.history.clients c.add_client.new.self.history.clients c.args.client c.args.seed c.args.self.now.known grown)
          (ap (has_number c.args.client) grown ∙ newest c.args.client c.args.seed c.args.self.now.past.history.clients)
          c.set.ensures.ok c.set.ensures.err;
      here =
          set_here c.args.self.now.books c.set.new.self c.add_client.new.self.history.entries c.args.client _ c.set.result
          (same_here c.args.self.now.books c.args.self.now.books c.args.self.now.past.history.entries c.add_client.new.self.history.entries refl kept c.args.self.now.here)
          (kept c.args.client ∙ c.args.self.now.here c.args.client (unstopped (get c.args.self.now.books c.args.client) (sym c.is_stopped.ensures ∙ c.if-is_stopped.false)))
          c.set.ensures.ok c.set.ensures.err;
    }
