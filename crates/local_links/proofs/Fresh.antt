-- A link that nobody used.
use Rattle.std.proofs.Common.{List, [], arith, refl, subst, sym, ℕ, ◌++◌, ◌≡◌}
use Rattle.wire_grammar.proofs.Limited.{front_says, limited_front}
use Rattle.wire_grammar.specs.Spells.{IsFront}
use Rattle.resp_wire.specs.Stands.{Stands}
use Rattle.desks.specs.Faults.{IsOpen}
use Rattle.plain_desk.specs.declared.desk.PlainDesk.{PlainDesk}
use Rattle.sessions.specs.Hearings.{HasHeard}
use Rattle.sessions.specs.declared.talking.Talking.{Talking}
use Rattle.local_links.specs.LocalTalks.{IsBeginning, Serves, desk_goes}
use Rattle.local_links.specs.declared.link_stage.LinkStage.TheVariants.{Asks}
use Rattle.local_links.proofs.Went.{went_stays}

-- nothing is a front
empty_front : IsFront []
empty_front = front_says 0 [] (limited_front 0 [] (omega arith) refl)

-- nothing was sent, and nothing asked
module _ (d : PlainDesk) (t : Talking) where
  abbrev nothing_heard : t.commands ≡ 0 → HasHeard desk_goes IsBeginning d d [] t.commands
  nothing_heard count = record {
    values = [];
    deeds = [];
    from = 0;
    rest = [];
    leads = (refl, refl);
    calls = tt {0};
    went = went_stays d;
    counted = omega (arith, count);
  }

  pub new_served : (sent replies : List ℕ) → sent ≡ [] → replies ≡ [] → IsOpen d.standing.fault d.standing.stopped → Stands t.decoder 0 [] → t.out.items ≡ [] → t.commands ≡ 0 → Serves d d sent replies t Asks
  new_served sent replies none nothing opened stands out count =
      subst (λ l. Serves d d l replies t Asks) (sym none) (subst (λ l. Serves d d [] l t Asks) (sym nothing)
      (record { talks = record { heard = nothing_heard count; stands = stands; answered = out }; front = empty_front }, opened))
