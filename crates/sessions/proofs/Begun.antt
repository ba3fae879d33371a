-- How a session begins.
use Rattle.std.proofs.Common.{List, [], ap, append-nil, arith, inl, refl, sym, ℕ, ◌++◌, ◌∙◌, ◌≡◌}
use Rattle.std.specs.Prelude.{Bool, None, Option}
use Rattle.std.proofs.KnownBytes.{Appends-nil}
use Rattle.wire_grammar.proofs.Limited.{front_says, limited_front}
use Rattle.wire_grammar.specs.Spells.{IsFront}
use Rattle.resp_wire.specs.Stands.{Stands}
use Rattle.desks.specs.Deeds.{Deed}
use Rattle.desks.specs.declared.desk.DeskFault.{DeskFault}
use Rattle.sessions.specs.Hearings.{HasHeard}
use Rattle.net_links.specs.LinkViews.{LinkView}
use Rattle.sessions.specs.SessionEnds.{HasSession}
use Rattle.sessions.specs.Talkings.{InSession}
use Rattle.sessions.specs.declared.ends.Why.TheVariants.{Memory, Turns}
use Rattle.sessions.specs.declared.talking.Talking.{Talking}

-- nothing is a front
pub empty_front : IsFront []
empty_front = front_says 0 [] (limited_front 0 [] (omega arith) refl)

module _ {D : Type 0} (goes : D → List Deed → D → Type 0) (stays : (s : D) → goes s [] s) (gives : ℕ → Type 0) (first : D) where
  abbrev nothing_heard : (count : ℕ) → count ≡ 0 → HasHeard goes gives first first [] count
  nothing_heard count none = record {
    values = [];
    deeds = [];
    from = 0;
    rest = [];
    leads = (refl, refl);
    calls = tt {0};
    went = stays first;
    counted = omega (arith, none);
  }

  -- before the first receive
  pub begun : (l : LinkView) (t : Talking) → Stands t.decoder 0 [] → t.out.items ≡ [] → t.commands ≡ 0 → InSession goes gives first first l l t 0
  begun l t stands out count = record {
    stream = [];
    sent = [];
    talks = record { talks = record { heard = nothing_heard t.commands count; stands = stands; answered = out }; front = empty_front };
    empty = out;
    came = Appends-nil l.received;
    went = Appends-nil l.sent;
    gained = refl;
    same_faults = refl;
    same_ends = refl;
  }

  -- there was no memory for it
  pub not_begun : (shared : Bool) (fault : Option DeskFault) → fault ≡ None → (l : LinkView) (turns : ℕ) → HasSession goes gives shared fault first first l l turns 0 Memory
  not_begun shared fault calm l turns = record {
    stream = [];
    sent = [];
    receives = 0;
    came = Appends-nil l.received;
    went = Appends-nil l.sent;
    gained = refl;
    few = omega arith;
    later_faults = omega arith;
    later_ends = omega arith;
    ends = (nothing_heard 0 refl, inl (refl, refl, refl, calm), record { no_fault = refl; no_end = refl });
  }

-- the turns are over
pub turns_over : {D : Type 0} (goes : D → List Deed → D → Type 0) (gives : ℕ → Type 0) (shared : Bool) (fault : Option DeskFault) (first now : D) (old new : LinkView) (t : Talking) (n turns : ℕ) → InSession goes gives first now old new t n → n ≡ turns
    → HasSession goes gives shared fault first now old new turns t.commands Turns
turns_over goes gives shared fault first now old new t n turns s full = record {
  stream = s.stream;
  sent = s.sent;
  receives = n;
  came = s.came;
  went = s.went;
  gained = s.gained;
  few = omega (arith, full);
  later_faults = omega (arith, s.same_faults);
  later_ends = omega (arith, s.same_ends);
  ends = (s.talks.talks.heard, sym (append-nil s.sent) ∙ ap (λ l. s.sent ++ l) (sym s.empty) ∙ s.talks.talks.answered, s.talks.front, full, record { no_fault = s.same_faults; no_end = s.same_ends });
}
