-- A session over whole commands ends where its link does, or at its desk.
use Rattle.std.proofs.Common.{List, [], append-nil, append_assoc, ap, arith, length, refl, subst, suc, sym, ℕ, ◌+◌, ◌++◌, ◌∙◌, ◌∷◌, ◌≡◌, inl, inr}
use Rattle.std.specs.Prelude.{Bool, None, Option, Some}
use Rattle.wire_values.specs.declared.value.Value.{Value}
use Rattle.links.specs.Causes.{Rose}
use Rattle.wire_grammar.specs.Reads.{Front, Got, Reading, Wrong, fault_of, read, wire_fault}
use Rattle.wire_grammar.specs.Spells.{Spells}
use Rattle.wire_grammar.specs.Streams.{Leads}
use Rattle.wire_grammar.specs.declared.kind.WireKind.{WireKind}
use Rattle.wire_grammar.proofs.Limited.{fault_is, limited_front, read_spelled}
use Rattle.resp_wire.specs.Stands.{IsFault, held_to}
use Rattle.desks.specs.Deeds.{Deed}
use Rattle.desks.specs.declared.desk.DeskFault.{DeskFault}
use Rattle.net_links.specs.LinkViews.{LinkView}
use Rattle.sessions.specs.CommandValues.{command_in}
use Rattle.sessions.specs.Calls.{AreCalls}
use Rattle.sessions.specs.Hearings.{BeginsNoCommand, HasHeard}
use Rattle.sessions.specs.SessionEnds.{EndsSession, HasSession, IsLinkCause}
use Rattle.sessions.specs.declared.ends.Why.{Why}
use Rattle.sessions.specs.declared.ends.Why.TheVariants.{Closed, Ended, Full, Link, Memory, NotWords, Turns, Wire}
use Rattle.serving_laws.specs.WholeSessions.{AreCommands, IsGivenWhole, IsWholeEnd}

-- ---- what a reading got

abbrev value_got : Value → Reading → Value
value_got d (Got v q rest) = v
value_got d Front = d
value_got d (Wrong kind q) = d

abbrev place_got : Reading → ℕ
place_got (Got v q rest) = q
place_got Front = 0
place_got (Wrong kind q) = 0

abbrev rest_got : Reading → List ℕ
rest_got (Got v q rest) = rest
rest_got Front = []
rest_got (Wrong kind q) = []

nothing_read : (p : ℕ) → read p [] ≡ Front
nothing_read p = limited_front p [] (omega arith) refl

-- nothing begins with no value
pub none_begun : (v : Value) (front rest : List ℕ) → [] ≡ front ++ rest → Spells v front → ⊥
none_begun v front rest e s = let f : Front ≡ Got v (0 + length front) rest = sym (nothing_read 0) ∙ ap (read 0) e ∙ read_spelled v front rest 0 s in absurd cc

-- bytes begin with one value
same_begun : (p : ℕ) (v w : Value) (front rest front2 rest2 : List ℕ) → front ++ rest ≡ front2 ++ rest2 → Spells v front → Spells w front2 → (v ≡ w) × (p + length front ≡ p + length front2) × (rest ≡ rest2)
same_begun p v w front rest front2 rest2 e s t =
    let f : Got v (p + length front) rest ≡ Got w (p + length front2) rest2 = sym (read_spelled v front rest p s) ∙ ap (read p) e ∙ read_spelled w front2 rest2 p t in
    (ap (value_got v) f, ap place_got f, ap rest_got f)

-- ---- what follows the values that were heard

-- after some of the values that bytes are, the others are what follows
pub others : (p : ℕ) (stream more : List ℕ) (heard : List Value) (from : ℕ) (rest bytes : List ℕ) (values : List Value) (until : ℕ) → Leads p stream heard from rest → Leads p bytes values until [] → bytes ≡ stream ++ more
    → (left : List Value) × (values ≡ heard ++ left) × Leads from (rest ++ more) left until []
others p stream more [] from rest bytes values until l all e = (values, refl, subst (λ i. Leads i (rest ++ more) values until []) l.1 (subst (λ b. Leads p b values until []) (e ∙ ap (λ b. b ++ more) l.0) all))
others p stream more (h ∷ hs) from rest bytes [] until l all e = absurd (none_begun h l.0 (l.1 ++ more) (sym all.0 ∙ e ∙ ap (λ b. b ++ more) l.2 ∙ append_assoc l.0 l.1 more) l.3)
others p stream more (h ∷ hs) from rest bytes (v ∷ vs) until l all e =
    let same = same_begun p v h all.0 all.1 l.0 (l.1 ++ more) (sym all.2 ∙ e ∙ ap (λ b. b ++ more) l.2 ∙ append_assoc l.0 l.1 more) all.3 l.3 in
    let later = others (p + length l.0) l.1 more hs from rest all.1 vs until l.4 (subst (λ i. Leads i all.1 vs until []) same.1 all.4) same.2 in
    (later.0, ap (λ x. x ∷ vs) same.0 ∙ ap (λ x. h ∷ x) later.1, later.2)

commands_left : (heard left : List Value) → AreCommands (heard ++ left) → AreCommands left
commands_left [] left a = a
commands_left (h ∷ hs) left a = commands_left hs left a.1

-- ---- what can't follow

no_fault_found : (o : Option (WireKind × ℕ)) (x : WireKind × ℕ) → o ≡ None → o ≡ Some x → ⊥
no_fault_found o x none some = let e : None ≡ Some x = sym none ∙ some in absurd cc

no_fault : (from : ℕ) (rest more : List ℕ) (left : List Value) (until : ℕ) (kind : WireKind) (place : ℕ) → Leads from (rest ++ more) left until [] → IsFault from rest kind place → ⊥
no_fault from rest more [] until kind place l f =
    no_fault_found (wire_fault from (rest ++ more)) (kind, f.0) (ap fault_of (ap (read from) l.0 ∙ nothing_read from)) (fault_is from rest more kind f.0 f.1).1
no_fault from rest more (v ∷ vs) until kind place l f =
    no_fault_found (wire_fault from (rest ++ more)) (kind, f.0) (ap fault_of (ap (read from) l.2 ∙ read_spelled v l.0 l.1 from l.3)) (fault_is from rest more kind f.0 f.1).1

no_other : (from : ℕ) (rest more : List ℕ) (left : List Value) (until : ℕ) → Leads from (rest ++ more) left until [] → AreCommands left → BeginsNoCommand rest → ⊥
no_other from rest more [] until l a (v, (front, tail, e, s), none) = none_begun v front (tail ++ more) (sym l.0 ∙ ap (λ b. b ++ more) e ∙ append_assoc front tail more) s
no_other from rest more (w ∷ ws) until l a (v, (front, tail, e, s), none) =
    let same = same_begun from w v l.0 l.1 front (tail ++ more) (sym l.2 ∙ ap (λ b. b ++ more) e ∙ append_assoc front tail more) l.3 s in
    let some : None ≡ Some a.0.0 = sym none ∙ sym (ap command_in same.0) ∙ a.0.1 in
    absurd cc

no_link : (old new : LinkView) (turns receives : ℕ) (deeds : List Deed) (sent : List ℕ) (from : ℕ) (rest more : List ℕ) (left : List Value) (until : ℕ) → Leads from (rest ++ more) left until [] → (Rose old.ends new.ends → more ≡ []) → (Rose old.faults new.faults → ⊥)
    → IsLinkCause old new turns receives deeds rest sent → ⊥
no_link old new turns receives deeds sent from rest more left until l all sound (inl (part, rose, same)) = sound rose
no_link old new turns receives deeds sent from rest more left until l all sound (inr (w, front, few, inl (rose, same))) = sound rose
no_link old new turns receives deeds sent from rest more left until l all sound (inr (w, front, few, inr (rose, same, some))) = by left (subst (λ b. Leads from b left until []) (ap (λ m. rest ++ m) (all rose) ∙ append-nil rest) l) where
  by : (left : List Value) → Leads from rest left until [] → ⊥
  by [] l = omega (arith, ap length l.0, some)
  by (v ∷ vs) l = front.none v l.0 l.1 l.2 l.3

-- ---- how it ends

none_left : (from : ℕ) (left : List Value) (until : ℕ) → Leads from [] left until [] → left ≡ []
none_left from [] until l = refl
none_left from (v ∷ vs) until l = absurd (none_begun v l.0 l.1 l.2 l.3)

as_many : (gives : ℕ → Type 0) (values : List Value) (deeds : List Deed) → AreCalls gives values deeds → length deeds ≡ length values
as_many gives [] [] calls = refl
as_many gives [] (d ∷ ds) calls = absurd calls
as_many gives (v ∷ vs) [] calls = absurd calls
as_many gives (v ∷ vs) (d ∷ ds) calls = ap suc (as_many gives vs ds calls.1)

module _ {D : Type 0} (goes : D → List Deed → D → Type 0) (gives : ℕ → Type 0) (shared : Bool) (fault : Option DeskFault) (first now : D) (old new : LinkView) (turns receives : ℕ) (stream sent : List ℕ) (count : ℕ) (g : IsGivenWhole old new stream receives turns) where
  -- the values that weren't heard
  abbrev unheard : (h : HasHeard goes gives first now stream count) → (left : List Value) × (g.values ≡ h.values ++ left) × Leads h.from (h.rest ++ g.more) left g.whole.until []
  unheard h = others 0 stream g.more h.values h.from h.rest (stream ++ g.more) g.values g.whole.until h.leads g.whole.leads refl

  all_heard : (h : HasHeard goes gives first now stream count) → h.rest ≡ [] → g.more ≡ [] → count ≡ held_to (length g.values)
  all_heard h none no_more =
      let o = unheard h in
      let last : o.0 ≡ [] = none_left h.from o.0 g.whole.until (subst (λ b. Leads h.from b o.0 g.whole.until []) (ap (λ b. b ++ g.more) none ∙ no_more) o.2) in
      let same : g.values ≡ h.values = o.1 ∙ ap (λ l. h.values ++ l) last ∙ append-nil h.values in
      h.counted ∙ ap held_to (as_many gives h.values h.deeds h.calls ∙ sym (ap length same))

  pub ends_so : (why : Why) → EndsSession goes gives shared fault first now old new turns receives stream sent count why → IsWholeEnd (length g.values) count why
  ends_so Ended (h, w, none, rose, kept, few) = all_heard h none (g.all rose)
  ends_so Turns (h, w, f, all, c) = omega (arith, all, g.few)
  ends_so Link (h, cause) = let o = unheard h in no_link old new turns receives h.deeds sent h.from h.rest g.more o.0 g.whole.until o.2 g.all g.sound cause
  ends_so (Wire kind place) ((h, w, wrong), calm) = let o = unheard h in no_fault h.from h.rest g.more o.0 g.whole.until kind place o.2 wrong
  ends_so NotWords ((h, w, none), calm) = let o = unheard h in no_other h.from h.rest g.more o.0 g.whole.until o.2 (commands_left h.values o.0 (subst AreCommands o.1 g.whole.commands)) none
  ends_so (Full entries bytes) ends = tt
  ends_so Closed ends = tt
  ends_so Memory ends = tt

pub ends_whole : {D : Type 0} (goes : D → List Deed → D → Type 0) (gives : ℕ → Type 0) (shared : Bool) (fault : Option DeskFault) (first now : D) (old new : LinkView) (turns count : ℕ) (why : Why) → (s : HasSession goes gives shared fault first now old new turns count why)
    → (g : IsGivenWhole old new s.stream s.receives turns) → IsWholeEnd (length g.values) count why
ends_whole goes gives shared fault first now old new turns count why s g = ends_so goes gives shared fault first now old new turns s.receives s.stream s.sent count g why s.ends
