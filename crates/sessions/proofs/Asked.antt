-- A talk goes on by one value.
use Rattle.std.proofs.Common.{List, [], append-nil, append_assoc, ap, arith, inl, inr, length, length-append, refl, subst, sym, ℕ, ◌+◌, ◌++◌, ◌<◌, ◌∙◌, ◌∷◌, ◌≡◌}
use Rattle.std.specs.Prelude.{Bool, Err, None, Ok, Option, Some}
use Rattle.std.proofs.lemmas.Grind.{flat_map-append}
use Rattle.wire_grammar.proofs.StreamLaws.{leads_one}
use Rattle.wire_grammar.specs.Spells.{IsFront, Spells}
use Rattle.resp_wire.specs.Stands.{HasNext, Stands, held_to}
use Rattle.resp_wire.specs.declared.decoder.Decoder.{Decoder}
use Rattle.resp_wire.specs.declared.decoder.WireFault.TheVariants.{Bad}
use Rattle.wire_grammar.specs.declared.kind.WireKind.{WireKind}
use Rattle.wire_values.specs.declared.value.Value.{Value}
use Rattle.desks.specs.Deeds.{Deed, DidAsk}
use Rattle.desks.specs.declared.desk.DeskFault.{DeskFault}
use Rattle.sessions.specs.Askings.{HasAnsweredValue}
use Rattle.sessions.specs.Calls.{AreCalls, IsCall, answers, deed_bytes}
use Rattle.sessions.specs.Hearings.{EndsTalk, HasHeard}
use Rattle.sessions.proofs.Begun.{empty_front}
use Rattle.sessions.proofs.SpelledSome.{reply_some}
use Rattle.sessions.specs.Talkings.{Talks, TalksAll}
use Rattle.sessions.specs.declared.ends.Why.{Why}
use Rattle.sessions.specs.declared.ends.Why.TheVariants.{Closed, Ended, Full, Link, Memory, NotWords, Turns, Wire}
use Rattle.sessions.specs.declared.talking.Talking.{Talking}

-- one call more
calls_one : (gives : ℕ → Type 0) (vs : List Value) (ds : List Deed) (v : Value) (d : Deed) → AreCalls gives vs ds → IsCall gives v d → AreCalls gives (vs ++ v ∷ []) (ds ++ d ∷ [])
calls_one gives [] [] v d a c = (c, tt)
calls_one gives [] (e ∷ ds) v d a c = absurd a
calls_one gives (w ∷ vs) [] v d a c = absurd a
calls_one gives (w ∷ vs) (e ∷ ds) v d a c = (a.0, calls_one gives vs ds v d a.1 c)

-- its answer stands after the others
answers_one : (ds : List Deed) (d : Deed) → answers (ds ++ d ∷ []) ≡ answers ds ++ deed_bytes d
answers_one ds d = flat_map-append deed_bytes ds (d ∷ []) ∙ ap (λ l. answers ds ++ l) (append-nil (deed_bytes d))

counted_one : (ds : List Deed) (d : Deed) (count count2 : ℕ) → count ≡ held_to (length ds) → count2 ≡ held_to (count + 1) → count2 ≡ held_to (length (ds ++ d ∷ []))
counted_one ds d count count2 a b = omega (arith, a, b, length-append ds (d ∷ []))

module _ {D : Type 0} (goes : D → List Deed → D → Type 0) (joins : (s t u : D) (l m : List Deed) → goes s l t → goes t m u → goes s (l ++ m) u) (gives : ℕ → Type 0) (first now next : D) (stream : List ℕ) (count count2 : ℕ) (h : HasHeard goes gives first now stream count) where
  -- nothing more was asked
  abbrev heard_same : goes now [] next → count2 ≡ count → HasHeard goes gives first next stream count2
  heard_same went same = record {
    values = h.values;
    deeds = h.deeds;
    from = h.from;
    rest = h.rest;
    leads = h.leads;
    calls = h.calls;
    went = subst (λ l. goes first l next) (append-nil h.deeds) (joins first now next h.deeds [] h.went went);
    counted = same ∙ h.counted;
  }

  -- a value more was asked
  abbrev heard_one : (v : Value) (d : Deed) (front more : List ℕ) → h.rest ≡ front ++ more → Spells v front → IsCall gives v d → goes now (d ∷ []) next → count2 ≡ held_to (count + 1) → HasHeard goes gives first next stream count2
  heard_one v d front more e spelled call went one = record {
    values = h.values ++ v ∷ [];
    deeds = h.deeds ++ d ∷ [];
    from = h.from + length front;
    rest = more;
    leads = leads_one 0 stream h.values h.from h.rest v front more h.leads e spelled;
    calls = calls_one gives h.values h.deeds v d h.calls call;
    went = joins first now next h.deeds (d ∷ []) h.went went;
    counted = counted_one h.deeds d count count2 h.counted one;
  }

module _ {D : Type 0} (goes : D → List Deed → D → Type 0) (stays : (s : D) → goes s [] s) (joins : (s t u : D) (l m : List Deed) → goes s l t → goes t m u → goes s (l ++ m) u) (gives : ℕ → Type 0) (shared : Bool) (fault : Option DeskFault) (reading : Type 0) (first now next : D) (stream sent : List ℕ) (t t2 : Talking) (s : Talks goes gives first now stream sent t) where
  -- a value was asked
  pub asked_one : (v : Value) → ((before : ℕ) (rest : List ℕ) → Stands t.decoder before rest → HasNext before rest t2.decoder (Ok (Some v)))
      → HasAnsweredValue goes gives shared fault now next v t.out.items t2.out.items t.commands t2.commands (Ok tt) → Talks goes gives first next stream sent t2
  asked_one v there (words, spells, (reply, done, wrote)) =
      let n = there s.heard.from s.heard.rest s.stands in
      let d : Deed = DidAsk done.at words reply in
      record {
        heard = heard_one goes joins gives first now next stream t.commands t2.commands s.heard v d n.0 n.1 n.2 n.3 (spells, done.clocked) done.did done.counted;
        stands = n.4;
        answered = ap (λ l. sent ++ l) wrote ∙ sym (append_assoc sent t.out.items (deed_bytes d)) ∙ ap (λ l. l ++ deed_bytes d) s.answered ∙ sym (answers_one s.heard.deeds d);
      }

  -- no more is asked after this value
  ended_one : (v : Value) (front more : List ℕ) → s.heard.rest ≡ front ++ more → Spells v front → (why : Why)
      → HasAnsweredValue goes gives shared fault now next v t.out.items t2.out.items t.commands t2.commands (Err why) → EndsTalk reading goes gives shared fault first next stream (sent ++ t2.out.items) t2.commands why
  ended_one v front more e sp NotWords (none, i) = (heard_same goes joins gives first now next stream t.commands t2.commands s.heard i.stays i.uncounted, ap (λ l. sent ++ l) i.unwritten ∙ s.answered, (v, (front, more, e, sp), none))
  ended_one v front more e sp (Full entries bytes) (words, spells, (i, is)) = (heard_same goes joins gives first now next stream t.commands t2.commands s.heard i.stays i.uncounted, ap (λ l. sent ++ l) i.unwritten ∙ s.answered, (v, words, (front, more, e, sp), spells), is)
  ended_one v front more e sp Closed (words, spells, (i, is)) = (heard_same goes joins gives first now next stream t.commands t2.commands s.heard i.stays i.uncounted, ap (λ l. sent ++ l) i.unwritten ∙ s.answered, (v, words, (front, more, e, sp), spells), is)
  ended_one v front more e sp Memory (words, spells, inl (i, calm)) =
      (heard_same goes joins gives first now next stream t.commands t2.commands s.heard i.stays i.uncounted, inl (ap (λ l. sent ++ l) i.unwritten ∙ s.answered, inr ((v, words, (front, more, e, sp), spells), inl calm)))
  ended_one v front more e sp Memory (words, spells, inr (inl (i, is))) =
      (heard_same goes joins gives first now next stream t.commands t2.commands s.heard i.stays i.uncounted, inl (ap (λ l. sent ++ l) i.unwritten ∙ s.answered, inr ((v, words, (front, more, e, sp), spells), inr is)))
  ended_one v front more e sp Memory (words, spells, inr (inr (reply, done, none, calm))) =
      let d : Deed = DidAsk done.at words reply in (
        heard_one goes joins gives first now next stream t.commands t2.commands s.heard v d front more e sp (spells, done.clocked) done.did done.counted,
        inr (
          t.out.items ++ deed_bytes d,
          answers_one s.heard.deeds d ∙ ap (λ l. l ++ deed_bytes d) (sym s.answered) ∙ append_assoc sent t.out.items (deed_bytes d)
              ∙ ap (λ l. l ++ (t.out.items ++ deed_bytes d)) (sym (ap (λ l. sent ++ l) none ∙ append-nil sent)),
          omega (arith, length-append t.out.items (deed_bytes d), reply_some reply),
        ),
      )
  ended_one v front more e sp Ended (words, spells, never) = absurd never
  ended_one v front more e sp Turns (words, spells, never) = absurd never
  ended_one v front more e sp Link (words, spells, never) = absurd never
  ended_one v front more e sp (Wire kind place) (words, spells, never) = absurd never

  -- no more is asked
  pub asked_last : (v : Value) (why : Why) → ((before : ℕ) (rest : List ℕ) → Stands t.decoder before rest → HasNext before rest t2.decoder (Ok (Some v)))
      → HasAnsweredValue goes gives shared fault now next v t.out.items t2.out.items t.commands t2.commands (Err why) → EndsTalk reading goes gives shared fault first next stream (sent ++ t2.out.items) t2.commands why
  asked_last v why there done =
      let n = there s.heard.from s.heard.rest s.stands in
      ended_one v n.0 n.1 n.2 n.3 why done

module _ {D : Type 0} (goes : D → List Deed → D → Type 0) (gives : ℕ → Type 0) (shared : Bool) (fault : Option DeskFault) (reading : Type 0) (first now : D) (stream sent : List ℕ) (t : Talking) (d2 : Decoder) (s : Talks goes gives first now stream sent t) where
  -- no value is whole
  pub asked_none : ((before : ℕ) (rest : List ℕ) → Stands t.decoder before rest → HasNext before rest d2 (Ok None)) → TalksAll goes gives first now stream sent (record t { decoder = d2 })
  asked_none there =
      let n = there s.heard.from s.heard.rest s.stands in
      record { talks = record { heard = s.heard; stands = n.1; answered = s.answered }; front = n.0 }

  -- what follows is wrong
  pub asked_wrong : (kind : WireKind) (place : ℕ) → ((before : ℕ) (rest : List ℕ) → Stands t.decoder before rest → HasNext before rest d2 (Err (Bad kind place))) → EndsTalk reading goes gives shared fault first now stream (sent ++ t.out.items) t.commands (Wire kind place)
  asked_wrong kind place there = (s.heard, s.answered, (there s.heard.from s.heard.rest s.stands).0)

  -- there was no memory to read on
  pub asked_spent : fault ≡ None → reading → ((before : ℕ) (rest : List ℕ) → Stands t.decoder before rest → 0 < length rest) → EndsTalk reading goes gives shared fault first now stream (sent ++ t.out.items) t.commands Memory
  asked_spent calm cut some = (s.heard, inl (s.answered, inl (cut, some s.heard.from s.heard.rest s.stands, calm)))

-- nothing is left to be read
none_pending : (rest : List ℕ) (n : ℕ) → n ≡ held_to (length rest) → n ≡ 0 → rest ≡ []
none_pending [] n e none = refl
none_pending (x ∷ xs) n e none = absurd (omega (arith, e, none))

pub asked_all : {D : Type 0} (goes : D → List Deed → D → Type 0) (gives : ℕ → Type 0) (first now : D) (stream sent : List ℕ) (t : Talking) (n : ℕ) → Talks goes gives first now stream sent t
    → ((before : ℕ) (rest : List ℕ) → Stands t.decoder before rest → n ≡ held_to (length rest)) → n ≡ 0 → TalksAll goes gives first now stream sent t
asked_all goes gives first now stream sent t n s pending none =
    record { talks = s; front = subst IsFront (sym (none_pending s.heard.rest n (pending s.heard.from s.heard.rest s.stands) none)) empty_front }
