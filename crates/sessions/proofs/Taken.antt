-- A session goes on by one receive.
use Rattle.std.proofs.Common.{List, [], append-nil, append_assoc, ap, arith, inl, inr, length, length-append, refl, subst, suc, sym, take, zero, ℕ, ◌++◌, ◌<◌, ◌∙◌, ◌≡◌, ◌≤◌}
use Rattle.std.specs.Prelude.{Bool, Err, None, Ok, Option, Result, Some, ⊤}
use Rattle.std.specs.Io.KnownBytes.{Appends, Keeps}
use Rattle.std.proofs.KnownBytes.{Appends-kept, Appends-nil, Appends-trans}
use Rattle.links.specs.Causes.{Rose}
use Rattle.links.specs.Counts.{raised}
use Rattle.links.specs.declared.traits.Failed.{Failed}
use Rattle.net_links.specs.NetCauses.{HasGained}
use Rattle.wire_grammar.proofs.StreamLaws.{leads_on}
use Rattle.resp_wire.specs.Stands.{Stands}
use Rattle.resp_wire.specs.declared.decoder.Decoder.{Decoder}
use Rattle.desks.specs.Deeds.{Deed}
use Rattle.desks.specs.declared.desk.DeskFault.{DeskFault}
use Rattle.sessions.specs.Calls.{answers}
use Rattle.sessions.specs.Hearings.{HasHeard, LacksMemory, WritesAll, WritesFront, WritesPart}
use Rattle.net_links.specs.LinkViews.{LinkView, raised_by}
use Rattle.sessions.specs.Sendings.{SendsFront}
use Rattle.sessions.specs.SessionEnds.{EndsSession, HasSession, IsCalmLink}
use Rattle.sessions.specs.Talkings.{AnswersAll, EndsTaken, HasFlushed, HasTakenPiece, HasTurned, InSession, IsCut, IsEndWhy, Talks}
use Rattle.sessions.specs.declared.ends.Why.{Why}
use Rattle.sessions.specs.declared.ends.Why.TheVariants.{Closed, Ended, Full, Link, Memory, NotWords, Turns, Wire}
use Rattle.sessions.specs.declared.talking.Talking.{Talking}

-- no bytes were appended
pub appends_none : (a b : Option (List ℕ)) (n : ℕ) (bytes : List ℕ) → n ≡ 0 → Appends a b (take n bytes) → Keeps a b
appends_none a b zero bytes none p = kept a b p where
  kept : (a b : Option (List ℕ)) → Appends a b [] → Keeps a b
  kept None b p = tt
  kept (Some x) None p = p
  kept (Some x) (Some y) p = p ∙ append-nil x
appends_none a b (suc n) bytes none p = absurd (omega (arith, none))

-- where memory was wanting a front of the answers is written
pub lacks_front : (reading : Type 0) (fault : Option DeskFault) (deeds : List Deed) (rest written : List ℕ) → LacksMemory reading fault deeds rest written → WritesFront deeds written
lacks_front reading fault deeds rest written (inl (all, why)) = ([], sym (append-nil written ∙ all))
lacks_front reading fault deeds rest written (inr (more, e, some)) = (more, e)

-- memory was wanting, to read only where more holds
lacks_as : (a b : Type 0) (fault : Option DeskFault) (deeds : List Deed) (rest written : List ℕ) → (a → b) → LacksMemory a fault deeds rest written → LacksMemory b fault deeds rest written
lacks_as a b fault deeds rest written f (inl (all, inl (cut, some, calm))) = inl (all, inl (f cut, some, calm))
lacks_as a b fault deeds rest written f (inl (all, inr asks)) = inl (all, inr asks)
lacks_as a b fault deeds rest written f (inr part) = inr part

-- a receive that gave bytes is counted, and no other
pub gained_some : (before now count : ℕ) → 0 < count → HasGained {E = Failed} before now (Ok count) → now ≡ raised before
gained_some before now zero some g = absurd (omega (arith, some))
gained_some before now (suc n) some g = g

pub gained_none : (before now count : ℕ) → count ≡ 0 → HasGained {E = Failed} before now (Ok count) → now ≡ before
gained_none before now zero none g = g
gained_none before now (suc n) none g = absurd (omega (arith, none))

module _ {D : Type 0} (goes : D → List Deed → D → Type 0) (gives : ℕ → Type 0) (first now : D) (stream sent piece : List ℕ) (t : Talking) (s : Talks goes gives first now stream sent t) where
  -- more bytes came
  abbrev heard_fed : HasHeard goes gives first now (stream ++ piece) t.commands
  heard_fed = record {
    values = s.heard.values;
    deeds = s.heard.deeds;
    from = s.heard.from;
    rest = s.heard.rest ++ piece;
    leads = leads_on 0 stream s.heard.values s.heard.from s.heard.rest piece s.heard.leads;
    calls = s.heard.calls;
    went = s.heard.went;
    counted = s.heard.counted;
  }

  -- and were fed
  pub fed : (d2 : Decoder) → ((before : ℕ) (rest : List ℕ) → Stands t.decoder before rest → Stands d2 before (rest ++ piece)) → Talks goes gives first now (stream ++ piece) sent (record t { decoder = d2 })
  fed d2 on = record { heard = heard_fed; stands = on s.heard.from s.heard.rest s.stands; answered = s.answered }

  -- and there was no memory to keep them
  pub unfed : (reading : Type 0) → reading → 0 < length piece → t.out.items ≡ [] → (shared : Bool) (fault : Option DeskFault) → fault ≡ None → (was : Option (List ℕ)) (faults : ℕ)
      → (more : List ℕ) × Appends was was more × EndsTaken reading goes gives shared fault first now (stream ++ piece) (sent ++ more) t.commands faults faults Memory
  unfed reading cut some none shared fault calm was faults =
      ([], Appends-nil was, ((heard_fed, inl (ap (λ l. sent ++ l) (sym none) ∙ s.answered, inl (cut, omega (arith, length-append s.heard.rest piece, some), calm))), refl))

module _ {D : Type 0} (goes : D → List Deed → D → Type 0) (gives : ℕ → Type 0) (shared : Bool) (fault : Option DeskFault) (first now : D) (stream sent : List ℕ) (t : Talking) where
  -- what was asked, whatever the answer is
  front_all : (answered : Result ⊤ Why) → AnswersAll goes gives shared fault first now stream sent t answered → (h : HasHeard goes gives first now stream t.commands) × WritesFront h.deeds (sent ++ t.out.items)
  front_all (Ok done) a = (a.talks.heard, ([], sym (append-nil (sent ++ t.out.items) ∙ a.talks.answered)))
  front_all (Err (Wire kind place)) (h, all, wrong) = (h, ([], sym (append-nil (sent ++ t.out.items) ∙ all)))
  front_all (Err NotWords) (h, all, none) = (h, ([], sym (append-nil (sent ++ t.out.items) ∙ all)))
  front_all (Err (Full entries bytes)) (h, all, next, is) = (h, ([], sym (append-nil (sent ++ t.out.items) ∙ all)))
  front_all (Err Closed) (h, all, next, is) = (h, ([], sym (append-nil (sent ++ t.out.items) ∙ all)))
  front_all (Err Memory) (h, lacks) = (h, lacks_front _ fault h.deeds h.rest (sent ++ t.out.items) lacks)
  front_all (Err Ended) never = absurd never
  front_all (Err Turns) never = absurd never
  front_all (Err Link) never = absurd never

  module _ (t2 : Talking) (was is : Option (List ℕ)) (faults faults2 : ℕ) where
    -- a front of the answers is sent, and not all of them
    cut_part : (deeds : List Deed) (more front rest : List ℕ) → answers deeds ≡ (sent ++ t.out.items) ++ more → t.out.items ≡ front ++ rest → 0 < length rest → WritesPart deeds (sent ++ front)
    cut_part deeds more front rest e split some = (
      rest ++ more,
      e ∙ ap (λ l. (sent ++ l) ++ more) split ∙ ap (λ l. l ++ more) (sym (append_assoc sent front rest)) ∙ append_assoc (sent ++ front) rest more,
      omega (arith, some, length-append rest more),
    )

    -- a front was sent
    cut_at : (result : Result ⊤ Why) → (h : HasHeard goes gives first now stream t.commands) × WritesFront h.deeds (sent ++ t.out.items) → SendsFront was is t.out.items → IsCut faults faults2 result → HasTakenPiece goes gives shared fault first now stream sent was is faults faults2 (record t { out = t2.out }) result
    cut_at (Ok done) a b never = absurd never
    cut_at (Err Link) (h, (more, e)) (front, rest, split, some, sends) rose =
        (front, sends, (h, cut_part h.deeds more front rest e split some, rose))
    cut_at (Err Memory) (h, (more, e)) (front, rest, split, some, sends) same =
        (front, sends, ((h, inr (cut_part h.deeds more front rest e split some)), same))
    cut_at (Err Ended) a b never = absurd never
    cut_at (Err Turns) a b never = absurd never
    cut_at (Err (Wire kind place)) a b never = absurd never
    cut_at (Err NotWords) a b never = absurd never
    cut_at (Err (Full entries bytes)) a b never = absurd never
    cut_at (Err Closed) a b never = absurd never

    -- all was sent
    sent_all : (answered : Result ⊤ Why) → AnswersAll goes gives shared fault first now stream sent t answered → Appends was is t.out.items → t2.out.items ≡ [] → faults2 ≡ faults → HasTakenPiece goes gives shared fault first now stream sent was is faults faults2 (record t { out = t2.out }) answered
    sent_all (Ok done) a sends none same = (
      t.out.items,
      sends,
      record {
        talks = record { heard = a.talks.heard; stands = a.talks.stands; answered = ap (λ l. (sent ++ t.out.items) ++ l) none ∙ append-nil (sent ++ t.out.items) ∙ a.talks.answered };
        front = a.front;
      },
      none,
      same,
    )
    sent_all (Err (Wire kind place)) a sends none same = (t.out.items, sends, (a, same))
    sent_all (Err NotWords) a sends none same = (t.out.items, sends, (a, same))
    sent_all (Err (Full entries bytes)) a sends none same = (t.out.items, sends, (a, same))
    sent_all (Err Closed) a sends none same = (t.out.items, sends, (a, same))
    sent_all (Err Memory) a sends none same = (t.out.items, sends, (a, same))
    sent_all (Err Ended) a sends none same = absurd a
    sent_all (Err Turns) a sends none same = absurd a
    sent_all (Err Link) a sends none same = absurd a

    pub flushed : (answered result : Result ⊤ Why) → AnswersAll goes gives shared fault first now stream sent t answered → HasFlushed was is faults faults2 t.out.items t2.out.items answered result → HasTakenPiece goes gives shared fault first now stream sent was is faults faults2 (record t { out = t2.out }) result
    flushed answered result a (inl (same, sends, none, kept)) = subst (λ r. HasTakenPiece goes gives shared fault first now stream sent was is faults faults2 (record t { out = t2.out }) r) (sym same) (sent_all answered a sends none kept)
    flushed answered result a (inr (cut, sends)) = cut_at result (front_all answered a) sends cut

module _ {D : Type 0} (goes : D → List Deed → D → Type 0) (gives : ℕ → Type 0) (shared : Bool) (fault : Option DeskFault) (first now : D) (old mid new : LinkView) (t : Talking) (n : ℕ) (s : InSession goes gives first now old mid t n) where
  whole : WritesAll s.talks.talks.heard.deeds s.sent
  whole = sym (append-nil s.sent) ∙ ap (λ l. s.sent ++ l) (sym s.empty) ∙ s.talks.talks.answered

  -- the link failed to give more
  pub not_received : Keeps mid.received new.received → Keeps mid.sent new.sent → mid.faults ≤ new.faults → Rose mid.faults new.faults → new.ends ≡ mid.ends → new.gains ≡ mid.gains
      → (turns : ℕ) → suc n ≤ turns → HasSession goes gives shared fault first now old new turns t.commands Link
  not_received received sent later rose ends gains turns few = record {
    stream = s.stream;
    sent = s.sent;
    receives = n;
    came = Appends-kept old.received mid.received new.received s.stream s.came received;
    went = Appends-kept old.sent mid.sent new.sent s.sent s.went sent;
    gained = gains ∙ s.gained;
    few = omega (arith, few);
    later_faults = omega (arith, s.same_faults, later);
    later_ends = omega (arith, s.same_ends, ends);
    ends = (s.talks.talks.heard, inr (whole, s.talks.front, few, inl (subst (λ (i : ℕ). Rose i new.faults) s.same_faults rose, ends ∙ s.same_ends)));
  }

  -- the other side ended
  module _ (received : Keeps mid.received new.received) (sent : Keeps mid.sent new.sent) (faults : new.faults ≡ mid.faults) (later : mid.ends ≤ new.ends) (rose : Rose mid.ends new.ends) (gains : new.gains ≡ mid.gains) where
    ended_so : (why : Why) → (turns : ℕ) → suc n ≤ turns → EndsSession goes gives shared fault first now old new turns n s.stream s.sent t.commands why → HasSession goes gives shared fault first now old new turns t.commands why
    ended_so why turns few ends = record {
      stream = s.stream;
      sent = s.sent;
      receives = n;
      came = Appends-kept old.received mid.received new.received s.stream s.came received;
      went = Appends-kept old.sent mid.sent new.sent s.sent s.went sent;
      gained = gains ∙ s.gained;
      few = omega (arith, few);
      later_faults = omega (arith, s.same_faults, faults);
      later_ends = omega (arith, s.same_ends, later);
      ends = ends;
    }

    risen : Rose old.ends new.ends
    risen = subst (λ (i : ℕ). Rose i new.ends) s.same_ends rose

    pub none_received : (why : Why) → IsEndWhy s.talks.talks.heard.rest why → (turns : ℕ) → suc n ≤ turns → HasSession goes gives shared fault first now old new turns t.commands why
    none_received Ended none turns few = ended_so Ended turns few (s.talks.talks.heard, whole, none, risen, faults ∙ s.same_faults, few)
    none_received Link some turns few = ended_so Link turns few (s.talks.talks.heard, inr (whole, s.talks.front, few, inr (risen, faults ∙ s.same_faults, some)))
    none_received Turns never turns few = absurd never
    none_received (Wire kind place) never turns few = absurd never
    none_received NotWords never turns few = absurd never
    none_received (Full entries bytes) never turns few = absurd never
    none_received Closed never turns few = absurd never
    none_received Memory never turns few = absurd never

-- a piece came and was taken
module _ {D : Type 0} (goes : D → List Deed → D → Type 0) (gives : ℕ → Type 0) (shared : Bool) (fault : Option DeskFault) (first now next : D) (old mid got new : LinkView) (t t2 : Talking) (n : ℕ) (s : InSession goes gives first now old mid t n) (piece : List ℕ)
    (received : Appends mid.received got.received piece) (unsent : Keeps mid.sent got.sent) (unfailed : got.faults ≡ mid.faults) (unended : got.ends ≡ mid.ends) (gained : got.gains ≡ raised mid.gains)
    (kept : Keeps got.received new.received) (later : got.faults ≤ new.faults) (same_ends : new.ends ≡ got.ends) (same_gains : new.gains ≡ got.gains) where
  came : Appends old.received new.received (s.stream ++ piece)
  came = Appends-kept old.received got.received new.received (s.stream ++ piece) (Appends-trans old.received mid.received got.received s.stream piece s.came received) kept

  went : (more : List ℕ) → Appends got.sent new.sent more → Appends old.sent new.sent (s.sent ++ more)
  went more sends = Appends-trans old.sent got.sent new.sent s.sent more (Appends-kept old.sent mid.sent got.sent s.sent s.went unsent) sends

  counts : new.gains ≡ raised_by (suc n) old.gains
  counts = same_gains ∙ gained ∙ ap raised s.gained

  ended_taken : (why : Why) (turns : ℕ) → suc n ≤ turns → (more : List ℕ) → Appends got.sent new.sent more → EndsSession goes gives shared fault first next old new turns (suc n) (s.stream ++ piece) (s.sent ++ more) t2.commands why → HasSession goes gives shared fault first next old new turns t2.commands why
  ended_taken why turns few more sends ends = record {
    stream = s.stream ++ piece;
    sent = s.sent ++ more;
    receives = suc n;
    came = came;
    went = went more sends;
    gained = counts;
    few = few;
    later_faults = omega (arith, s.same_faults, unfailed, later);
    later_ends = omega (arith, s.same_ends, unended, same_ends);
    ends = ends;
  }

  calm : new.faults ≡ got.faults → IsCalmLink old new
  calm same = record { no_fault = same ∙ unfailed ∙ s.same_faults; no_end = same_ends ∙ unended ∙ s.same_ends }

  pub taken : (result : Result ⊤ Why) → HasTakenPiece goes gives shared fault first next (s.stream ++ piece) s.sent got.sent new.sent got.faults new.faults t2 result → HasTurned goes gives shared fault first next old new t2 n result
  taken (Ok done) (more, sends, talks, none, same) = record {
    stream = s.stream ++ piece;
    sent = s.sent ++ more;
    talks = talks;
    empty = none;
    came = came;
    went = went more sends;
    gained = counts;
    same_faults = same ∙ unfailed ∙ s.same_faults;
    same_ends = same_ends ∙ unended ∙ s.same_ends;
  }
  taken (Err Link) (more, sends, (h, part, rose)) = λ turns few. ended_taken Link turns few more sends (h, inl (part, subst (λ (i : ℕ). Rose i new.faults) (unfailed ∙ s.same_faults) rose, same_ends ∙ unended ∙ s.same_ends))
  taken (Err (Wire kind place)) (more, sends, (ends, same)) = λ turns few. ended_taken (Wire kind place) turns few more sends (ends, calm same)
  taken (Err NotWords) (more, sends, (ends, same)) = λ turns few. ended_taken NotWords turns few more sends (ends, calm same)
  taken (Err (Full entries bytes)) (more, sends, (ends, same)) = λ turns few. ended_taken (Full entries bytes) turns few more sends (ends, calm same)
  taken (Err Closed) (more, sends, (ends, same)) = λ turns few. ended_taken Closed turns few more sends (ends, calm same)
  taken (Err Memory) (more, sends, ((h, lacks), same)) = λ turns few. ended_taken Memory turns few more sends (h, inr (lacks_as _ (0 < suc n) fault h.deeds h.rest (s.sent ++ more) (λ cut. omega arith) lacks), calm same)
  taken (Err Ended) (more, sends, never) = absurd never
  taken (Err Turns) (more, sends, never) = absurd never
