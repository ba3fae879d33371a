-- What was asked of the bytes that were sent goes on by a piece.
use Rattle.std.proofs.Common.{Bool, Err, List, Ok, Result, [], ap, append-nil, append_assoc, arith, false, inl, inr, subst, sym, true, ℕ, ◌++◌, ◌∙◌, ◌≡◌}
use Rattle.std.specs.Prelude.{OnOk, Option, ⊤}
use Rattle.wire_grammar.proofs.Limited.{fault_is}
use Rattle.wire_grammar.proofs.StreamLaws.{leads_on}
use Rattle.resp_wire.specs.Stands.{Stands}
use Rattle.resp_wire.specs.declared.decoder.Decoder.{Decoder}
use Rattle.desks.specs.Faults.{IsOpen}
use Rattle.desks.specs.declared.desk.DeskFault.{DeskFault}
use Rattle.plain_desk.specs.declared.desk.PlainDesk.{PlainDesk}
use Rattle.sessions.specs.Hearings.{HasHeard}
use Rattle.sessions.specs.Talkings.{AnswersAll, TalksAll}
use Rattle.sessions.specs.declared.ends.Why.{Why}
use Rattle.sessions.specs.declared.ends.Why.TheVariants.{Closed, Ended, Full, Link, Memory, NotWords, Turns, Wire}
use Rattle.sessions.specs.declared.talking.Talking.{Talking}
use Rattle.sessions.proofs.Taken.{lacks_front}
use Rattle.local_links.specs.LocalTalks.{IsBeginning, IsOver, Serves, desk_goes, sent_at, stage_after}
use Rattle.local_links.specs.declared.link_stage.LinkStage.{LinkStage}
use Rattle.local_links.specs.declared.link_stage.LinkStage.TheVariants.{Asks, Over, Spent}

-- what is over stays so
over_on : (from : ℕ) (rest piece : List ℕ) → IsOver from rest → IsOver from (rest ++ piece)
over_on from rest piece (inl (v, (front, more, e, spelled), none)) = inl (v, (front, more ++ piece, ap (λ l. l ++ piece) e ∙ append_assoc front more piece, spelled), none)
over_on from rest piece (inr (kind, place, (q, wrong, held))) = inr (kind, place, (q, (fault_is from rest piece kind q wrong).1, held))

module _ (first now : PlainDesk) (sent : List ℕ) (count : ℕ) where
  -- more bytes were sent
  abbrev heard_on : (piece : List ℕ) → HasHeard desk_goes IsBeginning first now sent count → HasHeard desk_goes IsBeginning first now (sent ++ piece) count
  heard_on piece h = record {
    values = h.values;
    deeds = h.deeds;
    from = h.from;
    rest = h.rest ++ piece;
    leads = leads_on 0 sent h.values h.from h.rest piece h.leads;
    calls = h.calls;
    went = h.went;
    counted = h.counted;
  }

module _ (first now : PlainDesk) (sent piece replies : List ℕ) (t : Talking) where
  -- a piece that isn't asked
  pub served_over : (stage : LinkStage) → stage ≡ Over → Serves first now sent replies t stage → Serves first now (sent ++ piece) replies t Over
  served_over stage over s =
      let o : Serves first now sent replies t Over = subst (λ x. Serves first now sent replies t x) over s in
      (heard_on first now sent t.commands piece o.0, o.1, over_on o.0.from o.0.rest piece o.2)

  -- a piece for which there was no memory
  pub served_unfed : (d : Decoder) → TalksAll desk_goes IsBeginning first now sent replies t → Serves first now sent replies (record t { decoder = d }) Spent
  served_unfed d s = (piece, heard_on first now sent t.commands piece s.talks.heard, ([], sym (append-nil (replies ++ t.out.items) ∙ s.talks.answered)))

  no_truth : {A : Type 0} → false ≡ true → A
  no_truth e = absurd (grind arith)

  -- a piece of which all values that are whole were asked
  pub served_after : (fault : Option DeskFault) (answered : Result ⊤ Why) → AnswersAll desk_goes IsBeginning false fault first now (sent ++ piece) replies t answered → OnOk answered (IsOpen now.standing.fault now.standing.stopped)
      → Serves first now (sent_at (stage_after answered) sent piece) replies t (stage_after answered)
  served_after fault (Ok done) a opened = (a, opened)
  served_after fault (Err NotWords) (h, answered, none) opened = (h, answered, inl none)
  served_after fault (Err (Wire kind place)) (h, answered, wrong) opened = (h, answered, inr (kind, place, wrong))
  served_after fault (Err Memory) (h, lacks) opened = (piece, h, lacks_front _ fault h.deeds h.rest (replies ++ t.out.items) lacks)
  served_after fault (Err (Full entries bytes)) (h, answered, next, is) opened = no_truth is.0
  served_after fault (Err Closed) (h, answered, next, is) opened = no_truth is.0
  served_after fault (Err Ended) never opened = absurd never
  served_after fault (Err Turns) never opened = absurd never
  served_after fault (Err Link) never opened = absurd never
