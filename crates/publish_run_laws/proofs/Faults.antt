-- What a fault of the link of publishing shows.
use Rattle.std.proofs.Common.{◌≡◌, ℕ, zero, suc, ◌++◌, true, false, List, [], Some, ap, subst, ◌∙◌, ◌⊎◌, arith, inl, inr}
use Rattle.std.specs.Io.KnownBytes.{Appends}
use Rattle.links.specs.Causes.{Rose}
use Rattle.links.specs.Views.{SinkView, SourceView}
use Rattle.net_links.specs.NetCauses.{HasClosedFaults}
use Rattle.command_blocks.specs.Scripts.{Plan}
use Rattle.desks.specs.Deeds.{Deed}
use Rattle.desks.specs.Faults.{IsFaultOf}
use Rattle.desks.specs.declared.desk.DeskFault.{DeskFault}
use Rattle.desks.specs.declared.desk.DeskFault.TheVariants.{Closed, Ended, Flood, Full, Link, Memory, Wire}
use Rattle.store_model.specs.Words.{Words}
use Rattle.link_desk.specs.LinkDeeds.{CarriesBy, CarriesDeeds, CarriesTo, HasAskedMore, LinkDeskView, StandsReady, WasFaulted, standing_of}
use Rattle.publish_run.specs.PublishRuns.{HasLinked, HasPublishedRun, NetShows}
use Rattle.publish_run.specs.Publishings.{IsLinks}
use Rattle.publish_run.specs.declared.ending.PublishingEnd.TheVariants.{LinkFault}
use Rattle.publish_run_laws.specs.Published.{IsLinkShown, ReceivesNoReply}
use Rattle.publish_run_laws.proofs.Wholes.{appended, such}

-- a link that had failed or ended was closed
closes_faulty : (b n x y : ℕ) → Rose 0 x ⊎ Rose 0 y → HasClosedFaults b n x y → Rose b n
closes_faulty b n zero zero (inl r) h = absurd (omega (arith, r))
closes_faulty b n zero zero (inr r) h = absurd (omega (arith, r))
closes_faulty b n zero (suc y) r h = h
closes_faulty b n (suc x) y r h = h

-- after this fault a command more was asked at most
asked_more : (desk desk2 : LinkDeskView) (l : List Deed) (f : DeskFault) → desk.standing ≡ StandsReady → desk2.standing ≡ WasFaulted f → CarriesDeeds desk l desk2 → (words : Words) × HasAskedMore desk l words f desk2
asked_more desk desk2 l f e g h =
    let a : CarriesBy StandsReady desk l desk2 = subst (λ o. CarriesBy o desk l desk2) e h in
    subst (λ o. CarriesTo o desk l desk2) g a.0

-- a fault that isn't one of sending came after the whole command
from_asked : {A B C : Type 0} (f : DeskFault) → (f ≡ Link → ⊥) → (f ≡ Memory → ⊥) → (((f ≡ Link) ⊎ (f ≡ Memory)) × A) ⊎ (B × C) → C
from_asked f a b (inl (inl x, y)) = absurd (a x)
from_asked f a b (inl (inr x, y)) = absurd (b x)
from_asked f a b (inr x) = x.1

module _ (s : ℕ) (before after : NetShows) (old new : SinkView) (plans : List Plan) (k : HasLinked s plans before after old new LinkFault) where
  -- the standing of the desk at its end
  stands : (f : DeskFault) → k.carried.shows2.fault ≡ Some f → k.carried.desk2.standing ≡ standing_of (Some f) k.carried.shows2.stopped
  stands f e = k.carried.stands2 ∙ ap (λ o. standing_of o k.carried.shows2.stopped) e

  abbrev deeds : List Deed
  deeds = k.carried.said.deeds ++ k.carried.said.amid

  received : (f : DeskFault) → k.carried.desk2.standing ≡ WasFaulted f → (stream : List ℕ) → Appends k.carried.desk.received k.carried.desk2.received stream
      → k.link.received ≡ Some [] → k.link2.received ≡ Some stream
  received f e stream came none =
      appended k.link.received k.link2.received stream none
      (subst (λ a. Appends a k.link2.received stream) k.carried.begins.1 (subst (λ b. Appends k.carried.desk.received b stream) k.carried.ends.1 came))

  by_fault : (f : DeskFault) → IsLinks f → k.carried.shows2.fault ≡ Some f → IsFaultOf true false k.carried.shows.faults k.carried.shows2.faults k.carried.shows.ends k.carried.shows2.ends f → IsLinkShown before after
  by_fault Link is e cause = inr (inl (closes_faulty before.closed_faults after.closed_faults k.link2.faults k.link2.ends (rose cause.1) k.closed_faults)) where
    at_faults : k.carried.shows.faults ≡ 0
    at_faults = k.carried.begins.2 ∙ k.fresh.no_fault

    rose : Rose k.carried.shows.faults k.carried.shows2.faults ⊎ Rose k.carried.shows.ends k.carried.shows2.ends → Rose 0 k.link2.faults ⊎ Rose 0 k.link2.ends
    rose (inl r) = inl (subst (λ n. Rose 0 n) k.carried.ends.2 (subst (λ n. Rose n k.carried.shows2.faults) at_faults r))
    rose (inr r) = inr (subst (λ n. Rose 0 n) k.carried.ends.3 (subst (λ n. Rose n k.carried.shows2.ends) (k.carried.begins.3 ∙ k.fresh.no_end) r))
  by_fault (Wire kind place) is e cause =
      let g = stands (Wire kind place) e in
      let m = asked_more k.carried.desk k.carried.desk2 deeds (Wire kind place) k.carried.opened g k.carried.said.went in
      let c = m.1.came 0 [] k.carried.stands in
      inr (inr (such before.closed after.closed k.link k.link2 ReceivesNoReply k.fresh.unused k.closed
      (λ t. (c.3.stream, received (Wire kind place) g c.3.stream c.3.came t.1, inl (_, c.1, c.2, kind, place, c.3.leads, (from_asked (Wire kind place) (λ x. cc) (λ x. cc) c.5).1)))))
  by_fault Flood is e cause =
      let g = stands Flood e in
      let m = asked_more k.carried.desk k.carried.desk2 deeds Flood k.carried.opened g k.carried.said.went in
      let c = m.1.came 0 [] k.carried.stands in
      inr (inr (such before.closed after.closed k.link k.link2 ReceivesNoReply k.fresh.unused k.closed
      (λ t. (c.3.stream, received Flood g c.3.stream c.3.came t.1, inr (_, c.0, c.1, c.2, c.3.leads, c.4, from_asked Flood (λ x. cc) (λ x. cc) c.5)))))
  by_fault (Full entries bytes) is e cause = cc
  by_fault Closed is e cause = cc
  by_fault Ended is e cause = absurd is
  by_fault Memory is e cause = absurd is

pub shown : (s : ℕ) (src src2 : SourceView) (before after : NetShows) (old new : SinkView) → HasPublishedRun s src src2 before after old new LinkFault → IsLinkShown before after
shown s src src2 before after old new (inl h) = absurd h.0
shown s src src2 before after old new (inr (bytes, read, inl h)) = absurd h.0
shown s src src2 before after old new (inr (bytes, read, inr (plans, told, inl h))) = inl h.0.1
shown s src src2 before after old new (inr (bytes, read, inr (plans, told, inr k))) =
    let c = k.carried.said.cause.0 in
    by_fault s before after old new plans k c.0 c.1 c.2.3.shown c.2.3.cause
