-- What a link carried of a script, however publishing ended.
use Rattle.std.proofs.Common.{◌≡◌, ℕ, ◌++◌, true, false, List, [], None, Option, Some, append-nil, ap, refl, subst, sym, ◌∙◌, ◌⊎◌, inl, inr}
use Rattle.std.specs.Io.KnownBytes.{Appends}
use Rattle.std.specs.Prelude.{Err, flat_map}
use Rattle.std.proofs.KnownBytes.{Appends-trans}
use Rattle.std.proofs.lemmas.Grind.{flat_map-append}
use Rattle.links.specs.Views.{SinkView, SourceView}
use Rattle.net_links.specs.LinkViews.{LinkView}
use Rattle.net_links.specs.Traffics.{KeepsClosed}
use Rattle.store_model.specs.Words.{Words}
use Rattle.command_blocks.specs.Calls.{Call}
use Rattle.command_blocks.specs.Scripts.{Plan}
use Rattle.desks.specs.Deeds.{Deed}
use Rattle.desks.specs.Faults.{IsNotEnded}
use Rattle.desks.specs.declared.desk.DeskFault.{DeskFault}
use Rattle.desks.specs.declared.desk.DeskFault.TheVariants as fault
use Rattle.link_desk.specs.Exchanges.{HasExchanged, RefusesBy, RefusesWords}
use Rattle.link_desk.specs.LinkDeeds.{CarriesDeeds, HasAsked, LinkDeskView, LinkStanding, StandsReady, WasFaulted, WasStopped, bytes_asked, command_bytes}
use Rattle.publish_run.specs.Blocks.{drawn_after}
use Rattle.publish_run.specs.PublishRuns.{HasLinked, HasPublishedRun, NetShows}
use Rattle.publish_run.specs.Publishings.{IsCause, IsCutNext, IsWithoutMemory}
use Rattle.publish_run.specs.Saids.{HasCutAfter, StandsOpen, calls_said}
use Rattle.publish_run.specs.declared.ending.PublishingEnd.{PublishingEnd}
use Rattle.publish_run.specs.declared.ending.PublishingEnd.TheVariants.{BadLine, LinkFault, Memory, Published, ReadFault, Refused, WriteFault}
use Rattle.publish_run_laws.specs.Parts.{IsFrontOfNext, IsPublishedFront, IsSentInOrder}
use Rattle.publish_run_laws.specs.Published.{calls_bytes}
use Rattle.publish_run_laws.proofs.Wholes.{appended, asked_all, asked_bytes, ready, such}

-- what a desk that stood ready sent: the commands of deeds, and a front of the next command
record HasSent (desk : LinkDeskView) (l : List Deed) (Next : List ℕ → Type 0) (desk2 : LinkDeskView) : Type 0 where
  front : List ℕ
  next : Next front
  went : Appends desk.sent desk2.sent (flat_map bytes_asked l ++ front)

-- a front of these words was sent
abbrev IsFront : Words → List ℕ → Type 0
IsFront words front = (behind : List ℕ) × (command_bytes words ≡ front ++ behind)

exchanged : (desk mid desk2 : LinkDeskView) (l : List Deed) (words : Words) (f : DeskFault) → HasAsked desk l mid
    → HasExchanged mid.sent desk2.sent mid.received desk2.received mid.decoder desk2.decoder words (Err f) → HasSent desk l (IsFront words) desk2
exchanged desk mid desk2 l words f a (inl h) = record { front = h.0.0; next = (h.0.1, h.0.2); went = Appends-trans desk.sent mid.sent desk2.sent _ _ a.went h.0.3 }
exchanged desk mid desk2 l words f a (inr h) =
    record { front = command_bytes words; next = ([], sym (append-nil (command_bytes words))); went = Appends-trans desk.sent mid.sent desk2.sent _ _ a.went h.0 }

-- a desk that stood ready refused a command, by no fault of one that had ended
refused : (desk mid desk2 : LinkDeskView) (l : List Deed) (words : Words) (f : DeskFault) → IsNotEnded f → desk.standing ≡ StandsReady → CarriesDeeds desk l mid → RefusesWords mid words f desk2 → HasSent desk l (IsFront words) desk2
refused desk mid desk2 l words f live e went h = by mid.standing refl h where
  by : (o : LinkStanding) → mid.standing ≡ o → RefusesBy o mid words f desk2 → HasSent desk l (IsFront words) desk2
  by StandsReady i h = exchanged desk mid desk2 l words f (asked_all desk mid l e i went) h.2
  by WasStopped i h = absurd (subst IsNotEnded h.0 live)
  by (WasFaulted g) i h = absurd (subst IsNotEnded h.0 live)

-- a desk that stands ready
sent_so : (desk desk2 : LinkDeskView) (l : List Deed) → desk.standing ≡ StandsReady → desk2.standing ≡ StandsReady → CarriesDeeds desk l desk2 → HasSent desk l (λ front. front ≡ []) desk2
sent_so desk desk2 l e f went =
    record { front = []; next = refl; went = subst (λ b. Appends desk.sent desk2.sent b) (sym (append-nil (flat_map bytes_asked l))) (asked_all desk desk2 l e f went).went }

said_joins : (l m : List Deed) → flat_map bytes_asked (l ++ m) ≡ calls_bytes (calls_said l ++ calls_said m)
said_joins l m =
    flat_map-append bytes_asked l m ∙ ap (λ b. b ++ flat_map bytes_asked m) (asked_bytes l) ∙ ap (λ b. calls_bytes (calls_said l) ++ b) (asked_bytes m)
    ∙ sym (flat_map-append _ (calls_said l) (calls_said m))

module _ (s : ℕ) (before after : NetShows) (old new : SinkView) (plans : List Plan) (end : PublishingEnd) (k : HasLinked s plans before after old new end) where
  abbrev deeds : List Deed
  deeds = k.carried.said.deeds ++ k.carried.said.amid

  abbrev begun : List Call
  begun = calls_said k.carried.said.amid

  abbrev n : ℕ
  n = drawn_after 0 k.carried.said.done

  abbrev left : List Plan
  left = k.carried.said.left

  closed_so : (Next : List ℕ → Type 0) → ((front : List ℕ) → Next front → IsFrontOfNext s n left begun front) → HasSent k.carried.desk deeds Next k.carried.desk2 → IsPublishedFront s plans before after
  closed_so Next f h =
      let bytes = calls_bytes (calls_said k.carried.said.deeds ++ begun) ++ h.front in
      let out : Appends k.link.sent k.link2.sent (calls_bytes (calls_said k.carried.said.deeds ++ begun) ++ h.front) =
      subst (λ b. Appends k.link.sent k.link2.sent (b ++ h.front)) (said_joins k.carried.said.deeds k.carried.said.amid)
      (subst (λ a. Appends a k.link2.sent (flat_map bytes_asked deeds ++ h.front)) k.carried.begins.0
      (subst (λ b. Appends k.carried.desk.sent b (flat_map bytes_asked deeds ++ h.front)) k.carried.ends.0 h.went)) in
      record {
        done = k.carried.said.done;
        left = left;
        calls = calls_said k.carried.said.deeds;
        begun = begun;
        front = h.front;
        text = k.carried.said.text;
        all = k.carried.said.all;
        blocks = k.carried.said.told;
        next = f h.front h.next;
        sent = such before.closed after.closed k.link k.link2 (λ link. link.sent ≡ Some (calls_bytes (calls_said k.carried.said.deeds ++ begun) ++ h.front)) k.fresh.unused k.closed
            (λ t. appended k.link.sent k.link2.sent (calls_bytes (calls_said k.carried.said.deeds ++ begun) ++ h.front) t.0 out);
      }

  while_open : StandsOpen k.carried.shows2 → ((front : List ℕ) → front ≡ [] → IsFrontOfNext s n left begun front) → IsPublishedFront s plans before after
  while_open opened f =
      closed_so (λ front. front ≡ []) f (sent_so k.carried.desk k.carried.desk2 deeds k.carried.opened (k.carried.stands2 ∙ ready k.carried.shows2.fault k.carried.shows2.stopped opened) k.carried.said.went)

  cut_next : (f : DeskFault) → IsCutNext (HasCutAfter CarriesDeeds RefusesWords k.carried.desk deeds k.carried.desk2) true false s n left begun k.carried.shows k.carried.shows2 f → IsPublishedFront s plans before after
  cut_next f c =
      closed_so (IsFront c.0) (λ front h. inr (c.0, h.0, c.1, h.1)) (refused k.carried.desk c.2.0 k.carried.desk2 deeds c.0 f c.3.timely k.carried.opened c.2.1 c.2.2)

  unmet : IsCutNext (HasCutAfter CarriesDeeds RefusesWords k.carried.desk deeds k.carried.desk2) true false s n left begun k.carried.shows k.carried.shows2 fault.Memory ⊎ IsWithoutMemory s n left begun k.carried.shows2
      → IsPublishedFront s plans before after
  unmet (inl h) = cut_next fault.Memory h
  unmet (inr (opened, inl h)) = while_open opened (λ front e. inl (inl h, e))
  unmet (inr (opened, inr (inl h))) = while_open opened (λ front e. inl (inr (inl h), e))
  unmet (inr (opened, inr (inr h))) = while_open opened (λ front e. inl (inr (inr (inr h)), e))

  by_end : (e : PublishingEnd) → IsCause (HasCutAfter CarriesDeeds RefusesWords k.carried.desk deeds k.carried.desk2) true false s n left begun k.carried.shows k.carried.shows2 k.carried.said.between new e → IsPublishedFront s plans before after
  by_end Published c = while_open c.2 (λ front h. inl (inl c.1, h))
  by_end LinkFault c = cut_next c.0.0 c.0.2
  by_end (Refused answer) c = while_open c.1 (λ front h. inl (inr (inr (inr (answer, c.0))), h))
  by_end WriteFault c = while_open c.1 (λ front h. inl (inr (inr (inl (c.0.0, c.0.1))), h))
  by_end Memory c = unmet c.0
  by_end (BadLine bad) c = absurd c
  by_end ReadFault c = absurd c

keeps : (a : Option (List LinkView)) → KeepsClosed a a
keeps None = tt
keeps (Some l) = refl

unused : (before after : NetShows) → after ≡ before → KeepsClosed before.closed after.closed
unused before after e = subst (λ (x : NetShows). KeepsClosed before.closed x.closed) (sym e) (keeps before.closed)

pub in_order : (s : ℕ) (src src2 : SourceView) (before after : NetShows) (old new : SinkView) (end : PublishingEnd) → HasPublishedRun s src src2 before after old new end → IsSentInOrder s src src2 before after
in_order s src src2 before after old new end (inl h) = inl (unused before after h.1)
in_order s src src2 before after old new end (inr (bytes, read, inl h)) = inl (unused before after h.1)
in_order s src src2 before after old new end (inr (bytes, read, inr (plans, told, inl h))) = inl h.1.closed
in_order s src src2 before after old new end (inr (bytes, read, inr (plans, told, inr k))) = inr (bytes, plans, read, told, by_end s before after old new plans end k end k.carried.said.cause)
