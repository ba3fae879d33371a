-- A script that was published whole.
use Rattle.std.proofs.Common.{◌≡◌, ℕ, ◌+◌, ◌++◌, ◌∷◌, Bool, true, List, [], length, None, Option, Some, append-nil, ap, refl, subst, sym, ◌∙◌, arith, inl, inr}
use Rattle.std.specs.Io.KnownBytes.{Appends}
use Rattle.std.specs.Prelude.{flat_map, nat_lt, take}
use Rattle.std.proofs.lemmas.Bool.Decides.{nat_tests}
use Rattle.std.proofs.lemmas.Grind.{flat_map-append}
use Rattle.links.specs.Ends.{IsWholeInput}
use Rattle.links.specs.Views.{SinkView, SourceView}
use Rattle.line_text.specs.Lines.{lines_of, numbered, text_fault}
use Rattle.line_text.specs.declared.reason.Reason.{Reason}
use Rattle.net_links.specs.LinkViews.{LinkView}
use Rattle.net_links.specs.Traffics.{ClosesOne, TellsNothingYet}
use Rattle.command_blocks.specs.Scripts.{Plan}
use Rattle.queue_keys.specs.Names.{Bytes}
use Rattle.schedule_model.specs.Schedules.{max_input, max_line}
use Rattle.desks.specs.Deeds.{Deed, DidAsk, DidNote, DidStop}
use Rattle.desks.specs.Faults.{IsOpen}
use Rattle.desks.specs.declared.desk.DeskFault.{DeskFault}
use Rattle.link_desk.specs.LinkDeeds.{CarriesBy, CarriesDeeds, CarriesTo, HasAsked, LinkDeskView, StandsReady, bytes_asked, command_bytes, standing_of}
use Rattle.publish_script.specs.Scripts.{Blocks, Noted, PublishScript, Says, ScriptReader, ScriptStep, Wrong, Wrong_line, behind_header, header_reason, header_script, line_step, lines_script, new_reader, plan_before, script_on, script_told}
use Rattle.publish_run.specs.Blocks.{AreBlocksTold}
use Rattle.publish_run.specs.PublishRuns.{HasLinked, HasPublishedRun, HasScript, NetShows}
use Rattle.publish_run.specs.Saids.{calls_said}
use Rattle.publish_run.specs.declared.ending.PublishingEnd.TheVariants.{Published}
use Rattle.publish_run_laws.specs.Published.{ClosesSuch, IsPublishedWhole, calls_bytes}

-- ---- an input past its limit isn't good

abbrev IsBad : PublishScript → Type 0
IsBad (Blocks ps) = ⊥
IsBad (Wrong_line n r) = Unit {0}

bad_before : (p : Plan) (x : PublishScript) → IsBad x → IsBad (plan_before p x)
bad_before p (Blocks ps) h = absurd h
bad_before p (Wrong_line n r) h = tt

bad_step : (go : ScriptReader → PublishScript) (n : ℕ) (step : ScriptStep) → ((d : ScriptReader) → IsBad (go d)) → IsBad (script_on go n step)
bad_step go n (Noted d) h = h d
bad_step go n (Says d p) h = bad_before p (go d) (h d)
bad_step go n (Wrong r) h = tt

cut_lines : (s : ℕ) (d : ScriptReader) (l : ℕ × Bytes) (ls : List (ℕ × Bytes)) → IsBad (lines_script s true d (l ∷ ls))
cut_lines s d l [] = tt
cut_lines s d l (m ∷ ms) = bad_step (λ e. lines_script s true e (m ∷ ms)) l.0 (line_step s d l.1) (λ e. cut_lines s e m ms)

cut_script : (s : ℕ) (ls : List (ℕ × Bytes)) → IsBad (header_script s true ls)
cut_script s [] = tt
cut_script s (h ∷ []) = tt
cut_script s (h ∷ m ∷ ms) = by (header_reason h.1 (text_fault max_line h.1)) where
  by : (o : Option Reason) → IsBad (behind_header s true (m ∷ ms) o)
  by (Some r) = tt
  by None = cut_lines s new_reader m ms

past : (s : ℕ) (bytes : Bytes) → length bytes ≡ max_input + 1 → IsBad (script_told s bytes)
past s bytes e =
    let t : nat_lt max_input (length bytes) ≡ true = grind (arith, nat_tests) in
    subst (λ b. IsBad (header_script s b (numbered 1 (lines_of (take (max_input + 1) bytes))))) (sym t) (cut_script s (numbered 1 (lines_of (take (max_input + 1) bytes))))

whole_input : (s : ℕ) (src src2 : SourceView) (bytes : Bytes) (plans : List Plan) → HasScript src src2 bytes → script_told s bytes ≡ Blocks plans → IsWholeInput max_input src src2 bytes
whole_input s src src2 bytes plans (inl h) e = h
whole_input s src src2 bytes plans (inr h) e = absurd (subst IsBad e (past s bytes h.over))

-- ---- what the link sent

pub asked_bytes : (l : List Deed) → flat_map bytes_asked l ≡ calls_bytes (calls_said l)
asked_bytes [] = refl
asked_bytes (DidAsk at words reply ∷ l) = ap (λ b. command_bytes words ++ b) (asked_bytes l)
asked_bytes (DidNote heard ∷ l) = asked_bytes l
asked_bytes (DidStop ∷ l) = asked_bytes l

-- deeds, and further ones among which no command is
asked_alone : (l m : List Deed) → calls_said m ≡ [] → flat_map bytes_asked (l ++ m) ≡ calls_bytes (calls_said l)
asked_alone l m none =
    flat_map-append bytes_asked l m ∙ ap (λ b. flat_map bytes_asked l ++ b) (asked_bytes m ∙ ap calls_bytes none) ∙ append-nil (flat_map bytes_asked l) ∙ asked_bytes l

pub ready : (fault : Option DeskFault) (stopped : Bool) → IsOpen fault stopped → standing_of fault stopped ≡ StandsReady
ready fault stopped h = ap (λ f. standing_of f stopped) h.no_fault ∙ ap (standing_of None) h.no_stop

-- known bytes that grew from none
pub appended : (a b : Option (List ℕ)) (bytes : List ℕ) → a ≡ Some [] → Appends a b bytes → b ≡ Some bytes
appended a None bytes e h = absurd (subst (λ x. Appends x None bytes) e h)
appended a (Some y) bytes e h = ap (λ x. Some x) (subst (λ x. Appends x (Some y) bytes) e h)

-- what holds of the link that was closed
pub such : (a b : Option (List LinkView)) (link link2 : LinkView) (Holds : LinkView → Type 0) → TellsNothingYet a link → ClosesOne a b link2
    → ((link.sent ≡ Some []) × (link.received ≡ Some []) × (link.gains ≡ 0) → Holds link2) → ClosesSuch a b Holds
such None b link link2 Holds t c f = tt
such (Some l) None link link2 Holds t c f = absurd c
such (Some l) (Some m) link link2 Holds t c f = (link2, ap (λ x. Some x) c, f t)

pub asked_all : (desk desk2 : LinkDeskView) (l : List Deed) → desk.standing ≡ StandsReady → desk2.standing ≡ StandsReady → CarriesDeeds desk l desk2 → HasAsked desk l desk2
asked_all desk desk2 l e f h =
    let a : CarriesBy StandsReady desk l desk2 = subst (λ o. CarriesBy o desk l desk2) e h in
    subst (λ o. CarriesTo o desk l desk2) f a.0

module _ (s : ℕ) (src src2 : SourceView) (before after : NetShows) (old new : SinkView) where
  linked : (bytes : Bytes) (plans : List Plan) → HasScript src src2 bytes → script_told s bytes ≡ Blocks plans → HasLinked s plans before after old new Published → IsPublishedWhole s src src2 before after old new
  linked bytes plans read told k =
      let c = k.carried in
      let h = c.said in
      let cause = h.cause in
      let done : h.done ≡ plans = sym (append-nil h.done) ∙ ap (λ x. h.done ++ x) (sym cause.0) ∙ sym h.all in
      let all = asked_all c.desk c.desk2 (h.deeds ++ h.amid) c.opened (c.stands2 ∙ ready c.shows2.fault c.shows2.stopped cause.2) h.went in
      let out : Appends k.link.sent k.link2.sent (calls_bytes (calls_said h.deeds)) =
      subst (λ b. Appends k.link.sent k.link2.sent b) (asked_alone h.deeds h.amid cause.1)
      (subst (λ a. Appends a k.link2.sent (flat_map bytes_asked (h.deeds ++ h.amid))) c.begins.0
      (subst (λ b. Appends c.desk.sent b (flat_map bytes_asked (h.deeds ++ h.amid))) c.ends.0 all.went)) in
      record {
        bytes = bytes;
        plans = plans;
        calls = calls_said h.deeds;
        text = h.text;
        read = whole_input s src src2 bytes plans read told;
        script = told;
        blocks = subst (λ ps. AreBlocksTold s 0 ps (calls_said h.deeds) h.text) done h.told;
        sent = such before.closed after.closed k.link k.link2 (λ link. link.sent ≡ Some (calls_bytes (calls_said h.deeds))) k.fresh.unused k.closed
            (λ t. appended k.link.sent k.link2.sent (calls_bytes (calls_said h.deeds)) t.0 out);
        written = subst (λ (x : SinkView). Appends old.taken x.taken h.text) (sym cause.3) h.written;
        no_fault = k.no_fault;
        no_write_fault = ap (λ (x : SinkView). x.faults) cause.3 ∙ h.calm;
      }

  pub published : HasPublishedRun s src src2 before after old new Published → IsPublishedWhole s src src2 before after old new
  published (inl h) = absurd h.0
  published (inr (bytes, read, inl h)) = absurd h.0
  published (inr (bytes, read, inr (plans, told, inl h))) = absurd h.0
  published (inr (bytes, read, inr (plans, told, inr k))) = linked bytes plans read told k
