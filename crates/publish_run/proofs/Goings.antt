-- Saying a script goes on by one line, and ends.
use Rattle.std.proofs.Common.{◌≡◌, inl, inr, ℕ, suc, Bool, true, false, if◌then◌else◌, List, [], ◌∷◌, ◌++◌, Option, None, Some, Result, Ok, Err, refl, sym, subst, ap, ◌∙◌, append-nil, append_assoc}
use Rattle.std.specs.Prelude.{⊤, ℤ, bytes_eq, codes}
use Rattle.std.proofs.KnownBytes.{Appends-nil, Appends-trans}
use Rattle.links.specs.Views.{SinkView}
use Rattle.line_text.specs.Lines.{text_fault}
use Rattle.line_text.specs.Words.{words_of}
use Rattle.line_text.specs.declared.reason.Reason.{Reason}
use Rattle.moments.specs.MomentTexts.{moment_of}
use Rattle.queue_keys.specs.Names.{Bytes}
use Rattle.command_blocks.specs.Blocks.{CounterUse, Drawing, Other, Passing, drawn}
use Rattle.command_blocks.specs.Calls.{Call}
use Rattle.command_blocks.specs.Scripts.{Plan, counter_use}
use Rattle.desks.specs.Deeds.{Deed}
use Rattle.desks.specs.declared.desk.DeskFault.{DeskFault}
use Rattle.desks.specs.declared.desk.DeskFault.TheVariants as fault
use Rattle.store_model.specs.Words.{Words}
use Rattle.schedule_model.specs.Faults.{asked_tests, first_reason}
use Rattle.schedule_model.specs.Lines.{declare_in, publish_in}
use Rattle.schedule_model.specs.Schedules.{max_line, plan_of}
use Rattle.schedule_model.specs.declared.line.Asked.{Asked}
use Rattle.schedule_model.specs.declared.line.Asked.TheVariants as asked
use Rattle.publish_script.specs.Drafts.{Times, timed_craft}
use Rattle.publish_script.specs.Scripts.{Blocks, Noted, PublishScript, Says, ScriptReader, ScriptStep, Wrong, Wrong_line, asked_step, line_step, lines_script, moment_step, new_reader, plan_before, plan_step, reader_past, script_on, tested_step, text_step, times_step, with_eta, with_expires, words_step}
use Rattle.routes.specs.Declares.{declared_plan}
use Rattle.routes.specs.declared.declaration.Change.{Change}
use Rattle.routes.specs.declared.declaration.Change.TheVariants as change
use Rattle.publish_script.specs.Readings.{plan_said}
use Rattle.publish_script.specs.declared.reader.PublishStep.{PublishStep}
use Rattle.publish_script.specs.declared.reader.PublishStep.TheVariants as says
use Rattle.publish_run.specs.Blocks.{AreBlocksTold, HasCounter, IsBlockTold, IsNotWrong, drawn_after}
use Rattle.publish_run.specs.Publishings.{HasSaidLine, HasSaidPlan, HasSaidScript, IsAmidScript, IsCause, IsCutNext}
use Rattle.publish_run.specs.Saids.{DeskShows, HasCutAfter, IsLater, StandsOpen, calls_said}
use Rattle.publish_run.specs.declared.ending.PublishingEnd.{PublishingEnd}
use Rattle.publish_run.specs.declared.ending.PublishingEnd.TheVariants as end
use Rattle.publish_run.proofs.Sayings.{calls-append, failed_since}

-- ---- what a line draws

abbrev pub DrawsSo : ScriptReader → ScriptStep → Type 0
DrawsSo d (Noted r) = r.drawn ≡ d.drawn
DrawsSo d (Says r p) = r.drawn ≡ drawn (counter_use p) d.drawn
DrawsSo d (Wrong r) = Unit {0}

draws_past : (d : ScriptReader) (c : CounterUse) → (reader_past d c).drawn ≡ drawn c d.drawn
draws_past d Drawing = refl
draws_past d Passing = refl
draws_past d Other = refl

draws_plan : (d : ScriptReader) (o : Option Plan) → DrawsSo d (plan_step d o)
draws_plan d None = tt
draws_plan d (Some p) = draws_past d (counter_use p)

draws_tested : (s : ℕ) (d : ScriptReader) (a : Asked) (o : Option Reason) → DrawsSo d (tested_step s d a o)
draws_tested s d a None = draws_plan d (plan_of (timed_craft d.times) s (suc d.drawn) a)
draws_tested s d a (Some r) = tt

draws_asked : (s : ℕ) (d : ScriptReader) (o : Option Asked) → DrawsSo d (asked_step s d o)
draws_asked s d None = tt
draws_asked s d (Some a) = draws_tested s d a (first_reason (asked_tests (timed_craft d.times) s (suc d.drawn) a))

draws_moment : (d : ScriptReader) (f : Times → ℤ → Times) (o : Option ℤ) → DrawsSo d (moment_step d f o)
draws_moment d f None = tt
draws_moment d f (Some m) = refl

draws_times : (d : ScriptReader) (f : Times → ℤ → Times) (ws : List Bytes) → DrawsSo d (times_step d f ws)
draws_times d f [] = tt
draws_times d f (w ∷ []) = draws_moment d f (moment_of w)
draws_times d f (w ∷ v ∷ ws) = tt

draws_either : (d : ScriptReader) (b : Bool) (x y : ScriptStep) → DrawsSo d x → DrawsSo d y → DrawsSo d (if b then x else y)
draws_either d true x y h k = h
draws_either d false x y h k = k

draws_words : (s : ℕ) (d : ScriptReader) (ws : List Bytes) → DrawsSo d (words_step s d ws)
draws_words s d [] = tt
draws_words s d (w ∷ ws) =
    draws_either d (bytes_eq w (codes "publish")) _ _ (draws_asked s d (publish_in ws))
    (draws_either d (bytes_eq w (codes "declare")) _ _ (draws_asked s d (declare_in asked.Declare ws))
    (draws_either d (bytes_eq w (codes "eta")) _ _ (draws_times d with_eta ws)
    (draws_either d (bytes_eq w (codes "expires")) _ (Wrong _) (draws_times d with_expires ws) tt)))

draws_text : (s : ℕ) (d : ScriptReader) (line : Bytes) (o : Option Reason) → DrawsSo d (text_step s d line o)
draws_text s d line None = draws_words s d (words_of line)
draws_text s d line (Some r) = tt

pub draws_line : (s : ℕ) (d : ScriptReader) (line : Bytes) → DrawsSo d (line_step s d line)
draws_line s d line = draws_text s d line (text_fault max_line line)

-- ---- lines of which none is bad

abbrev ScriptIs : PublishScript → List Plan → Type 0
ScriptIs r ps = r ≡ Blocks ps

-- what a step leaves, where none of the lines is bad
abbrev LeadsSo : (ScriptReader → PublishScript) → ScriptStep → List Plan → Type 0
LeadsSo go (Noted r) ps = go r ≡ Blocks ps
LeadsSo go (Says r p) ps = (more : List Plan) × (ps ≡ p ∷ more) × (go r ≡ Blocks more)
LeadsSo go (Wrong r) ps = ⊥

leads_plan : (p : Plan) (r : PublishScript) (ps : List Plan) → plan_before p r ≡ Blocks ps → (more : List Plan) × (ps ≡ p ∷ more) × (r ≡ Blocks more)
leads_plan p (Blocks more) ps e = let same : p ∷ more ≡ ps = cc in (more, sym same, refl)
leads_plan p (Wrong_line n r) ps e = cc

leads_so : (go : ScriptReader → PublishScript) (n : ℕ) (step : ScriptStep) (ps : List Plan) → script_on go n step ≡ Blocks ps → LeadsSo go step ps
leads_so go n (Noted r) ps e = e
leads_so go n (Says r p) ps e = leads_plan p (go r) ps e
leads_so go n (Wrong r) ps e = cc

not_wrong : (go : ScriptReader → PublishScript) (step : ScriptStep) (ps : List Plan) → LeadsSo go step ps → IsNotWrong step
not_wrong go (Noted r) ps h = tt
not_wrong go (Says r p) ps h = tt
not_wrong go (Wrong r) ps h = h

-- ---- blocks that were told

pub drawn_one : (n : ℕ) (ps : List Plan) (p : Plan) → drawn_after n (ps ++ p ∷ []) ≡ drawn (counter_use p) (drawn_after n ps)
drawn_one n [] p = refl
drawn_one n (q ∷ ps) p = drawn_one (drawn (counter_use q) n) ps p

told_one : (s n : ℕ) (ps : List Plan) (p : Plan) (calls block : List Call) (text line : List ℕ) → AreBlocksTold s n ps calls text → IsBlockTold s (drawn_after n ps) p block line
    → AreBlocksTold s n (ps ++ p ∷ []) (calls ++ block) (text ++ line)
told_one s n [] p calls block text line (none, nothing) told =
    (block, [], line, [], ap (λ l. l ++ block) none ∙ sym (append-nil block), ap (λ l. l ++ line) nothing ∙ sym (append-nil line), told, (refl, refl))
told_one s n (q ∷ ps) p calls block text line (b, rest, l, more, is, says, first, others) told = (
  b,
  rest ++ block,
  l,
  more ++ line,
  ap (λ x. x ++ block) is ∙ append_assoc b rest block,
  ap (λ x. x ++ line) says ∙ append_assoc l more line,
  first,
  told_one s (drawn (counter_use q) n) ps p rest block more line others told,
)

-- ---- causes

-- the same of a cut that tells of another
pub cut_by : (Cut Cut2 : Words → DeskFault → Type 0) → ((words : Words) (f : DeskFault) → Cut words f → Cut2 words f) → (remote shared : Bool) (s n : ℕ) (left : List Plan) (calls : List Call) (shows shows2 : DeskShows) (f : DeskFault)
    → IsCutNext Cut remote shared s n left calls shows shows2 f → IsCutNext Cut2 remote shared s n left calls shows shows2 f
cut_by Cut Cut2 tells remote shared s n left calls shows shows2 f (words, next, cut, failed) = (words, next, tells words f cut, failed)

pub cause_by : (Cut Cut2 : Words → DeskFault → Type 0) → ((words : Words) (f : DeskFault) → Cut words f → Cut2 words f) → (remote shared : Bool) (s n : ℕ) (left : List Plan) (calls : List Call) (shows shows2 : DeskShows) (old new : SinkView) (e : PublishingEnd)
    → IsCause Cut remote shared s n left calls shows shows2 old new e → IsCause Cut2 remote shared s n left calls shows shows2 old new e
cause_by Cut Cut2 tells remote shared s n left calls shows shows2 old new end.Published k = k
cause_by Cut Cut2 tells remote shared s n left calls shows shows2 old new end.LinkFault ((f, links, c), same) = ((f, links, cut_by Cut Cut2 tells remote shared s n left calls shows shows2 f c), same)
cause_by Cut Cut2 tells remote shared s n left calls shows shows2 old new (end.Refused answer) k = k
cause_by Cut Cut2 tells remote shared s n left calls shows shows2 old new end.WriteFault k = k
cause_by Cut Cut2 tells remote shared s n left calls shows shows2 old new end.Memory (inl c, same) = (inl (cut_by Cut Cut2 tells remote shared s n left calls shows shows2 fault.Memory c), same)
cause_by Cut Cut2 tells remote shared s n left calls shows shows2 old new end.Memory (inr w, same) = (inr w, same)
cause_by Cut Cut2 tells remote shared s n left calls shows shows2 old new (end.BadLine bad) k = absurd k
cause_by Cut Cut2 tells remote shared s n left calls shows shows2 old new end.ReadFault k = absurd k

-- ---- amid a script

module _ {D : Type 0} (goes : D → List Deed → D → Type 0) (joins : (s t u : D) (l m : List Deed) → goes s l t → goes t m u → goes s (l ++ m) u) (refuses : D → Words → DeskFault → D → Type 0) (remote shared : Bool) (s : ℕ) where
  pub amid_begun : (plans : List Plan) (desk : D) (sink : SinkView) (lines : List (ℕ × Bytes)) → goes desk [] desk → lines_script s false new_reader lines ≡ Blocks plans → IsAmidScript goes s plans desk desk sink sink new_reader lines
  amid_begun plans desk sink lines stays is = record {
    done = [];
    left = plans;
    all = refl;
    leads = is;
    counts = refl;
    deeds = [];
    went = stays;
    text = [];
    told = (refl, refl);
    written = Appends-nil sink.taken;
    calm = refl;
  }

  module _ (plans : List Plan) (desk desk2 : D) (old new : SinkView) (reader : ScriptReader) (n : ℕ) (line : Bytes) (lines : List (ℕ × Bytes)) (a : IsAmidScript goes s plans desk desk2 old new reader ((n, line) ∷ lines)) where
    abbrev step : ScriptStep
    step = line_step s reader line

    ahead : LeadsSo (λ e. lines_script s false e lines) step a.left
    ahead = leads_so (λ e. lines_script s false e lines) n step a.left a.leads

    -- the next line isn't bad
    pub good_next : IsNotWrong step
    good_next = not_wrong (λ e. lines_script s false e lines) step a.left ahead

    -- nothing is said of it
    pub amid_noted : (r : ScriptReader) → step ≡ Noted r → IsAmidScript goes s plans desk desk2 old new r lines
    amid_noted r is = record {
      done = a.done;
      left = a.left;
      all = a.all;
      leads = subst (λ x. LeadsSo (λ e. lines_script s false e lines) x a.left) is ahead;
      counts = subst (DrawsSo reader) is (draws_line s reader line) ∙ a.counts;
      deeds = a.deeds;
      went = a.went;
      text = a.text;
      told = a.told;
      written = a.written;
      calm = a.calm;
    }

    module _ (r : ScriptReader) (p : Plan) (is : step ≡ Says r p) where
      next : (more : List Plan) × (a.left ≡ p ∷ more) × (lines_script s false r lines ≡ Blocks more)
      next = subst (λ x. LeadsSo (λ e. lines_script s false e lines) x a.left) is ahead

      -- its block was said and told
      pub amid_said : (desk3 : D) (new2 : SinkView) (shows shows2 : DeskShows) → HasSaidPlan goes refuses remote shared s reader.drawn p desk2 desk3 shows shows2 new new2 (Ok tt) → IsAmidScript goes s plans desk desk3 old new2 r lines
      amid_said desk3 new2 shows shows2 h = record {
        done = a.done ++ p ∷ [];
        left = next.0;
        all = a.all ∙ ap (λ l. a.done ++ l) next.1 ∙ sym (append_assoc a.done (p ∷ []) next.0);
        leads = next.2;
        counts = subst (DrawsSo reader) is (draws_line s reader line) ∙ ap (drawn (counter_use p)) a.counts ∙ sym (drawn_one 0 a.done p);
        deeds = a.deeds ++ h.deeds;
        went = joins desk desk2 desk3 a.deeds h.deeds a.went h.went;
        text = a.text ++ h.taken.0.0;
        told = subst (λ l. AreBlocksTold s 0 (a.done ++ p ∷ []) l (a.text ++ h.taken.0.0)) (sym (calls-append a.deeds h.deeds))
            (told_one s 0 a.done p (calls_said a.deeds) (calls_said h.deeds) a.text h.taken.0.0 a.told (subst (λ k. IsBlockTold s k p (calls_said h.deeds) h.taken.0.0) a.counts h.taken.0.1));
        written = Appends-trans old.taken new.taken new2.taken a.text h.taken.0.0 a.written h.taken.0.2;
        calm = h.taken.1 ∙ a.calm;
      }

      -- its cause is the script's, seen from where the script began
      cause_on : (Cut : Words → DeskFault → Type 0) (shows shows2 shows3 : DeskShows) (calls : List Call) (new2 : SinkView) (e : PublishingEnd) → IsLater shows shows2 → IsCause Cut remote shared s reader.drawn (p ∷ []) calls shows2 shows3 new new2 e
          → IsCause Cut remote shared s (drawn_after 0 a.done) a.left calls shows shows3 new new2 e
      cause_on Cut shows shows2 shows3 calls new2 e later h = subst (λ l. IsCause Cut remote shared s (drawn_after 0 a.done) l calls shows shows3 new new2 e) (sym next.1) (subst (λ k. IsCause Cut remote shared s k (p ∷ next.0) calls shows shows3 new new2 e) a.counts (by e h)) where
        cut : (f : DeskFault) → IsCutNext Cut remote shared s reader.drawn (p ∷ []) calls shows2 shows3 f → IsCutNext Cut remote shared s reader.drawn (p ∷ next.0) calls shows shows3 f
        cut f (words, goes_on, so, failed) = (words, goes_on, so, failed_since remote shared shows shows2 shows3 f later failed)

        by : (e : PublishingEnd) → IsCause Cut remote shared s reader.drawn (p ∷ []) calls shows2 shows3 new new2 e → IsCause Cut remote shared s reader.drawn (p ∷ next.0) calls shows shows3 new new2 e
        by end.Published k = absurd (no_plan p k.0)
          where
            no_plan : (q : Plan) → ◌≡◌ {A = List Plan} (q ∷ []) [] → ⊥
            no_plan q x = cc
        by end.LinkFault ((f, links, c), same) = ((f, links, cut f c), same)
        by (end.Refused answer) k = k
        by end.WriteFault k = k
        by end.Memory (inl c, same) = (inl (cut fault.Memory c), same)
        by end.Memory (inr w, same) = (inr w, same)
        by (end.BadLine bad) k = absurd k
        by end.ReadFault k = absurd k

      -- saying ended amid it
      pub stopped_amid : (desk3 : D) (new2 : SinkView) (shows shows2 shows3 : DeskShows) (e : PublishingEnd) → IsLater shows shows2 → HasSaidPlan goes refuses remote shared s reader.drawn p desk2 desk3 shows2 shows3 new new2 (Err e)
          → HasSaidScript goes refuses remote shared s 0 plans desk desk3 shows shows3 old new2 e
      stopped_amid desk3 new2 shows shows2 shows3 e later h = by where
        since : (words : Words) (f : DeskFault) → HasCutAfter goes refuses desk2 h.deeds desk3 words f → HasCutAfter goes refuses desk (a.deeds ++ h.deeds) desk3 words f
        since words f (mid, went, cut) = (mid, joins desk desk2 mid a.deeds h.deeds a.went went, cut)

        by : HasSaidScript goes refuses remote shared s 0 plans desk desk3 shows shows3 old new2 e
        by = record {
          done = a.done;
          left = a.left;
          all = a.all;
          deeds = a.deeds;
          amid = h.deeds;
          went = joins desk desk2 desk3 a.deeds h.deeds a.went h.went;
          text = a.text;
          told = a.told;
          between = new;
          written = a.written;
          calm = a.calm;
          cause = cause_on (HasCutAfter goes refuses desk (a.deeds ++ h.deeds) desk3) shows shows2 shows3 (calls_said h.deeds) new2 e later
              (cause_by (HasCutAfter goes refuses desk2 h.deeds desk3) (HasCutAfter goes refuses desk (a.deeds ++ h.deeds) desk3) since remote shared s reader.drawn (p ∷ []) (calls_said h.deeds) shows2 shows3 new new2 e h.taken);
        }

  module _ (plans : List Plan) (desk desk2 : D) (old new : SinkView) (reader : ScriptReader) (lines : List (ℕ × Bytes)) (a : IsAmidScript goes s plans desk desk2 old new reader lines) where
    -- there was no memory for the next line
    pub stopped_before : (shows shows2 : DeskShows) → StandsOpen shows2 → HasSaidScript goes refuses remote shared s 0 plans desk desk2 shows shows2 old new end.Memory
    stopped_before shows shows2 opened = record {
      done = a.done;
      left = a.left;
      all = a.all;
      deeds = a.deeds;
      amid = [];
      went = subst (λ l. goes desk l desk2) (sym (append-nil a.deeds)) a.went;
      text = a.text;
      told = a.told;
      between = new;
      written = a.written;
      calm = a.calm;
      cause = (inr (opened, inl refl), refl);
    }

    -- no line is left
    pub said_all : (shows shows2 : DeskShows) → StandsOpen shows2 → lines ≡ [] → HasSaidScript goes refuses remote shared s 0 plans desk desk2 shows shows2 old new end.Published
    said_all shows shows2 opened none = record {
      done = a.done;
      left = a.left;
      all = a.all;
      deeds = a.deeds;
      amid = [];
      went = subst (λ l. goes desk l desk2) (sym (append-nil a.deeds)) a.went;
      text = a.text;
      told = a.told;
      between = new;
      written = a.written;
      calm = a.calm;
      cause = (empty a.left (subst (λ l. lines_script s false reader l ≡ Blocks a.left) none a.leads), refl, opened, refl);
    }
      where
        empty : (ps : List Plan) → Blocks [] ≡ Blocks ps → ps ≡ []
        empty [] e = refl
        empty (p ∷ ps) e = cc

-- ---- one line

module _ {D : Type 0} (goes : D → List Deed → D → Type 0) (refuses : D → Words → DeskFault → D → Type 0) (remote shared : Bool) (s n : ℕ) (step : ScriptStep) (reader : ScriptReader) (desk desk2 : D) (shows shows2 : DeskShows) (old new : SinkView) where
  -- the block of a line was said, as far as it came
  pub line_said : (p : Plan) (result : Result ⊤ PublishingEnd) → step ≡ Says reader p → HasSaidPlan goes refuses remote shared s n p desk desk2 shows shows2 old new result → HasSaidLine goes refuses remote shared s n step reader desk desk2 shows shows2 old new result
  line_said p (Ok u) is h = inr (p, is, h)
  line_said p (Err e) is h = inr (reader, p, is, h)

pub wrong_not : (step : ScriptStep) (r : Reason) → IsNotWrong step → step ≡ Wrong r → ⊥
wrong_not step r good is = subst IsNotWrong is good

-- the counter of the block that a line says
pub counter_said : (n counter : ℕ) (x : PublishStep) → counter ≡ drawn (counter_use (plan_said x)) n → HasCounter n counter (plan_said x)
counter_said n counter (says.Publish e) is = is
counter_said n counter (says.Declare d) is = by d.change
  where
    by : (change : Change) → HasCounter n counter (declared_plan change d.exchange d.routing_key d.pattern d.queue)
    by change.Add = tt
    by change.Remove = tt

-- ---- from line to line

module _ {D : Type 0} (goes : D → List Deed → D → Type 0) (joins : (s t u : D) (l m : List Deed) → goes s l t → goes t m u → goes s (l ++ m) u) (refuses : D → Words → DeskFault → D → Type 0) (remote shared : Bool) (s : ℕ)
    (plans : List Plan) (desk desk2 desk3 : D) (old new new2 : SinkView) (shows shows2 shows3 : DeskShows) (reader reader2 : ScriptReader) (n : ℕ) (line : Bytes) (before lines : List (ℕ × Bytes))
    (amid : IsAmidScript goes s plans desk desk2 old new reader before) (is : before ≡ (n, line) ∷ lines) where
  here : IsAmidScript goes s plans desk desk2 old new reader ((n, line) ∷ lines)
  here = subst (IsAmidScript goes s plans desk desk2 old new reader) is amid

  pub good_line : IsNotWrong (line_step s reader line)
  good_line = good_next goes joins refuses remote shared s plans desk desk2 old new reader n line lines here

  pub amid_next : HasSaidLine goes refuses remote shared s reader.drawn (line_step s reader line) reader2 desk2 desk3 shows2 shows3 new new2 (Ok tt) → IsAmidScript goes s plans desk desk3 old new2 reader2 lines
  amid_next (inl (step, same, quiet)) =
      subst (λ d. IsAmidScript goes s plans desk d old new2 reader2 lines) (sym same)
      (subst (λ v. IsAmidScript goes s plans desk desk2 old v reader2 lines) (sym quiet)
      (amid_noted goes joins refuses remote shared s plans desk desk2 old new reader n line lines here reader2 step))
  amid_next (inr (p, step, said)) = amid_said goes joins refuses remote shared s plans desk desk2 old new reader n line lines here reader2 p step desk3 new2 shows2 shows3 said

  pub stops_next : (e : PublishingEnd) → IsLater shows shows2 → HasSaidLine goes refuses remote shared s reader.drawn (line_step s reader line) reader2 desk2 desk3 shows2 shows3 new new2 (Err e) → HasSaidScript goes refuses remote shared s 0 plans desk desk3 shows shows3 old new2 e
  stops_next e later (inl (memory, same, opened, quiet)) =
      subst (λ d. HasSaidScript goes refuses remote shared s 0 plans desk d shows shows3 old new2 e) (sym same)
      (subst (λ v. HasSaidScript goes refuses remote shared s 0 plans desk desk2 shows shows3 old v e) (sym quiet)
      (subst (HasSaidScript goes refuses remote shared s 0 plans desk desk2 shows shows3 old new) (sym memory)
      (stopped_before goes joins refuses remote shared s plans desk desk2 old new reader ((n, line) ∷ lines) here shows shows3 opened)))
  stops_next e later (inr (r, p, step, said)) = stopped_amid goes joins refuses remote shared s plans desk desk2 old new reader n line lines here r p step desk3 new2 shows shows2 shows3 e later said

-- the desk stays open after a line
pub open_after : {D : Type 0} (goes : D → List Deed → D → Type 0) (refuses : D → Words → DeskFault → D → Type 0) (remote shared : Bool) (s n : ℕ) (step : ScriptStep) (reader : ScriptReader) (desk desk2 : D) (show : D → DeskShows) (old new : SinkView)
    → StandsOpen (show desk) → HasSaidLine goes refuses remote shared s n step reader desk desk2 (show desk) (show desk2) old new (Ok tt) → StandsOpen (show desk2)
open_after goes refuses remote shared s n step reader desk desk2 show old new opened (inl (is, same, quiet)) = subst (λ d. StandsOpen (show d)) (sym same) opened
open_after goes refuses remote shared s n step reader desk desk2 show old new opened (inr (p, is, said)) = said.taken.2
