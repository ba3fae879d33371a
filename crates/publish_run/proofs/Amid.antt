-- What a block that was said, as far as it came, is among the blocks of plans.
use Rattle.std.proofs.KnownBytes.{Appends-nil}
use Rattle.std.proofs.Common.{◌≡◌, ◌⊎◌, append-nil, arith, inl, inr, None, Option, Some, ℕ, suc, Bool, List, [], ◌∷◌, ◌++◌, Result, Ok, Err, refl, sym, subst, ap, ◌∙◌}
use Rattle.std.specs.Prelude.{⊤}
use Rattle.wire_values.specs.declared.value.Value.{Value}
use Rattle.links.specs.Views.{SinkView}
use Rattle.command_blocks.specs.Calls.{Call, call}
use Rattle.command_blocks.specs.EnvelopeTexts.{plain_setting, texts}
use Rattle.store_model.specs.Words.{Words}
use Rattle.command_blocks.specs.Scripts.{IsSaid, Off, Over, Plan, Publish, Say, Script, next_words, rest_of, script_of}
use Rattle.command_blocks.specs.Setting.{IsLawful}
use Rattle.queue_keys.specs.Layouts.{plain}
use Rattle.queue_keys.specs.Names.{Bytes, same}
use Rattle.key_laws.proofs.EnvelopeFacts.{envelopes_serve}
use Rattle.key_laws.proofs.Settings.{lawful_setting}
use Rattle.block_laws.specs.Rows.{AreTimely, IsGood, IsLawfulPlan, IsPlanBlock, IsRow}
use Rattle.block_laws.specs.Traces.{IsFrontOf, IsTrace}
use Rattle.block_laws.proofs.Fronts.{IsPutOff, end_of, rest-append, rest_good, said-append, timely-append}
use Rattle.block_laws.proofs.PlanRows.{plan_row}
use Rattle.block_laws.proofs.Said.{plan_off}
use Rattle.block_laws.proofs.Traces.{trace_front}
use Rattle.desks.specs.Deeds.{Deed}
use Rattle.desks.specs.declared.desk.DeskFault.{DeskFault}
use Rattle.desks.specs.declared.desk.DeskFault.TheVariants as fault
use Rattle.routes.specs.Declares.{declared_plan}
use Rattle.routes.specs.Publishes.{TellsPublish}
use Rattle.routes.specs.declared.declaration.Change.{Change}
use Rattle.routes.specs.declared.declaration.Change.TheVariants as change
use Rattle.routes.specs.declared.publish.PublishEnd.{PublishEnd}
use Rattle.publish_run.specs.Blocks.{BeginsNext, IsBlockTold, IsLineOf, IsNextCommand, IsRefusedNext, IsUnlistedIn, end_line}
use Rattle.publish_run.specs.Publishings.{HasSaidPlan, HasToldBlock, HasToldEnd, HasWritten, IsCause, IsCutNext, IsEndAt, IsLinks}
use Rattle.publish_run.specs.Saids.{DeskShows, EndsWith, HasCutAfter, HasSaidBlock, IsSaidBlock, calls_said}
use Rattle.publish_run.specs.declared.ending.PublishingEnd.{PublishingEnd}
use Rattle.publish_run.specs.declared.ending.PublishingEnd.TheVariants as ending
use Rattle.publish_run.specs.declared.saying.SayFault.{SayFault}
use Rattle.publish_run.specs.declared.saying.SayFault.TheVariants.{Desk, Memory, Refused}

plain_lawful : IsLawful plain_setting
unfolding same
plain_lawful = lawful_setting plain texts refl envelopes_serve

-- ---- the last of some calls

abbrev last_or : Call → List Call → Call
last_or x [] = x
last_or x (y ∷ ys) = last_or y ys

last_is : (d : Call) (l : List Call) (x : Call) → last_or d (l ++ x ∷ []) ≡ x
last_is d [] x = refl
last_is d (y ∷ l) x = last_is y l x

same_answer : (l m : List Call) (x y : Call) → l ++ x ∷ [] ≡ m ++ y ∷ [] → x.answer ≡ y.answer
same_answer l m x y e = ap (λ (c : Call). c.answer) (sym (last_is x l x) ∙ ap (last_or x) e ∙ last_is x m y)

-- a script is off, or it isn't
off_or_on : (p : Script) → (p ≡ Off) ⊎ (p ≡ Off → ⊥)
off_or_on Off = inl refl
off_or_on Over = inr (λ e. cc)
off_or_on (Say w go) = inr (λ e. cc)

no_words : (words : Words) → ◌≡◌ {A = Option Words} None (Some words) → ⊥
no_words words e = cc

-- a good script goes on after its next words, to its end
says_next : (p : Script) → IsGood p → (words : Words) → next_words p 0 ≡ Some words
    → (answer : Value) × (more : List Call) × AreTimely (call 0 words answer ∷ more) × IsSaid p (call 0 words answer ∷ more) × (rest_of p (call 0 words answer ∷ more) ≡ Over)
says_next Over g words e = absurd (no_words words e)
says_next Off g words e = absurd g
says_next (Say w go) g words e =
    let l = end_of (go g.0.0) g.0.1 in
    (g.0.0, l.0, (omega arith, l.1), (e, l.2), l.3)

-- ---- a block of a lawful plan

module _ (s n : ℕ) (plan : Plan) (lawful : IsLawfulPlan plain_setting s n plan) (deeds : List Deed) (rest : Script) (t : IsTrace (script_of plain_setting s 0 plan) (calls_said deeds) rest) where
  abbrev calls : List Call
  calls = calls_said deeds

  ahead : IsFrontOf (IsPlanBlock plain_setting s n 0 plan) calls rest
  ahead = trace_front plain_setting s n 0 plan lawful calls rest t

  refused_by : (answer : Value) → rest ≡ Off → EndsWith calls answer → IsUnlistedIn s n plan calls answer
  refused_by answer off (front, at, words, is) =
      let b = ahead.but_last off in
      let same : b.3 ≡ answer = same_answer b.0 front (call b.1 b.2 b.3) (call at words answer) (sym b.6 ∙ is) in
      record {
        before = b.0;
        at = b.1;
        words = b.2;
        listed = b.4;
        more = b.5;
        last = subst (λ v. calls ≡ b.0 ++ call b.1 b.2 v ∷ []) same b.6;
        would = b.7;
        unlisted = λ l h. plan_off plain_setting plain_lawful s n 0 plan calls l (sym t.left ∙ off) h;
      }

  unlisted_by : rest ≡ Off → (answer : Value) × IsUnlistedIn s n plan calls answer
  unlisted_by off = let b = ahead.but_last off in (b.3, refused_by b.3 off (b.0, b.1, b.2, b.6))

  abbrev its : Script
  its = script_of plain_setting s 0 plan

  row : IsRow plain_setting s n 0 plan
  row = plan_row plain_setting s n 0 plan lawful

  -- the block goes on with the next words
  goes_on : (words : Words) → next_words rest 0 ≡ Some words → IsNextCommand s n (plan ∷ []) calls words
  goes_on words e = by (rest_good its calls row.good t.timely t.said) where
    by : IsGood (rest_of its calls) ⊎ ((rest_of its calls ≡ Off) × IsPutOff its calls) → IsNextCommand s n (plan ∷ []) calls words
    by (inl g) =
        let x = says_next (rest_of its calls) g words (ap (λ p. next_words p 0) (sym t.left) ∙ e) in
        let l = call 0 words x.0 ∷ x.1 in
        (x.0, x.1, row.told (calls ++ l) (timely-append calls l t.timely x.2) (said-append its calls l t.said x.3) (rest-append its calls l ∙ x.4))
    by (inr h) = absurd (no_words words (sym (ap (λ p. next_words p 0) (t.left ∙ h.0)) ∙ e))

  -- saying ended amid it
  pub ends_so : {E : Type 0} (Cut : Words → DeskFault → Type 0) (remote shared : Bool) (tell : List Call → E → Type 0) (shows shows2 : DeskShows) (view : SinkView) (f : SayFault) (e : PublishingEnd)
      → IsSaidBlock Cut remote shared tell shows shows2 deeds rest (Err f) → IsEndAt f e → IsCause Cut remote shared s n (plan ∷ []) calls shows shows2 view view e
  ends_so {E} Cut remote shared tell shows shows2 view f e h is = by f h is where
    So : PublishingEnd → Type 0
    So x = IsCause Cut remote shared s n (plan ∷ []) calls shows shows2 view view x

    cut_at : (g : DeskFault) → IsSaidBlock Cut remote shared tell shows shows2 deeds rest (Err (Desk g)) → IsCutNext Cut remote shared s n (plan ∷ []) calls shows shows2 g
    cut_at g (failed, (words, next, cut)) = (words, goes_on words next, cut, failed)

    linked : (g : DeskFault) → IsLinks g → IsSaidBlock Cut remote shared tell shows shows2 deeds rest (Err (Desk g)) → e ≡ ending.LinkFault → So e
    linked g links k q = subst So (sym q) ((g, links, cut_at g k), refl)

    amid : (rest ≡ Off) ⊎ (rest ≡ Off → ⊥) → BeginsNext s n (plan ∷ []) calls ⊎ ((answer : Value) × IsRefusedNext s n (plan ∷ []) calls answer)
    amid (inl off) = inr (unlisted_by off)
    amid (inr on) = inl (ahead.front on)

    by : (f : SayFault) → IsSaidBlock Cut remote shared tell shows shows2 deeds rest (Err f) → IsEndAt f e → So e
    by (Desk fault.Memory) k q = subst So (sym q) (inl (cut_at fault.Memory k), refl)
    by (Desk fault.Link) k q = linked fault.Link tt k q
    by (Desk (fault.Wire kind place)) k q = linked (fault.Wire kind place) tt k q
    by (Desk fault.Flood) k q = linked fault.Flood tt k q
    by (Desk (fault.Full entries bytes)) k q = linked (fault.Full entries bytes) tt k q
    by (Desk fault.Closed) k q = linked fault.Closed tt k q
    by (Desk fault.Ended) (failed, c) q = absurd failed.timely
    by (Refused answer) k q = subst So (sym q) (refused_by answer k.1 k.2, k.0, refl)
    by Memory k q = subst So (sym q) (inr (k, inr (amid (off_or_on rest))), refl)

  pub whole_block : rest ≡ Over → IsPlanBlock plain_setting s n 0 plan calls
  whole_block over = ahead.whole over

-- ---- what comes of a block

no_line : (s n : ℕ) (change : Change) (e r x q : Bytes) (calls : List Call) → IsLineOf s n (declared_plan change e r x q) calls []
no_line s n change.Add e r x q calls = refl
no_line s n change.Remove e r x q calls = refl

module _ {D : Type 0} (goes : D → List Deed → D → Type 0) (refuses : D → Words → DeskFault → D → Type 0) (remote shared : Bool) (s n : ℕ) (desk desk2 : D) (shows shows2 : DeskShows) where
  -- a declaration was said
  pub said_declared : {E : Type 0} (tell : Plan → List Call → E → Type 0) (change : Change) (e r x q : Bytes) (view : SinkView) (end : E) → IsLawfulPlan plain_setting s n (declared_plan change e r x q)
      → HasSaidBlock goes refuses remote shared tell s 0 (declared_plan change e r x q) desk desk2 shows shows2 (Ok end) → HasSaidPlan goes refuses remote shared s n (declared_plan change e r x q) desk desk2 shows shows2 view view (Ok tt)
  said_declared tell change e r x q view end lawful h = record {
    deeds = h.deeds;
    went = h.went;
    taken = (([], (whole_block s n (declared_plan change e r x q) lawful h.deeds h.rest h.trace h.come.1, no_line s n change e r x q (calls_said h.deeds)), Appends-nil view.taken), refl, h.come.0);
  }

  -- a block wasn't said to its end
  pub said_amid : {E : Type 0} (tell : Plan → List Call → E → Type 0) (plan : Plan) (view : SinkView) (f : SayFault) (e : PublishingEnd) → IsLawfulPlan plain_setting s n plan
      → HasSaidBlock goes refuses remote shared tell s 0 plan desk desk2 shows shows2 (Err f) → IsEndAt f e → HasSaidPlan goes refuses remote shared s n plan desk desk2 shows shows2 view view (Err e)
  said_amid tell plan view f e lawful h is = record {
    deeds = h.deeds;
    went = h.went;
    taken = ends_so s n plan lawful h.deeds h.rest h.trace (HasCutAfter goes refuses desk h.deeds desk2) remote shared (tell plan) shows shows2 view f e h.come is;
  }

  -- a publication was said, and its end told
  pub said_published : (v : Bytes) (counter : ℕ) (old new : SinkView) (said : Result PublishEnd SayFault) (result : Result ⊤ PublishingEnd) → IsLawfulPlan plain_setting s n (Publish v) → counter ≡ suc n
      → HasSaidBlock goes refuses remote shared TellsPublish s 0 (Publish v) desk desk2 shows shows2 said → HasToldEnd s counter said old new result → HasSaidPlan goes refuses remote shared s n (Publish v) desk desk2 shows shows2 old new result
  said_published v counter old new (Err f) (Ok u) lawful is h told = absurd told
  said_published v counter old new (Err f) (Err e) lawful is h told = subst (λ w. HasSaidPlan goes refuses remote shared s n (Publish v) desk desk2 shows shows2 old w (Err e)) (sym told.1) (said_amid TellsPublish (Publish v) old f e lawful h told.0)
  said_published v counter old new (Ok end) result lawful is h told = record { deeds = h.deeds; went = h.went; taken = by result told }
    where
      block : IsPlanBlock plain_setting s n 0 (Publish v) (calls_said h.deeds)
      block = whole_block s n (Publish v) lawful h.deeds h.rest h.trace h.come.1

      line : IsBlockTold s n (Publish v) (calls_said h.deeds) (end_line s counter end)
      line = (block, (end, h.come.2, ap (λ m. end_line s m end) is))

      by : (result : Result ⊤ PublishingEnd) → HasWritten (end_line s counter end) old new result → HasToldBlock (HasCutAfter goes refuses desk h.deeds desk2) remote shared s n (Publish v) (calls_said h.deeds) shows shows2 old new result
      by (Ok u) k = ((end_line s counter end, line, k.0), k.1, h.come.0)
      by (Err ending.WriteFault) k = ((end_line s counter end, line, k.0), h.come.0, k.1, k.2)
      by (Err ending.Memory) k = (inr (h.come.0, inr (inl ([], subst (IsPlanBlock plain_setting s n 0 (Publish v)) (sym (append-nil (calls_said h.deeds))) block))), k)
      by (Err ending.Published) k = absurd k
      by (Err (ending.BadLine bad)) k = absurd k
      by (Err ending.ReadFault) k = absurd k
      by (Err ending.LinkFault) k = absurd k
      by (Err (ending.Refused answer)) k = absurd k
