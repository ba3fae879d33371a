-- Errands one after the other are blocks of a client.
use Rattle.std.proofs.Common.{◌≡◌, ◌⊎◌, inl, inr, ℕ, refl, ap, sym, ◌∙◌, subst, Bool, true, false, List, [], ◌∷◌, ◌++◌, append_assoc}
use Rattle.std.proofs.lemmas.List.{append-nil}
use Rattle.std.specs.Prelude.{cond, map}
use Rattle.wire_values.specs.Layer.{layer}
use Rattle.wire_values.specs.declared.value.Value.{Value}
use Rattle.wire_values.specs.declared.value.Value.TheVariants.{NullBulk}
use Rattle.store_model.specs.Words.{Words}
use Rattle.queue_keys.specs.Layouts.{plain}
use Rattle.queue_keys.specs.Names.{same}
use Rattle.key_laws.proofs.EnvelopeFacts.{envelopes_serve}
use Rattle.key_laws.proofs.Settings.{lawful_setting}
use Rattle.command_blocks.specs.Answers.{is_error}
use Rattle.command_blocks.specs.Blocks.{IsBlock, IsFrontOfBlocks, IsMannered, IsNeutral, IsNeutralBlock, Answered, Neutral}
use Rattle.command_blocks.specs.Calls.{Call, call, concat}
use Rattle.command_blocks.specs.EnvelopeTexts.{plain_setting, texts}
use Rattle.command_blocks.specs.Scripts.{Script, Over, Off, rest_of, IsSaid}
use Rattle.command_blocks.specs.Setting.{IsLawful}
use Rattle.block_laws.specs.Rows.{AreTimely, IsGood}
use Rattle.block_laws.specs.Traces.{IsTrace, IsFrontOf}
use Rattle.block_laws.proofs.Fronts.{BlocksTo, IsPutOff, end_of, good_on, part_front, rest-append, rest_good, said-append, timely-append, whole_front}
use Rattle.block_laws.proofs.PlanRows.{plan_row}
use Rattle.block_laws.proofs.Said.{plan_off}
use Rattle.block_laws.proofs.Talks.{Talks, off_talks, over_talks, say_talks, says_on, talks}
use Rattle.message_places.proofs.Serving.{readable}
use Rattle.manner_laws.specs.LayoutKeys.{exchange_of_key}
use Rattle.schedule_laws.proofs.Decided.{fronts_decided}
use Rattle.steps.specs.Clients.{new_counts}
use Rattle.steps.specs.declared.counts.ClientCounts.{ClientCounts}
use Rattle.steps.specs.Errands.{Errand, Planned, Aside, IsErrandBlock, IsLawfulErrand, aside_script, client_after, errand_script, errand_use, on_no_error}
use Rattle.steps.specs.Trips.{RoundTrip, trip_calls}
use Rattle.steps_laws.specs.Manners.{AreSaid, ErrandSaid, said_calls}

plain_lawful : IsLawful plain_setting
unfolding same
plain_lawful = lawful_setting plain texts refl envelopes_serve

-- ---- a command that concerns no message

null_taken : is_error NullBulk ≡ false
unfolding layer
null_taken = refl

over_off : Over ≡ Off → ⊥
over_off e = cc

-- by whether its answer is an error
taken_by : (r : Value) (b : Bool) → is_error r ≡ b → on_no_error r ≡ cond b Off Over
taken_by r b e = ap (λ x. cond x Off Over) e

aside_good : (words : Words) → IsGood (aside_script words)
aside_good words = ((NullBulk, subst IsGood (sym (taken_by NullBulk false null_taken)) tt), λ r. by r (is_error r) refl) where
  by : (r : Value) (b : Bool) → is_error r ≡ b → (on_no_error r ≡ Off) ⊎ IsGood (on_no_error r)
  by r true e = inl (taken_by r true e)
  by r false e = inr (subst IsGood (sym (taken_by r false e)) tt)

-- what was said to its end is its block
aside_talk : (words : Words) → IsNeutral plain_setting words → (xs : List Call) → Talks (aside_script words) xs → IsNeutralBlock plain_setting words xs
aside_talk words n = say_talks (λ at. words) on_no_error (IsNeutralBlock plain_setting words) (λ a r ys l t. by a r ys t (is_error r) refl) where
  by : (a : ℕ) (r : Value) (ys : List Call) → Talks (on_no_error r) ys → (b : Bool) → is_error r ≡ b → IsNeutralBlock plain_setting words (call a words r ∷ ys)
  by a r ys t true e = absurd (off_talks ys (subst (λ p. Talks p ys) (taken_by r true e) t))
  by a r ys t false e = over_talks (λ l. IsNeutralBlock plain_setting words (call a words r ∷ l)) (Answered a r n e) ys (subst (λ p. Talks p ys) (taken_by r false e) t)

-- ---- errands

-- an errand's script can always be said to its end, and what was said to its end is the errand's block
record IsTold (c : ClientCounts) (errand : Errand) : Type 0 where
  good : IsGood (errand_script c errand)
  whole : (l : List Call) → AreTimely l → IsSaid (errand_script c errand) l → rest_of (errand_script c errand) l ≡ Over → IsErrandBlock c errand l
  block : (l : List Call) → AreTimely l → IsSaid (errand_script c errand) l → rest_of (errand_script c errand) l ≡ Over → IsBlock plain_setting c.seed c.drawn c.passes (errand_use errand) l

told : (c : ClientCounts) (errand : Errand) → IsLawfulErrand c errand → IsTold c errand
told c (Planned plan) lawful = let row = plan_row plain_setting c.seed c.drawn c.passes plan lawful in record { good = row.good; whole = row.told; block = row.block }
told c (Aside words) lawful = record { good = aside_good words; whole = whole; block = λ l t s e. Neutral words l (whole l t s e) } where
  whole : (l : List Call) → AreTimely l → IsSaid (aside_script words) l → rest_of (aside_script words) l ≡ Over → IsNeutralBlock plain_setting words l
  whole l t s e = aside_talk words lawful l (talks (aside_script words) l t s e)

-- ---- one errand begins its block

off_ends : (l : List Call) → rest_of Off l ≡ Off
off_ends [] = refl
off_ends (x ∷ xs) = off_ends xs

abbrev head_or : List Call → Call → Call
head_or [] y = y
head_or (x ∷ xs) y = x

abbrev tail_of : List Call → List Call
tail_of [] = []
tail_of (x ∷ xs) = xs

left_none : (xs ys : List Call) → xs ++ ys ≡ [] → xs ≡ []
left_none [] ys e = refl
left_none (x ∷ xs) ys e = cc

-- calls after which a script is off begin no block of a command that concerns no message
aside_off : (words : Words) (calls more : List Call) → rest_of (aside_script words) calls ≡ Off → IsNeutralBlock plain_setting words (calls ++ more) → ⊥
aside_off words calls more off b = by (calls ++ more) refl b where
  by : (l : List Call) → calls ++ more ≡ l → IsNeutralBlock plain_setting words l → ⊥
  by l is (Answered a r n e) = one calls is off where
    one : (cs : List Call) → cs ++ more ≡ call a words r ∷ [] → rest_of (aside_script words) cs ≡ Off → ⊥
    one [] i o = says_on (λ at. words) on_no_error o
    one (x ∷ xs) i o =
        let first : x ≡ call a words r = ap (λ l. head_or l x) i in
        let none : xs ++ more ≡ [] = ap tail_of i in
        over_off (sym (taken_by r false e) ∙ sym (ap (λ (y : Call). on_no_error y.answer) first) ∙ sym (ap (λ l. rest_of (on_no_error x.answer) l) (left_none xs more none)) ∙ o)

module _ (c : ClientCounts) (errand : Errand) (lawful : IsLawfulErrand c errand) (calls : List Call) (left : Script) (t : IsTrace (errand_script c errand) calls left) where
  abbrev its : Script
  its = errand_script c errand

  is : IsTold c errand
  is = told c errand lawful

  either : IsGood (rest_of its calls) ⊎ ((rest_of its calls ≡ Off) × IsPutOff its calls)
  either = rest_good its calls is.good t.timely t.said

  front : (left ≡ Off → ⊥) → (more : List Call) × IsErrandBlock c errand (calls ++ more)
  front on = by either where
    by : IsGood (rest_of its calls) ⊎ ((rest_of its calls ≡ Off) × IsPutOff its calls) → (more : List Call) × IsErrandBlock c errand (calls ++ more)
    by (inl g) =
        let e = end_of (rest_of its calls) g in
        (e.0, is.whole (calls ++ e.0) (timely-append calls e.0 t.timely e.1) (said-append its calls e.0 t.said e.2) (rest-append its calls e.0 ∙ e.3))
    by (inr h) = absurd (on (t.left ∙ h.0))

  but_last : left ≡ Off → (before : List Call) × (a : ℕ) × (words : Words) × (answer : Value) × (listed : Value) × (more : List Call) × (calls ≡ before ++ call a words answer ∷ []) × IsErrandBlock c errand (before ++ call a words listed ∷ more)
  but_last off = by either where
    by : IsGood (rest_of its calls) ⊎ ((rest_of its calls ≡ Off) × IsPutOff its calls) → (before : List Call) × (a : ℕ) × (words : Words) × (answer : Value) × (listed : Value) × (more : List Call) × (calls ≡ before ++ call a words answer ∷ []) × IsErrandBlock c errand (before ++ call a words listed ∷ more)
    by (inl g) = absurd (good_on (rest_of its calls) g (sym t.left ∙ off))
    by (inr h) = let o = h.1 in (o.before, o.last.at, o.last.words, o.last.answer, o.listed, o.more, o.is, is.whole (o.before ++ call o.last.at o.last.words o.listed ∷ o.more) o.timely o.said o.over)

  pub errand_front : IsFrontOf (IsErrandBlock c errand) calls left
  errand_front = record { whole = λ over. is.whole calls t.timely t.said (sym t.left ∙ over); front = front; but_last = but_last }

-- where the last answer isn't listed no block goes on
pub errand_off : (c : ClientCounts) (errand : Errand) (calls : List Call) (left : Script) → IsTrace (errand_script c errand) calls left → left ≡ Off → (more : List Call) → IsErrandBlock c errand (calls ++ more) → ⊥
errand_off c (Planned plan) calls left t off more = plan_off plain_setting plain_lawful c.seed c.drawn c.passes plan calls more (sym t.left ∙ off)
errand_off c (Aside words) calls left t off more = aside_off words calls more (sym t.left ∙ off)

-- ---- errand after errand

abbrev pub parts : List ErrandSaid → List (List Call)
parts es = map (λ (e : ErrandSaid). e.calls) es

calls_are : (es : List ErrandSaid) → said_calls es ≡ concat (parts es)
calls_are [] = refl
calls_are (e ∷ es) = ap (λ l. e.calls ++ l) (calls_are es)

-- they are blocks of one client
record AreBlocksOf (c : ClientCounts) (es : List ErrandSaid) (d : ClientCounts) : Type 0 where
  seed : d.seed ≡ c.seed
  blocks : BlocksTo plain_setting c.seed c.drawn c.passes (parts es) d.drawn d.passes

said_blocks : (c : ClientCounts) (es : List ErrandSaid) (d : ClientCounts) → AreSaid c es d → AreBlocksOf c es d
said_blocks c [] d h = record { seed = ap (λ (x : ClientCounts). x.seed) (sym h); blocks = (ap (λ (x : ClientCounts). x.drawn) h, ap (λ (x : ClientCounts). x.passes) h) }
said_blocks c (e ∷ es) d h =
    let rest = said_blocks (client_after c e.errand) es d h.2 in
    record {
      seed = rest.seed;
      blocks = (errand_use e.errand, (told c e.errand h.0).block e.calls h.1.timely h.1.said (sym h.1.left), rest.blocks);
    }

timely_all : (c : ClientCounts) (es : List ErrandSaid) (d : ClientCounts) → AreSaid c es d → AreTimely (said_calls es)
timely_all c [] d h = tt
timely_all c (e ∷ es) d h = timely-append e.calls (said_calls es) h.1.timely (timely_all (client_after c e.errand) es d h.2)

decides : (s : ℕ) (l : List Call) → AreTimely l → IsFrontOfBlocks plain_setting s l ⊎ (IsFrontOfBlocks plain_setting s l → ⊥)
unfolding same
decides = fronts_decided plain_setting (exchange_of_key plain) plain_lawful (readable plain refl)

module _ (s : ℕ) (es : List ErrandSaid) (c : ClientCounts) (errand : Errand) (calls : List Call) (left : Script) (before : AreSaid (new_counts s) es c) (lawful : IsLawfulErrand c errand) (t : IsTrace (errand_script c errand) calls left) where
  abbrev Front : List Call → Type 0
  Front l = IsFrontOfBlocks plain_setting s l

  abbrev its_script : Script
  its_script = errand_script c errand

  abbrev all : List Call
  all = said_calls es ++ calls

  bs : AreBlocksOf (new_counts s) es c
  bs = said_blocks (new_counts s) es c before

  its_told : IsTold c errand
  its_told = told c errand lawful

  -- a part that goes on to the end of the errand is one of its block
  part : (l more : List Call) → AreTimely (l ++ more) → IsSaid its_script (l ++ more) → rest_of its_script (l ++ more) ≡ Over → Front (said_calls es ++ l)
  part l more timely said over = subst (λ x. Front (x ++ l)) (sym (calls_are es))
      (part_front plain_setting s c.drawn c.passes (parts es) (errand_use errand) l more bs.blocks
      (subst (λ x. IsBlock plain_setting x c.drawn c.passes (errand_use errand) (l ++ more)) bs.seed (its_told.block (l ++ more) timely said over)))

  timely : AreTimely all
  timely = timely-append (said_calls es) calls (timely_all (new_counts s) es c before) t.timely

  off_mannered : IsPutOff its_script calls → IsMannered plain_setting s all
  off_mannered o = by (decides s all timely) where
    listed : Call
    listed = call o.last.at o.last.words o.listed

    near : Front (said_calls es ++ (o.before ++ listed ∷ []))
    near = part (o.before ++ listed ∷ []) o.more (subst AreTimely (sym (append_assoc o.before (listed ∷ []) o.more)) o.timely) (subst (IsSaid its_script) (sym (append_assoc o.before (listed ∷ []) o.more)) o.said)
        (ap (rest_of its_script) (append_assoc o.before (listed ∷ []) o.more) ∙ o.over)

    by : Front all ⊎ (Front all → ⊥) → IsMannered plain_setting s all
    by (inl f) = inl f
    by (inr never) = inr (
      said_calls es ++ o.before,
      o.last.at,
      o.last.words,
      o.listed,
      o.last.answer,
      ap (λ l. said_calls es ++ l) o.is ∙ sym (append_assoc (said_calls es) o.before (o.last ∷ [])),
      subst Front (sym (append_assoc (said_calls es) o.before (listed ∷ []))) near,
      never,
    )

  pub all_mannered : IsMannered plain_setting s all
  all_mannered = by (rest_good its_script calls its_told.good t.timely t.said) where
    by : IsGood (rest_of its_script calls) ⊎ ((rest_of its_script calls ≡ Off) × IsPutOff its_script calls) → IsMannered plain_setting s all
    by (inl g) = let e = end_of (rest_of its_script calls) g in
        inl (part calls e.0 (timely-append calls e.0 t.timely e.1) (said-append its_script calls e.0 t.said e.2) (rest-append its_script calls e.0 ∙ e.3))
    by (inr h) = off_mannered h.1

-- whole errands alone
pub whole_mannered : (s : ℕ) (es : List ErrandSaid) (c : ClientCounts) → AreSaid (new_counts s) es c → IsMannered plain_setting s (said_calls es)
whole_mannered s es c before = inl (subst (IsFrontOfBlocks plain_setting s) (sym (calls_are es)) (whole_front plain_setting s c.drawn c.passes (parts es) (said_blocks (new_counts s) es c before).blocks))

-- whole errands and then round trips of another, which is lawful where there are any
pub run_mannered : (s : ℕ) (es : List ErrandSaid) (c : ClientCounts) (errand : Errand) (trips : List RoundTrip) (left : Script) → AreSaid (new_counts s) es c
    → ((trips ≡ [] → ⊥) → IsLawfulErrand c errand) → IsTrace (errand_script c errand) (trip_calls trips) left → IsMannered plain_setting s (said_calls es ++ trip_calls trips)
run_mannered s es c errand [] left before lawful t = subst (IsMannered plain_setting s) (sym (append-nil (said_calls es))) (whole_mannered s es c before)
run_mannered s es c errand (x ∷ trips) left before lawful t = all_mannered s es c errand (trip_calls (x ∷ trips)) left before (lawful (λ e. cc)) t
