-- A client begins a block.
use Rattle.std.proofs.Common.{◌≡◌, ℕ, suc, ◌+◌, ◌<◌, ◌≤◌, ◌^◌, List, [], ◌∷◌, Bool, true, false, nat_lt, Option, None, Some, IsSome, is_none, Result, Ok, Err, refl, sym, subst, ap, ◌∙◌, arith}
use Rattle.std.specs.Prelude.{⊤, IfOk, OnOk, cond, option_and_then}
use Rattle.std.specs.Result.{result_ok}
use Rattle.std.specs.declared.alloc.AllocError.{AllocError}
use Rattle.std.proofs.lemmas.Bool.Decides.{nat_tests}
use Rattle.std.proofs.lemmas.Slice.Eq.{bytes_eq-Decides}
use Rattle.serde_json.specs.Data.{Data}
use Rattle.serde_json.specs.Written.{compact_text}
use Rattle.delivery_tags.specs.Tags.{tag, tag_number, tag_text}
use Rattle.envelope.specs.Envelopes.{Parts, envelope_at, parts_in, parts_or_none}
use Rattle.envelope_laws.proofs.SealsSay.{seals_say}
use Rattle.queue_keys.proofs.NameFaults.{lawful_none}
use Rattle.queue_keys.specs.Names.{Bytes, is_name, same}
use Rattle.sealed_drafts.specs.Sealed.{seal_of}
use Rattle.sealed_drafts.specs.declared.sealing.Draft.{Draft}
use Rattle.block_laws.specs.Rows.{IsLawfulPlan}
use Rattle.command_blocks.specs.Blocks.{Other, drawn, passes_after}
use Rattle.command_blocks.specs.EnvelopeTexts.{plain_setting, tag_as_written}
use Rattle.command_blocks.specs.Scripts.{Off, Over, Plan, Declare, Undeclare, Publish, Pop, End, Return, Pass, asking_script, counter_use, next_words, pop_script, popping, pushes, script_of}
use Rattle.command_blocks.specs.TakeBlocks.{IsPop}
use Rattle.client_blocks.specs.declared.left.BlockLeft.{BlockLeft}
use Rattle.routes.specs.Declares.{declared_plan}
use Rattle.routes.specs.Publishes.{IsPublishable}
use Rattle.routes.specs.declared.declaration.Change.{Change}
use Rattle.routes.specs.declared.declaration.Change.TheVariants.{Add, Remove}
use Rattle.steps.specs.Begins.{drafted_errand, if_named, neutral_errand, publish_errand, sealed_errand, way_name_fault}
use Rattle.steps.specs.Clients.{next_tag_of}
use Rattle.steps.specs.declared.counts.ClientCounts.{ClientCounts}
use Rattle.steps.specs.Errands.{Errand, Planned, Aside, IsLawfulErrand, client_after, errand_script}
use Rattle.steps.specs.Neutrals.{is_neutral}
use Rattle.steps.specs.Goings.{IsBegun}
use Rattle.steps.specs.declared.begun.BeginFault.{BeginFault}
use Rattle.steps.specs.declared.begun.BeginFault.TheVariants as fault
use Rattle.client_core.specs.Asides.{HasAside}
use Rattle.client_core.specs.declared.aside.AsideCore.{AsideCore}
use Rattle.store_model.specs.Words.{Words}
use Rattle.client_core.proofs.Neutral.{neutral_found}
use Rattle.client_core.specs.Begun.{Began, IsMade, TookUp}
use Rattle.client_core.specs.Laws.{left_trace}
use Rattle.client_core.specs.Works.{ClientHad, WorkHad, client_left, core_client, live_left}
use Rattle.client_core.specs.declared.client.ClientCore.{ClientCore}
use Rattle.client_core.specs.declared.work.Work.TheVariants as work

-- ---- ways and tags

-- an envelope whose way has no fault may be published
pub publishable : (x k : Bytes) (d : Data) → way_name_fault x k ≡ None → (parts_in d).exchange ≡ x → (parts_in d).routing_key ≡ k → IsPublishable d
publishable x k d way e f direct = ap is_name f ∙ by x way (sym e ∙ direct) where
  by : (y : Bytes) → way_name_fault y k ≡ None → y ≡ [] → is_name k ≡ true
  by [] w z = lawful_none k ∙ ap is_none w
  by (b ∷ bs) w z = cc

same-refl : (v : Bytes) → same v v ≡ true
unfolding same
same-refl v = (bytes_eq-Decides v v).1 refl

-- the text of a tag of 64 bits each
text_of_tag : (s n : ℕ) → s < 2 ^ 64 → n < 2 ^ 64 → tag_text (tag_number s n) ≡ tag s n
text_of_tag s n a b =
    let c : nat_lt s (2 ^ 64) ≡ true = grind (arith, nat_tests) in
    let d : nat_lt n (2 ^ 64) ≡ true = grind (arith, nat_tests) in
    rw (c, d) refl

-- an envelope's text is that of its tag
pub written_is : (d : Data) (s n : ℕ) → s < 2 ^ 64 → n < 2 ^ 64 → envelope_at (compact_text d) ≡ Ok d → (parts_in d).tag ≡ tag_number s n → plain_setting.written_tag (compact_text d) ≡ Some (plain_setting.tag s n)
written_is d s n a b e t =
    ap (λ r. option_and_then (tag_as_written (compact_text d)) (result_ok r)) e
    ∙ ap (λ b. cond b (Some (tag_text (parts_in d).tag)) None) (same-refl (compact_text d))
    ∙ ap (λ m. Some (tag_text m)) t
    ∙ ap (λ m. Some m) (text_of_tag s n a b)

-- the next tag, where there is one
pub next_is : (c : ClientCounts) → c.drawn + 1 < 2 ^ 64 → next_tag_of c ≡ Some (tag_number c.seed (c.drawn + 1))
next_is c a = let e : nat_lt (c.drawn + 1) (2 ^ 64) ≡ true = grind (arith, nat_tests) in rw e refl

pub next_none : (c : ClientCounts) → 2 ^ 64 ≤ c.drawn + 1 → next_tag_of c ≡ None
next_none c a = let e : nat_lt (c.drawn + 1) (2 ^ 64) ≡ false = grind (arith, nat_tests) in rw e refl

-- what was sealed
pub sealed_is : (draft : Draft) (n : ℕ) (d : Data) → n < 2 ^ 128 → seal_of draft n ≡ Ok d → way_name_fault draft.exchange draft.routing_key ≡ None
    → (drafted_errand draft (Some n) ≡ Ok (publish_errand d)) × (◌≡◌ {A = Option ℕ} (Some n) (Some (parts_in d).tag)) × IsPublishable d
sealed_is draft n d small e way =
    let p = seals_say draft n d small e in
    let q = ap parts_or_none p.1 in (
      ap (λ w. if_named w (sealed_errand (seal_of draft n))) way ∙ ap sealed_errand e,
      ap (λ (z : Parts). Some z.tag) (sym q),
      publishable draft.exchange draft.routing_key d way (ap (λ (z : Parts). z.exchange) q) (ap (λ (z : Parts). z.routing_key) q),
    )

-- ---- taking up

off_over : Off ≡ Over → ⊥
off_over e = cc

pub not_spent : (s : ClientCore) → client_left s ≡ Over → s.spent ≡ false
not_spent s e = by s.spent refl where
  by : (b : Bool) → s.spent ≡ b → s.spent ≡ false
  by false f = f
  by true f = absurd (off_over (sym (ap (λ b. live_left b s.work) f) ∙ e))

-- a client that took up the block of a plan began it
pub began_plan : (old new : ClientCore) (plan : Plan) (left : BlockLeft) → old.spent ≡ false → IsMade (core_client old) plan left → new.spent ≡ old.spent → new.work ≡ work.Block left → core_client new ≡ client_after (core_client old) (Planned plan)
    → IsBegun core_client client_left ClientHad (core_client old) (Planned plan) new
began_plan old new plan left live made spent is client = record {
  client_is = client;
  left_is = ap (λ b. live_left b new.work) (spent ∙ live) ∙ ap (λ w. live_left false w) is ∙ (left_trace old.seed old.passes plan [] left made.had.1).left;
  had_none = record { live = spent ∙ live; lawful = made.lawful; had = subst (WorkHad (core_client old) (Planned plan) []) (sym is) made.had };
}

-- what a plan that takes no counter leaves of the client
same_counters : (c : ClientCounts) (plan : Plan) → counter_use plan ≡ Other → c ≡ client_after c (Planned plan)
same_counters c plan e = sym (ap (λ u. record { seed = c.seed; drawn = drawn u c.drawn; passes = passes_after u c.passes }) e)

pub took_up : (old new : ClientCore) (plan : Plan) (made : Result BlockLeft AllocError) (result : Result ⊤ BeginFault) → client_left old ≡ Over → counter_use plan ≡ Other → IfOk made (IsMade (core_client old) plan) → TookUp old new made result → Began old new (Ok (Planned plan)) result
took_up old new plan (Ok left) result idle e made h =
    subst (λ r. Began old new (Ok (Planned plan)) r) (sym h.1)
    (Planned plan, refl, began_plan old new plan left (not_spent old idle) made (ap (λ s. s.spent) h.0) (ap (λ s. s.work) h.0) (ap core_client h.0 ∙ same_counters (core_client old) plan e))
took_up old new plan (Err e2) result idle e made h =
    subst (λ r. Began old new (Ok (Planned plan)) r) (sym h.1) (ap (λ s. s.spent) h.0)

-- a declaration takes no counter
pub declares_none : (change : Change) (e r x q : Bytes) → counter_use (declared_plan change e r x q) ≡ Other
declares_none Add e r x q = refl
declares_none Remove e r x q = refl

-- without memory nothing was begun
pub lacked_memory : (old new : ClientCore) (errand : Result Errand BeginFault) (e : AllocError) (result : Result ⊤ BeginFault) → TookUp old new (Err e) result → Began old new errand result
lacked_memory old new errand e result h = subst (λ r. Began old new errand r) (sym h.1) (ap (λ s. s.spent) h.0)

-- ---- passes and publications

some_same : (m n : ℕ) → ◌≡◌ {A = Option ℕ} (Some m) (Some n) → m ≡ n
some_same m n e = cc

ok_err : {A B C : Type 0} {x : A} {y : B} → ◌≡◌ {A = Result A B} (Ok x) (Err y) → C
ok_err e = absurd (cc e)

pub pass_began : (old mid new : ClientCore) (v number : ℕ) (made : Result BlockLeft AllocError) → client_left old ≡ Over → TookUp old mid made (Ok tt) → number ≡ suc old.passes
    → IfOk made (λ left. (c : ClientCounts) → c.seed ≡ old.seed → suc c.passes ≡ number → IsMade c (Pass v) left) → new ≡ record mid { passes = number } → Began old new (Ok (Planned (Pass v))) (Ok tt)
pass_began old mid new v number (Ok left) idle h e made n = (
  Planned (Pass v),
  refl,
  began_plan old new (Pass v) left (not_spent old idle) (made (core_client old) refl (sym e)) (ap (λ (s : ClientCore). s.spent) n ∙ ap (λ (s : ClientCore). s.spent) h.0) (ap (λ (s : ClientCore). s.work) n ∙ ap (λ (s : ClientCore). s.work) h.0)
      (ap core_client n ∙ (λ i. record { seed = (h.0 i).seed; drawn = (h.0 i).drawn; passes = e i })),
)
pass_began old mid new v number (Err f) idle h e made n = ok_err h.1

pub send_began : (old mid new : ClientCore) (d : Data) (number : ℕ) (made : Result BlockLeft AllocError) → client_left old ≡ Over → TookUp old mid made (Ok tt) → number ≡ suc old.drawn → old.seed < 2 ^ 64 → number < 2 ^ 64
    → envelope_at (compact_text d) ≡ Ok d → next_tag_of (core_client old) ≡ Some (parts_in d).tag
    → IfOk made (λ left. (c : ClientCounts) → plain_setting.written_tag (compact_text d) ≡ Some (plain_setting.tag c.seed (suc c.drawn)) → IsMade c (Publish (compact_text d)) left) → new ≡ record mid { drawn = number } → Began old new (Ok (publish_errand d)) (Ok tt)
send_began old mid new d number (Ok left) idle h e small low again tag made n =
    let room : old.drawn + 1 < 2 ^ 64 = omega (arith, e, low) in
    let is : (parts_in d).tag ≡ tag_number old.seed (suc old.drawn) = some_same (parts_in d).tag (tag_number old.seed (suc old.drawn)) (sym tag ∙ next_is (core_client old) room ∙ ap (λ m. Some (tag_number old.seed m)) (omega arith)) in
    let top : suc old.drawn < 2 ^ 64 = omega (arith, e, low) in (
      publish_errand d,
      refl,
      began_plan old new (Publish (compact_text d)) left (not_spent old idle) (made (core_client old) (written_is d old.seed (suc old.drawn) small top again is)) (ap (λ (s : ClientCore). s.spent) n ∙ ap (λ (s : ClientCore). s.spent) h.0) (ap (λ (s : ClientCore). s.work) n ∙ ap (λ (s : ClientCore). s.work) h.0)
          (ap core_client n ∙ (λ i. record { seed = (h.0 i).seed; drawn = e i; passes = (h.0 i).passes })),
    )
send_began old mid new d number (Err f) idle h e small low again tag made n = ok_err h.1

-- a command that concerns no message
pub aside_began : (old new : ClientCore) (words : Words) (core : AsideCore) → client_left old ≡ Over → is_neutral words ≡ true → HasAside words [] core → new ≡ record old { work = work.Beside core } → Began old new (neutral_errand words) (Ok tt)
aside_began old new words core idle e had n = (
  Aside words,
  ap (λ b. cond b (Ok (Aside words)) (Err fault.BadNeutral)) e,
  record {
    client_is = ap core_client n;
    left_is = ap client_left n ∙ ap (λ b. live_left b (work.Beside core)) (not_spent old idle) ∙ had.trace.left;
    had_none = subst (λ s. ClientHad s (core_client old) (Aside words) []) (sym n) (record { live = not_spent old idle; lawful = neutral_found words e; had = had });
  },
)

-- ---- what was begun has a first command

pop_says : (names : List Bytes) (k : Bytes) (ks : List Bytes) (at : ℕ) → IsPop plain_setting names (k ∷ ks) → IsSome (next_words (pop_script plain_setting names) at)
pop_says names k ks at l = subst (λ qs. IsSome (next_words (popping plain_setting qs) at)) (sym l.1) refl

plan_says : (s n p : ℕ) (plan : Plan) (at : ℕ) → IsLawfulPlan plain_setting s n plan → IsSome (next_words (script_of plain_setting s p plan) at)
plan_says s n p (Declare e r x q) at l = refl
plan_says s n p (Undeclare e r x q) at l = refl
plan_says s n p (Publish v) at l = by (plain_setting.exchange_of v) refl where
  by : (x : Option Bytes) → plain_setting.exchange_of v ≡ x → IsSome (next_words (asking_script plain_setting x (λ ms. pushes v (plain_setting.keys_for v ms))) at)
  by None e = let k = l.key e in subst (λ ks. IsSome (next_words (pushes v ks) at)) (sym k.1) refl
  by (Some x) e = refl
plan_says s n p (Pop names) at l = pop_says names l.0 l.1 at l.2
plan_says s n p (End t) at l = refl
plan_says s n p (Return side t) at l = refl
plan_says s n p (Pass v) at l = refl

errand_says : (c : ClientCounts) (errand : Errand) (at : ℕ) → IsLawfulErrand c errand → IsSome (next_words (errand_script c errand) at)
errand_says c (Planned plan) at l = plan_says c.seed c.drawn c.passes plan at l
errand_says c (Aside words) at l = refl

-- so it is with a client that began an errand
pub began_says : (old new : ClientCore) (errand : Result Errand BeginFault) (result : Result ⊤ BeginFault) → Began old new errand result → OnOk result ((at : ℕ) → IsSome (next_words (client_left new) at))
began_says old new errand (Ok u) b = λ at. subst (λ s. IsSome (next_words s at)) (sym b.2.left_is) (errand_says (core_client old) b.0 at b.2.had_none.lawful)
began_says old new errand (Err f) b = tt

-- what was made for each client was made for this one
pub made_for : (made : Result BlockLeft AllocError) (plan : Plan) (c : ClientCounts) → IfOk made (λ left. (d : ClientCounts) → IsMade d plan left) → IfOk made (IsMade c plan)
made_for (Ok left) plan c h = h c
made_for (Err e) plan c h = tt
