-- A task that was drafted and sealed is read as the same task.
use Rattle.std.proofs.Common.{◌≡◌, ◌<◌, ◌≤◌, ◌^◌, ◌∷◌, [], ◌==◌, ℕ, ℤ, List, length, Bool, true, false, cond, nat_lt, codes, Option, Some, None, Ok, refl, sym, ap, ◌∙◌, arith, true≢false}
use Rattle.std.specs.Prelude.{is_some, nat_le}
use Rattle.std.proofs.lemmas.Bool.Decides.{nat_tests}
use Rattle.serde_json.specs.Data.{Data, null, boolean, number, unsigned, string, array, object, no_members, depth}
use Rattle.serde_json.specs.Find.{as_array, as_object, get}
use Rattle.serde_json.specs.Written.{has_float}
use Rattle.envelope.specs.Envelopes.{json_at, max_levels, parts_in, parts_or_none}
use Rattle.envelope_trees.specs.Members.{if_object}
use Rattle.sealed_drafts.specs.Sealed.{seal_of}
use Rattle.sealed_drafts.specs.declared.sealing.Draft.{Draft}
use Rattle.envelope_laws.proofs.SealsSay.{seals_say}
use Rattle.moments.proofs.MomentsBack.{moments_back}
use Rattle.task_message.specs.Drafted.{IsDrafted, call_tree, can_draft, drafted_content, drafted_headers, headers_of, is_writable, moment_data, told_tree}
use Rattle.task_message.specs.Reading.{◌>>=◌}
use Rattle.task_message.specs.Tasks.{TaskParts, TaskSettings, content_in, first_task, fit_call, headers_in, if_32_bits, if_array, if_word, moment_at, second_task, settings_in, task_in, task_of, told_name}
use Rattle.task_message.proofs.Draftable.{IsDraftable, content_shallow, content_whole, draftable}

pub word_is : (s : List ℕ) → 1 ≤ length s → if_word s ≡ Some s
word_is [] h = absurd (omega arith)
word_is (b ∷ s) h = refl

array_is : (d : Data) → is_some (as_array d) ≡ true → if_array d ≡ Some d
array_is null e = absurd (true≢false (sym e))
array_is (boolean b) e = absurd (true≢false (sym e))
array_is (number n) e = absurd (true≢false (sym e))
array_is (string s) e = absurd (true≢false (sym e))
array_is (array ds) e = refl
array_is (object ms) e = absurd (true≢false (sym e))

object_is : (d : Data) → is_some (as_object d) ≡ true → if_object d ≡ Some d
object_is null e = absurd (true≢false (sym e))
object_is (boolean b) e = absurd (true≢false (sym e))
object_is (number n) e = absurd (true≢false (sym e))
object_is (string s) e = absurd (true≢false (sym e))
object_is (array ds) e = absurd (true≢false (sym e))
object_is (object ms) e = refl

pub bits_are : (n : ℕ) → n < 2 ^ 32 → if_32_bits n ≡ Some n
bits_are n h = let t : nat_lt n (2 ^ 32) ≡ true = grind (arith, nat_tests) in rw t refl

-- a moment that may be there is read as it was written
moment_told : (k : List ℕ) (d : Data) (o : Option ℤ) → is_writable o ≡ true → get k d ≡ Some (moment_data o) → moment_at k d ≡ Ok o
moment_told k d None w e = rw e refl
moment_told k d (Some m) w e = rw (e, moments_back m w) refl

settings_told : (d : Data) (s : TaskSettings) → s.retries < 2 ^ 32 → is_writable s.eta ≡ true → is_writable s.expires ≡ true → get (codes "retries") d ≡ Some (number (unsigned s.retries))
    → get (codes "eta") d ≡ Some (moment_data s.eta) → get (codes "expires") d ≡ Some (moment_data s.expires) → settings_in d ≡ Ok s
unfolding settings_in
settings_told d s small eta expires r a b = rw (moment_told (codes "eta") d s.eta eta a, moment_told (codes "expires") d s.expires expires b, r, bits_are s.retries small) refl

second_told : (t : TaskParts) → IsDraftable t → t.settings.retries < 2 ^ 32 → second_task (headers_of t) (call_tree t) ≡ Ok (record t { version = 2 })
unfolding second_task fit_call
second_told t i small =
    rw (word_is t.name i.name_some, word_is t.id i.id_some, array_is t.args i.args_array, object_is t.kwargs i.kwargs_object, settings_told (headers_of t) t.settings small i.eta i.expires refl refl refl) refl

first_told : (t : TaskParts) → IsDraftable t → t.settings.retries < 2 ^ 32 → first_task (told_tree t) ≡ Ok (record t { version = 1 })
unfolding first_task told_name
first_told t i small =
    rw (word_is t.name i.name_some, word_is t.id i.id_some, array_is t.args i.args_array, object_is t.kwargs i.kwargs_object, settings_told (told_tree t) t.settings small i.eta i.expires refl refl refl) refl

-- the task of drafted headers and a drafted content
both_told : (t : TaskParts) → IsDraftable t → t.settings.retries < 2 ^ 32 → task_in (drafted_headers t) (drafted_content t) ≡ Ok t
both_told t i small = go (t.version == 1) refl
  where
    one : (t.version == 1) ≡ true → t.version ≡ 1
    one e = grind (arith, nat_tests)

    two : (t.version == 1) ≡ false → t.version ≡ 2
    two e = let v = i.version in grind (arith, nat_tests)

    same : (n : ℕ) → t.version ≡ n → record t { version = n } ≡ t
    same n e = λ l. record t { version = sym e l }

    go : (b : Bool) → (t.version == 1) ≡ b → task_in (cond b (object no_members) (headers_of t)) (cond b (told_tree t) (call_tree t)) ≡ Ok t
    go true e = first_told t i small ∙ ap (λ x. Ok x) (same 1 (one e))
    go false e = second_told t i small ∙ ap (λ x. Ok x) (same 2 (two e))

content_told : (b : List ℕ) (c : Data) → json_at b ≡ Some c → depth c ≤ 92 → has_float c ≡ false → content_in b ≡ Ok c
unfolding content_in
content_told b c e shallow whole = let t : nat_le (depth c) max_levels ≡ true = grind (arith, nat_tests) in rw (e, t, whole) refl

-- an envelope of a drafted content and drafted headers carries the task
pub told_back : (t : TaskParts) (d : Data) (b : List ℕ) → can_draft t ≡ true → t.settings.retries < 2 ^ 32
    → (parts_in d).content ≡ b → json_at b ≡ Some (drafted_content t) → headers_in d ≡ drafted_headers t → task_of d ≡ Ok t
unfolding task_of
told_back t d b can small content reads headers =
    let i = draftable t can in
    let tree = ap content_in content ∙ content_told b (drafted_content t) reads (content_shallow t i) (content_whole t i) in
    ap (λ r. r >>= task_in (headers_in d)) tree ∙ ap (λ h. task_in h (drafted_content t)) headers ∙ both_told t i small

pub drafts_back : (t : TaskParts) (exchange routing_key : List ℕ) (priority : ℤ) (draft : Draft) (n : ℕ) (d : Data)
    → can_draft t ≡ true → t.settings.retries < 2 ^ 32 → n < 2 ^ 128 → IsDrafted t exchange routing_key priority draft → seal_of draft n ≡ Ok d → task_of d ≡ Ok t
drafts_back t x k p draft n d can small fits made sealed_to =
    let say = seals_say draft n d fits sealed_to in
    let content : (parts_in d).content ≡ draft.content = ap (λ r. (parts_or_none r).content) say.1 in
    let headers : headers_in d ≡ drafted_headers t = ap headers_in say.0 ∙ made.headers in
    told_back t d draft.content can small content made.reads headers
