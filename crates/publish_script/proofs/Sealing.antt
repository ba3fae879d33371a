-- What the draft of a task with moments is sealed to.
use Rattle.std.proofs.Common.{◌≡◌, ℕ, ℤ, pos, ◌<◌, ◌≤◌, ◌^◌, length, codes, Bool, true, false, ◌&&◌, Option, Some, None, is_some, option_map, option_and_then, if◌then◌else◌, Result, Ok, IsUtf8, refl, sym, ap, subst, ◌∙◌, arith}
use Rattle.std.specs.Prelude.{nat_le, not}
use Rattle.std.specs.Result.{IfOk, result_ok}
use Rattle.std.specs.Str.{is_utf8}
use Rattle.std.proofs.lemmas.Bool.{and_parts}
use Rattle.std.proofs.lemmas.Bool.Decides.{nat_tests}
use Rattle.std.proofs.lemmas.Result.{IfOk-weaker}
use Rattle.std.proofs.lemmas.Str.{is_utf8-from_IsUtf8}
use Rattle.base64.specs.Engines.{standard}
use Rattle.base64.specs.GeneralPurpose.{encode_of}
use Rattle.serde_json.specs.Data.{Data, depth}
use Rattle.serde_json.specs.Find.{as_array, get}
use Rattle.serde_json.specs.Read.{read}
use Rattle.serde_json.specs.View.{view as data_of}
use Rattle.serde_json.specs.Written.{compact_text, has_float}
use Rattle.envelope.specs.Envelopes.{are_short, json_at, max_bytes, max_text}
use Rattle.envelope_trees.specs.Marks.{marked}
use Rattle.envelope_trees.specs.Members.{if_object, is_nothing}
use Rattle.envelope_trees.specs.Reading.{◌>>=◌, needed, wanted}
use Rattle.envelope.specs.SealedTrees.{sealed_info, sealed_properties, sealed_tree}
use Rattle.sealed_drafts.specs.Sealed.{sealed, seal_of}
use Rattle.delivery_tags.specs.Tags.{tag, tag_number, tag_text}
use Rattle.envelope.specs.declared.envelope.Envelope.{Envelope}
use Rattle.envelope_trees.specs.declared.fault.Field.TheVariants as field
use Rattle.envelope_trees.specs.declared.fault.EnvelopeFault.{EnvelopeFault}
use Rattle.envelope_trees.specs.declared.fault.EnvelopeFault.TheVariants.{TooLong, TooDeep, Float, Missing, Compressed, BadBody}
use Rattle.sealed_drafts.specs.declared.sealing.Draft.{Draft}
use Rattle.delivery_tags.proofs.SeedTags.{tag_is}
use Rattle.delivery_tags.proofs.TagTexts.{tag_ascii}
use Rattle.uuid.proofs.TextLemmas.{by_index_length}
use Rattle.queue_keys.specs.Names.{Bytes}
use Rattle.schedule_model.specs.Drafts.{are_told, are_texts, are_within, arguments_of, if_arguments}
use Rattle.task_message.specs.Drafted.{IsDrafted, call_tree, can_draft, headers_of, is_writable}
use Rattle.task_message.specs.Tasks.{TaskParts}
use Rattle.client_plans.specs.Tasks.{envelope_text}
use Rattle.client_plans.proofs.Drafted.{fit, text_of_tag}
use Rattle.publish_script.specs.Drafts.{IsTimedDraft, Times, if_timed, timed_parts, timed_task, timed_tree}

-- a task with arguments and moments can be drafted
pub can_publish : (n : ℕ) (name : Bytes) (args : Data) (times : Times) → IsUtf8 name → 1 ≤ length name → if_arguments args ≡ Some args → is_writable times.eta ≡ true → is_writable times.expires ≡ true
    → can_draft (timed_parts (tag_text n) name args times) ≡ true
can_publish n name args times text some lawful eta expires =
    let a = and_parts (is_some (as_array args) && not (has_float args)) (nat_le (depth args) 90) (fit args lawful) in
    let b = and_parts (is_some (as_array args)) (not (has_float args)) a.0 in
    let named : nat_le 1 (length name) ≡ true = grind (arith, nat_tests) in
    let long : length (tag_text n) ≡ 36 = by_index_length 36 _ in
    let filled : nat_le 1 (length (tag_text n)) ≡ true = ap (nat_le 1) long in
    rw (is_utf8-from_IsUtf8 name text, named, is_utf8-from_IsUtf8 (tag_text n) (tag_ascii n), filled, b.0, b.1, a.1, eta, expires) refl

-- its draft, sent with a priority z that is one of a byte
pub draft_made : {E : Type 0} (r : Result Draft E) (t u : TaskParts) (exchange routing_key : Bytes) (z : ℤ) (priority : ℕ)
    → IfOk r (IsDrafted t exchange routing_key z) → t ≡ u → z ≡ pos priority → priority ≤ 255 → IfOk r (IsTimedDraft u exchange routing_key priority)
draft_made r t u exchange routing_key z priority made same number byte =
    IfOk-weaker r (IsDrafted t exchange routing_key z) (IsTimedDraft u exchange routing_key priority)
    (λ draft h. record {
      drafted = subst (λ v. IsDrafted v exchange routing_key (pos priority) draft) same (subst (λ y. IsDrafted t exchange routing_key y draft) number h);
      is_byte = byte;
    })
    made

-- the steps of the seal, by the headers, the content, the names and the tree
abbrev steps : Data → Bytes → Bytes → Bytes → Data → Result Data EnvelopeFault
steps headers content exchange routing_key d =
    wanted TooDeep (nat_le (depth headers) 99) >>= λ a.
    wanted Float (not (has_float headers)) >>= λ b.
    needed (Missing field.Headers) (if_object headers) >>= λ h.
    wanted Compressed (is_nothing (get (codes "compression") h)) >>= λ c.
    wanted BadBody (is_utf8 content) >>= λ e.
    wanted TooLong (are_short exchange routing_key) >>= λ f.
    wanted TooLong (nat_le (length (compact_text d)) max_bytes) >>= λ g.
    wanted TooLong (nat_le (length (compact_text (marked d))) max_text) >>= λ i.
    Ok d

within : (a b c : Bool) (d : Data) → result_ok (wanted TooLong a >>= λ x. wanted TooLong b >>= λ y. wanted TooLong c >>= λ z. Ok d) ≡ (if a && b && c then Some d else None)
within false b c d = refl
within true false c d = refl
within true true false d = refl
within true true true d = refl

abbrev is_within : Bytes → Bytes → Data → Option Data
is_within exchange routing_key d = if are_within exchange routing_key d then Some d else None

-- a task's headers are as they have to be, whatever its moments are
steps_of_task : (t task : Bytes) (args : Data) (eta expires : Option ℤ) (content exchange routing_key : Bytes) (d : Data) → is_utf8 content ≡ true
    → result_ok (steps (headers_of (timed_parts t task args (record { eta = eta; expires = expires }))) content exchange routing_key d) ≡ is_within exchange routing_key d
steps_of_task t task args None None content exchange routing_key d e =
    rw e (within (are_short exchange routing_key) (nat_le (length (compact_text d)) max_bytes) (nat_le (length (compact_text (marked d))) max_text) d)
steps_of_task t task args None (Some b) content exchange routing_key d e =
    rw e (within (are_short exchange routing_key) (nat_le (length (compact_text d)) max_bytes) (nat_le (length (compact_text (marked d))) max_text) d)
steps_of_task t task args (Some a) None content exchange routing_key d e =
    rw e (within (are_short exchange routing_key) (nat_le (length (compact_text d)) max_bytes) (nat_le (length (compact_text (marked d))) max_text) d)
steps_of_task t task args (Some a) (Some b) content exchange routing_key d e =
    rw e (within (are_short exchange routing_key) (nat_le (length (compact_text d)) max_bytes) (nat_le (length (compact_text (marked d))) max_text) d)

same_trees : (c c' : Bytes) (h h' : Data) (x x' k k' i i' : Bytes) (p p' : ℤ) (t : Bytes) → c ≡ c' → h ≡ h' → x ≡ x' → k ≡ k' → i ≡ i' → p ≡ p'
    → sealed_tree (encode_of standard c) h (sealed_properties (sealed_info x k) i p t) ≡ sealed_tree (encode_of standard c') h' (sealed_properties (sealed_info x' k') i' p' t)
same_trees c c' h h' x x' k k' i i' p p' t a b e f g q =
    ap (λ z. sealed_tree (encode_of standard z) h (sealed_properties (sealed_info x k) i p t)) a
    ∙ ap (λ z. sealed_tree (encode_of standard c') z (sealed_properties (sealed_info x k) i p t)) b
    ∙ ap (λ z. sealed_tree (encode_of standard c') h' (sealed_properties (sealed_info z k) i p t)) e
    ∙ ap (λ z. sealed_tree (encode_of standard c') h' (sealed_properties (sealed_info x' z) i p t)) f
    ∙ ap (λ z. sealed_tree (encode_of standard c') h' (sealed_properties (sealed_info x' k') z p t)) g
    ∙ ap (λ z. sealed_tree (encode_of standard c') h' (sealed_properties (sealed_info x' k') i' z t)) q

-- what reads as a tree is a text
reads_text : (b : Bytes) (d : Data) → json_at b ≡ Some d → is_utf8 b ≡ true
reads_text b d e = go (is_utf8 b) refl e
  where
    go : (t : Bool) → is_utf8 b ≡ t → (if t then read b else None) ≡ Some d → is_utf8 b ≡ true
    go true i f = i
    go false i f = cc

module _ (n : ℕ) (exchange routing_key : Bytes) (priority : ℕ) (task : Bytes) (args : Data) (times : Times) (draft : Draft) (is : IsTimedDraft (timed_parts (tag_text n) task args times) exchange routing_key priority draft) where
  abbrev parts : TaskParts
  parts = timed_parts (tag_text n) task args times

  abbrev tree : Data
  tree = timed_tree (tag_text n) exchange routing_key priority parts

  sealed_as : sealed draft n ≡ tree
  sealed_as =
      same_trees draft.content (compact_text (call_tree parts)) (data_of draft.headers) (headers_of parts) draft.exchange exchange draft.routing_key routing_key draft.id (tag_text n) draft.priority (pos priority) (tag_text n)
      is.drafted.content is.drafted.headers is.drafted.exchange_is is.drafted.routing_key_is is.drafted.id is.drafted.priority_is

  seal_is : result_ok (seal_of draft n) ≡ is_within exchange routing_key tree
  unfolding seal_of
  seal_is =
      ap (λ h. result_ok (steps h draft.content draft.exchange draft.routing_key (sealed draft n))) is.drafted.headers
      ∙ ap (λ x. result_ok (steps (headers_of parts) draft.content x draft.routing_key (sealed draft n))) is.drafted.exchange_is
      ∙ ap (λ k. result_ok (steps (headers_of parts) draft.content exchange k (sealed draft n))) is.drafted.routing_key_is
      ∙ ap (λ d. result_ok (steps (headers_of parts) draft.content exchange routing_key d)) sealed_as
      ∙ steps_of_task (tag_text n) task args times.eta times.expires draft.content exchange routing_key tree (reads_text draft.content (call_tree parts) is.drafted.reads)

tree_text : (b : Bool) (d : Data) → option_map compact_text (if b then Some d else None) ≡ (if b then Some (compact_text d) else None)
tree_text true d = refl
tree_text false d = refl

envelope_texts : (made : Option Envelope) → option_map envelope_text made ≡ option_map compact_text (option_map data_of made)
envelope_texts None = refl
envelope_texts (Some e) = refl

-- what was sealed of names that are UTF-8, from a draft under the number m of a tag
module _ (s n m : ℕ) (exchange routing_key : Bytes) (priority : ℕ) (task j : Bytes) (args : Data) (times : Times) (draft : Draft) where
  abbrev text_under : Bytes → Option Bytes
  text_under t = let d = timed_tree t exchange routing_key priority (timed_parts t task args times) in if are_within exchange routing_key d then Some (compact_text d) else None

  told_text : are_told (tag s n) exchange routing_key priority task ≡ true → arguments_of j ≡ Some args → timed_task times s n exchange routing_key priority task j ≡ text_under (tag s n)
  unfolding timed_task
  told_text told spells =
      ap (option_and_then (if_timed times (tag s n) exchange routing_key priority task)) spells
      ∙ ap (λ q. if q && are_within exchange routing_key (timed_tree (tag s n) exchange routing_key priority (timed_parts (tag s n) task args times)) then Some (compact_text (timed_tree (tag s n) exchange routing_key priority (timed_parts (tag s n) task args times))) else None) told

  pub sealed_is : (made : Option Envelope) → m ≡ tag_number s n → s < 2 ^ 64 → n < 2 ^ 64 → priority ≤ 255 → are_texts exchange routing_key task ≡ true → arguments_of j ≡ Some args
      → IsTimedDraft (timed_parts (tag_text m) task args times) exchange routing_key priority draft → option_map data_of made ≡ result_ok (seal_of draft m)
      → option_map envelope_text made ≡ timed_task times s n exchange routing_key priority task j
  sealed_is made same a b c texts spells is sealed_so =
      let byte : nat_le priority 255 ≡ true = grind (arith, nat_tests) in
      let known = tag_is s n a b in
      let told : are_told (tag s n) exchange routing_key priority task ≡ true = rw (texts, known, byte) refl in
      let d = timed_tree (tag_text m) exchange routing_key priority (timed_parts (tag_text m) task args times) in
      envelope_texts made
      ∙ ap (option_map compact_text) (sealed_so ∙ seal_is m exchange routing_key priority task args times draft is)
      ∙ tree_text (are_within exchange routing_key d) d
      ∙ ap text_under (ap tag_text same ∙ text_of_tag s n a b)
      ∙ sym (told_text told spells)

-- nothing is sealed of other names
pub unsealed : (times : Times) (s n : ℕ) (exchange routing_key : Bytes) (priority : ℕ) (task j : Bytes) (args : Data) → are_texts exchange routing_key task ≡ false → arguments_of j ≡ Some args
    → None ≡ timed_task times s n exchange routing_key priority task j
unfolding timed_task
unsealed times s n exchange routing_key priority task j args texts spells = sym (ap (option_and_then (if_timed times (tag s n) exchange routing_key priority task)) spells ∙ rw texts refl)
