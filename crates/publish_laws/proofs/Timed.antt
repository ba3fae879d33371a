-- What is sealed of a publish line behind moments carries its task, with these moments.
use Rattle.std.proofs.Common.{◌≡◌, ℕ, ◌<◌, ◌≤◌, ◌^◌, [], length, Bool, true, false, ◌&&◌, if◌then◌else◌, Option, Some, None, option_and_then, IsUtf8, refl, sym, ap, subst, ◌∙◌, arith}
use Rattle.std.specs.Prelude.{is_some, nat_le, nat_lt, not}
use Rattle.std.specs.Str.{is_utf8}
use Rattle.std.proofs.lemmas.Bool.{and_parts}
use Rattle.std.proofs.lemmas.Bool.Decides.{nat_tests}
use Rattle.std.proofs.lemmas.Str.{IsUtf8-from_is_utf8, is_utf8-from_IsUtf8}
use Rattle.uuid.proofs.TextLemmas.{by_index_length}
use Rattle.serde_json.specs.Data.{Data, depth}
use Rattle.serde_json.specs.Find.{as_array}
use Rattle.serde_json.specs.Read.{max_depth, read}
use Rattle.serde_json.specs.Written.{compact_text, has_float}
use Rattle.envelope.specs.Envelopes.{are_short, json_at, max_bytes, max_text, parts_in, parts_or_none}
use Rattle.envelope_trees.specs.Marks.{marked}
use Rattle.envelope_trees.proofs.SortedTrees.{read_sorted}
use Rattle.envelope_trees.proofs.TextsBack.{read-compact_text}
use Rattle.delivery_tags.specs.Tags.{is_tag, tag, tag_number, tag_of_text, tag_text}
use Rattle.delivery_tags.proofs.TagTexts.{tag_ascii, tag_of_text-tag_text}
use Rattle.json_texts.proofs.Trees.{reads_texts}
use Rattle.queue_keys.specs.Names.{Bytes}
use Rattle.schedule_model.specs.Drafts.{are_texts, are_told, are_within, arguments_of, if_arguments}
use Rattle.schedule_model.proofs.ArgumentTrees.{IsArguments, arguments_known}
use Rattle.message_schedules.proofs.TaskTrees.{IsDrafted, content_text, sorted_content}
use Rattle.task_message.specs.Drafted.{call_tree, can_draft, is_writable}
use Rattle.task_message.specs.Tasks.{TaskParts}
use Rattle.task_message.proofs.Draftable.{content_shallow, content_whole, draftable}
use Rattle.task_laws.proofs.DraftsBack.{told_back}
use Rattle.client_plans.proofs.Drafted.{fit, may_be}
use Rattle.publish_script.specs.Drafts.{Times, if_timed, timed_parts, timed_task, timed_tree}
use Rattle.publish_laws.specs.Laws.{CarriesTask}
use Rattle.publish_laws.proofs.TimedTrees.{is_envelope}

-- a tag of 64 bits each
record IsTagOf (s n : ℕ) : Type 0 where
  text : tag s n ≡ tag_text (tag_number s n)
  tells : tag_of_text (tag s n) ≡ Some (tag_number s n)

tag_known : (s n : ℕ) → is_tag (tag s n) ≡ true → IsTagOf s n
tag_known s n e = go (nat_lt s (2 ^ 64) && nat_lt n (2 ^ 64)) refl e
  where
    fits : s < 2 ^ 64 → n < 2 ^ 64 → tag_number s n < 2 ^ 128
    fits a b = omega arith

    go : (b : Bool) → (nat_lt s (2 ^ 64) && nat_lt n (2 ^ 64)) ≡ b → is_tag (if b then tag_text (tag_number s n) else []) ≡ true → IsTagOf s n
    go true t f =
        let p = and_parts (nat_lt s (2 ^ 64)) (nat_lt n (2 ^ 64)) t in
        let a : s < 2 ^ 64 = let x = p.0 in grind (arith, nat_tests) in
        let b : n < 2 ^ 64 = let x = p.1 in grind (arith, nat_tests) in
        let text : tag s n ≡ tag_text (tag_number s n) = rw t refl in
        record { text = text; tells = ap tag_of_text text ∙ tag_of_text-tag_text (tag_number s n) (fits a b) }
    go false t f = cc

-- a task with arguments and moments can be drafted
can_publish : (n : ℕ) (name : Bytes) (args : Data) (times : Times) → IsUtf8 name → 1 ≤ length name → if_arguments args ≡ Some args → is_writable times.eta ≡ true → is_writable times.expires ≡ true
    → can_draft (timed_parts (tag_text n) name args times) ≡ true
can_publish n name args times text some lawful eta expires =
    let a = and_parts (is_some (as_array args) && not (has_float args)) (nat_le (depth args) 90) (fit args lawful) in
    let b = and_parts (is_some (as_array args)) (not (has_float args)) a.0 in
    let named : nat_le 1 (length name) ≡ true = grind (arith, nat_tests) in
    let long : length (tag_text n) ≡ 36 = by_index_length 36 _ in
    let filled : nat_le 1 (length (tag_text n)) ≡ true = ap (nat_le 1) long in
    rw (is_utf8-from_IsUtf8 name text, named, is_utf8-from_IsUtf8 (tag_text n) (tag_ascii n), filled, b.0, b.1, a.1, eta, expires) refl

le_from : (m l : ℕ) → nat_le m l ≡ true → m ≤ l
le_from m l h = grind (arith, nat_tests)

module _ (times : Times) (s n : ℕ) (x k : Bytes) (p : ℕ) (task j : Bytes) (some : 1 ≤ length task) (eta : is_writable times.eta ≡ true) (expires : is_writable times.expires ≡ true) where
  abbrev parts : Data → TaskParts
  parts args = timed_parts (tag s n) task args times

  abbrev tree : Data → Data
  tree args = timed_tree (tag s n) x k p (parts args)

  abbrev Carries : Bytes → Type 0
  Carries v = (args : Data) × (arguments_of j ≡ Some args) × CarriesTask (parts args) v

  fits : (args : Data) → arguments_of j ≡ Some args → IsArguments j args → are_told (tag s n) x k p task ≡ true → are_within x k (tree args) ≡ true → Carries (compact_text (tree args))
  fits args spelled known may within =
      let a = and_parts (are_texts x k task && is_tag (tag s n)) (nat_le p 255) may in
      let b = and_parts (are_texts x k task) (is_tag (tag s n)) a.0 in
      let c = and_parts (is_utf8 x && is_utf8 k) (is_utf8 task) b.0 in
      let e = and_parts (is_utf8 x) (is_utf8 k) c.0 in
      let f = and_parts (are_short x k && nat_le (length (compact_text (tree args))) max_bytes) (nat_le (length (compact_text (marked (tree args)))) max_text) within in
      let g = and_parts (are_short x k) (nat_le (length (compact_text (tree args))) max_bytes) f.0 in
      let tagged = tag_known s n b.1 in
      let byte : p ≤ 255 = let z = a.1 in grind (arith, nat_tests) in
      let plain : length (compact_text (tree args)) ≤ max_bytes = le_from (length (compact_text (tree args))) max_bytes g.1 in
      let marks : length (compact_text (marked (tree args))) ≤ max_text = le_from (length (compact_text (marked (tree args)))) max_text f.1 in
      let drafted : IsDrafted (tag s n) x k p task args = record {
        sorted = read_sorted j args known.text;
        texts = reads_texts j args known.utf8 known.text;
        tag = subst IsUtf8 (sym tagged.text) (tag_ascii (tag_number s n));
        exchange_text = IsUtf8-from_is_utf8 x e.0;
        routing_key_text = IsUtf8-from_is_utf8 k e.1;
        task_text = IsUtf8-from_is_utf8 task c.1;
        byte = byte;
      } in
      let h = is_envelope (tag s n) x k p task args times drafted (tag_number s n) tagged.tells g.0 plain marks in
      let can : can_draft (parts args) ≡ true = subst (λ q. can_draft (timed_parts q task args times) ≡ true) (sym tagged.text)
      (can_publish (tag_number s n) task args times drafted.task_text some (may_be j args spelled) eta expires) in
      let near : depth (call_tree (parts args)) ≤ max_depth = omega (arith, content_shallow (parts args) (draftable (parts args) can)) in
      let content_reads : json_at (compact_text (call_tree (parts args))) ≡ Some (call_tree (parts args)) =
      ap (λ b. if b then read (compact_text (call_tree (parts args))) else None) (is_utf8-from_IsUtf8 (compact_text (call_tree (parts args))) (content_text (tag s n) x k p task args drafted))
      ∙ read-compact_text (call_tree (parts args)) (sorted_content (tag s n) x k p task args drafted) (content_whole (parts args) (draftable (parts args) can)) near in
      let content_is : (parts_in (tree args)).content ≡ compact_text (call_tree (parts args)) = ap (λ r. (parts_or_none r).content) h.0 in (
        args,
        spelled,
        record {
          tree = tree args;
          envelope = h.1;
          task = told_back (parts args) (tree args) (compact_text (call_tree (parts args))) can (omega arith) content_is content_reads refl;
        },
      )

  of_arguments : (args : Data) (v : Bytes) → arguments_of j ≡ Some args → IsArguments j args → if_timed times (tag s n) x k p task args ≡ Some v → Carries v
  of_arguments args v spelled known e = go (are_told (tag s n) x k p task && are_within x k (tree args)) refl e
    where
      go : (b : Bool) → (are_told (tag s n) x k p task && are_within x k (tree args)) ≡ b → (if b then Some (compact_text (tree args)) else None) ≡ Some v → Carries v
      go true t f =
          let q = and_parts (are_told (tag s n) x k p task) (are_within x k (tree args)) t in
          let same : compact_text (tree args) ≡ v = cc in
          subst Carries same (fits args spelled known q.0 q.1)
      go false t f = cc

  pub timed_sent : (v : Bytes) → timed_task times s n x k p task j ≡ Some v → Carries v
  unfolding timed_task
  timed_sent v e = go (arguments_of j) refl e
    where
      go : (o : Option Data) → arguments_of j ≡ o → option_and_then (if_timed times (tag s n) x k p task) o ≡ Some v → Carries v
      go None i f = cc
      go (Some args) i f = of_arguments args v i (arguments_known j args i) f
