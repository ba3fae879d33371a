-- What the program seals tells what was asked.
use Rattle.std.proofs.Common.{◌≡◌, ℕ, min, ◌<◌, ◌≤◌, ◌^◌, [], length, Bool, true, false, ◌&&◌, if◌then◌else◌, Option, Some, None, option_map, option_and_then, Ok, IsUtf8, refl, sym, ap, subst, ◌∙◌, arith}
use Rattle.std.specs.Prelude.{nat_le, nat_lt}
use Rattle.std.specs.Result.{result_ok}
use Rattle.std.specs.Str.{is_utf8}
use Rattle.std.proofs.lemmas.Bool.{and_parts}
use Rattle.std.proofs.lemmas.Bool.Decides.{nat_tests}
use Rattle.std.proofs.lemmas.Str.{IsUtf8-from_is_utf8}
use Rattle.serde_json.specs.Data.{Data}
use Rattle.serde_json.specs.Written.{compact_text}
use Rattle.envelope.specs.Envelopes.{Parts, are_short, envelope_at, max_bytes, max_text, parts_in, parts_or_none, priority_of, said_by}
use Rattle.envelope_trees.specs.Marks.{marked}
use Rattle.delivery_tags.specs.Tags.{is_tag, tag, tag_number, tag_of_text, tag_text}
use Rattle.envelope_trees.proofs.SortedTrees.{read_sorted}
use Rattle.delivery_tags.proofs.TagTexts.{tag_ascii, tag_of_text-tag_text}
use Rattle.json_texts.proofs.Trees.{reads_texts}
use Rattle.command_blocks.specs.EnvelopeTexts.{tag_as_written, texts, way_of, way_said, written_tag}
use Rattle.queue_keys.specs.Names.{Bytes}
use Rattle.command_blocks.specs.Setting.{Way}
use Rattle.queue_keys.proofs.Basics.{same-refl}
use Rattle.schedule_model.specs.Drafts.{are_told, are_texts, are_within, arguments_of, content_tree, if_sealed, sealed_task, task_tree}
use Rattle.schedule_model.specs.Programs.{program_craft}
use Rattle.schedule_model.proofs.ArgumentTrees.{IsArguments, arguments_known}
use Rattle.schedule_laws.specs.Sound.{SealsTell}
use Rattle.message_schedules.proofs.TaskTrees.{IsDrafted, is_envelope}

-- a tag of 64 bits each
record IsTagOf (s n : ℕ) : Type 0 where
  text : tag s n ≡ tag_text (tag_number s n)
  tells : tag_of_text (tag s n) ≡ Some (tag_number s n)

tag_known : (s n : ℕ) → is_tag (tag s n) ≡ true → IsTagOf s n
tag_known s n e = go (nat_lt s (2 ^ 64) && nat_lt n (2 ^ 64)) refl e
  where
    fits : s < 2 ^ 64 → n < 2 ^ 64 → tag_number s n < 2 ^ 128
    fits a b = omega arith

    go : (b : Bool) → (nat_lt s (2 ^ 64) && nat_lt n (2 ^ 64)) ≡ b → is_tag (if b then tag_text (tag_number s n) else []) ≡ true → IsTagOf s n
    go true t f =
        let p = and_parts (nat_lt s (2 ^ 64)) (nat_lt n (2 ^ 64)) t in
        let a : s < 2 ^ 64 = let x = p.0 in grind (arith, nat_tests) in
        let b : n < 2 ^ 64 = let x = p.1 in grind (arith, nat_tests) in
        let text : tag s n ≡ tag_text (tag_number s n) = rw t refl in
        record { text = text; tells = ap tag_of_text text ∙ tag_of_text-tag_text (tag_number s n) (fits a b) }
    go false t f = cc

-- what an envelope's tree of these parts tells, as it is written
told : (s n : ℕ) (d : Data) (p : Parts) → tag s n ≡ tag_text p.tag → envelope_at (compact_text d) ≡ Ok d → said_by d ≡ Ok p
    → (written_tag (compact_text d) ≡ Some (tag s n)) × (way_of (compact_text d) ≡ Some (record { exchange = p.exchange; routing_key = p.routing_key; priority = priority_of d }))
told s n d p text reads says =
    let same : parts_in d ≡ p = ap parts_or_none says in (
      ap (λ r. option_and_then (tag_as_written (compact_text d)) (result_ok r)) reads ∙ ap (λ b. if b then Some (tag_text (parts_in d).tag) else None) (same-refl (compact_text d))
          ∙ ap (λ (q : Parts). Some (tag_text q.tag)) same ∙ ap (λ x. Some x) (sym text),
      ap (λ r. option_map way_said (result_ok r)) reads ∙ ap (λ (q : Parts). way (record { exchange = q.exchange; routing_key = q.routing_key; priority = priority_of d })) same,
    )
  where
    way : Way → Option Way
    way w = Some w

-- what was sealed of a task that was asked for: the text of an envelope, which says the task's content, tag, exchange and routing key
pub record IsSealed (s n : ℕ) (x k : Bytes) (p : ℕ) (task j v : Bytes) : Type 0 where
  pub args : Data
  pub spelled : arguments_of j ≡ Some args
  pub drafted : IsDrafted (tag s n) x k p task args
  pub tag_is : tag s n ≡ tag_text (tag_number s n)
  pub text : v ≡ compact_text (task_tree (tag s n) x k p task args)
  pub says : said_by (task_tree (tag s n) x k p task args) ≡ Ok (record { content = compact_text (content_tree args); tag = tag_number s n; exchange = x; routing_key = k })
  pub reads : envelope_at (compact_text (task_tree (tag s n) x k p task args)) ≡ Ok (task_tree (tag s n) x k p task args)

-- what was sealed
module _ (s n : ℕ) (x k : Bytes) (p : ℕ) (task j : Bytes) where
  abbrev Tells : Bytes → Type 0
  Tells v = (written_tag v ≡ Some (tag s n)) × (way_of v ≡ Some (record { exchange = x; routing_key = k; priority = min p 9 }))

  abbrev tree : Data → Data
  tree args = task_tree (tag s n) x k p task args

  fits : (args : Data) → arguments_of j ≡ Some args → IsArguments j args → are_told (tag s n) x k p task ≡ true → are_within x k (tree args) ≡ true → IsSealed s n x k p task j (compact_text (tree args))
  fits args spelled known may within =
      let a = and_parts (are_texts x k task && is_tag (tag s n)) (nat_le p 255) may in
      let b = and_parts (are_texts x k task) (is_tag (tag s n)) a.0 in
      let c = and_parts (is_utf8 x && is_utf8 k) (is_utf8 task) b.0 in
      let e = and_parts (is_utf8 x) (is_utf8 k) c.0 in
      let f = and_parts (are_short x k && nat_le (length (compact_text (tree args))) max_bytes) (nat_le (length (compact_text (marked (tree args)))) max_text) within in
      let g = and_parts (are_short x k) (nat_le (length (compact_text (tree args))) max_bytes) f.0 in
      let tagged = tag_known s n b.1 in
      let byte : p ≤ 255 = let z = a.1 in grind (arith, nat_tests) in
      let plain : length (compact_text (tree args)) ≤ max_bytes = le_from (length (compact_text (tree args))) max_bytes g.1 in
      let marks : length (compact_text (marked (tree args))) ≤ max_text = le_from (length (compact_text (marked (tree args)))) max_text f.1 in
      let drafted : IsDrafted (tag s n) x k p task args = record {
        sorted = read_sorted j args known.text;
        texts = reads_texts j args known.utf8 known.text;
        tag = subst IsUtf8 (sym tagged.text) (tag_ascii (tag_number s n));
        exchange_text = IsUtf8-from_is_utf8 x e.0;
        routing_key_text = IsUtf8-from_is_utf8 k e.1;
        task_text = IsUtf8-from_is_utf8 task c.1;
        byte = byte;
      } in
      let h = is_envelope (tag s n) x k p task args drafted (tag_number s n) tagged.tells g.0 plain marks in
      record { args = args; spelled = spelled; drafted = drafted; tag_is = tagged.text; text = refl; says = h.0; reads = h.1 }
    where
      le_from : (m l : ℕ) → nat_le m l ≡ true → m ≤ l
      le_from m l h = grind (arith, nat_tests)

  of_arguments : (args : Data) (v : Bytes) → arguments_of j ≡ Some args → IsArguments j args → if_sealed (tag s n) x k p task args ≡ Some v → IsSealed s n x k p task j v
  of_arguments args v spelled known e = go (are_told (tag s n) x k p task && are_within x k (tree args)) refl e
    where
      go : (b : Bool) → (are_told (tag s n) x k p task && are_within x k (tree args)) ≡ b → (if b then Some (compact_text (tree args)) else None) ≡ Some v → IsSealed s n x k p task j v
      go true t f =
          let q = and_parts (are_told (tag s n) x k p task) (are_within x k (tree args)) t in
          let same : compact_text (tree args) ≡ v = cc in
          subst (IsSealed s n x k p task j) same (fits args spelled known q.0 q.1)
      go false t f = cc

  pub sealed_known : (v : Bytes) → sealed_task s n x k p task j ≡ Some v → IsSealed s n x k p task j v
  unfolding sealed_task
  sealed_known v e = go (arguments_of j) refl e
    where
      go : (o : Option Data) → arguments_of j ≡ o → option_and_then (if_sealed (tag s n) x k p task) o ≡ Some v → IsSealed s n x k p task j v
      go None i f = cc
      go (Some args) i f = of_arguments args v i (arguments_known j args i) f

  pub tells : (v : Bytes) → sealed_task s n x k p task j ≡ Some v → Tells v
  tells v e =
      let i = sealed_known v e in
      subst Tells (sym i.text) (told s n (tree i.args) _ i.tag_is i.reads i.says)

pub seals_tell : SealsTell texts program_craft
seals_tell s n x k p task j v e = tells s n x k p task j v e
