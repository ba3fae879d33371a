-- The tree of a sealed task with moments is read back from its text, and says what was drafted.
use Rattle.std.proofs.Common.{◌≡◌, ℕ, ℤ, ◌≤◌, length, pos, Bool, true, false, ◌&&◌, if◌then◌else◌, Option, Some, None, Ok, Ordering, Less, Equal, Greater, nat_cmp, IsUtf8, refl, ◌∙◌, arith}
use Rattle.std.specs.Cmp.Lexicographic.{slice_cmp}
use Rattle.std.specs.Str.{is_utf8}
use Rattle.std.proofs.lemmas.Bool.{and_parts}
use Rattle.std.proofs.lemmas.Str.{IsUtf8-from_ascii, is_utf8-from_IsUtf8}
use Rattle.base64.specs.Engines.{standard}
use Rattle.base64.specs.GeneralPurpose.{encode_of}
use Rattle.base64.proofs.EngineFacts.{IsAscii-encode_of, decode_of-encode_of}
use Rattle.json.proofs.Printed.Utf8.{IsUtf8-are_ascii, are_ascii}
use Rattle.serde_json.specs.Data.{Data, object, Members, no_members, member, depth}
use Rattle.serde_json.specs.Read.{read, max_depth}
use Rattle.serde_json.specs.Written.{compact_text, has_float}
use Rattle.envelope.specs.Envelopes.{Parts, are_short, content_of, envelope_at, info_said, max_bytes, max_text, parts_of, properties_said, said_by}
use Rattle.envelope_trees.specs.Marks.{marked}
use Rattle.envelope.specs.SealedTrees.{sealed_info, sealed_properties, sealed_tree}
use Rattle.envelope_trees.specs.Sorted.{After, Sorted, SortedMembers}
use Rattle.delivery_tags.specs.Tags.{tag_of_text}
use Rattle.envelope.proofs.Said.{envelope_is, said_from}
use Rattle.envelope.proofs.Contents.{content_back}
use Rattle.envelope.proofs.Octets.{utf8_bytes}
use Rattle.envelope_trees.proofs.TextsBack.{read-compact_text}
use Rattle.envelope_laws.proofs.Written.{compact_utf8}
use Rattle.json_texts.specs.Trees.{HasTexts, MembersHaveTexts}
use Rattle.moments.proofs.TextsBack.{text_utf8}
use Rattle.queue_keys.specs.Names.{Bytes}
use Rattle.message_schedules.proofs.TaskTrees.{IsDrafted, content_text}
use Rattle.task_message.specs.Drafted.{call_tree, headers_of, moment_data}
use Rattle.task_message.specs.Tasks.{TaskParts}
use Rattle.publish_script.specs.Drafts.{Times, timed_parts, timed_tree}

-- ---- members by their names

-- P holds of each value
abbrev Each : (Data → Type 0) → Members → Type 0
Each P no_members = Unit {0}
Each P (member k d ms) = P d × Each P ms

-- the members of an object
abbrev members_in : Data → Members
members_in (object ms) = ms
members_in rest = no_members

abbrev is_less : Ordering → Bool
is_less Less = true
is_less Equal = false
is_less Greater = false

less_is : (o : Ordering) → is_less o ≡ true → o ≡ Less
less_is Less e = refl
less_is Equal e = cc
less_is Greater e = cc

abbrev is_after : Bytes → Members → Bool
is_after k no_members = true
is_after k (member l e ms) = is_less (slice_cmp nat_cmp k l) && is_after k ms

abbrev in_order : Members → Bool
in_order no_members = true
in_order (member k d ms) = is_after k ms && in_order ms

after_from : (k : Bytes) (ms : Members) → is_after k ms ≡ true → After k ms
after_from k no_members e = tt
after_from k (member l d ms) e =
    let p = and_parts (is_less (slice_cmp nat_cmp k l)) (is_after k ms) e in
    (less_is (slice_cmp nat_cmp k l) p.0, after_from k ms p.1)

-- names in order, with sorted values
sorted_from : (ms : Members) → in_order ms ≡ true → Each Sorted ms → SortedMembers ms
sorted_from no_members e h = tt
sorted_from (member k d ms) e h = let p = and_parts (is_after k ms) (in_order ms) e in (h.0, after_from k ms p.0, sorted_from ms p.1 h.1)

abbrev are_named : Members → Bool
are_named no_members = true
are_named (member k d ms) = are_ascii k && are_named ms

-- names of ASCII, with values of texts
texts_from : (ms : Members) → are_named ms ≡ true → Each HasTexts ms → MembersHaveTexts ms
texts_from no_members e h = tt
texts_from (member k d ms) e h = let p = and_parts (are_ascii k) (are_named ms) e in (IsUtf8-are_ascii k p.0, h.0, texts_from ms p.1 h.1)

literal : (s : Bytes) → are_ascii s ≡ true → IsUtf8 s
literal s e = IsUtf8-are_ascii s e

-- ---- moments

sorted_moment : (o : Option ℤ) → Sorted (moment_data o)
sorted_moment None = tt
sorted_moment (Some m) = tt

texts_moment : (o : Option ℤ) → HasTexts (moment_data o)
texts_moment None = tt
texts_moment (Some m) = text_utf8 _

whole_moment : (o : Option ℤ) → has_float (moment_data o) ≡ false
whole_moment None = refl
whole_moment (Some m) = refl

flat_moment : (o : Option ℤ) → depth (moment_data o) ≡ 0
flat_moment None = refl
flat_moment (Some m) = refl

-- ---- the tree

module _ (t exchange routing_key : Bytes) (priority : ℕ) (task : Bytes) (args : Data) (times : Times) (is : IsDrafted t exchange routing_key priority task args) where
  abbrev parts : TaskParts
  parts = timed_parts t task args times

  abbrev tree : Data
  tree = timed_tree t exchange routing_key priority parts

  abbrev content : Bytes
  content = compact_text (call_tree parts)

  abbrev body : Bytes
  body = encode_of standard content

  abbrev info : Data
  info = sealed_info exchange routing_key

  abbrev properties : Data
  properties = sealed_properties info t (pos priority) t

  content_utf8 : IsUtf8 content
  content_utf8 = content_text t exchange routing_key priority task args is

  -- ---- in order

  sorted_headers : Sorted (headers_of parts)
  sorted_headers = sorted_from (members_in (headers_of parts)) refl (tt, (sorted_moment times.eta, (sorted_moment times.expires, (tt, (tt, (tt, (tt, (tt, (tt, (omega arith, (tt, (tt, ((tt, (tt, tt)), tt)))))))))))))

  sorted_info : Sorted info
  sorted_info = sorted_from (members_in info) refl (tt, (tt, tt))

  sorted_properties : Sorted properties
  sorted_properties = let b = is.byte in sorted_from (members_in properties) refl (tt, (tt, (sorted_info, (omega arith, (tt, (omega arith, (tt, tt)))))))

  sorted_tree : Sorted tree
  sorted_tree = sorted_from (members_in tree) refl (tt, (tt, (tt, (sorted_headers, (sorted_properties, tt)))))

  -- ---- of texts

  texts_headers : HasTexts (headers_of parts)
  texts_headers = texts_from (members_in (headers_of parts)) refl (compact_utf8 args is.texts is.sorted, (texts_moment times.eta, (texts_moment times.expires, (tt, (is.tag, (literal _ refl, (literal _ refl, (literal _ refl, (tt, (tt, (is.tag, (is.task_text, ((tt, (tt, tt)), tt)))))))))))))

  texts_info : HasTexts info
  texts_info = texts_from (members_in info) refl (is.exchange_text, (is.routing_key_text, tt))

  texts_properties : HasTexts properties
  texts_properties = texts_from (members_in properties) refl (literal _ refl, (is.tag, (texts_info, (tt, (is.tag, (tt, (literal _ refl, tt)))))))

  body_text : IsUtf8 body
  body_text = IsUtf8-from_ascii body (IsAscii-encode_of standard content)

  texts_tree : HasTexts tree
  texts_tree = texts_from (members_in tree) refl (body_text, (literal _ refl, (literal _ refl, (texts_headers, (texts_properties, tt)))))

  -- ---- read back

  no_float : has_float tree ≡ false
  no_float = rw (whole_moment times.eta, whole_moment times.expires) refl

  shallow : depth tree ≤ 100
  shallow = omega (arith, flat_moment times.eta, flat_moment times.expires)

  near : depth tree ≤ max_depth
  near = omega (arith, flat_moment times.eta, flat_moment times.expires)

  reads : read (compact_text tree) ≡ Some tree
  reads = read-compact_text tree sorted_tree no_float near

  -- ---- what it says

  content_is : content_of body ≡ Some content
  content_is = content_back content (decode_of-encode_of standard content refl (utf8_bytes content content_utf8)) ∙ by (is_utf8 content) (is_utf8-from_IsUtf8 content content_utf8)
    where
      by : (b : Bool) → b ≡ true → (if b then Some content else None) ≡ Some content
      by true e = refl
      by false e = cc

  -- what the members say, around any body
  parts_told : (b c : Bytes) (n : ℕ) → tag_of_text t ≡ Some n → content_of b ≡ Some c → are_short exchange routing_key ≡ true
      → parts_of (sealed_tree b (headers_of parts) properties) ≡ Ok (record { content = c; tag = n; exchange = exchange; routing_key = routing_key })
  unfolding parts_of properties_said info_said
  parts_told b c n e f g = rw (e, f, g) refl

  abbrev said : ℕ → Parts
  said n = record { content = content; tag = n; exchange = exchange; routing_key = routing_key }

  pub is_envelope : (n : ℕ) → tag_of_text t ≡ Some n → are_short exchange routing_key ≡ true → length (compact_text tree) ≤ max_bytes → length (compact_text (marked tree)) ≤ max_text
      → (said_by tree ≡ Ok (said n)) × (envelope_at (compact_text tree) ≡ Ok tree)
  is_envelope n tells short plain marks =
      let says = said_from tree (said n) (record { plain = record { shallow = shallow; whole = no_float }; parts = parts_told body content n tells content_is short; text = plain; marks = marks }) in
      (says, envelope_is tree (said n) (compact_text tree) says (compact_utf8 tree texts_tree sorted_tree) reads plain)
