-- The compact text of a tree with texts is UTF-8.
use Rattle.std.proofs.Common.{suc, [], ◌∷◌, ◌++◌, Bool, true, false, pos, negsuc, IsUtf8, refl, arith, decimal}
use Rattle.std.proofs.lemmas.Fmt.{IsAscii-decimal}
use Rattle.std.proofs.lemmas.Str.{IsUtf8-append, IsUtf8-from_ascii, IsUtf8-nil}
use Rattle.json.specs.Print.{quoted}
use Rattle.json.proofs.Printed.Utf8.{IsUtf8-are_ascii, IsUtf8-boolean, IsUtf8-quoted}
use Rattle.serde_json.specs.Data.{Num, unsigned, negative, float, Data, null, boolean, number, string, array, object, Items, no_items, item, Members, no_members, member}
use Rattle.serde_json.specs.Written.{comma_if, compact_text, items_text, members_text, number_text}
use Rattle.envelope_trees.specs.Sorted.{IsRead, Sorted, SortedItems, SortedMembers}
use Rattle.json_texts.specs.Trees.{HasTexts, ItemsHaveTexts, MembersHaveTexts}

number_utf8 : (n : Num) → IsRead n → IsUtf8 (number_text n)
number_utf8 (unsigned n) h = IsUtf8-from_ascii (decimal n) (IsAscii-decimal n h)
number_utf8 (negative (pos n)) h = absurd h
number_utf8 (negative (negsuc n)) h = IsUtf8-append (45 ∷ []) (decimal (suc n)) (IsUtf8-are_ascii (45 ∷ []) refl) (IsUtf8-from_ascii (decimal (suc n)) (IsAscii-decimal (suc n) (omega arith)))
number_utf8 (float x) h = IsUtf8-nil

comma_utf8 : (b : Bool) → IsUtf8 (comma_if b)
comma_utf8 true = IsUtf8-are_ascii (44 ∷ []) refl
comma_utf8 false = IsUtf8-nil

mutual
  pub compact_utf8 : (d : Data) → HasTexts d → Sorted d → IsUtf8 (compact_text d)
  compact_utf8 null h s = IsUtf8-are_ascii (compact_text null) refl
  compact_utf8 (boolean b) h s = IsUtf8-boolean b
  compact_utf8 (number n) h s = number_utf8 n s
  compact_utf8 (string t) h s = IsUtf8-quoted t h
  compact_utf8 (array ds) h s = IsUtf8-append (91 ∷ []) (items_text false ds) (IsUtf8-are_ascii (91 ∷ []) refl) (items_utf8 false ds h s)
  compact_utf8 (object ms) h s = IsUtf8-append (123 ∷ []) (members_text false ms) (IsUtf8-are_ascii (123 ∷ []) refl) (members_utf8 false ms h s)

  items_utf8 : (b : Bool) (ds : Items) → ItemsHaveTexts ds → SortedItems ds → IsUtf8 (items_text b ds)
  items_utf8 b no_items h s = IsUtf8-are_ascii (93 ∷ []) refl
  items_utf8 b (item d ds) h s = IsUtf8-append (comma_if b) (compact_text d ++ items_text true ds) (comma_utf8 b) (IsUtf8-append (compact_text d) (items_text true ds) (compact_utf8 d h.0 s.0) (items_utf8 true ds h.1 s.1))

  members_utf8 : (b : Bool) (ms : Members) → MembersHaveTexts ms → SortedMembers ms → IsUtf8 (members_text b ms)
  members_utf8 b no_members h s = IsUtf8-are_ascii (125 ∷ []) refl
  members_utf8 b (member k d ms) h s =
      let value = IsUtf8-append (compact_text d) (members_text true ms) (compact_utf8 d h.1 s.0) (members_utf8 true ms h.2 s.2) in
      IsUtf8-append (comma_if b) (quoted k ++ 58 ∷ (compact_text d ++ members_text true ms)) (comma_utf8 b)
      (IsUtf8-append (quoted k) (58 ∷ (compact_text d ++ members_text true ms)) (IsUtf8-quoted k h.0) (IsUtf8-append (58 ∷ []) (compact_text d ++ members_text true ms) (IsUtf8-are_ascii (58 ∷ []) refl) value))
