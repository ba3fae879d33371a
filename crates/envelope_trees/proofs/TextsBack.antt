-- The compact text of a tree is read back as that tree.
use Rattle.std.proofs.Common.{◌≡◌, ℕ, suc, ◌^◌, ◌<◌, ◌≤◌, pos, negsuc, List, [], ◌∷◌, Bool, true, false, ◌||◌, ◌==◌, cond, get_or, Some, option_map, option_and_then, decimal, Less, Greater, nat_cmp, refl, sym, ap, subst, ◌∙◌, arith, append-nil}
use Rattle.std.specs.Ordering.{ordering_reverse}
use Rattle.std.specs.Cmp.Lexicographic.{slice_cmp}
use Rattle.std.specs.Cmp.{IsTotalOrder}
use Rattle.std.proofs.lemmas.Cmp.{nat_list_cmp_total}
use Rattle.json.specs.Lex.{tokens}
use Rattle.json.specs.Json as json
use Rattle.json.specs.Print.{IsNumber}
use Rattle.json.specs.Tree as tree
use Rattle.json.proofs.Printed.Tokens.{tokens-print}
use Rattle.json.proofs.Printed.Trees.{value-json_tokens, ArePrintable-json_tokens}
use Rattle.json.proofs.Printed.Decimals.{IsNumber-decimal}
use Rattle.json.specs.Word.{after_number, after_whole, after_fraction, after_exponent}
use Rattle.std.proofs.lemmas.Fmt.{first_decimal}
use Rattle.std.proofs.lemmas.Bool.Decides.{nat_tests}
use Rattle.serde_json.specs.Data.{Num, unsigned, negative, float, Data, null, boolean, number, string, array, object, Items, no_items, item, Members, no_members, member, put, depth, items_depth, members_depth}
use Rattle.serde_json.specs.Read.{number_of, of_json, of_items, of_members, max_depth, read}
use Rattle.serde_json.specs.Written.{outline, items_outline, members_outline, has_float, items_have_float, members_have_float, compact_text, number_text}
use Rattle.serde_json.proofs.Numbers.{number_of-decimal, number_of-negative}
use Rattle.serde_json.proofs.Texts.{print-outline}
use Rattle.envelope_trees.specs.Sorted.{IsRead, After, Sorted, SortedItems, SortedMembers}

pub order : IsTotalOrder (slice_cmp nat_cmp)
order = nat_list_cmp_total

pub over : (k l : List ℕ) → slice_cmp nat_cmp l k ≡ Less → slice_cmp nat_cmp k l ≡ Greater
over k l e = order.antisymm k l ∙ ap ordering_reverse e

pub or_false : (a b : Bool) → (a || b) ≡ false → (a ≡ false) × (b ≡ false)
or_false true b e = cc
or_false false b e = (refl, e)

-- ---- members go in at the end

join : Members → Members → Members
join no_members ns = ns
join (member k d ms) ns = member k d (join ms ns)

abbrev Below : Members → List ℕ → Type 0
Below no_members k = Unit {0}
Below (member l e ms) k = (slice_cmp nat_cmp l k ≡ Less) × Below ms k

abbrev AllBelow : Members → Members → Type 0
AllBelow found no_members = Unit {0}
AllBelow found (member k d ms) = Below found k × AllBelow found ms

none_below : (ms : Members) → AllBelow no_members ms
none_below no_members = tt
none_below (member k d ms) = (tt, none_below ms)

put_last : (k : List ℕ) (d : Data) (found : Members) → Below found k → put k d found ≡ join found (member k d no_members)
unfolding join
put_last k d no_members h = refl
put_last k d (member l e ms) h = rw (over k l h.0) (ap (member l e) (put_last k d ms h.1))

join_none : (found : Members) → join found no_members ≡ found
unfolding join
join_none no_members = refl
join_none (member k d ms) = ap (member k d) (join_none ms)

join_more : (found : Members) (k : List ℕ) (d : Data) (ms : Members) → join (join found (member k d no_members)) ms ≡ join found (member k d ms)
unfolding join
join_more no_members k d ms = refl
join_more (member l e found) k d ms = ap (member l e) (join_more found k d ms)

below_more : (found : Members) (k : List ℕ) (d : Data) (l : List ℕ) → Below found l → slice_cmp nat_cmp k l ≡ Less → Below (join found (member k d no_members)) l
unfolding join
below_more no_members k d l h e = (e, tt)
below_more (member q x found) k d l h e = (h.0, below_more found k d l h.1 e)

all_below_more : (found : Members) (k : List ℕ) (d : Data) (ms : Members) → AllBelow found ms → After k ms → AllBelow (join found (member k d no_members)) ms
all_below_more found k d no_members h a = tt
all_below_more found k d (member l e ms) h a = (below_more found k d l h.0 a.0, all_below_more found k d ms h.1 a.1)

-- ---- numbers

number_back : (n : Num) → IsRead n → has_float (number n) ≡ false → number_of (number_text n) ≡ Some n
number_back (unsigned n) h e = number_of-decimal n h
number_back (negative (pos n)) h e = absurd h
number_back (negative (negsuc n)) h e = number_of-negative n h
number_back (float x) h e = cc

-- ---- trees

mutual
  unfolding join

  of_outline : (d : Data) → Sorted d → has_float d ≡ false → of_json (outline d) ≡ Some d
  of_outline null h e = refl
  of_outline (boolean b) h e = refl
  of_outline (number n) h e = ap (option_map number) (number_back n h e)
  of_outline (string s) h e = refl
  of_outline (array ds) h e = ap (option_map array) (of_items_outline ds h e)
  of_outline (object ms) h e = ap (option_map object) (of_members_outline ms no_members h e (none_below ms))

  of_items_outline : (ds : Items) → SortedItems ds → items_have_float ds ≡ false → of_items (items_outline ds) ≡ Some ds
  of_items_outline no_items h e = refl
  of_items_outline (item d ds) h e =
      let f = or_false (has_float d) (items_have_float ds) e in
      rw (of_outline d h.0 f.0, of_items_outline ds h.1 f.1) refl

  of_members_outline : (ms found : Members) → SortedMembers ms → members_have_float ms ≡ false → AllBelow found ms → of_members (members_outline ms) found ≡ Some (join found ms)
  of_members_outline no_members found h e a = ap (λ (x : Members). Some x) (sym (join_none found))
  of_members_outline (member k d ms) found h e a =
      let f = or_false (has_float d) (members_have_float ms) e in
      ap (option_and_then (λ x. of_members (members_outline ms) (put k x found))) (of_outline d h.0 f.0)
      ∙ ap (of_members (members_outline ms)) (put_last k d found a.0)
      ∙ of_members_outline ms (join found (member k d no_members)) h.2 f.1 (all_below_more found k d ms a.1 h.1)
      ∙ ap (λ (x : Members). Some x) (join_more found k d ms)

mutual
  outline_depth : (d : Data) → tree.depth (outline d) ≡ depth d
  outline_depth null = refl
  outline_depth (boolean b) = refl
  outline_depth (number n) = refl
  outline_depth (string s) = refl
  outline_depth (array ds) = ap suc (items_outline_depth ds)
  outline_depth (object ms) = ap suc (members_outline_depth ms)

  items_outline_depth : (ds : Items) → tree.items_depth (items_outline ds) ≡ items_depth ds
  items_outline_depth no_items = refl
  items_outline_depth (item d ds) = rw (outline_depth d, items_outline_depth ds) refl

  members_outline_depth : (ms : Members) → tree.members_depth (members_outline ms) ≡ members_depth ms
  members_outline_depth no_members = refl
  members_outline_depth (member k d ms) = rw (outline_depth d, members_outline_depth ms) refl

negative_is : (ds : List ℕ) → 48 < get_or ds 0 0 → IsNumber ds → IsNumber (45 ∷ ds)
unfolding after_number
negative_is [] h n = absurd (omega arith)
negative_is (d ∷ ds) h n =
    let e : (d == 45) ≡ false = grind (arith, nat_tests) in
    sym (ap (λ b. option_and_then after_exponent (option_and_then after_fraction (after_whole (cond b ds (d ∷ ds))))) e) ∙ n

number_is : (n : Num) → IsRead n → has_float (number n) ≡ false → IsNumber (number_text n)
number_is (unsigned n) h e = IsNumber-decimal n h
number_is (negative (pos n)) h e = absurd h
number_is (negative (negsuc n)) h e = let m : suc n < 2 ^ 64 = omega arith in negative_is (decimal (suc n)) (first_decimal (suc n) (omega arith) m) (IsNumber-decimal (suc n) m)
number_is (float x) h e = cc

mutual
  numbers : (d : Data) → Sorted d → has_float d ≡ false → tree.HasNumbers (outline d)
  numbers null h e = tt
  numbers (boolean b) h e = tt
  numbers (number n) h e = number_is n h e
  numbers (string s) h e = tt
  numbers (array ds) h e = items_numbers ds h e
  numbers (object ms) h e = members_numbers ms h e

  items_numbers : (ds : Items) → SortedItems ds → items_have_float ds ≡ false → tree.ItemsHaveNumbers (items_outline ds)
  items_numbers no_items h e = tt
  items_numbers (item d ds) h e = let f = or_false (has_float d) (items_have_float ds) e in (numbers d h.0 f.0, items_numbers ds h.1 f.1)

  members_numbers : (ms : Members) → SortedMembers ms → members_have_float ms ≡ false → tree.MembersHaveNumbers (members_outline ms)
  members_numbers no_members h e = tt
  members_numbers (member k d ms) h e = let f = or_false (has_float d) (members_have_float ms) e in (numbers d h.0 f.0, members_numbers ms h.2 f.1)

tokens_of_text : (d : Data) → Sorted d → has_float d ≡ false → tokens (compact_text d) ≡ tree.json_tokens (outline d)
tokens_of_text d h e = ap tokens (sym (print-outline d)) ∙ tokens-print (tree.json_tokens (outline d)) (ArePrintable-json_tokens (outline d) (numbers d h e))

-- the compact text of a tree is read back as that tree
pub read-compact_text : (d : Data) → Sorted d → has_float d ≡ false → depth d ≤ max_depth → read (compact_text d) ≡ Some d
read-compact_text d h e shallow =
    ap (λ ts. option_and_then of_json (option_and_then (λ p. json.if_last p.0 p.1) (json.value max_depth ts))) (tokens_of_text d h e ∙ sym (append-nil (tree.json_tokens (outline d))))
    ∙ ap (λ o. option_and_then of_json (option_and_then (λ p. json.if_last p.0 p.1) o)) (value-json_tokens (outline d) max_depth [] (subst (λ n. n ≤ max_depth) (sym (outline_depth d)) shallow))
    ∙ of_outline d h e
