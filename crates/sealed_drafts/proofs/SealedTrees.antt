-- A sealed tree is an envelope's, or has the draft's first fault.
use Rattle.std.proofs.Common.{◌≡◌, ℕ, ℤ, pos, negsuc, max, ◌+◌, List, length, Bool, true, false, ◌||◌, codes, if◌then◌else◌, Some, None, Result, Ok, Err, refl, sym, ap, ◌∙◌, arith}
use Rattle.std.specs.Prelude.{nat_le, not}
use Rattle.std.specs.Str.{is_utf8}
use Rattle.std.proofs.lemmas.Bool.Decides.{nat_tests}
use Rattle.base64.specs.Engines.{standard}
use Rattle.base64.specs.GeneralPurpose.{encode_of}
use Rattle.serde_json.specs.Data.{Data, null, boolean, number, string, array, object, Members, depth}
use Rattle.serde_json.specs.Find.{get, of_integer, is_float}
use Rattle.serde_json.specs.View.{view as data_of}
use Rattle.serde_json.specs.Written.{compact_text, has_float}
use Rattle.envelope.specs.Envelopes.{Parts, parts_of, properties_said, info_said, said_by, envelope_of, content_of, if_text, are_short, max_bytes, max_text, max_levels}
use Rattle.envelope_trees.specs.Marks.{marked}
use Rattle.envelope_trees.specs.Members.{if_object, is_nothing}
use Rattle.envelope_trees.specs.Reading.{◌>>=◌, needed, wanted}
use Rattle.envelope.specs.SealedTrees.{sealed_info, sealed_properties, sealed_tree}
use Rattle.sealed_drafts.specs.Sealed.{sealed, seal_of}
use Rattle.delivery_tags.specs.Tags.{tag_text, tag_of_text}
use Rattle.envelope_trees.specs.declared.fault.Field.TheVariants as field
use Rattle.envelope_trees.specs.declared.fault.EnvelopeFault.{EnvelopeFault}
use Rattle.envelope_trees.specs.declared.fault.EnvelopeFault.TheVariants.{TooLong, TooDeep, Float, Missing, Compressed, BadBody}
use Rattle.sealed_drafts.specs.declared.sealing.Draft.{Draft}

-- a whole number is no float
whole_number : (p : ℤ) → is_float (of_integer p) ≡ false
whole_number (pos n) = refl
whole_number (negsuc n) = refl

-- the envelope of a tree, with what follows each step in one chain
chain : (a b x y : Bool) (r : Result Parts EnvelopeFault) (d : Data)
    → ((wanted TooDeep a >>= λ u. wanted Float b >>= λ v. r >>= λ p. wanted TooLong x >>= λ w. wanted TooLong y >>= λ z. Ok p) >>= λ p. Ok d)
    ≡ (wanted TooDeep a >>= λ u. wanted Float b >>= λ v. r >>= λ p. wanted TooLong x >>= λ w. wanted TooLong y >>= λ z. Ok d)
chain false b x y r d = refl
chain true false x y r d = refl
chain true true x y (Err e) d = refl
chain true true false y (Ok p) d = refl
chain true true true false (Ok p) d = refl
chain true true true true (Ok p) d = refl

-- the same from the headers on
tail : (c t s x y : Bool) (v : List ℕ) (p : List ℕ → Parts) (d : Data)
    → ((wanted Compressed c >>= λ u. needed BadBody (if t then Some v else None) >>= λ b. wanted TooLong s >>= λ w. Ok (p b)) >>= λ q. wanted TooLong x >>= λ w. wanted TooLong y >>= λ z. Ok d)
    ≡ (wanted Compressed c >>= λ u. wanted BadBody t >>= λ w. wanted TooLong s >>= λ q. wanted TooLong x >>= λ w. wanted TooLong y >>= λ z. Ok d)
tail false t s x y v p d = refl
tail true false s x y v p d = refl
tail true true false x y v p d = refl
tail true true true x y v p d = refl

-- ---- depth and floats

same_test : (m k : ℕ) → m ≡ 1 + max k 2 → nat_le m 100 ≡ nat_le k 99
same_test m k e = go (nat_le m 100) (nat_le k 99) refl refl
  where
    go : (a b : Bool) → nat_le m 100 ≡ a → nat_le k 99 ≡ b → nat_le m 100 ≡ nat_le k 99
    go true true i j = i ∙ sym j
    go false false i j = i ∙ sym j
    go true false i j = absurd (grind (arith, nat_tests))
    go false true i j = absurd (grind (arith, nat_tests))

deep_is : (body : List ℕ) (h : Data) (exchange routing_key id : List ℕ) (p : ℤ) (tag : List ℕ)
    → nat_le (depth (sealed_tree body h (sealed_properties (sealed_info exchange routing_key) id p tag))) 100 ≡ nat_le (depth h) 99
deep_is body h exchange routing_key id p tag = same_test _ (depth h) (omega arith)

float_is : (body : List ℕ) (h : Data) (exchange routing_key id : List ℕ) (p : ℤ) (tag : List ℕ)
    → has_float (sealed_tree body h (sealed_properties (sealed_info exchange routing_key) id p tag)) ≡ has_float h
float_is body h exchange routing_key id p tag = go (has_float h) (is_float (of_integer p)) (whole_number p)
  where
    go : (a b : Bool) → b ≡ false → (a || ((b || false) || false)) ≡ a
    go true b e = refl
    go false true e = e
    go false false e = refl

-- ---- members

-- what an object as headers leaves to be looked at
parts_sealed : (body content : List ℕ) (hs : Members) (exchange routing_key id : List ℕ) (p : ℤ) (n : ℕ) → content_of body ≡ if_text content → tag_of_text (tag_text n) ≡ Some n
    → parts_of (sealed_tree body (object hs) (sealed_properties (sealed_info exchange routing_key) id p (tag_text n)))
    ≡ (wanted Compressed (is_nothing (get (codes "compression") (object hs))) >>= λ u. needed BadBody (if_text content) >>= λ b. wanted TooLong (are_short exchange routing_key) >>= λ w. Ok (record { content = b; tag = n; exchange = exchange; routing_key = routing_key }))
unfolding parts_of properties_said info_said
parts_sealed body content hs exchange routing_key id p n e fits = rw (fits, e) refl

rest : (body content : List ℕ) (h : Data) (exchange routing_key id : List ℕ) (p : ℤ) (n : ℕ) (x y : Bool) (d : Data) → content_of body ≡ if_text content → tag_of_text (tag_text n) ≡ Some n
    → (parts_of (sealed_tree body h (sealed_properties (sealed_info exchange routing_key) id p (tag_text n))) >>= λ q. wanted TooLong x >>= λ w. wanted TooLong y >>= λ z. Ok d)
    ≡ (needed (Missing field.Headers) (if_object h) >>= λ g. wanted Compressed (is_nothing (get (codes "compression") g)) >>= λ u. wanted BadBody (is_utf8 content) >>= λ w. wanted TooLong (are_short exchange routing_key) >>= λ q. wanted TooLong x >>= λ w. wanted TooLong y >>= λ z. Ok d)
unfolding parts_of
rest body content null exchange routing_key id p n x y d e fits = refl
rest body content (boolean b) exchange routing_key id p n x y d e fits = refl
rest body content (number m) exchange routing_key id p n x y d e fits = refl
rest body content (string s) exchange routing_key id p n x y d e fits = refl
rest body content (array ds) exchange routing_key id p n x y d e fits = refl
rest body content (object hs) exchange routing_key id p n x y d e fits =
    ap (λ r. r >>= λ q. wanted TooLong x >>= λ w. wanted TooLong y >>= λ z. Ok d) (parts_sealed body content hs exchange routing_key id p n e fits)
    ∙ tail (is_nothing (get (codes "compression") (object hs))) (is_utf8 content) (are_short exchange routing_key) x y content (λ b. record { content = b; tag = n; exchange = exchange; routing_key = routing_key }) d

-- ---- the envelope

module _ (draft : Draft) (n : ℕ) where
  abbrev tree : Data
  tree = sealed draft n

  abbrev heads : Data
  heads = data_of draft.headers

  abbrev plain : Bool
  plain = nat_le (length (compact_text (sealed draft n))) max_bytes

  abbrev marks : Bool
  marks = nat_le (length (compact_text (marked (sealed draft n)))) max_text

  pub sealed_is : content_of (encode_of standard draft.content) ≡ if_text draft.content → tag_of_text (tag_text n) ≡ Some n → envelope_of (sealed draft n) ≡ seal_of draft n
  unfolding envelope_of said_by seal_of
  sealed_is e fits =
      chain (nat_le (depth tree) max_levels) (not (has_float tree)) plain marks (parts_of tree) tree
      ∙ ap (λ a. wanted TooDeep a >>= λ u. wanted Float (not (has_float tree)) >>= λ v. parts_of tree >>= λ p. wanted TooLong plain >>= λ w. wanted TooLong marks >>= λ z. Ok tree)
      (deep_is (encode_of standard draft.content) heads draft.exchange draft.routing_key draft.id draft.priority (tag_text n))
      ∙ ap (λ b. wanted TooDeep (nat_le (depth heads) 99) >>= λ u. wanted Float (not b) >>= λ v. parts_of tree >>= λ p. wanted TooLong plain >>= λ w. wanted TooLong marks >>= λ z. Ok tree)
      (float_is (encode_of standard draft.content) heads draft.exchange draft.routing_key draft.id draft.priority (tag_text n))
      ∙ ap (λ r. wanted TooDeep (nat_le (depth heads) 99) >>= λ u. wanted Float (not (has_float heads)) >>= λ v. r)
      (rest (encode_of standard draft.content) draft.content heads draft.exchange draft.routing_key draft.id draft.priority n plain marks tree e fits)
