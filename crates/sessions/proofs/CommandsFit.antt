-- A command that was received is within the limits of a command.
use Rattle.std.proofs.Common.{List, None, Option, Some, [], arith, ap, map, refl, subst, sym, zero, suc, ℕ, ◌∙◌, ◌∷◌, ◌≡◌, ℤ, inl, inr, option_and_then}
use Rattle.wire_values.specs.Layer.{layer}
use Rattle.wire_values.specs.declared.value.Value.{Value}
use Rattle.wire_values.specs.declared.value.Value.TheVariants.{Status, Error, Integer, Bulk, NullBulk, Array, NullArray}
use Rattle.wire_values.proofs.Layers.{layer-array}
use Rattle.wire_grammar.specs.Spells.{SpellsWithin, IsPlain, as_status, as_error, as_integer, as_bulk, as_null_bulk, IsArray, AreSpelled}
use Rattle.wire_grammar.specs.Fits.{HasSpelling, IsWithinLimits}
use Rattle.store_model.specs.Words.{Bytes, Words}
use Rattle.command_blocks.specs.Answers.{bulk_of, items_of, bulk_in, items_in}
use Rattle.sessions.specs.CommandValues.{contents, with_word, command_items, command_in}

bulk_content : (content : Bytes) → bulk_of (Bulk content) ≡ Some content
unfolding layer
bulk_content content = refl

array_items : (vs : List Value) → items_of (Array vs) ≡ Some vs
array_items vs = ap items_in (layer-array vs)

none_in : (v : Value) (words : Words) → items_of v ≡ None → command_in v ≡ Some words → ⊥
none_in v words e is = let f : None ≡ Some words = rw e at is in grind arith

nothing_in : (v : Value) (words : Words) (w : Value) → v ≡ w → items_of w ≡ None → command_in v ≡ Some words → ⊥
nothing_in v words w e n is = none_in w words n (subst (λ x. command_in x ≡ Some words) e is)

no_status : (t : Bytes) → items_of (Status t) ≡ None
unfolding layer
no_status t = refl

no_error : (t : Bytes) → items_of (Error t) ≡ None
unfolding layer
no_error t = refl

no_integer : (z : ℤ) → items_of (Integer z) ≡ None
unfolding layer
no_integer z = refl

no_bulk : (b : Bytes) → items_of (Bulk b) ≡ None
unfolding layer
no_bulk b = refl

no_null_bulk : items_of NullBulk ≡ None
unfolding layer
no_null_bulk = refl

no_null_array : items_of NullArray ≡ None
unfolding layer
no_null_array = refl

no_plain : (v : Value) (b : List ℕ) (words : Words) → IsPlain v b → command_in v ≡ Some words → ⊥
no_plain v b words (as_status s) is = nothing_in v words (Status s.0) s.2 (no_status s.0) is
no_plain v b words (as_error s) is = nothing_in v words (Error s.0) s.2 (no_error s.0) is
no_plain v b words (as_integer s) is = nothing_in v words (Integer s.0) s.2 (no_integer s.0) is
no_plain v b words (as_bulk s) is = nothing_in v words (Bulk s.0) s.2 (no_bulk s.0) is
no_plain v b words (as_null_bulk s) is = nothing_in v words NullBulk s.1 no_null_bulk is

-- a spelled value that has a content is a bulk string
bulk_status : (t : Bytes) → bulk_of (Status t) ≡ None
unfolding layer
bulk_status t = refl

bulk_error : (t : Bytes) → bulk_of (Error t) ≡ None
unfolding layer
bulk_error t = refl

bulk_integer : (z : ℤ) → bulk_of (Integer z) ≡ None
unfolding layer
bulk_integer z = refl

bulk_null_bulk : bulk_of NullBulk ≡ None
unfolding layer
bulk_null_bulk = refl

bulk_null_array : bulk_of NullArray ≡ None
unfolding layer
bulk_null_array = refl

bulk_array : (vs : List Value) → bulk_of (Array vs) ≡ None
bulk_array vs = ap bulk_in (layer-array vs)

other_bulk : (v w : Value) (word : Bytes) → v ≡ w → bulk_of w ≡ None → bulk_of v ≡ Some word → v ≡ Bulk word
other_bulk v w word e n is = let f : None ≡ Some word = sym n ∙ subst (λ x. bulk_of x ≡ Some word) e is in absurd (grind arith)

plain_bulk : (v : Value) (b : List ℕ) (word : Bytes) → IsPlain v b → bulk_of v ≡ Some word → v ≡ Bulk word
plain_bulk v b word (as_status s) is = other_bulk v (Status s.0) word s.2 (bulk_status s.0) is
plain_bulk v b word (as_error s) is = other_bulk v (Error s.0) word s.2 (bulk_error s.0) is
plain_bulk v b word (as_integer s) is = other_bulk v (Integer s.0) word s.2 (bulk_integer s.0) is
plain_bulk v b word (as_bulk s) is =
    let f : Some s.0 ≡ Some word = sym (bulk_content s.0) ∙ subst (λ x. bulk_of x ≡ Some word) s.2 is in
    let g : s.0 ≡ word = grind arith in
    s.2 ∙ ap Bulk g
plain_bulk v b word (as_null_bulk s) is = other_bulk v NullBulk word s.1 bulk_null_bulk is

spelled_bulk : (d : ℕ) (v : Value) (b : List ℕ) (word : Bytes) → SpellsWithin d v b → bulk_of v ≡ Some word → v ≡ Bulk word
spelled_bulk zero v b word s is = plain_bulk v b word s is
spelled_bulk (suc d) v b word (inl p) is = plain_bulk v b word p is
spelled_bulk (suc d) v b word (inr (inl a)) is = other_bulk v (Array a.0) word a.3 (bulk_array a.0) is
spelled_bulk (suc d) v b word (inr (inr n)) is = other_bulk v NullArray word n.1 bulk_null_array is

-- spelled values that have contents are these as bulk strings
all_bulks : (d : ℕ) (vs : List Value) (body : List ℕ) (words : Words) → AreSpelled (SpellsWithin d) vs body → contents vs ≡ Some words → vs ≡ map Bulk words
all_bulks d [] body words s is = let e : [] ≡ words = grind arith in subst (λ ws. [] ≡ map Bulk ws) e refl
all_bulks d (v ∷ vs) body words s is = by (bulk_of v) (contents vs) (λ ws f. all_bulks d vs s.1 ws s.4 f) refl refl is where
  by : (o : Option Bytes) (p : Option Words) → ((ws : Words) → contents vs ≡ Some ws → vs ≡ map Bulk ws) → bulk_of v ≡ o → contents vs ≡ p → with_word o p ≡ Some words → v ∷ vs ≡ map Bulk words
  by None p rest e f is = absurd (grind arith)
  by (Some w) None rest e f is = absurd (grind arith)
  by (Some w) (Some ws) rest e f is =
      let g : w ∷ ws ≡ words = grind arith in
      subst (λ us. v ∷ vs ≡ map Bulk us) g (ap (λ x. x ∷ vs) (spelled_bulk d v s.0 w s.3 e) ∙ ap (λ xs. Bulk w ∷ xs) (rest ws f))

items_whole : (d : ℕ) (v : Value) (b : List ℕ) (words : Words) → IsArray (SpellsWithin d) v b → command_in v ≡ Some words → v ≡ Array (map Bulk words)
items_whole d v b words a is =
    let f : command_items a.0 ≡ Some words = sym (ap (λ o. option_and_then command_items o) (array_items a.0)) ∙ subst (λ x. command_in x ≡ Some words) a.3 is in
    let c : contents a.0 ≡ Some words = whole a.0 f in
    a.3 ∙ ap Array (all_bulks d a.0 a.2 words a.5 c) where
      whole : (vs : List Value) → command_items vs ≡ Some words → contents vs ≡ Some words
      whole [] e = absurd (grind arith)
      whole (v ∷ vs) e = e

-- the words of a command that was received
pub fits : (v : Value) (words : Words) → HasSpelling v → command_in v ≡ Some words → IsWithinLimits words
fits v words s is = ∣ subst HasSpelling (by s.1.0) s ∣₁ where
  by : SpellsWithin 4 v s.0 → v ≡ Array (map Bulk words)
  by (inl p) = absurd (no_plain v s.0 words p is)
  by (inr (inl a)) = items_whole 3 v s.0 words a is
  by (inr (inr n)) = absurd (nothing_in v words NullArray n.1 no_null_array is)
