-- What an envelope's tree is known to be.
use Rattle.std.proofs.Common.{◌≡◌, ℕ, ◌≤◌, List, length, Bool, true, false, Option, Some, None, Result, Ok, Err, refl, sym, ap, subst, ◌∙◌, arith}
use Rattle.std.specs.Prelude.{IsUtf8, nat_le, not, ⊤}
use Rattle.std.proofs.lemmas.Bool.Decides.{nat_tests}
use Rattle.serde_json.specs.Data.{Data, depth}
use Rattle.serde_json.specs.Read.{max_depth, read}
use Rattle.serde_json.specs.Written.{has_float, compact_text}
use Rattle.envelope_trees.specs.Marks.{marked}
use Rattle.envelope_trees.specs.declared.fault.EnvelopeFault.{EnvelopeFault}
use Rattle.envelope_trees.specs.declared.fault.EnvelopeFault.TheVariants.{TooLong, TooDeep, Float}
use Rattle.envelope_trees.specs.Reading.{◌>>=◌, needed, wanted}
use Rattle.envelope.specs.Envelopes.{Parts, parts_of, said_by, tree_at, envelope_of, envelope_at, max_bytes, max_text, max_levels}
use Rattle.envelope.proofs.Texts.{json_some}

-- what a reading went through
pub bind_ok : {A B : Type 0} (r : Result A EnvelopeFault) (f : A → Result B EnvelopeFault) (y : B) → (r >>= f) ≡ Ok y → (x : A) × (r ≡ Ok x) × (f x ≡ Ok y)
bind_ok (Ok x) f y e = (x, refl, e)
bind_ok (Err x) f y e = cc

-- what was wanted holds
pub wanted_is : (fault : EnvelopeFault) (b : Bool) (x : ⊤) → wanted fault b ≡ Ok x → b ≡ true
wanted_is fault true x e = refl
wanted_is fault false x e = cc

-- what was needed is there
pub needed_is : {A : Type 0} (fault : EnvelopeFault) (o : Option A) (x : A) → needed fault o ≡ Ok x → o ≡ Some x
needed_is fault None x e = cc
needed_is fault (Some y) x e = let s : y ≡ x = cc in ap (λ z. Some z) s

-- a reading goes on with what was read
pub went : {A B : Type 0} (r : Result A EnvelopeFault) (f : A → Result B EnvelopeFault) (x : A) (y : B) → r ≡ Ok x → f x ≡ Ok y → (r >>= f) ≡ Ok y
went r f x y e h = ap (λ z. z >>= f) e ∙ h

not_true : (b : Bool) → not b ≡ true → b ≡ false
not_true true e = cc
not_true false e = refl

-- a tree that is shallow and has no float
pub record IsPlain (d : Data) : Type 0 where
  pub shallow : depth d ≤ 100
  pub whole : has_float d ≡ false

-- what is known of an envelope's tree
pub record IsSaid (d : Data) (p : Parts) : Type 0 where
  pub plain : IsPlain d
  pub parts : parts_of d ≡ Ok p
  pub text : length (compact_text d) ≤ max_bytes
  pub marks : length (compact_text (marked d)) ≤ max_text

pub said_is : (d : Data) (p : Parts) → said_by d ≡ Ok p → IsSaid d p
unfolding said_by
said_is d p e =
    let a = bind_ok (wanted TooDeep (nat_le (depth d) max_levels)) _ p e in
    let b = bind_ok (wanted Float (not (has_float d))) _ p a.2 in
    let c = bind_ok (parts_of d) _ p b.2 in
    let f = bind_ok (wanted TooLong (nat_le (length (compact_text d)) max_bytes)) _ p c.2 in
    let g = bind_ok (wanted TooLong (nat_le (length (compact_text (marked d))) max_text)) _ p f.2 in
    let shallow : depth d ≤ 100 = let x = wanted_is TooDeep _ a.0 a.1 in grind (arith, nat_tests) in
    let text : length (compact_text d) ≤ max_bytes = let x = wanted_is TooLong _ f.0 f.1 in grind (arith, nat_tests) in
    let marks : length (compact_text (marked d)) ≤ max_text = let x = wanted_is TooLong _ g.0 g.1 in grind (arith, nat_tests) in
    let same : c.0 ≡ p = last c.0 p g.2 in
    record { plain = record { shallow = shallow; whole = not_true _ (wanted_is Float _ b.0 b.1) }; parts = c.1 ∙ ap (λ x. Ok x) same; text = text; marks = marks }
  where
    last : (x y : Parts) → ◌≡◌ {A = Result Parts EnvelopeFault} (Ok x) (Ok y) → x ≡ y
    last x y e = cc

-- and what is known tells it
pub said_from : (d : Data) (p : Parts) → IsSaid d p → said_by d ≡ Ok p
unfolding said_by
said_from d p h =
    let shallow : nat_le (depth d) max_levels ≡ true = let x = h.plain.shallow in grind (arith, nat_tests) in
    let text : nat_le (length (compact_text d)) max_bytes ≡ true = let x = h.text in grind (arith, nat_tests) in
    let marks : nat_le (length (compact_text (marked d))) max_text ≡ true = let x = h.marks in grind (arith, nat_tests) in
    rw (shallow, h.plain.whole, h.parts, text, marks) refl

-- bytes that are read as an envelope's tree are that envelope
pub envelope_is : (d : Data) (p : Parts) (b : List ℕ) → said_by d ≡ Ok p → IsUtf8 b → read b ≡ Some d → length b ≤ max_bytes → envelope_at b ≡ Ok d
unfolding envelope_at tree_at envelope_of
envelope_is d p b said utf8 reads fits =
    let short : nat_le (length b) max_bytes ≡ true = grind (arith, nat_tests) in
    rw (short, json_some b d utf8 reads, said) refl

-- the text of an envelope's tree that a writer gives is its compact text, and is read again as the tree
pub whole_is : (d : Data) (p : Parts) (t : List ℕ) → said_by d ≡ Ok p → (has_float d ≡ false → t ≡ compact_text d) → IsUtf8 t → (depth d ≤ max_depth → read t ≡ Some d)
    → (t ≡ compact_text d) × (envelope_at t ≡ Ok d)
whole_is d p t said text utf8 back =
    let known = said_is d p said in
    let written : t ≡ compact_text d = text known.plain.whole in
    let deep : depth d ≤ max_depth = let x = known.plain.shallow in omega arith in
    let fits : length t ≤ max_bytes = subst (λ (b : List ℕ). length b ≤ max_bytes) (sym written) known.text in
    (written, envelope_is d p t said utf8 (back deep) fits)
