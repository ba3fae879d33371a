-- What the arguments of a task are known to be.
use Rattle.std.proofs.Common.{◌≡◌, ◌≤◌, ℕ, List, Bool, true, false, ◌&&◌, Option, Some, None, option_and_then, is_some, if◌then◌else◌, IsUtf8, refl, sym, ap, ◌∙◌, arith}
use Rattle.std.specs.Prelude.{nat_le, not}
use Rattle.std.specs.Str.{is_utf8}
use Rattle.std.proofs.lemmas.Bool.{and_parts}
use Rattle.std.proofs.lemmas.Bool.Decides.{nat_tests}
use Rattle.std.proofs.lemmas.Str.{IsUtf8-from_is_utf8}
use Rattle.serde_json.specs.Data.{Data, depth}
use Rattle.serde_json.specs.Find.{as_array}
use Rattle.serde_json.specs.Read.{read}
use Rattle.serde_json.specs.Written.{has_float}
use Rattle.envelope.specs.Envelopes.{json_at}
use Rattle.schedule_model.specs.Drafts.{arguments_of, if_arguments}

-- the tree is read from UTF-8, has no float, and nests at most 90 deep
pub record IsArguments (j : List ℕ) (d : Data) : Type 0 where
  pub utf8 : IsUtf8 j
  pub text : read j ≡ Some d
  pub whole : has_float d ≡ false
  pub shallow : depth d ≤ 90

not_true : (b : Bool) → not b ≡ true → b ≡ false
not_true true e = cc
not_true false e = refl

same_tree : (d e : Data) → ◌≡◌ {A = Option Data} (Some d) (Some e) → d ≡ e
same_tree d e h = cc

-- a tree that may be arguments
record IsFit (d e : Data) : Type 0 where
  is : d ≡ e
  whole : has_float d ≡ false
  shallow : depth d ≤ 90

fit : (d e : Data) → if_arguments d ≡ Some e → IsFit d e
fit d e h = go (is_some (as_array d) && not (has_float d) && nat_le (depth d) 90) refl h
  where
    go : (t : Bool) → (is_some (as_array d) && not (has_float d) && nat_le (depth d) 90) ≡ t → (if t then Some d else None) ≡ Some e → IsFit d e
    go true i f =
        let a = and_parts (is_some (as_array d) && not (has_float d)) (nat_le (depth d) 90) i in
        let b = and_parts (is_some (as_array d)) (not (has_float d)) a.0 in
        let shallow : depth d ≤ 90 = let x = a.1 in grind (arith, nat_tests) in
        record { is = same_tree d e f; whole = not_true (has_float d) b.1; shallow = shallow }
    go false i f = cc

read_known : (j : List ℕ) (d : Data) → json_at j ≡ Some d → IsUtf8 j × (read j ≡ Some d)
read_known j d h = go (is_utf8 j) refl h
  where
    go : (t : Bool) → is_utf8 j ≡ t → (if t then read j else None) ≡ Some d → IsUtf8 j × (read j ≡ Some d)
    go true i f = (IsUtf8-from_is_utf8 j i, f)
    go false i f = cc

-- the arguments that a text spells
pub arguments_known : (j : List ℕ) (d : Data) → arguments_of j ≡ Some d → IsArguments j d
unfolding arguments_of
arguments_known j d h = go (json_at j) refl h
  where
    go : (o : Option Data) → json_at j ≡ o → option_and_then if_arguments o ≡ Some d → IsArguments j d
    go None i f = cc
    go (Some e) i f =
        let r = read_known j e i in
        let k = fit e d f in
        record {
          utf8 = r.0;
          text = r.1 ∙ ap (λ x. Some x) k.is;
          whole = ap has_float (sym k.is) ∙ k.whole;
          shallow = let s : depth e ≤ 90 = k.shallow in let same : depth e ≡ depth d = ap depth k.is in omega arith;
        }
