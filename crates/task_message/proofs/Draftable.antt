-- What is known of a task that can be drafted, and of its content. This serves the proofs of code.
use Rattle.std.proofs.Common.{◌≡◌, ◌≤◌, ◌⊎◌, inl, inr, ℕ, ◌+◌, ◌==◌, ◌&&◌, ◌||◌, List, length, max, Bool, true, false, codes, cond, Option, Some, None, refl, sym, ap, ◌∙◌, arith}
use Rattle.std.specs.Prelude.{ℤ, IsUtf8, is_some, not, nat_le}
use Rattle.std.specs.Str.{is_utf8}
use Rattle.std.proofs.lemmas.Bool.{and_parts}
use Rattle.std.proofs.lemmas.Bool.Decides.{nat_tests}
use Rattle.std.proofs.lemmas.Str.{IsUtf8-from_is_utf8}
use Rattle.serde_json.specs.Data.{Data, depth, null, string}
use Rattle.serde_json.specs.Find.{as_array, as_object}
use Rattle.serde_json.specs.Read.{max_depth}
use Rattle.serde_json.specs.Written.{has_float}
use Rattle.task_message.specs.Drafted.{call_tree, can_draft, drafted_content, is_argument, is_filled, is_writable, max_argument_levels, moment_data, told_tree}
use Rattle.task_message.specs.Tasks.{TaskParts}

-- a task that can be drafted
pub record IsDraftable (t : TaskParts) : Type 0 where
  pub name_text : is_utf8 t.name ≡ true
  pub name_some : 1 ≤ length t.name
  pub id_text : is_utf8 t.id ≡ true
  pub id_some : 1 ≤ length t.id
  pub args_array : is_some (as_array t.args) ≡ true
  pub args_whole : has_float t.args ≡ false
  pub args_depth : depth t.args ≤ max_argument_levels
  pub kwargs_object : is_some (as_object t.kwargs) ≡ true
  pub kwargs_whole : has_float t.kwargs ≡ false
  pub kwargs_depth : depth t.kwargs ≤ max_argument_levels
  pub eta : is_writable t.settings.eta ≡ true
  pub expires : is_writable t.settings.expires ≡ true
  pub version : (t.version == 1 || t.version == 2) ≡ true

not_true : (b : Bool) → not b ≡ true → b ≡ false
not_true true e = sym e
not_true false e = refl

below : (m n : ℕ) → nat_le m n ≡ true → m ≤ n
below m n e = grind (arith, nat_tests)

pub draftable : (t : TaskParts) → can_draft t ≡ true → IsDraftable t
draftable t e =
    let a = and_parts _ (is_writable t.settings.expires) e in
    let b = and_parts _ (is_writable t.settings.eta) a.0 in
    let c = and_parts _ (is_some (as_object t.kwargs) && is_argument t.kwargs) b.0 in
    let d = and_parts _ (is_some (as_array t.args) && is_argument t.args) c.0 in
    let f = and_parts _ (is_filled t.id) d.0 in
    let g = and_parts (t.version == 1 || t.version == 2) (is_filled t.name) f.0 in
    let k = and_parts (is_some (as_object t.kwargs)) (is_argument t.kwargs) c.1 in
    let l = and_parts (not (has_float t.kwargs)) (nat_le (depth t.kwargs) max_argument_levels) k.1 in
    let m = and_parts (is_some (as_array t.args)) (is_argument t.args) d.1 in
    let n = and_parts (not (has_float t.args)) (nat_le (depth t.args) max_argument_levels) m.1 in
    let p = and_parts (is_utf8 t.id) (nat_le 1 (length t.id)) f.1 in
    let q = and_parts (is_utf8 t.name) (nat_le 1 (length t.name)) g.1 in
    record {
      name_text = q.0;
      name_some = below 1 (length t.name) q.1;
      id_text = p.0;
      id_some = below 1 (length t.id) p.1;
      args_array = m.0;
      args_whole = not_true (has_float t.args) n.0;
      args_depth = below (depth t.args) max_argument_levels n.1;
      kwargs_object = k.0;
      kwargs_whole = not_true (has_float t.kwargs) l.0;
      kwargs_depth = below (depth t.kwargs) max_argument_levels l.1;
      eta = b.1;
      expires = a.1;
      version = g.0;
    }

-- ---- the content

plain_moment : (o : Option ℤ) → (has_float (moment_data o) ≡ false) × (depth (moment_data o) ≡ 0)
plain_moment None = (refl, refl)
plain_moment (Some m) = (refl, refl)

all_false : (a b c d : Bool) → a ≡ false → b ≡ false → c ≡ false → d ≡ false → (a || (b || (c || (false || (d || (false || (false || (false || false)))))))) ≡ false
all_false a b c d e f g h = rw (e, f, g, h) refl

both_false : (a b : Bool) → a ≡ false → b ≡ false → (a || (b || false)) ≡ false
both_false a b e f = rw (e, f) refl

pub content_whole : (t : TaskParts) → IsDraftable t → has_float (drafted_content t) ≡ false
content_whole t i = go (t.version == 1)
  where
    go : (b : Bool) → has_float (cond b (told_tree t) (call_tree t)) ≡ false
    go true = all_false (has_float t.args) (has_float (moment_data t.settings.eta)) (has_float (moment_data t.settings.expires)) (has_float t.kwargs) i.args_whole (plain_moment t.settings.eta).0 (plain_moment t.settings.expires).0 i.kwargs_whole
    go false = both_false (has_float t.args) (has_float t.kwargs) i.args_whole i.kwargs_whole

pub content_shallow : (t : TaskParts) → IsDraftable t → depth (drafted_content t) ≤ 92
content_shallow t i = go (t.version == 1)
  where
    go : (b : Bool) → depth (cond b (told_tree t) (call_tree t)) ≤ 92
    go true = omega (arith, i.args_depth, i.kwargs_depth, (plain_moment t.settings.eta).1, (plain_moment t.settings.expires).1)
    go false = omega (arith, i.args_depth, i.kwargs_depth)
