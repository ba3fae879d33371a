-- What contents read as, and the bodies that are written. This serves the proofs of code.
use Rattle.std.proofs.Common.{◌≡◌, List, ℕ, ℤ, suc, Bool, true, false, Option, Some, None, Ok, Err, Result, if◌then◌else◌, codes, refl, sym}
use Rattle.std.specs.Prelude.{⊤, IsUtf8, nat_le, not, option_and_then}
use Rattle.std.proofs.lemmas.Str.{is_utf8-from_IsUtf8}
use Rattle.base64.specs.Engines.{standard}
use Rattle.base64.specs.GeneralPurpose.{decode_of, decoded_of, encode_of}
use Rattle.serde_json.specs.Data.{Data, depth, number, put, string, unsigned}
use Rattle.serde_json.specs.Read.{read}
use Rattle.serde_json.specs.Written.{has_float}
use Rattle.envelope.specs.Envelopes.{content_of, json_at, max_levels, parts_in}
use Rattle.moments.specs.MomentTexts.{moment_text}
use Rattle.task_message.specs.declared.fault.TaskFault.{TaskFault}
use Rattle.task_message.specs.declared.fault.TaskFault.TheVariants.{BadField, Float}
use Rattle.task_message.specs.declared.fault.Part.TheVariants as part
use Rattle.task_message.specs.Again.{retried}
use Rattle.task_message.specs.Reading.{◌>>=◌, needed, wanted}
use Rattle.task_message.specs.Tasks.{TaskParts, content_in, headers_in, if_shallow, task_in, task_of}
use Rattle.task_message.proofs.ReadTexts.{json_none}
use Rattle.task_again.proofs.KeptTrees.{tame_object, tame_put, tame_within}

-- a content that reads as nothing isn't one that reads as a tree
pub not_nothing : (b : List ℕ) (d : Data) → json_at b ≡ Some d → (IsUtf8 b → read b ≡ None) → ⊥
not_nothing b d e f = let none = json_none b f in cc

-- ---- the content of a task

ok_by : {A B : Type 0} (r : Result A TaskFault) (f : A → Result B TaskFault) (y : B) → (r >>= f) ≡ Ok y → (x : A) × (r ≡ Ok x) × (f x ≡ Ok y)
ok_by (Ok x) f y e = (x, refl, e)
ok_by (Err x) f y e = cc

needed_ok : {A : Type 0} (fault : TaskFault) (o : Option A) (x : A) → needed fault o ≡ Ok x → o ≡ Some x
needed_ok fault (Some y) x e = cc
needed_ok fault None x e = cc

wanted_ok : (fault : TaskFault) (b : Bool) (x : ⊤) → wanted fault b ≡ Ok x → b ≡ true
wanted_ok fault true x e = refl
wanted_ok fault false x e = cc

same_ok : (a b : Data) → ◌≡◌ {A = Result Data TaskFault} (Ok a) (Ok b) → a ≡ b
same_ok a b e = cc

shallow_is : (o : Option Data) (c : Data) → option_and_then if_shallow o ≡ Some c → o ≡ Some c
shallow_is None c e = cc
shallow_is (Some d) c e = go (nat_le (depth d) max_levels) e
  where
    go : (b : Bool) → (if b then Some d else None) ≡ Some c → Some d ≡ Some c
    go true h = h
    go false h = cc

not_true : (b : Bool) → not b ≡ true → b ≡ false
not_true true e = sym e
not_true false e = refl

-- the content of an envelope that carries a task is JSON without a float
pub content_known : (d : Data) (t : TaskParts) → task_of d ≡ Ok t → (c : Data) × (json_at (parts_in d).content ≡ Some c) × (has_float c ≡ false)
unfolding task_of content_in
content_known d t e =
    let a = ok_by (content_in (parts_in d).content) (task_in (headers_in d)) t e in
    let b = ok_by (needed (BadField part.Body) (option_and_then if_shallow (json_at (parts_in d).content))) _ a.0 a.1 in
    let w = ok_by (wanted Float (not (has_float b.0))) _ a.0 b.2 in
    let same = same_ok b.0 a.0 w.2 in
    (b.0, shallow_is (json_at (parts_in d).content) b.0 (needed_ok (BadField part.Body) _ b.0 b.1), not_true (has_float b.0) (wanted_ok Float _ w.0 w.1))

-- a retry puts no float into a tree
pub retried_whole : (r : ℕ) (eta : ℤ) (d : Data) → has_float d ≡ false → has_float (retried r eta d) ≡ false
retried_whole r eta d h =
    (tame_object _ (tame_within (put (codes "eta") (string (moment_text eta))) (put (codes "retries") (number (unsigned (suc r)))) (tame_put (codes "eta") (string (moment_text eta)) refl refl) (tame_put (codes "retries") (number (unsigned (suc r))) refl refl))).whole d h

-- what was encoded is decoded
pub content_back : (c : List ℕ) → decode_of standard (encode_of standard c) ≡ Ok c → IsUtf8 c → content_of (encode_of standard c) ≡ Some c
unfolding content_of decoded_of
content_back c e utf8 = rw (e, is_utf8-from_IsUtf8 c utf8) refl
