-- What bytes read as.
use Rattle.std.proofs.Common.{◌≡◌, List, ℕ, Bool, true, false, Some, None, refl}
use Rattle.std.specs.Prelude.{IsUtf8}
use Rattle.std.specs.Str.{is_utf8}
use Rattle.std.proofs.lemmas.Str.{is_utf8-from_IsUtf8, IsUtf8-from_is_utf8}
use Rattle.serde_json.specs.Data.{Data}
use Rattle.serde_json.specs.Read.{read}
use Rattle.std.proofs.Common.{Ok, Err}
use Rattle.base64.specs.declared.decode.DecodeError.{DecodeError}
use Rattle.base64.specs.Engines.{standard}
use Rattle.base64.specs.GeneralPurpose.{decode_of, encode_of, decoded_of, IsBytes}
use Rattle.envelope.specs.Envelopes.{json_at, content_of}

pub json_some : (b : List ℕ) (d : Data) → IsUtf8 b → read b ≡ Some d → json_at b ≡ Some d
json_some b d utf8 e = rw (is_utf8-from_IsUtf8 b utf8) e

none_by : (b : List ℕ) (t : Bool) → is_utf8 b ≡ t → (IsUtf8 b → read b ≡ None) → json_at b ≡ None
none_by b true e f = rw e (f (IsUtf8-from_is_utf8 b e))
none_by b false e f = rw e refl

pub json_none : (b : List ℕ) → (IsUtf8 b → read b ≡ None) → json_at b ≡ None
json_none b f = none_by b _ refl f

pub content_some : (body v : List ℕ) → decode_of standard body ≡ Ok v → IsUtf8 v → content_of body ≡ Some v
unfolding content_of decoded_of
content_some body v e utf8 = rw (e, is_utf8-from_IsUtf8 v utf8) refl

not_utf8 : (v : List ℕ) (t : Bool) → is_utf8 v ≡ t → (IsUtf8 v → ⊥) → t ≡ false
not_utf8 v true e bad = absurd (bad (IsUtf8-from_is_utf8 v e))
not_utf8 v false e bad = refl

pub content_no_text : (body v : List ℕ) → decode_of standard body ≡ Ok v → (IsUtf8 v → ⊥) → content_of body ≡ None
unfolding content_of decoded_of
content_no_text body v e bad = rw (e, not_utf8 v _ refl bad) refl

pub content_no_base64 : (body : List ℕ) (f : DecodeError) → decode_of standard body ≡ Err f → content_of body ≡ None
unfolding content_of decoded_of
content_no_base64 body f e = rw e refl

-- the canonical base64 text of UTF-8 is content, and no other text is
pub content_again : (b : List ℕ) → IsUtf8 b → IsBytes b → ((b : List ℕ) → IsBytes b → (decode_of standard (encode_of standard b) ≡ Ok b)) → content_of (encode_of standard b) ≡ Some b
content_again b utf8 bytes law = content_some (encode_of standard b) b (law b bytes) utf8
