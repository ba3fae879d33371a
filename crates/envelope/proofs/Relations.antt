-- What is read as an envelope or an entry is one, member by member, and each one is read.
use Rattle.std.proofs.Common.{◌≡◌, ◌≤◌, ℕ, List, length, Bool, true, false, codes, if◌then◌else◌, Option, Some, None, option_and_then, Result, Ok, Err, IsUtf8, refl, ap, subst, ◌∙◌, arith}
use Rattle.std.specs.Prelude.{nat_le}
use Rattle.std.specs.Result.{result_ok}
use Rattle.std.specs.Str.{is_utf8}
use Rattle.std.proofs.lemmas.Bool.{and_from, and_parts}
use Rattle.std.proofs.lemmas.Bool.Decides.{nat_tests}
use Rattle.std.proofs.lemmas.Slice.Eq.{bytes_eq-Decides}
use Rattle.std.proofs.lemmas.Str.{IsUtf8-from_is_utf8, is_utf8-from_IsUtf8}
use Rattle.base64.specs.Engines.{standard}
use Rattle.base64.specs.GeneralPurpose.{IsBytes, decode_of, decoded_of, encode_of}
use Rattle.base64.specs.declared.decode.DecodeError.{DecodeError}
use Rattle.base64.proofs.EngineFacts.{decode_of-encode_of, decode_of_strict}
use Rattle.serde_json.specs.Data.{Data}
use Rattle.envelope.specs.Envelopes.{Parts, content_of, envelope_at, if_text, max_name, parts_in, parts_or_none, said_by}
use Rattle.envelope_trees.specs.Members.{says_word}
use Rattle.envelope.specs.Relations.{HasMembers, IsEnvelope, IsProperties, IsTree}
use Rattle.envelope.proofs.BodyTexts.{envelope_from_read}
use Rattle.envelope.proofs.EntryTexts.{short_names}
use Rattle.envelope.proofs.Said.{envelope_is, said_from, said_is}
use Rattle.envelope.proofs.Contents.{content_back}
use Rattle.envelope.proofs.Told.{IsPropertiesTold, IsTold, told_by, told_from}
use Rattle.json_texts.specs.Trees.{HasTexts}
use Rattle.json_texts.proofs.Trees.{reads_texts}
use Rattle.envelope.proofs.Members.{text_at-texts}
use Rattle.envelope.proofs.Octets.{utf8_bytes}

-- ---- words and bodies

word_is : (word : List ℕ) (o : Option (List ℕ)) → says_word word o ≡ true → o ≡ Some word
word_is word None e = cc
word_is word (Some s) e = ap (λ (x : List ℕ). Some x) ((bytes_eq-Decides s word).0 e)

is_the_word : (word : List ℕ) (o : Option (List ℕ)) → o ≡ Some word → says_word word o ≡ true
is_the_word word o e = ap (says_word word) e ∙ (bytes_eq-Decides word word).1 refl

text_is : (v c : List ℕ) → if_text v ≡ Some c → (v ≡ c) × IsUtf8 c
text_is v c e = go (is_utf8 v) refl e
  where
    go : (t : Bool) → is_utf8 v ≡ t → (if t then Some v else None) ≡ Some c → (v ≡ c) × IsUtf8 c
    go true i f = let s : v ≡ c = cc in (s, subst IsUtf8 s (IsUtf8-from_is_utf8 v i))
    go false i f = cc

-- a body is the base64 of its content
body_is : (body c : List ℕ) → IsBytes body → content_of body ≡ Some c → (body ≡ encode_of standard c) × IsUtf8 c
unfolding content_of decoded_of
body_is body c bytes e = go (decode_of standard body) refl e
  where
    go : (r : Result (List ℕ) DecodeError) → decode_of standard body ≡ r → option_and_then if_text (result_ok r) ≡ Some c → (body ≡ encode_of standard c) × IsUtf8 c
    go (Err f) i h = cc
    go (Ok v) i h = let t = text_is v c h in (decode_of_strict standard body v (refl, refl) bytes i ∙ ap (encode_of standard) t.0, t.1)

body_told : (c : List ℕ) → IsUtf8 c → content_of (encode_of standard c) ≡ Some c
body_told c text = content_back c (decode_of-encode_of standard c refl (utf8_bytes c text)) ∙ by (is_utf8 c) (is_utf8-from_IsUtf8 c text)
  where
    by : (b : Bool) → b ≡ true → (if b then Some c else None) ≡ Some c
    by true e = refl
    by false e = cc

pub short_is : (s : List ℕ) → nat_le (length s) max_name ≡ true → length s ≤ max_name
short_is s e = grind (arith, nat_tests)

pub is_short : (s : List ℕ) → length s ≤ max_name → nat_le (length s) max_name ≡ true
is_short s e = grind (arith, nat_tests)

-- ---- trees

inner_from : (body : List ℕ) (q : Data) (said p : Parts) → IsPropertiesTold body q said → said.tag ≡ p.tag → said.exchange ≡ p.exchange → said.routing_key ≡ p.routing_key → IsProperties q p
inner_from body q said p h t x r = record {
  body_encoding = word_is (codes "base64") _ h.encoded;
  delivery_tag = h.tag_is ∙ ap (λ (n : ℕ). Some n) t;
  info = h.info;
  delivery_info = h.info_is;
  way = record { exchange = h.exchange_is ∙ ap (λ (s : List ℕ). Some s) x; routing_key = h.routing_key_is ∙ ap (λ (s : List ℕ). Some s) r };
}

members_from : (d : Data) (p : Parts) → HasTexts d → IsTold d p → HasMembers d p
members_from d p texts h =
    let b = body_is h.body p.content (utf8_bytes h.body (text_at-texts (codes "body") d h.body texts h.body_is)) h.content_is in
    record {
      body = h.body_is ∙ ap (λ (s : List ℕ). Some s) b.0;
      content = b.1;
      content_encoding = h.encoding;
      content_type = word_is (codes "application/json") _ h.kind;
      headers = h.headers;
      headers_is = h.headers_is;
      uncompressed = h.plain;
      properties = h.properties;
      properties_is = h.properties_is;
      inner = inner_from h.body h.properties h.said p h.inner h.tag_is h.exchange_is h.routing_key_is;
    }

-- a tree of texts that says the parts is an envelope's
pub tree_from : (d : Data) (p : Parts) → HasTexts d → said_by d ≡ Ok p → IsTree d p
tree_from d p texts e =
    let h = said_is d p e in
    let s = and_parts _ _ (short_names d p e) in
    record {
      members = members_from d p texts (told_by d p h.parts);
      shallow = h.plain.shallow;
      whole = h.plain.whole;
      exchange_short = short_is p.exchange s.0;
      routing_key_short = short_is p.routing_key s.1;
      text_short = h.text;
      marked_short = h.marks;
    }

properties_told : (body : List ℕ) (q : Data) (p : Parts) (content : List ℕ) → IsProperties q p → IsPropertiesTold body q (record { content = body; tag = p.tag; exchange = p.exchange; routing_key = p.routing_key })
properties_told body q p content h = record {
  info = h.info;
  encoded = is_the_word (codes "base64") _ h.body_encoding;
  tag_is = h.delivery_tag;
  info_is = h.delivery_info;
  exchange_is = h.way.exchange;
  routing_key_is = h.way.routing_key;
  body_is = refl;
}

-- an envelope's tree says its parts
pub tree_said : (d : Data) (p : Parts) → IsTree d p → said_by d ≡ Ok p
tree_said d p h =
    let m = h.members in
    let told : IsTold d p = record {
      body = encode_of standard p.content;
      headers = m.headers;
      properties = m.properties;
      said = record { content = encode_of standard p.content; tag = p.tag; exchange = p.exchange; routing_key = p.routing_key };
      body_is = m.body;
      encoding = m.content_encoding;
      kind = is_the_word (codes "application/json") _ m.content_type;
      headers_is = m.headers_is;
      properties_is = m.properties_is;
      inner = properties_told (encode_of standard p.content) m.properties p p.content m.inner;
      plain = m.uncompressed;
      content_is = body_told p.content m.content;
      tag_is = refl;
      exchange_is = refl;
      routing_key_is = refl;
      short = and_from _ _ (is_short p.exchange h.exchange_short) (is_short p.routing_key h.routing_key_short);
    } in
    said_from d p (record { plain = record { shallow = h.shallow; whole = h.whole }; parts = told_from d p told; text = h.text_short; marks = h.marked_short })

-- ---- bytes

pub envelope_from : (d : Data) (b : List ℕ) → envelope_at b ≡ Ok d → IsEnvelope d b
envelope_from d b e =
    let h = envelope_from_read d b e in
    record { short = h.short; utf8 = h.utf8; text = h.text; parts = parts_in d; tree = tree_from d (parts_in d) (reads_texts b d h.utf8 h.text) h.said }

pub envelope_read : (d : Data) (b : List ℕ) → IsEnvelope d b → envelope_at b ≡ Ok d
envelope_read d b h = envelope_is d h.parts b (tree_said d h.parts h.tree) h.utf8 h.text h.short

pub parts_are : (d : Data) (p : Parts) → IsTree d p → parts_in d ≡ p
parts_are d p h = ap parts_or_none (tree_said d p h)
