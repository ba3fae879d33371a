-- What a tree says as an envelope, member by member.
use Rattle.std.proofs.Common.{◌≡◌, ℕ, List, Bool, true, false, codes, if◌then◌else◌, Option, Some, None, option_and_then, Result, Ok, refl, ap, subst, ◌∙◌}
use Rattle.std.specs.Prelude.{IsUtf8}
use Rattle.std.specs.Str.{is_utf8}
use Rattle.std.proofs.lemmas.Str.{IsUtf8-from_is_utf8}
use Rattle.base64.specs.Engines.{standard}
use Rattle.base64.specs.GeneralPurpose.{decoded_of}
use Rattle.serde_json.specs.Data.{Data}
use Rattle.serde_json.specs.Find.{get}
use Rattle.envelope_trees.specs.declared.fault.Field.TheVariants as field
use Rattle.envelope_trees.specs.declared.fault.EnvelopeFault.{EnvelopeFault}
use Rattle.envelope_trees.specs.declared.fault.EnvelopeFault.TheVariants.{TooLong, Missing, Compressed, BadBody}
use Rattle.envelope.specs.Envelopes.{Parts, said_by, parts_of, properties_said, info_said, content_of, if_text, are_short}
use Rattle.envelope_trees.specs.Members.{text_at, object_at, says_word, is_word_any_case, is_nothing}
use Rattle.envelope_trees.specs.Reading.{◌>>=◌, needed, wanted}
use Rattle.delivery_tags.specs.Tags.{tag_of_text}
use Rattle.envelope.proofs.Said.{bind_ok, wanted_is, needed_is, said_is}

same_parts : (a b : Parts) → ◌≡◌ {A = Result Parts EnvelopeFault} (Ok a) (Ok b) → a ≡ b
same_parts a b e = cc

-- the members of delivery_info that say p
pub record IsInfoTold (body : List ℕ) (n : ℕ) (info : Data) (p : Parts) : Type 0 where
  pub exchange_is : text_at (codes "exchange") info ≡ Some p.exchange
  pub routing_key_is : text_at (codes "routing_key") info ≡ Some p.routing_key
  pub tag_is : n ≡ p.tag
  pub body_is : body ≡ p.content

info_told : (body : List ℕ) (n : ℕ) (info : Data) (p : Parts) → info_said body n info ≡ Ok p → IsInfoTold body n info p
unfolding info_said
info_told body n info p e = go (text_at (codes "exchange") info) (text_at (codes "routing_key") info) refl refl e
  where
    done : (x k : List ℕ) → text_at (codes "exchange") info ≡ Some x → text_at (codes "routing_key") info ≡ Some k → ◌≡◌ {A = Parts} (record { content = body; tag = n; exchange = x; routing_key = k }) p → IsInfoTold body n info p
    done x k i j s = record { exchange_is = i ∙ ap (λ (q : Parts). Some q.exchange) s; routing_key_is = j ∙ ap (λ (q : Parts). Some q.routing_key) s; tag_is = ap (λ (q : Parts). q.tag) s; body_is = ap (λ (q : Parts). q.content) s }

    go : (a b : Option (List ℕ)) → text_at (codes "exchange") info ≡ a → text_at (codes "routing_key") info ≡ b
        → (needed (Missing field.Exchange) a >>= λ x. needed (Missing field.RoutingKey) b >>= λ k. Ok (record { content = body; tag = n; exchange = x; routing_key = k })) ≡ Ok p → IsInfoTold body n info p
    go None b i j h = cc
    go (Some x) None i j h = cc
    go (Some x) (Some k) i j h = done x k i j (same_parts (record { content = body; tag = n; exchange = x; routing_key = k }) p h)

-- the members of the properties that say p
pub record IsPropertiesTold (body : List ℕ) (properties : Data) (p : Parts) : Type 0 where
  pub info : Data
  pub encoded : says_word (codes "base64") (text_at (codes "body_encoding") properties) ≡ true
  pub tag_is : option_and_then tag_of_text (text_at (codes "delivery_tag") properties) ≡ Some p.tag
  pub info_is : object_at (codes "delivery_info") properties ≡ Some info
  pub exchange_is : text_at (codes "exchange") info ≡ Some p.exchange
  pub routing_key_is : text_at (codes "routing_key") info ≡ Some p.routing_key
  pub body_is : body ≡ p.content

properties_told : (body : List ℕ) (properties : Data) (p : Parts) → properties_said body properties ≡ Ok p → IsPropertiesTold body properties p
unfolding properties_said
properties_told body properties p e =
    let a = bind_ok (wanted (Missing field.BodyEncoding) (says_word (codes "base64") (text_at (codes "body_encoding") properties))) _ p e in
    let b = bind_ok (needed (Missing field.DeliveryTag) (option_and_then tag_of_text (text_at (codes "delivery_tag") properties))) _ p a.2 in
    let c = bind_ok (needed (Missing field.DeliveryInfo) (object_at (codes "delivery_info") properties)) _ p b.2 in
    done b.0 c.0 (wanted_is (Missing field.BodyEncoding) _ a.0 a.1) (needed_is (Missing field.DeliveryTag) _ b.0 b.1) (needed_is (Missing field.DeliveryInfo) _ c.0 c.1) (info_told body b.0 c.0 p c.2)
  where
    done : (n : ℕ) (info : Data) → says_word (codes "base64") (text_at (codes "body_encoding") properties) ≡ true → option_and_then tag_of_text (text_at (codes "delivery_tag") properties) ≡ Some n
        → object_at (codes "delivery_info") properties ≡ Some info → IsInfoTold body n info p → IsPropertiesTold body properties p
    done n info x y z h = record { info = info; encoded = x; tag_is = y ∙ ap (λ (m : ℕ). Some m) h.tag_is; info_is = z; exchange_is = h.exchange_is; routing_key_is = h.routing_key_is; body_is = h.body_is }

-- the members of a tree that says p
pub record IsTold (d : Data) (p : Parts) : Type 0 where
  pub body : List ℕ
  pub headers : Data
  pub properties : Data
  pub said : Parts
  pub body_is : text_at (codes "body") d ≡ Some body
  pub encoding : is_word_any_case (codes "utf-8") (text_at (codes "content-encoding") d) ≡ true
  pub kind : says_word (codes "application/json") (text_at (codes "content-type") d) ≡ true
  pub headers_is : object_at (codes "headers") d ≡ Some headers
  pub properties_is : object_at (codes "properties") d ≡ Some properties
  pub inner : IsPropertiesTold body properties said
  pub plain : is_nothing (get (codes "compression") headers) ≡ true
  pub content_is : content_of body ≡ Some p.content
  pub tag_is : said.tag ≡ p.tag
  pub exchange_is : said.exchange ≡ p.exchange
  pub routing_key_is : said.routing_key ≡ p.routing_key
  pub short : are_short said.exchange said.routing_key ≡ true

-- what was read of the members
pub told_by : (d : Data) (p : Parts) → parts_of d ≡ Ok p → IsTold d p
unfolding parts_of
told_by d p e =
    let a = bind_ok (needed (Missing field.Body) (text_at (codes "body") d)) _ p e in
    let b = bind_ok (wanted (Missing field.ContentEncoding) (is_word_any_case (codes "utf-8") (text_at (codes "content-encoding") d))) _ p a.2 in
    let c = bind_ok (wanted (Missing field.ContentType) (says_word (codes "application/json") (text_at (codes "content-type") d))) _ p b.2 in
    let h = bind_ok (needed (Missing field.Headers) (object_at (codes "headers") d)) _ p c.2 in
    let q = bind_ok (needed (Missing field.Properties) (object_at (codes "properties") d)) _ p h.2 in
    let s = bind_ok (properties_said a.0 q.0) _ p q.2 in
    let t = bind_ok (wanted Compressed (is_nothing (get (codes "compression") h.0))) _ p s.2 in
    let v = bind_ok (needed BadBody (content_of a.0)) _ p t.2 in
    let w = bind_ok (wanted TooLong (are_short s.0.exchange s.0.routing_key)) _ p v.2 in
    done a.0 h.0 q.0 s.0 v.0 (needed_is (Missing field.Body) _ a.0 a.1) (wanted_is (Missing field.ContentEncoding) _ b.0 b.1) (wanted_is (Missing field.ContentType) _ c.0 c.1)
    (needed_is (Missing field.Headers) _ h.0 h.1) (needed_is (Missing field.Properties) _ q.0 q.1) (properties_told a.0 q.0 s.0 s.1) (wanted_is Compressed _ t.0 t.1) (needed_is BadBody _ v.0 v.1) (wanted_is TooLong _ w.0 w.1)
    (same_parts (record { content = v.0; tag = s.0.tag; exchange = s.0.exchange; routing_key = s.0.routing_key }) p w.2)
  where
    done : (body : List ℕ) (headers properties : Data) (said : Parts) (content : List ℕ)
        → text_at (codes "body") d ≡ Some body → is_word_any_case (codes "utf-8") (text_at (codes "content-encoding") d) ≡ true → says_word (codes "application/json") (text_at (codes "content-type") d) ≡ true
        → object_at (codes "headers") d ≡ Some headers → object_at (codes "properties") d ≡ Some properties → IsPropertiesTold body properties said
        → is_nothing (get (codes "compression") headers) ≡ true → content_of body ≡ Some content → are_short said.exchange said.routing_key ≡ true
        → ◌≡◌ {A = Parts} (record { content = content; tag = said.tag; exchange = said.exchange; routing_key = said.routing_key }) p → IsTold d p
    done body headers properties said content a b c h q s t v w same = record {
      body = body;
      headers = headers;
      properties = properties;
      said = said;
      body_is = a;
      encoding = b;
      kind = c;
      headers_is = h;
      properties_is = q;
      inner = s;
      plain = t;
      content_is = v ∙ ap (λ (x : Parts). Some x.content) same;
      tag_is = ap (λ (x : Parts). x.tag) same;
      exchange_is = ap (λ (x : Parts). x.exchange) same;
      routing_key_is = ap (λ (x : Parts). x.routing_key) same;
      short = w;
    }

-- and what the members tell is read
properties_from : (body : List ℕ) (properties : Data) (p : Parts) → IsPropertiesTold body properties p → properties_said body properties ≡ Ok p
unfolding properties_said info_said
properties_from body properties p h = rw (h.encoded, h.tag_is, h.info_is, h.exchange_is, h.routing_key_is, h.body_is) refl

pub told_from : (d : Data) (p : Parts) → IsTold d p → parts_of d ≡ Ok p
unfolding parts_of
told_from d p h =
    rw (h.body_is, h.encoding, h.kind, h.headers_is, h.properties_is, properties_from h.body h.properties h.said h.inner, h.plain, h.content_is, h.short, h.tag_is, h.exchange_is, h.routing_key_is) refl

-- ---- what is said is text

text_only : (v c : List ℕ) → if_text v ≡ Some c → IsUtf8 c
text_only v c e = go (is_utf8 v) refl e
  where
    go : (t : Bool) → is_utf8 v ≡ t → (if t then Some v else None) ≡ Some c → IsUtf8 c
    go true i f = let s : v ≡ c = cc in subst IsUtf8 s (IsUtf8-from_is_utf8 v i)
    go false i f = cc

content_text : (o : Option (List ℕ)) (c : List ℕ) → option_and_then if_text o ≡ Some c → IsUtf8 c
content_text None c e = cc
content_text (Some v) c e = text_only v c e

-- the content of an envelope is UTF-8
pub said_text : (d : Data) (p : Parts) → said_by d ≡ Ok p → IsUtf8 p.content
unfolding content_of
said_text d p e = let h = told_by d p (said_is d p e).parts in content_text (decoded_of standard h.body) p.content h.content_is
