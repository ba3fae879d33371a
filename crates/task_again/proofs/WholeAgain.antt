-- The tree of a task that is sent again is an envelope's, but for its length. This serves the proofs of code.
use Rattle.std.proofs.Common.{◌≡◌, ◌^◌, ◌<◌, ◌==◌, ◌&&◌, ℕ, ℤ, suc, List, length, Bool, true, false, cond, codes, Option, Some, None, option_map, option_and_then, Result, Ok, Err, if◌then◌else◌, refl, sym, ap, ◌∙◌, arith}
use Rattle.std.specs.Prelude.{nat_le}
use Rattle.serde_json.specs.Data.{Data, null, boolean, number, unsigned, string, array, object, Members, put, depth}
use Rattle.serde_json.specs.Find.{get, as_str}
use Rattle.serde_json.specs.Written.{compact_text}
use Rattle.std.proofs.lemmas.Bool.Decides.{nat_tests}
use Rattle.envelope.specs.Envelopes.{Parts, content_of, envelope_of, max_bytes, max_levels, max_text, parts_in, said_by}
use Rattle.envelope_trees.specs.Marks.{marked, on_object, with_member}
use Rattle.envelope_trees.specs.Members.{if_object, is_nothing, is_word_any_case, object_at, says_word, text_at}
use Rattle.envelope_trees.specs.Reading.{◌>>=◌, Fails, wanted}
use Rattle.delivery_tags.specs.Tags.{tag_of_text, tag_text}
use Rattle.envelope_trees.specs.declared.fault.EnvelopeFault.{EnvelopeFault}
use Rattle.envelope_trees.specs.declared.fault.EnvelopeFault.TheVariants.{TooLong, NotJson, TooDeep, Float, Missing, Compressed, BadBody, Memory}
use Rattle.envelope.proofs.MarkedSaid.{get_other, get_same}
use Rattle.envelope.proofs.Said.{said_is}
use Rattle.delivery_tags.proofs.TagTexts.{tag_of_text-tag_text}
use Rattle.envelope.proofs.Told.{IsPropertiesTold, IsTold, told_by, told_from}
use Rattle.moments.specs.MomentTexts.{moment_text}
use Rattle.task_message.specs.Again.{again_tree, body_again, headers_again, if_short, properties_again, retried, unmarked, with_body, without}
use Rattle.task_message.specs.declared.fault.TaskFault.{TaskFault}
use Rattle.task_message.specs.declared.fault.TaskFault.TheVariants.{TooLong as TaskTooLong}
use Rattle.task_message.specs.Reading as task
use Rattle.task_again.specs.Whole.{IsBody, IsOfLength, IsWhole, refused}
use Rattle.task_again.proofs.KeptTrees.{IsTame, get_put, get_put_other, get_without, off, tame_both, tame_change, tame_object, tame_put, tame_within, tame_without}

-- ---- tame

tame_unmarked : IsTame unmarked
tame_unmarked = tame_object (without (codes "redelivered")) (tame_without (codes "redelivered"))

tame_retried : (r : ℕ) (eta : ℤ) → IsTame (retried r eta)
tame_retried r eta =
    tame_object _ (tame_within (put (codes "eta") (string (moment_text eta))) (put (codes "retries") (number (unsigned (suc r)))) (tame_put (codes "eta") (string (moment_text eta)) refl refl) (tame_put (codes "retries") (number (unsigned (suc r))) refl refl))

tame_headers : (version r : ℕ) (eta : ℤ) → IsTame (headers_again version r eta)
tame_headers version r eta = go (version == 1)
  where
    go : (b : Bool) → IsTame (λ d. cond b (unmarked d) (retried r eta (unmarked d)))
    go true = tame_unmarked
    go false = tame_both (retried r eta) unmarked (tame_retried r eta) tame_unmarked

tame_properties : (n : ℕ) → IsTame (properties_again n)
tame_properties n =
    tame_both (on_object (put (codes "delivery_tag") (string (tag_text n)))) (with_member (codes "delivery_info") unmarked)
    (tame_object _ (tame_put (codes "delivery_tag") (string (tag_text n)) refl refl)) (tame_object _ (tame_change (codes "delivery_info") unmarked tame_unmarked))

pub tame_body : (version : ℕ) (body : List ℕ) → IsTame (with_body version body)
tame_body version body = go (version == 1)
  where
    go : (b : Bool) → IsTame (λ d. cond b (on_object (put (codes "body") (string body)) d) d)
    go true = tame_object _ (tame_put (codes "body") (string body) refl refl)
    go false = record { depth = λ d. omega arith; whole = λ d h. h }

-- ---- objects stay objects

-- the value is an object, and stays one
KeepsObjects : (Data → Data) → Type 0
KeepsObjects f = (d h : Data) → if_object d ≡ Some h → if_object (f d) ≡ Some (f h)

objects_kept : (g : Members → Members) → KeepsObjects (on_object g)
unfolding KeepsObjects
objects_kept g null h e = cc
objects_kept g (boolean b) h e = cc
objects_kept g (number n) h e = cc
objects_kept g (string s) h e = cc
objects_kept g (array ds) h e = cc
objects_kept g (object ms) h e = ap (option_map (on_object g)) e

objects_both : (f g : Data → Data) → KeepsObjects f → KeepsObjects g → KeepsObjects (λ d. f (g d))
unfolding KeepsObjects
objects_both f g s t d h e = s (g d) (g h) (t d h e)

objects_headers : (version r : ℕ) (eta : ℤ) → KeepsObjects (headers_again version r eta)
unfolding KeepsObjects
objects_headers version r eta = go (version == 1)
  where
    go : (b : Bool) → KeepsObjects (λ d. cond b (unmarked d) (retried r eta (unmarked d)))
    go true = objects_kept (without (codes "redelivered"))
    go false = objects_both (retried r eta) unmarked (objects_kept _) (objects_kept (without (codes "redelivered")))

objects_properties : (n : ℕ) → KeepsObjects (properties_again n)
unfolding KeepsObjects
objects_properties n =
    objects_both (on_object (put (codes "delivery_tag") (string (tag_text n)))) (with_member (codes "delivery_info") unmarked) (objects_kept _) (objects_kept _)

-- an object at a name, after f of what stands there
object_there : (k : List ℕ) (f : Data → Data) (d h : Data) → KeepsObjects f → object_at k d ≡ Some h → object_at k (with_member k f d) ≡ Some (f h)
unfolding KeepsObjects
object_there k f d h keeps e = ap (option_and_then if_object) (get_same k f d) ∙ go (get k d) e
  where
    go : (o : Option Data) → option_and_then if_object o ≡ Some h → option_and_then if_object (option_map f o) ≡ Some (f h)
    go None i = cc
    go (Some x) i = keeps x h i

-- ---- headers, properties and body

compression_kept : (version r : ℕ) (eta : ℤ) (h : Data) → get (codes "compression") (headers_again version r eta h) ≡ get (codes "compression") h
compression_kept version r eta h = go (version == 1)
  where
    plain : get (codes "compression") (unmarked h) ≡ get (codes "compression") h
    plain = get_without (codes "compression") (codes "redelivered") h (off (codes "compression") (codes "redelivered") refl)

    settings : (d : Data) → get (codes "compression") (retried r eta d) ≡ get (codes "compression") d
    settings null = refl
    settings (boolean b) = refl
    settings (number n) = refl
    settings (string s) = refl
    settings (array ds) = refl
    settings (object ms) =
        get_put_other (codes "compression") (codes "eta") (string (moment_text eta)) (object (put (codes "retries") (number (unsigned (suc r))) ms)) (off (codes "compression") (codes "eta") refl)
        ∙ get_put_other (codes "compression") (codes "retries") (number (unsigned (suc r))) (object ms) (off (codes "compression") (codes "retries") refl)

    go : (b : Bool) → get (codes "compression") (cond b (unmarked h) (retried r eta (unmarked h))) ≡ get (codes "compression") h
    go true = plain
    go false = settings (unmarked h) ∙ plain

module _ (n : ℕ) (fits : n < 2 ^ 128) where
  -- properties with another tag say it, and what else they said
  properties_told : (body next : List ℕ) (q : Data) (p : Parts) (content : List ℕ) → IsPropertiesTold body q p → next ≡ content
      → IsPropertiesTold next (properties_again n q) (record { content = content; tag = n; exchange = p.exchange; routing_key = p.routing_key })
  properties_told body next q p content h e =
      let inner = with_member (codes "delivery_info") unmarked q in
      let other : (k : List ℕ) → (k ≡ codes "delivery_tag" → ⊥) → (k ≡ codes "delivery_info" → ⊥) → get k (properties_again n q) ≡ get k q =
      λ k a b. get_put_other k (codes "delivery_tag") (string (tag_text n)) inner a ∙ get_other k (codes "delivery_info") unmarked q b in
      let there = object_there (codes "delivery_info") unmarked q h.info (objects_kept (without (codes "redelivered"))) h.info_is in
      let text : (k : List ℕ) → (k ≡ codes "redelivered" → ⊥) → text_at k (unmarked h.info) ≡ text_at k h.info =
      λ k a. ap (option_and_then as_str) (get_without k (codes "redelivered") h.info a) in
      record {
        info = unmarked h.info;
        encoded = ap (λ o. says_word (codes "base64") (option_and_then as_str o)) (other (codes "body_encoding") (off (codes "body_encoding") (codes "delivery_tag") refl) (off (codes "body_encoding") (codes "delivery_info") refl)) ∙ h.encoded;
        tag_is = ap (λ o. option_and_then tag_of_text (option_and_then as_str o)) (stands inner h.info there) ∙ tag_of_text-tag_text n fits;
        info_is = ap (option_and_then if_object) (get_put_other (codes "delivery_info") (codes "delivery_tag") (string (tag_text n)) inner (off (codes "delivery_info") (codes "delivery_tag") refl)) ∙ there;
        exchange_is = text (codes "exchange") (off (codes "exchange") (codes "redelivered") refl) ∙ h.exchange_is;
        routing_key_is = text (codes "routing_key") (off (codes "routing_key") (codes "redelivered") refl) ∙ h.routing_key_is;
        body_is = e;
      }
    where
      found : (d i : Data) (o : Option Data) → get (codes "delivery_info") d ≡ o → option_and_then if_object o ≡ Some (unmarked i) → get (codes "delivery_tag") (on_object (put (codes "delivery_tag") (string (tag_text n))) d) ≡ Some (string (tag_text n))
      found d i None e h = cc
      found d i (Some x) e h = get_put (codes "delivery_info") (codes "delivery_tag") (string (tag_text n)) x d e

      stands : (d i : Data) → object_at (codes "delivery_info") d ≡ Some (unmarked i) → get (codes "delivery_tag") (on_object (put (codes "delivery_tag") (string (tag_text n))) d) ≡ Some (string (tag_text n))
      stands d i h = found d i _ refl h

-- ---- the whole

-- where a text stands, something does
text_stands : (o : Option Data) (s : List ℕ) → option_and_then as_str o ≡ Some s → (y : Data) × (o ≡ Some y)
text_stands None s e = cc
text_stands (Some y) s e = (y, refl)

module _ (d : Data) (p : Parts) (version r n : ℕ) (eta : ℤ) (fits : n < 2 ^ 128) where
  abbrev first : Data
  first = with_member (codes "headers") (headers_again version r eta) d

  abbrev second : Data
  second = with_member (codes "properties") (properties_again n) first

  other : (k : List ℕ) → (k ≡ codes "headers" → ⊥) → (k ≡ codes "properties" → ⊥) → get k second ≡ get k d
  other k a b = get_other k (codes "properties") (properties_again n) first b ∙ get_other k (codes "headers") (headers_again version r eta) d a

  -- a tree that differs from these at its body alone says what they said, but for content and tag
  told_again : (e : Data) (body content : List ℕ) → IsTold d p → text_at (codes "body") e ≡ Some body → content_of body ≡ Some content → ((k : List ℕ) → (k ≡ codes "body" → ⊥) → get k e ≡ get k second)
      → IsTold e (record { content = content; tag = n; exchange = p.exchange; routing_key = p.routing_key })
  told_again e body content h at reads same =
      let name : (k : List ℕ) → (k ≡ codes "body" → ⊥) → (k ≡ codes "headers" → ⊥) → (k ≡ codes "properties" → ⊥) → text_at k e ≡ text_at k d =
      λ k a b c. ap (option_and_then as_str) (same k a ∙ other k b c) in
      record {
        body = body;
        headers = headers_again version r eta h.headers;
        properties = properties_again n h.properties;
        said = record { content = body; tag = n; exchange = h.said.exchange; routing_key = h.said.routing_key };
        body_is = at;
        encoding = ap (is_word_any_case (codes "utf-8")) (name (codes "content-encoding") (off (codes "content-encoding") (codes "body") refl) (off (codes "content-encoding") (codes "headers") refl) (off (codes "content-encoding") (codes "properties") refl)) ∙ h.encoding;
        kind = ap (says_word (codes "application/json")) (name (codes "content-type") (off (codes "content-type") (codes "body") refl) (off (codes "content-type") (codes "headers") refl) (off (codes "content-type") (codes "properties") refl)) ∙ h.kind;
        headers_is = ap (option_and_then if_object) (same (codes "headers") (off (codes "headers") (codes "body") refl) ∙ get_other (codes "headers") (codes "properties") (properties_again n) first (off (codes "headers") (codes "properties") refl))
            ∙ object_there (codes "headers") (headers_again version r eta) d h.headers (objects_headers version r eta) h.headers_is;
        properties_is = ap (option_and_then if_object) (same (codes "properties") (off (codes "properties") (codes "body") refl))
            ∙ object_there (codes "properties") (properties_again n) first h.properties (objects_properties n) (ap (option_and_then if_object) (get_other (codes "properties") (codes "headers") (headers_again version r eta) d (off (codes "properties") (codes "headers") refl)) ∙ h.properties_is);
        inner = properties_told n fits h.body body h.properties h.said body h.inner refl;
        plain = ap is_nothing (compression_kept version r eta h.headers) ∙ h.plain;
        content_is = reads;
        tag_is = refl;
        exchange_is = h.exchange_is;
        routing_key_is = h.routing_key_is;
        short = h.short;
      }

  body_kept : IsTold d p → (s : List ℕ) → text_at (codes "body") d ≡ Some s → text_at (codes "body") second ≡ Some s
  body_kept h s e = ap (option_and_then as_str) (other (codes "body") (off (codes "body") (codes "headers") refl) (off (codes "body") (codes "properties") refl)) ∙ e

  -- the body that was put stands there
  body_put : (body s : List ℕ) → text_at (codes "body") second ≡ Some s → text_at (codes "body") (on_object (put (codes "body") (string body)) second) ≡ Some body
  body_put body s e =
      let y = text_stands (get (codes "body") second) s e in
      ap (option_and_then as_str) (get_put (codes "body") (codes "body") (string body) y.0 second y.1)

  tame_second : IsTame (λ x. with_member (codes "properties") (properties_again n) (with_member (codes "headers") (headers_again version r eta) x))
  tame_second =
      tame_both (with_member (codes "properties") (properties_again n)) (with_member (codes "headers") (headers_again version r eta)) (tame_object _ (tame_change (codes "properties") (properties_again n) (tame_properties n)))
      (tame_object _ (tame_change (codes "headers") (headers_again version r eta) (tame_headers version r eta)))

  tell : (b : Bool) → (b ≡ true → IsBody (body_again r eta (parts_in d).content)) → IsTold d p
      → (q : Parts) × IsTold (cond b (on_object (put (codes "body") (string (body_again r eta (parts_in d).content))) second) second) q
  tell true written h =
      let w = written refl in
      let body = body_again r eta (parts_in d).content in (
        record { content = w.0; tag = n; exchange = p.exchange; routing_key = p.routing_key },
        told_again _ body w.0 h (body_put body h.body (body_kept h h.body h.body_is)) w.1 (λ k a. get_put_other k (codes "body") (string body) second a),
      )
  tell false written h =
      (record { content = p.content; tag = n; exchange = p.exchange; routing_key = p.routing_key }, told_again second h.body p.content h (body_kept h h.body h.body_is) h.content_is (λ k a. refl))

  is_one : (version == 1) ≡ true → version ≡ 1
  is_one e = grind (arith, nat_tests)

  -- the tree that is sent again is whole
  pub whole_again : said_by d ≡ Ok p → (version ≡ 1 → IsBody (body_again r eta (parts_in d).content)) → IsWhole (again_tree d version r n eta)
  whole_again said written =
      let known = said_is d p said in
      let h = told_by d p known.parts in
      let t = tell (version == 1) (λ e. written (is_one e)) h in
      let body = body_again r eta (parts_in d).content in
      let tame = tame_both (with_body version body) _ (tame_body version body) tame_second in
      record {
        shallow = omega (arith, tame.depth d, known.plain.shallow);
        whole = tame.whole d known.plain.whole;
        parts = t.0;
        said = told_from _ t.0 t.1;
      }

-- ---- its length

-- a whole tree is an envelope's exactly where it is short enough
abbrev is_short : Data → Bool
is_short d = nat_le (length (compact_text d)) max_bytes && nat_le (length (compact_text (marked d))) max_text

by_length : (a b : Bool) (p : Parts) (d : Data) → ((wanted TooLong a >>= λ w. wanted TooLong b >>= λ z. Ok p) >>= λ q. Ok d) ≡ (if a && b then Ok d else Err TooLong)
by_length true true p d = refl
by_length true false p d = refl
by_length false b p d = refl

pub envelope_short : (d : Data) → IsWhole d → envelope_of d ≡ (if is_short d then Ok d else Err TooLong)
unfolding envelope_of said_by
envelope_short d w =
    let shallow : nat_le (depth d) max_levels ≡ true = let x = w.shallow in grind (arith, nat_tests) in
    rw (shallow, w.whole, w.said) (by_length (nat_le (length (compact_text d)) max_bytes) (nat_le (length (compact_text (marked d))) max_text) w.parts d)

-- the two tests of length, by their answers
abbrev task_steps : Bool → Bool → Data → Result Data TaskFault
task_steps a b d = task.◌>>=◌ (task.wanted TaskTooLong a) (λ w. task.◌>>=◌ (task.wanted TaskTooLong b) (λ z. Ok d))

short_by : (a b : Bool) (d : Data) → task_steps a b d ≡ (if a && b then Ok d else Err TaskTooLong)
short_by true true d = refl
short_by true false d = refl
short_by false b d = refl

pub task_short : (d : Data) → if_short d ≡ (if is_short d then Ok d else Err TaskTooLong)
task_short d = short_by (nat_le (length (compact_text d)) max_bytes) (nat_le (length (compact_text (marked d))) max_text) d

-- what reading a whole tree gives, as the length tells
pub ok_again : (d e : Data) → IsWhole d → envelope_of d ≡ Ok e → if_short d ≡ Ok e
ok_again d e w h = task_short d ∙ go (is_short d) (sym (envelope_short d w) ∙ h)
  where
    go : (b : Bool) → ◌≡◌ {A = Result Data EnvelopeFault} (if b then Ok d else Err TooLong) (Ok e) → ◌≡◌ {A = Result Data TaskFault} (if b then Ok d else Err TaskTooLong) (Ok e)
    go true i = cc
    go false i = cc

pub too_long_again : (d : Data) → IsWhole d → envelope_of d ≡ Err TooLong → if_short d ≡ Err TaskTooLong
too_long_again d w h = task_short d ∙ go (is_short d) (sym (envelope_short d w) ∙ h)
  where
    go : (b : Bool) → ◌≡◌ {A = Result Data EnvelopeFault} (if b then Ok d else Err TooLong) (Err TooLong) → ◌≡◌ {A = Result Data TaskFault} (if b then Ok d else Err TaskTooLong) (Err TaskTooLong)
    go true i = cc
    go false i = refl

-- no other fault comes
only_too_long : (d : Data) (f : EnvelopeFault) → IsWhole d → envelope_of d ≡ Err f → f ≡ TooLong
only_too_long d f w h = go (is_short d) (sym (envelope_short d w) ∙ h)
  where
    go : (b : Bool) → ◌≡◌ {A = Result Data EnvelopeFault} (if b then Ok d else Err TooLong) (Err f) → f ≡ TooLong
    go true i = cc
    go false i = cc

-- a whole tree has no other fault
pub length_only : (d : Data) (f : EnvelopeFault) → IsWhole d → Fails f (envelope_of d) → IsOfLength f
length_only d TooLong w h = tt
length_only d NotJson w h = let e = only_too_long d NotJson w h in cc
length_only d TooDeep w h = let e = only_too_long d TooDeep w h in cc
length_only d Float w h = let e = only_too_long d Float w h in cc
length_only d (Missing x) w h = let e = only_too_long d (Missing x) w h in cc
length_only d Compressed w h = let e = only_too_long d Compressed w h in cc
length_only d BadBody w h = let e = only_too_long d BadBody w h in cc
length_only d Memory w h = tt

-- and what it has is told as the task's
pub refused_again : (d : Data) (f : EnvelopeFault) → IsWhole d → Fails f (envelope_of d) → task.Fails (refused f) (if_short d)
refused_again d TooLong w h = too_long_again d w h
refused_again d NotJson w h = tt
refused_again d TooDeep w h = tt
refused_again d Float w h = tt
refused_again d (Missing x) w h = tt
refused_again d Compressed w h = tt
refused_again d BadBody w h = tt
refused_again d Memory w h = tt
