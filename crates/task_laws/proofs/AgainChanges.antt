-- Sending a task again changes what it must and nothing else.
use Rattle.std.proofs.Common.{◌≡◌, ◌≤◌, ◌<◌, ◌^◌, inl, inr, ℕ, ℤ, suc, List, Bool, true, false, codes, Some, None, option_map, option_and_then, unwrap_or, Ok, refl, sym, ap, subst, ◌∙◌, arith}
use Rattle.std.specs.Prelude.{length, nat_le}
use Rattle.std.proofs.lemmas.Bool.Decides.{nat_tests}
use Rattle.base64.specs.Engines.{standard}
use Rattle.base64.specs.GeneralPurpose.{encode_of}
use Rattle.serde_json.specs.Data.{Data, null, boolean, number, unsigned, string, array, object, Members, put}
use Rattle.serde_json.specs.Find.{get}
use Rattle.serde_json.specs.Written.{compact_text}
use Rattle.serde_json.proofs.Views.{get_member-put}
use Rattle.delivery_tags.specs.Tags.{tag_text}
use Rattle.envelope.specs.Envelopes.{Parts, max_bytes, max_text, parts_in, said_by}
use Rattle.envelope.proofs.MarkedSaid.{get_other, get_same}
use Rattle.envelope.proofs.Said.{said_is}
use Rattle.envelope.proofs.Told.{IsTold, told_by}
use Rattle.envelope_trees.specs.Marks.{change, marked, on_object, with_member}
use Rattle.envelope_trees.specs.Members.{if_object, object_at}
use Rattle.envelope_trees.specs.Sorted.{Sorted}
use Rattle.envelope_laws.specs.Marks.{AgreeBut}
use Rattle.moments.specs.MomentTexts.{moment_text}
use Rattle.task_message.specs.Again.{again_of, again_tree, body_again, if_short, properties_again, retried, unmarked, without}
use Rattle.task_message.specs.Reading.{◌>>=◌, wanted}
use Rattle.task_message.specs.Tasks.{TaskParts, headers_in, task_of}
use Rattle.task_message.specs.declared.fault.TaskFault.TheVariants.{TooLong}
use Rattle.task_again.proofs.KeptTrees.{get_put, get_put_other, get_without, off}
use Rattle.task_laws.specs.Relations.{IsTask, TellsTask}
use Rattle.task_laws.specs.SentAgain.{AgreeButTwo, IsAround, IsFirstAgain, IsSecondAgain, IsSentAgain, TellsRetry}
use Rattle.task_laws.proofs.Gone.{IsObjectAt, get_gone, get_sorted, object_stands}
use Rattle.task_laws.proofs.KeptOrder.{sorted-again}
use Rattle.task_laws.proofs.RetriedTexts.{few_retries, retried_reads}
use Rattle.task_laws.proofs.TasksRead.{IsReadContent, same_ok, task_from}

-- ---- settings

-- an object with the settings of a retry tells them, and each other name has what it had
retry_told : (r : ℕ) (eta : ℤ) (d : Data) (ms : Members) → d ≡ object ms → TellsRetry r eta (retried r eta d)
retry_told r eta d ms e = subst (λ x. TellsRetry r eta (retried r eta x)) (sym e) told
  where
    told : TellsRetry r eta (retried r eta (object ms))
    told = record {
      retries = get_put_other (codes "retries") (codes "eta") (string (moment_text eta)) (object (put (codes "retries") (number (unsigned (suc r))) ms)) (off (codes "retries") (codes "eta") refl)
          ∙ get_member-put (codes "retries") (number (unsigned (suc r))) ms;
      eta_is = get_member-put (codes "eta") (string (moment_text eta)) (put (codes "retries") (number (unsigned (suc r))) ms);
    }

retry_others : (r : ℕ) (eta : ℤ) (d : Data) → AgreeButTwo (codes "retries") (codes "eta") (retried r eta d) d
retry_others r eta null q a b = refl
retry_others r eta (boolean x) q a b = refl
retry_others r eta (number n) q a b = refl
retry_others r eta (string s) q a b = refl
retry_others r eta (array ds) q a b = refl
retry_others r eta (object ms) q a b =
    get_put_other q (codes "eta") (string (moment_text eta)) (object (put (codes "retries") (number (unsigned (suc r))) ms)) b
    ∙ get_put_other q (codes "retries") (number (unsigned (suc r))) (object ms) a

-- a member is one of an object
of_object : (k : List ℕ) (d x : Data) → get k d ≡ Some x → (ms : Members) × (d ≡ object ms)
of_object k null x e = cc
of_object k (boolean b) x e = cc
of_object k (number n) x e = cc
of_object k (string s) x e = cc
of_object k (array ds) x e = cc
of_object k (object ms) x e = (ms, refl)

-- an object stays one
KeepsObject : (Data → Data) → Type 0
KeepsObject f = (ms : Members) → (ns : Members) × (f (object ms) ≡ object ns)

unmarked_object : KeepsObject unmarked
unfolding KeepsObject
unmarked_object ms = (without (codes "redelivered") ms, refl)

-- the headers of version 2
abbrev renewed : ℕ → ℤ → Data → Data
renewed r eta x = retried r eta (unmarked x)

renewed_object : (r : ℕ) (eta : ℤ) → KeepsObject (renewed r eta)
unfolding KeepsObject
renewed_object r eta ms = (put (codes "eta") (string (moment_text eta)) (put (codes "retries") (number (unsigned (suc r))) (without (codes "redelivered") ms)), refl)

kept_object : (k : List ℕ) (f : Data → Data) (d x : Data) → KeepsObject f → IsObjectAt k d x → object_at k (with_member k f d) ≡ Some (f x)
unfolding KeepsObject
kept_object k f d x keeps h =
    let same : f x ≡ object (keeps h.members).0 = ap f h.whole ∙ (keeps h.members).1 in
    ap (option_and_then if_object) (get_same k f d ∙ ap (option_map f) h.is ∙ ap (λ z. Some z) same) ∙ ap (λ z. Some z) (sym same)

properties_object : (n : ℕ) → KeepsObject (properties_again n)
unfolding KeepsObject
properties_object n ms = (put (codes "delivery_tag") (string (tag_text n)) (change (codes "delivery_info") unmarked ms), refl)

-- ---- properties

module _ (n : ℕ) (q i : Data) (at : IsObjectAt (codes "delivery_info") q i) where
  abbrev inner : Data
  inner = with_member (codes "delivery_info") unmarked q

  next_info_is : object_at (codes "delivery_info") (properties_again n q) ≡ Some (unmarked i)
  next_info_is =
      ap (option_and_then if_object) (get_put_other (codes "delivery_info") (codes "delivery_tag") (string (tag_text n)) inner (off (codes "delivery_info") (codes "delivery_tag") refl))
      ∙ kept_object (codes "delivery_info") unmarked q i unmarked_object at

  tag_is : get (codes "delivery_tag") (properties_again n q) ≡ Some (string (tag_text n))
  tag_is = get_put (codes "delivery_info") (codes "delivery_tag") (string (tag_text n)) (unmarked i) inner (get_same (codes "delivery_info") unmarked q ∙ ap (option_map unmarked) at.is)

  in_properties_is : AgreeButTwo (codes "delivery_tag") (codes "delivery_info") (properties_again n q) q
  in_properties_is k a b = get_put_other k (codes "delivery_tag") (string (tag_text n)) inner a ∙ get_other k (codes "delivery_info") unmarked q b

-- ---- the tree with other headers and properties

module _ (n : ℕ) (d h q : Data) (f : Data → Data) (keeps : KeepsObject f) (h_at : IsObjectAt (codes "headers") d h) (q_at : IsObjectAt (codes "properties") d q) where
  abbrev headed : Data
  headed = with_member (codes "headers") f d

  abbrev next : Data
  next = with_member (codes "properties") (properties_again n) headed

  next_headers_is : object_at (codes "headers") next ≡ Some (f h)
  next_headers_is =
      ap (option_and_then if_object) (get_other (codes "headers") (codes "properties") (properties_again n) headed (off (codes "headers") (codes "properties") refl))
      ∙ kept_object (codes "headers") f d h keeps h_at

  q_headed : IsObjectAt (codes "properties") headed q
  q_headed = record { is = get_other (codes "properties") (codes "headers") f d (off (codes "properties") (codes "headers") refl) ∙ q_at.is; members = q_at.members; whole = q_at.whole }

  next_properties_is : object_at (codes "properties") next ≡ Some (properties_again n q)
  next_properties_is = kept_object (codes "properties") (properties_again n) headed q (properties_object n) q_headed

  next_elsewhere : (k : List ℕ) → (k ≡ codes "headers" → ⊥) → (k ≡ codes "properties" → ⊥) → get k next ≡ get k d
  next_elsewhere k a b = get_other k (codes "properties") (properties_again n) headed b ∙ get_other k (codes "headers") f d a

-- ---- the two versions

module _ (n : ℕ) (d : Data) (p : Parts) (sorted : Sorted d) (told : IsTold d p) (t : TaskParts) (eta : ℤ) (few : suc t.settings.retries < 2 ^ 64) where
  abbrev r : ℕ
  r = t.settings.retries

  h_at : IsObjectAt (codes "headers") d told.headers
  h_at = object_stands (codes "headers") d told.headers told.headers_is

  q_at : IsObjectAt (codes "properties") d told.properties
  q_at = object_stands (codes "properties") d told.properties told.properties_is

  i_at : IsObjectAt (codes "delivery_info") told.properties told.inner.info
  i_at = object_stands (codes "delivery_info") told.properties told.inner.info told.inner.info_is

  before_is : IsAround d told.headers told.properties told.inner.info
  before_is = record { headers_is = told.headers_is; properties_is = told.properties_is; info_is = told.inner.info_is }

  h_sorted : Sorted told.headers
  h_sorted = get_sorted (codes "headers") d told.headers sorted h_at.is

  i_sorted : Sorted told.inner.info
  i_sorted = get_sorted (codes "delivery_info") told.properties told.inner.info (get_sorted (codes "properties") d told.properties sorted q_at.is) i_at.is

  in_info_is : AgreeBut (codes "redelivered") (unmarked told.inner.info) told.inner.info
  in_info_is k a = get_without k (codes "redelivered") told.inner.info a

  -- the mark isn't put back
  no_mark : get (codes "redelivered") (renewed r eta told.headers) ≡ None
  no_mark =
      retry_others r eta (unmarked told.headers) (codes "redelivered") (off (codes "redelivered") (codes "retries") refl) (off (codes "redelivered") (codes "eta") refl)
      ∙ get_gone (codes "redelivered") told.headers h_sorted

  second_changed : IsSecondAgain r eta d (next n d told.headers told.properties (renewed r eta) (renewed_object r eta) h_at q_at) told.headers (renewed r eta told.headers)
  second_changed = record {
    settings = retry_told r eta (unmarked told.headers) (without (codes "redelivered") h_at.members) (ap unmarked h_at.whole);
    others = λ k a b c. retry_others r eta (unmarked told.headers) k b c ∙ get_without k (codes "redelivered") told.headers a;
    body = next_elsewhere n d told.headers told.properties (renewed r eta) (renewed_object r eta) h_at q_at (codes "body") (off (codes "body") (codes "headers") refl) (off (codes "body") (codes "properties") refl);
  }

  second_again : t.version ≡ 2 → IsSentAgain d t n eta (again_tree d 2 r n eta)
  second_again v = record {
    headers = told.headers;
    properties = told.properties;
    info = told.inner.info;
    before = before_is;
    next_headers = renewed r eta told.headers;
    next_properties = properties_again n told.properties;
    next_info = unmarked told.inner.info;
    after = record {
      headers_is = next_headers_is n d told.headers told.properties (renewed r eta) (renewed_object r eta) h_at q_at;
      properties_is = next_properties_is n d told.headers told.properties (renewed r eta) (renewed_object r eta) h_at q_at;
      info_is = next_info_is n told.properties told.inner.info i_at;
    };
    settings = inr (v, second_changed);
    header_mark = no_mark;
    info_mark = get_gone (codes "redelivered") told.inner.info i_sorted;
    in_info = in_info_is;
    tag = tag_is n told.properties told.inner.info i_at;
    in_properties = in_properties_is n told.properties told.inner.info i_at;
    elsewhere = λ k a b c. next_elsewhere n d told.headers told.properties (renewed r eta) (renewed_object r eta) h_at q_at k a b;
    sorted = sorted-again r eta few d 2 n sorted;
  }

  -- ---- version 1

  abbrev first_next : Data
  first_next = next n d told.headers told.properties unmarked unmarked_object h_at q_at

  abbrev body : List ℕ
  body = body_again r eta (parts_in d).content

  -- beside the body the tree is as with its other headers and properties
  beside : (k : List ℕ) → (k ≡ codes "body" → ⊥) → get k (on_object (put (codes "body") (string body)) first_next) ≡ get k first_next
  beside k a = get_put_other k (codes "body") (string body) first_next a

  stands : get (codes "headers") first_next ≡ Some (unmarked told.headers)
  stands = (object_stands (codes "headers") first_next (unmarked told.headers) (next_headers_is n d told.headers told.properties unmarked unmarked_object h_at q_at)).is

  first_changed : (c : Data) (name : Data) → IsReadContent (parts_in d).content c → get (codes "task") c ≡ Some name
      → IsFirstAgain r eta d (on_object (put (codes "body") (string body)) first_next) told.headers (unmarked told.headers)
  first_changed c name is task =
      let o = of_object (codes "task") c name task in
      let text = retried_reads r eta few (parts_in d).content c is.reads is.shallow is.whole in
      record {
        in_headers = λ k a. get_without k (codes "redelivered") told.headers a;
        content = c;
        content_is = is.reads;
        next_content = retried r eta c;
        reads = text.reads;
        shallow = text.shallow;
        whole = text.whole;
        body = get_put (codes "headers") (codes "body") (string body) (unmarked told.headers) first_next stands
            ∙ ap (λ x. Some (string (encode_of standard (compact_text (retried r eta (unwrap_or x null)))))) is.reads;
        settings = retry_told r eta c o.0 o.1;
        in_content = retry_others r eta c;
      }

  first_again : (c : Data) (name : Data) → t.version ≡ 1 → IsReadContent (parts_in d).content c → get (codes "task") c ≡ Some name → IsSentAgain d t n eta (again_tree d 1 r n eta)
  first_again c name v is task = record {
    headers = told.headers;
    properties = told.properties;
    info = told.inner.info;
    before = before_is;
    next_headers = unmarked told.headers;
    next_properties = properties_again n told.properties;
    next_info = unmarked told.inner.info;
    after = record {
      headers_is = ap (option_and_then if_object) (beside (codes "headers") (off (codes "headers") (codes "body") refl)) ∙ next_headers_is n d told.headers told.properties unmarked unmarked_object h_at q_at;
      properties_is = ap (option_and_then if_object) (beside (codes "properties") (off (codes "properties") (codes "body") refl)) ∙ next_properties_is n d told.headers told.properties unmarked unmarked_object h_at q_at;
      info_is = next_info_is n told.properties told.inner.info i_at;
    };
    settings = inl (v, first_changed c name is task);
    header_mark = get_gone (codes "redelivered") told.headers h_sorted;
    info_mark = get_gone (codes "redelivered") told.inner.info i_sorted;
    in_info = in_info_is;
    tag = tag_is n told.properties told.inner.info i_at;
    in_properties = in_properties_is n told.properties told.inner.info i_at;
    elsewhere = λ k a b z. beside k z ∙ next_elsewhere n d told.headers told.properties unmarked unmarked_object h_at q_at k a b;
    sorted = sorted-again r eta few d 1 n sorted;
  }

  -- by what is known of the task
  by_version : IsTask d t → IsSentAgain d t n eta (again_tree d t.version r n eta)
  by_version is = go is.told
    where
      go : TellsTask (headers_in d) is.content t → IsSentAgain d t n eta (again_tree d t.version r n eta)
      go (inl one) = subst (λ v. IsSentAgain d t n eta (again_tree d v r n eta)) (sym one.1.version) (first_again is.content (string t.name) one.1.version (record { reads = is.reads; shallow = is.shallow; whole = is.whole }) one.1.name.0)
      go (inr two) = subst (λ v. IsSentAgain d t n eta (again_tree d v r n eta)) (sym two.version) (second_again two.version)

-- the number of retries of a task has room for one more
pub few_of : (d : Data) (t : TaskParts) → IsTask d t → suc t.settings.retries < 2 ^ 64
few_of d t is = go is.told
  where
    go : TellsTask (headers_in d) is.content t → suc t.settings.retries < 2 ^ 64
    go (inl one) = few_retries (get (codes "retries") is.content) t.settings.retries one.1.settings.retries
    go (inr two) = few_retries (get (codes "retries") (headers_in d)) t.settings.retries two.settings.retries

-- what was short enough is the tree
pub record IsShort (x e : Data) : Type 0 where
  pub same : x ≡ e
  pub text : length (compact_text x) ≤ max_bytes
  pub marks : length (compact_text (marked x)) ≤ max_text

pub short_is : (x e : Data) → if_short x ≡ Ok e → IsShort x e
short_is x e h = go (nat_le (length (compact_text x)) max_bytes) (nat_le (length (compact_text (marked x))) max_text) refl refl h
  where
    go : (a b : Bool) → nat_le (length (compact_text x)) max_bytes ≡ a → nat_le (length (compact_text (marked x))) max_text ≡ b
        → (wanted TooLong a >>= λ u. wanted TooLong b >>= λ v. Ok x) ≡ Ok e → IsShort x e
    go true true i j k = record { same = same_ok x e k; text = grind (arith, nat_tests); marks = grind (arith, nat_tests) }
    go true false i j k = cc
    go false b i j k = cc

pub again_changes : (d e : Data) (p : Parts) (t : TaskParts) (n : ℕ) (eta : ℤ)
    → Sorted d → said_by d ≡ Ok p → task_of d ≡ Ok t → again_of d t n eta ≡ Ok e → IsSentAgain d t n eta e
unfolding again_of
again_changes d e p t n eta sorted said reads sent =
    let is = task_from d t reads in
    let x = again_tree d t.version t.settings.retries n eta in
    subst (IsSentAgain d t n eta) (short_is x e sent).same (by_version n d p sorted (told_by d p (said_is d p said).parts) t eta (few_of d t is) is)
