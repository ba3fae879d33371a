-- What was sent again is read as the task with one retry more, under its tag.
use Rattle.std.proofs.Common.{◌≡◌, ◌≤◌, ◌<◌, ◌^◌, ◌⊎◌, inl, inr, ℕ, ℤ, suc, List, [], length, true, codes, Option, Some, None, option_and_then, unwrap_or, Result, Ok, Err, refl, sym, ap, subst, ◌∙◌, arith}
use Rattle.base64.specs.Engines.{standard}
use Rattle.base64.specs.GeneralPurpose.{encode_of}
use Rattle.json.specs.Json as json
use Rattle.json.specs.Lex.{lex, punctuate}
use Rattle.serde_json.specs.Data.{Data, null}
use Rattle.serde_json.specs.Find.{as_str, get}
use Rattle.serde_json.specs.Read.{read}
use Rattle.serde_json.specs.Written.{compact_text}
use Rattle.delivery_tags.specs.Tags.{tag_of_text}
use Rattle.delivery_tags.proofs.TagTexts.{tag_of_text-tag_text}
use Rattle.envelope.specs.Envelopes.{Parts, content_of, json_at, max_bytes, max_text, parts_in, parts_or_none, said_by}
use Rattle.envelope.proofs.Said.{said_from, said_is}
use Rattle.envelope.proofs.Texts.{json_none}
use Rattle.envelope.proofs.Told.{IsTold, told_by}
use Rattle.envelope_trees.specs.Marks.{marked}
use Rattle.envelope_trees.specs.Members.{object_at, text_at}
use Rattle.envelope_trees.specs.Sorted.{Sorted}
use Rattle.envelope_trees.specs.declared.fault.EnvelopeFault.{EnvelopeFault}
use Rattle.moments.specs.CivilTimes.{is_within_years}
use Rattle.moments.specs.MomentTexts.{moment_text}
use Rattle.moments.proofs.MomentsBack.{moments_back}
use Rattle.task_message.specs.Again.{again_of, again_tree, body_again, retried}
use Rattle.task_message.specs.Tasks.{TaskParts, TaskSettings, headers_in, task_of}
use Rattle.task_again.specs.Whole.{IsBody, IsWhole}
use Rattle.task_again.proofs.KeptTrees.{off}
use Rattle.task_again.proofs.WholeAgain.{whole_again}
use Rattle.task_laws.specs.Relations.{IsFirstTask, IsMoment, IsSecondTask, IsTask, IsWordAt, TellsSettings, TellsTask}
use Rattle.task_laws.specs.SentAgain.{IsFirstAgain, IsSecondAgain, IsSentAgain, TellsRetry, next_try}
use Rattle.task_laws.proofs.AgainChanges.{IsShort, again_changes, few_of, short_is}
use Rattle.task_laws.proofs.Gone.{object_stands}
use Rattle.task_laws.proofs.RetriedTexts.{content_back, read_from, retried_reads}
use Rattle.task_laws.proofs.TasksRead.{task_from, task_to}

same_some : {A : Type 0} (x y : A) → ◌≡◌ {A = Option A} (Some x) (Some y) → x ≡ y
same_some x y e = cc

-- ---- where a content is read, an envelope is

nothing_read : read [] ≡ None
unfolding json.value punctuate lex
nothing_read = refl

pub said_in : (d c : Data) → json_at (parts_in d).content ≡ Some c → (p : Parts) × (said_by d ≡ Ok p)
said_in d c e = go (said_by d) refl e
  where
    go : (r : Result Parts EnvelopeFault) → said_by d ≡ r → json_at (parts_or_none r).content ≡ Some c → (p : Parts) × (said_by d ≡ Ok p)
    go (Ok p) i h = (p, i)
    go (Err f) i h = let none : json_at [] ≡ None = json_none [] (λ u. nothing_read) in cc

-- ---- settings

settings_again : (h x : Data) (s : TaskSettings) (eta : ℤ) → suc s.retries < 2 ^ 32 → is_within_years eta ≡ true → TellsRetry s.retries eta x → get (codes "expires") x ≡ get (codes "expires") h → TellsSettings h s
    → TellsSettings x (record { retries = suc s.retries; eta = Some eta; expires = s.expires })
settings_again h x s eta few within told same was = record {
  retries = inr (told.retries, few);
  eta = (moment_text eta, told.eta_is, moments_back eta within);
  expires = subst (λ o. IsMoment o s.expires) (sym same) was.expires;
}

-- ---- the tree that was sent again, by its members

module _ (d e : Data) (t : TaskParts) (n : ℕ) (eta : ℤ) (few : suc t.settings.retries < 2 ^ 32) (within : is_within_years eta ≡ true) (sent : IsSentAgain d t n eta e) (q : Parts) (told : IsTold e q) where
  headers_are : (x h : Data) → object_at (codes "headers") x ≡ Some h → headers_in x ≡ h
  headers_are x h a = ap (λ o. unwrap_or o null) (object_stands (codes "headers") x h a).is

  tag_again : n < 2 ^ 128 → q.tag ≡ n
  tag_again fits =
      let same : told.properties ≡ sent.next_properties = same_some _ _ (sym told.properties_is ∙ sent.after.properties_is) in
      let spelled : option_and_then tag_of_text (text_at (codes "delivery_tag") told.properties) ≡ Some n =
      ap (λ x. option_and_then tag_of_text (text_at (codes "delivery_tag") x)) same ∙ ap (λ o. option_and_then tag_of_text (option_and_then as_str o)) sent.tag ∙ tag_of_text-tag_text n fits in
      sym told.tag_is ∙ same_some _ _ (sym told.inner.tag_is ∙ spelled)

  -- the content of the body that stands there
  content_is : (b s : List ℕ) → text_at (codes "body") e ≡ Some b → content_of b ≡ Some s → q.content ≡ s
  content_is b s at reads = same_some _ _ (sym told.content_is ∙ ap content_of (same_some _ _ (sym told.body_is ∙ at)) ∙ reads)

  first_read : (c : Data) → json_at (parts_in d).content ≡ Some c → get (codes "task") (headers_in d) ≡ None → IsFirstTask c t → (f : IsFirstAgain t.settings.retries eta d e sent.headers sent.next_headers)
      → (q.content ≡ compact_text f.next_content) × TellsTask (headers_in e) f.next_content (next_try t eta)
  first_read c reads none one f =
      let same : f.content ≡ c = same_some _ _ (sym f.content_is ∙ reads) in
      let agree : (k : List ℕ) → (k ≡ codes "retries" → ⊥) → (k ≡ codes "eta" → ⊥) → get k f.next_content ≡ get k c = λ k a b. f.in_content k a b ∙ ap (get k) same in
      let headless : get (codes "task") (headers_in e) ≡ None =
      ap (get (codes "task")) (headers_are e sent.next_headers sent.after.headers_is) ∙ f.in_headers (codes "task") (off (codes "task") (codes "redelivered") refl)
      ∙ ap (get (codes "task")) (sym (headers_are d sent.headers sent.before.headers_is)) ∙ none in
      let kept : (k : List ℕ) (s : List ℕ) → (k ≡ codes "retries" → ⊥) → (k ≡ codes "eta" → ⊥) → IsWordAt k c s → IsWordAt k f.next_content s = λ k s a b w. (agree k a b ∙ w.0, w.1) in (
        content_is (encode_of standard (compact_text f.next_content)) (compact_text f.next_content) (ap (option_and_then as_str) f.body) (content_back _ (read_from (compact_text f.next_content) f.next_content f.reads).utf8),
        inl (
          headless,
          record {
            version = one.version;
            name = kept (codes "task") t.name (off (codes "task") (codes "retries") refl) (off (codes "task") (codes "eta") refl) one.name;
            id = kept (codes "id") t.id (off (codes "id") (codes "retries") refl) (off (codes "id") (codes "eta") refl) one.id;
            settings = settings_again c f.next_content t.settings eta few within f.settings (agree (codes "expires") (off (codes "expires") (codes "retries") refl) (off (codes "expires") (codes "eta") refl)) one.settings;
            args_at = agree (codes "args") (off (codes "args") (codes "retries") refl) (off (codes "args") (codes "eta") refl) ∙ one.args_at;
            args = one.args;
            kwargs_at = agree (codes "kwargs") (off (codes "kwargs") (codes "retries") refl) (off (codes "kwargs") (codes "eta") refl) ∙ one.kwargs_at;
            kwargs = one.kwargs;
          },
        ),
      )

  second_read : (c : Data) → IsSecondTask (headers_in d) c t → IsSecondAgain t.settings.retries eta d e sent.headers sent.next_headers → TellsTask (headers_in e) c (next_try t eta)
  second_read c two s =
      let was = headers_are d sent.headers sent.before.headers_is in
      let agree : (k : List ℕ) → (k ≡ codes "redelivered" → ⊥) → (k ≡ codes "retries" → ⊥) → (k ≡ codes "eta" → ⊥) → get k sent.next_headers ≡ get k (headers_in d) =
      λ k a b z. s.others k a b z ∙ ap (get k) (sym was) in
      let kept : (k : List ℕ) (u : List ℕ) → (k ≡ codes "redelivered" → ⊥) → (k ≡ codes "retries" → ⊥) → (k ≡ codes "eta" → ⊥) → IsWordAt k (headers_in d) u → IsWordAt k sent.next_headers u = λ k u a b z w. (agree k a b z ∙ w.0, w.1) in
      subst (λ h. TellsTask h c (next_try t eta)) (sym (headers_are e sent.next_headers sent.after.headers_is)) (inr (record {
        version = two.version;
        name = kept (codes "task") t.name (off (codes "task") (codes "redelivered") refl) (off (codes "task") (codes "retries") refl) (off (codes "task") (codes "eta") refl) two.name;
        id = kept (codes "id") t.id (off (codes "id") (codes "redelivered") refl) (off (codes "id") (codes "retries") refl) (off (codes "id") (codes "eta") refl) two.id;
        settings = settings_again (headers_in d) sent.next_headers t.settings eta few within s.settings
            (agree (codes "expires") (off (codes "expires") (codes "redelivered") refl) (off (codes "expires") (codes "retries") refl) (off (codes "expires") (codes "eta") refl)) two.settings;
        embed = two.embed;
        call = two.call;
        args = two.args;
        kwargs = two.kwargs;
        embedded = two.embedded;
      }))

  -- version 2 keeps its content
  kept_content : (p : Parts) → IsTold d p → IsSecondAgain t.settings.retries eta d e sent.headers sent.next_headers → q.content ≡ p.content
  kept_content p was s = content_is was.body p.content (ap (option_and_then as_str) s.body ∙ was.body_is) was.content_is

  pub next_is : (p : Parts) → said_by d ≡ Ok p → IsTold d p → said_by e ≡ Ok q → IsTask d t → IsTask e (next_try t eta)
  next_is p said was says is = go is.told sent.settings
    where
      there : (s : List ℕ) (c : Data) → q.content ≡ s → json_at s ≡ Some c → json_at (parts_in e).content ≡ Some c
      there s c a b = ap (λ r. json_at (parts_or_none r).content) says ∙ ap json_at a ∙ b

      before : json_at p.content ≡ Some is.content
      before = ap (λ r. json_at (parts_or_none r).content) (sym said) ∙ is.reads

      go : TellsTask (headers_in d) is.content t
          → ((t.version ≡ 1) × IsFirstAgain t.settings.retries eta d e sent.headers sent.next_headers) ⊎ ((t.version ≡ 2) × IsSecondAgain t.settings.retries eta d e sent.headers sent.next_headers)
          → IsTask e (next_try t eta)
      go (inl one) (inl a) =
          let f = a.1 in
          let r = first_read is.content is.reads one.0 one.1 f in
          record { content = f.next_content; reads = there (compact_text f.next_content) f.next_content r.0 f.reads; shallow = f.shallow; whole = f.whole; told = r.1 }
      go (inr two) (inr a) = record { content = is.content; reads = there p.content is.content (kept_content p was a.1) before; shallow = is.shallow; whole = is.whole; told = second_read is.content two a.1 }
      go (inl one) (inr a) = let x = one.1.version in let y = a.0 in absurd (omega arith)
      go (inr two) (inl a) = let x = two.version in let y = a.0 in absurd (omega arith)

-- ---- the whole

-- the body that is written in version 1 is a body
body_is : (d : Data) (t : TaskParts) (eta : ℤ) → IsTask d t → IsBody (body_again t.settings.retries eta (parts_in d).content)
body_is d t eta is =
    let x = retried t.settings.retries eta is.content in
    let text = retried_reads t.settings.retries eta (few_of d t is) (parts_in d).content is.content is.reads is.shallow is.whole in
    subst (λ o. IsBody (encode_of standard (compact_text (retried t.settings.retries eta (unwrap_or o null))))) (sym is.reads)
    (compact_text x, content_back (compact_text x) (read_from (compact_text x) x text.reads).utf8)

short_again : (d : Data) (t : TaskParts) (n : ℕ) (eta : ℤ) (e : Data) → again_of d t n eta ≡ Ok e → IsShort (again_tree d t.version t.settings.retries n eta) e
unfolding again_of
short_again d t n eta e h = short_is (again_tree d t.version t.settings.retries n eta) e h

pub again_reads : (d e : Data) (t : TaskParts) (n : ℕ) (eta : ℤ)
    → Sorted d → task_of d ≡ Ok t → suc t.settings.retries < 2 ^ 32 → n < 2 ^ 128 → is_within_years eta ≡ true → again_of d t n eta ≡ Ok e
    → (task_of e ≡ Ok (next_try t eta)) × ((parts_in e).tag ≡ n)
again_reads d e t n eta sorted reads few fits within again =
    let is = task_from d t reads in
    let said = said_in d is.content is.reads in
    let p = said.0 in
    let short = short_again d t n eta e again in
    let whole : IsWhole e = subst IsWhole short.same (whole_again d p t.version t.settings.retries n eta fits said.1 (λ v. body_is d t eta is)) in
    let q = whole.parts in
    let says : said_by e ≡ Ok q = said_from e q (record {
      plain = record { shallow = whole.shallow; whole = whole.whole };
      parts = whole.said;
      text = subst (λ x. length (compact_text x) ≤ max_bytes) short.same short.text;
      marks = subst (λ x. length (compact_text (marked x)) ≤ max_text) short.same short.marks;
    }) in
    let told = told_by e q whole.said in
    let sent = again_changes d e p t n eta sorted said.1 reads again in (
      task_to e (next_try t eta) (next_is d e t n eta few within sent q told p said.1 (told_by d p (said_is d p said.1).parts) says is),
      ap (λ r. (parts_or_none r).tag) says ∙ tag_again d e t n eta few within sent q told fits,
    )
