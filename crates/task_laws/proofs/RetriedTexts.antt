-- The content of a retry is read back from its compact text.
use Rattle.std.proofs.Common.{◌≡◌, ◌≤◌, ◌<◌, ◌^◌, inl, inr, ℕ, ℤ, suc, List, Bool, true, false, codes, Option, Some, None, IsUtf8, if◌then◌else◌, refl, arith}
use Rattle.std.specs.Str.{is_utf8}
use Rattle.std.proofs.lemmas.Str.{IsUtf8-from_is_utf8}
use Rattle.base64.specs.Engines.{standard}
use Rattle.base64.specs.GeneralPurpose.{encode_of}
use Rattle.base64.proofs.EngineFacts.{decode_of-encode_of}
use Rattle.json.proofs.Printed.Utf8.{IsUtf8-are_ascii}
use Rattle.serde_json.specs.Data.{Data, null, boolean, number, unsigned, string, array, object, Members, put, depth}
use Rattle.serde_json.specs.Read.{max_depth, read}
use Rattle.serde_json.specs.Written.{compact_text, has_float}
use Rattle.envelope.specs.Envelopes.{content_of, json_at, max_levels}
use Rattle.envelope.proofs.Octets.{utf8_bytes}
use Rattle.envelope.proofs.Texts.{content_again, json_some}
use Rattle.envelope_trees.specs.Marks.{on_object}
use Rattle.envelope_trees.specs.Sorted.{Sorted}
use Rattle.envelope_trees.proofs.SortedTrees.{read_sorted}
use Rattle.envelope_trees.proofs.TextsBack.{read-compact_text}
use Rattle.envelope_laws.proofs.Written.{compact_utf8}
use Rattle.json_texts.specs.Trees.{HasTexts, MembersHaveTexts}
use Rattle.json_texts.proofs.Trees.{reads_texts, texts-put}
use Rattle.moments.specs.CivilTimes.{civil_at}
use Rattle.moments.specs.MomentTexts.{moment_text}
use Rattle.moments.proofs.TextsBack.{text_utf8}
use Rattle.task_message.specs.Again.{retried}
use Rattle.task_again.proofs.KeptTrees.{IsTame, tame_object, tame_put, tame_within}
use Rattle.task_laws.specs.Relations.{IsRetries}
use Rattle.task_laws.proofs.KeptOrder.{sorted-retried}

-- what was read from bytes
pub record IsReadFrom (b : List ℕ) (c : Data) : Type 0 where
  pub utf8 : IsUtf8 b
  pub texts : HasTexts c
  pub sorted : Sorted c

pub read_from : (b : List ℕ) (c : Data) → json_at b ≡ Some c → IsReadFrom b c
read_from b c e = go (is_utf8 b) refl e
  where
    go : (t : Bool) → is_utf8 b ≡ t → (if t then read b else None) ≡ Some c → IsReadFrom b c
    go true i h = let u = IsUtf8-from_is_utf8 b i in record { utf8 = u; texts = reads_texts b c u h; sorted = read_sorted b c h }
    go false i h = cc

-- a text that was encoded is the content again
pub content_back : (b : List ℕ) → IsUtf8 b → content_of (encode_of standard b) ≡ Some b
content_back b u = content_again b u (utf8_bytes b u) (λ x h. decode_of-encode_of standard x refl h)

-- a tree is read back from its compact text
text_back : (c : Data) → HasTexts c → Sorted c → depth c ≤ max_levels → has_float c ≡ false → json_at (compact_text c) ≡ Some c
text_back c t s shallow whole = let deep : depth c ≤ max_depth = omega arith in json_some (compact_text c) c (compact_utf8 c t s) (read-compact_text c s whole deep)

on_texts : (f : Members → Members) → ((ms : Members) → MembersHaveTexts ms → MembersHaveTexts (f ms)) → (d : Data) → HasTexts d → HasTexts (on_object f d)
on_texts f h null t = t
on_texts f h (boolean b) t = t
on_texts f h (number n) t = t
on_texts f h (string s) t = t
on_texts f h (array ds) t = t
on_texts f h (object ms) t = h ms t

-- a number of retries that was read has room for one more
pub few_retries : (o : Option Data) (r : ℕ) → IsRetries o r → suc r < 2 ^ 64
few_retries o r (inl h) = omega (arith, h.1)
few_retries o r (inr h) = omega (arith, h.1)

-- what is known of the content of a retry
pub record IsRetryText (c : Data) : Type 0 where
  pub reads : json_at (compact_text c) ≡ Some c
  pub shallow : depth c ≤ max_levels
  pub whole : has_float c ≡ false

module _ (r : ℕ) (eta : ℤ) (few : suc r < 2 ^ 64) where
  retried_texts : (c : Data) → HasTexts c → HasTexts (retried r eta c)
  retried_texts c t =
      on_texts _ (λ ms h. texts-put (codes "eta") (string (moment_text eta)) (put (codes "retries") (number (unsigned (suc r))) ms) (IsUtf8-are_ascii (codes "eta") refl) (text_utf8 (civil_at eta))
      (texts-put (codes "retries") (number (unsigned (suc r))) ms (IsUtf8-are_ascii (codes "retries") refl) tt h)) c t

  tame_retried : IsTame (retried r eta)
  tame_retried =
      tame_object _ (tame_within (put (codes "eta") (string (moment_text eta))) (put (codes "retries") (number (unsigned (suc r)))) (tame_put (codes "eta") (string (moment_text eta)) refl refl) (tame_put (codes "retries") (number (unsigned (suc r))) refl refl))

  pub retried_reads : (b : List ℕ) (c : Data) → json_at b ≡ Some c → depth c ≤ max_levels → has_float c ≡ false → IsRetryText (retried r eta c)
  retried_reads b c e shallow whole =
      let known = read_from b c e in
      let deep : depth (retried r eta c) ≤ max_levels = omega (arith, tame_retried.depth c) in
      let plain = tame_retried.whole c whole in
      record { reads = text_back (retried r eta c) (retried_texts c known.texts) (sorted-retried r eta few c known.sorted) deep plain; shallow = deep; whole = plain }
