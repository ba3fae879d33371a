-- The tag of a sealed tree, and the moments that a text spells.
use Rattle.std.specs.Prelude.{drop, pos, ◌-ℤ◌, ◌*ℤ◌}
use Rattle.std.proofs.Common.{◌≡◌, ℕ, ℤ, ◌<◌, ◌^◌, codes, Bool, true, false, if◌then◌else◌, Option, Some, None, option_and_then, Ok, refl, sym, ap, ◌∙◌}
use Rattle.std.specs.Result.{result_ok}
use Rattle.serde_json.specs.Data.{Data}
use Rattle.serde_json.specs.View.{view as data_of}
use Rattle.serde_json.specs.Written.{compact_text}
use Rattle.envelope.specs.Envelopes.{Parts, envelope_at, parts_in, said_by}
use Rattle.envelope.specs.SealedTrees.{sealed_info, sealed_properties, sealed_tree}
use Rattle.envelope_trees.specs.Members.{text_at}
use Rattle.envelope.proofs.Said.{said_is}
use Rattle.envelope.proofs.Told.{told_by}
use Rattle.sealed_drafts.specs.Sealed.{seal_of}
use Rattle.sealed_drafts.specs.declared.sealing.Draft.{Draft}
use Rattle.delivery_tags.specs.Tags.{tag_of_text, tag_text}
use Rattle.delivery_tags.proofs.TagTexts.{tag_of_text-tag_text}
use Rattle.command_blocks.specs.EnvelopeTexts.{tag_as_written, written_tag}
use Rattle.queue_keys.specs.Names.{Bytes}
use Rattle.queue_keys.proofs.Basics.{same-refl}
use Rattle.moments.specs.CivilTimes.{is_within_years, real_micros}
use Rattle.moments.specs.MomentTexts.{front_civil, if_within, moment_of, tail_of}
use Rattle.task_message.specs.Drafted.{is_writable}
use Rattle.client_plans.proofs.Named.{same_some, sealed_is_draft}

same_number : (m n : ℕ) → ◌≡◌ {A = Option ℕ} (Some m) (Some n) → m ≡ n
same_number m n e = cc

-- a sealed tree that says p has the tag that it was sealed under
tag_said : (body : Bytes) (headers : Data) (x k id : Bytes) (priority : ℤ) (n : ℕ) (p : Parts) → n < 2 ^ 128
    → said_by (sealed_tree body headers (sealed_properties (sealed_info x k) id priority (tag_text n))) ≡ Ok p → p.tag ≡ n
tag_said body headers x k id priority n p small e =
    let props = sealed_properties (sealed_info x k) id priority (tag_text n) in
    let d = sealed_tree body headers props in
    let told = told_by d p (said_is d p e).parts in
    let inner : props ≡ told.properties = same_some props told.properties told.properties_is in
    let text : option_and_then tag_of_text (text_at (codes "delivery_tag") props) ≡ Some told.said.tag = ap (λ q. option_and_then tag_of_text (text_at (codes "delivery_tag") q)) inner ∙ told.inner.tag_is in
    let known : Some n ≡ Some told.said.tag = sym (tag_of_text-tag_text n small) ∙ text in
    sym (same_number n told.said.tag known ∙ told.tag_is)

-- the text of an envelope that was sealed under a tag is written with it
pub written_under : (draft : Draft) (n : ℕ) (d : Data) → n < 2 ^ 128 → seal_of draft n ≡ Ok d → said_by d ≡ Ok (parts_in d) → envelope_at (compact_text d) ≡ Ok d
    → written_tag (compact_text d) ≡ Some (tag_text n)
written_under draft n d small e said again =
    let tag_is : (parts_in d).tag ≡ n = tag_said _ (data_of draft.headers) draft.exchange draft.routing_key draft.id draft.priority n (parts_in d) small (ap said_by (sealed_is_draft draft n d e) ∙ said) in
    ap (λ r. option_and_then (tag_as_written (compact_text d)) (result_ok r)) again
    ∙ ap (λ b. if b then Some (tag_text (parts_in d).tag) else None) (same-refl (compact_text d))
    ∙ ap (λ m. Some (tag_text m)) tag_is

-- ---- moments

bound : {A B : Type 0} (o : Option A) (f : A → Option B) (y : B) → option_and_then f o ≡ Some y → (x : A) × (f x ≡ Some y)
bound None f y e = cc
bound (Some x) f y e = (x, e)

within : (z m : ℤ) → if_within z ≡ Some m → is_within_years m ≡ true
within z m e = go (is_within_years z) refl e
  where
    go : (b : Bool) → is_within_years z ≡ b → (if b then Some z else None) ≡ Some m → is_within_years m ≡ true
    go true i f = let s : z ≡ m = cc in ap is_within_years (sym s) ∙ i
    go false i f = cc

-- a moment that a text spells lies in the years 1 to 9999
pub spelled_within : (s : Bytes) (m : ℤ) → moment_of s ≡ Some m → is_within_years m ≡ true
unfolding moment_of
spelled_within s m e =
    let a = bound (front_civil s) _ m e in
    let b = bound (tail_of (drop 19 s)) _ m a.1 in
    let front = a.0 in
    let c = bound (real_micros (record front { micros = b.0.micros })) _ m b.1 in
    within (c.0 -ℤ b.0.offset *ℤ pos 60000000) m c.1

-- what a text spells, if anything, may be written
pub writable_of : (o : Option ℤ) (s : Bytes) → moment_of s ≡ o → is_writable o ≡ true
writable_of None s e = refl
writable_of (Some m) s e = spelled_within s m e
