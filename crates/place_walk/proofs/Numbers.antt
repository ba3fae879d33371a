-- A tag's number and its text tell each other.
use Rattle.std.proofs.Common.{◌≡◌, ℕ, ◌^◌, ◌<◌, List, Bool, true, false, if◌then◌else◌, refl, sym, ap, subst, ◌∙◌, Option, None, Some, option_and_then}
use Rattle.std.specs.Int.{w128, from_be_bytes}
use Rattle.std.specs.Str.{bytes_eq}
use Rattle.std.proofs.lemmas.Slice.Eq.{bytes_eq-Decides}
use Rattle.uuid.specs.Text.{parsed}
use Rattle.delivery_tags.specs.Tags.{if_spelled, tag_of_text, tag_text}
use Rattle.delivery_tags.proofs.TagTexts.{tag_of_text-tag_text}
use Rattle.queue_keys.specs.Names.{Bytes, same}
use Rattle.queue_keys.proofs.Basics.{eqb-refl, eqb_true, false_true, same-refl, same_true}
use Rattle.queue_keys.proofs.NameFaults.{both_ways}
use Rattle.place_walk.proofs.Gathers.{is_number}

some_parts : (m n : ℕ) → ◌≡◌ {A = Option ℕ} (Some m) (Some n) → m ≡ n
some_parts m n e = cc

spelled_is : (s : List ℕ) (m n : ℕ) → if_spelled s m ≡ Some n → s ≡ tag_text n
spelled_is s m n e = go (bytes_eq s (tag_text m)) refl e
  where
    go : (t : Bool) → bytes_eq s (tag_text m) ≡ t → (if t then Some m else None) ≡ Some n → s ≡ tag_text n
    go true t f = (bytes_eq-Decides s (tag_text m)).0 t ∙ ap tag_text (some_parts m n f)
    go false t f = cc

pub text_is : (s : List ℕ) (n : ℕ) → tag_of_text s ≡ Some n → s ≡ tag_text n
text_is s n e = go (parsed s) e
  where
    go : (o : Option (List ℕ)) → option_and_then (λ u. if_spelled s (from_be_bytes w128 u)) o ≡ Some n → s ≡ tag_text n
    go None f = cc
    go (Some u) f = spelled_is s (from_be_bytes w128 u) n f

-- a text is the tag's where its number is the tag's
pub text_tells : (t : ℕ) → t < 2 ^ 128 → (u : Bytes) → same u (tag_text t) ≡ is_number t (tag_of_text u)
text_tells t fits u = both_ways (same u (tag_text t)) (is_number t (tag_of_text u)) there (λ e. back (tag_of_text u) refl e)
  where
    there : same u (tag_text t) ≡ true → is_number t (tag_of_text u) ≡ true
    there e = ap (λ v. is_number t (tag_of_text v)) (same_true u (tag_text t) e) ∙ ap (is_number t) (tag_of_text-tag_text t fits) ∙ eqb-refl t

    back : (o : Option ℕ) → tag_of_text u ≡ o → is_number t o ≡ true → same u (tag_text t) ≡ true
    back None i e = false_true e
    back (Some n) i e =
        let s : u ≡ tag_text t = text_is u n i ∙ ap tag_text (eqb_true n t e) in
        subst (λ v. same v (tag_text t) ≡ true) (sym s) (same-refl (tag_text t))
