-- A tag's text has 36 bytes.
use Rattle.std.proofs.Common.{◌≡◌, ℕ, List, length, Bool, true, false, Option, Some, None, option_and_then, is_some, if◌then◌else◌, bytes_eq, refl, ap, ◌∙◌}
use Rattle.std.specs.Int.{w128, from_be_bytes}
use Rattle.std.proofs.lemmas.Slice.Eq.{bytes_eq-Decides}
use Rattle.uuid.specs.Text.{parsed}
use Rattle.uuid.proofs.TextLemmas.{by_index_length}
use Rattle.delivery_tags.specs.Tags.{if_spelled, is_tag, tag_text}

spelled_length : (s : List ℕ) (n : ℕ) → is_some (if_spelled s n) ≡ true → length s ≡ 36
spelled_length s n e = go (bytes_eq s (tag_text n)) refl e
  where
    go : (t : Bool) → bytes_eq s (tag_text n) ≡ t → is_some (if t then Some n else None) ≡ true → length s ≡ 36
    go true i h = ap length ((bytes_eq-Decides s (tag_text n)).0 i) ∙ by_index_length 36 _
    go false i h = cc

pub tag_length : (t : List ℕ) → is_tag t ≡ true → length t ≡ 36
tag_length t e = go (parsed t) e
  where
    go : (o : Option (List ℕ)) → is_some (option_and_then (λ u. if_spelled t (from_be_bytes w128 u)) o) ≡ true → length t ≡ 36
    go None h = cc
    go (Some u) h = spelled_length t (from_be_bytes w128 u) h
