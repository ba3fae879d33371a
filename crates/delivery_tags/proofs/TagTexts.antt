-- What a text of a tag parses to.
use Rattle.std.proofs.Common.{◌≡◌, ℕ, zero, suc, [], true, false, Bool, bytes_eq, option_and_then, ◌<◌, ◌^◌, List, Option, Some, None, All, unwrap_or, refl, sym, ap, ◌∙◌, subst, inl, arith}
use Rattle.std.specs.Prelude.{IsUtf8}
use Rattle.std.specs.Int.{w128, to_be_bytes, from_be_bytes}
use Rattle.std.proofs.lemmas.Str.{IsUtf8-from_ascii}
use Rattle.std.proofs.lemmas.Slice.Eq.{bytes_eq-Decides}
use Rattle.uuid.specs.Text.{lower, parsed}
use Rattle.uuid.proofs.TextLemmas.{hyphenated_ascii}
use Rattle.uuid.proofs.RoundTrips.{parses_hyphenated}
use Rattle.delivery_tags.specs.Tags.{tag_text, if_spelled, tag_of_text}
use Rattle.delivery_tags.specs.declared.tag.Tag.{Tag}
use Rattle.delivery_tags.proofs.Sixteen.{from_be_bytes-to_be_bytes_16}

abbrev the_tag : ℕ → Option Tag
the_tag y = Some (record { 0 = y })

abbrev number_in : Option Tag → ℕ
number_in None = 0
number_in (Some t) = t.0

bytes_fit : (n : ℕ) → All (λ b. b < 256) (to_be_bytes w128 n)
bytes_fit n zero d h = omega arith
bytes_fit n (suc (zero)) d h = omega arith
bytes_fit n (suc (suc (zero))) d h = omega arith
bytes_fit n (suc (suc (suc (zero)))) d h = omega arith
bytes_fit n (suc (suc (suc (suc (zero))))) d h = omega arith
bytes_fit n (suc (suc (suc (suc (suc (zero)))))) d h = omega arith
bytes_fit n (suc (suc (suc (suc (suc (suc (zero))))))) d h = omega arith
bytes_fit n (suc (suc (suc (suc (suc (suc (suc (zero)))))))) d h = omega arith
bytes_fit n (suc (suc (suc (suc (suc (suc (suc (suc (zero))))))))) d h = omega arith
bytes_fit n (suc (suc (suc (suc (suc (suc (suc (suc (suc (zero)))))))))) d h = omega arith
bytes_fit n (suc (suc (suc (suc (suc (suc (suc (suc (suc (suc (zero))))))))))) d h = omega arith
bytes_fit n (suc (suc (suc (suc (suc (suc (suc (suc (suc (suc (suc (zero)))))))))))) d h = omega arith
bytes_fit n (suc (suc (suc (suc (suc (suc (suc (suc (suc (suc (suc (suc (zero))))))))))))) d h = omega arith
bytes_fit n (suc (suc (suc (suc (suc (suc (suc (suc (suc (suc (suc (suc (suc (zero)))))))))))))) d h = omega arith
bytes_fit n (suc (suc (suc (suc (suc (suc (suc (suc (suc (suc (suc (suc (suc (suc (zero))))))))))))))) d h = omega arith
bytes_fit n (suc (suc (suc (suc (suc (suc (suc (suc (suc (suc (suc (suc (suc (suc (suc (zero)))))))))))))))) d h = omega arith
bytes_fit n (suc (suc (suc (suc (suc (suc (suc (suc (suc (suc (suc (suc (suc (suc (suc (suc (k))))))))))))))))) d h = absurd (omega arith)

pub tag_parses : (n : ℕ) → parsed (tag_text n) ≡ Some (to_be_bytes w128 n)
tag_parses n = sym (parses_hyphenated lower (to_be_bytes w128 n) (inl refl) refl (bytes_fit n))

pub tag_ascii : (n : ℕ) → IsUtf8 (tag_text n)
tag_ascii n = IsUtf8-from_ascii _ (hyphenated_ascii lower (to_be_bytes w128 n) (inl refl))

-- what was parsed from a tag's text is the tag
pub tag_again : (n : ℕ) (u text : List ℕ) → n < 2 ^ 128 → text ≡ tag_text n → Some u ≡ parsed text → from_be_bytes w128 u ≡ n
tag_again n u text fits is found =
    let whole : u ≡ to_be_bytes w128 n = ap (λ (o : Option (List ℕ)). unwrap_or o []) (found ∙ ap parsed is ∙ tag_parses n) in
    ap (from_be_bytes w128) whole ∙ from_be_bytes-to_be_bytes_16 n fits

pub same_tag : (x n : ℕ) → x ≡ n → ◌≡◌ {A = Option Tag} (Some (record { 0 = x })) (Some (record { 0 = n }))
same_tag x n e = ap (λ (y : ℕ). the_tag y) e

pub tag_is : (x n : ℕ) → ◌≡◌ {A = Option Tag} (Some (record { 0 = x })) (Some (record { 0 = n })) → x ≡ n
tag_is x n e = ap (λ (o : Option Tag). number_in o) e

refused_at : (s : List ℕ) (n : ℕ) (b : Bool) → bytes_eq s (tag_text n) ≡ b → (IsUtf8 s → ⊥) → b ≡ false
refused_at s n false e unfit = refl
refused_at s n true e unfit = absurd (unfit (subst IsUtf8 (sym ((bytes_eq-Decides s (tag_text n)).0 e)) (tag_ascii n)))

misspelled_at : (s : List ℕ) (n : ℕ) → bytes_eq s (tag_text n) ≡ false → if_spelled s n ≡ None
misspelled_at s n e = rw e refl

no_tag_from : (s : List ℕ) (o : Option (List ℕ)) → (IsUtf8 s → ⊥) → option_and_then (λ u. if_spelled s (from_be_bytes w128 u)) o ≡ None
no_tag_from s None unfit = refl
no_tag_from s (Some u) unfit = misspelled_at s (from_be_bytes w128 u) (refused_at s (from_be_bytes w128 u) _ refl unfit)

-- bytes that are no UTF-8 are no tag's text
pub no_tag : (s : List ℕ) → (IsUtf8 s → ⊥) → tag_of_text s ≡ None
no_tag s unfit = no_tag_from s (parsed s) unfit

not_parsed_from : (s : List ℕ) (o : Option (List ℕ)) → ((u : List ℕ) → o ≡ Some u → ⊥) → option_and_then (λ u. if_spelled s (from_be_bytes w128 u)) o ≡ None
not_parsed_from s None unfit = refl
not_parsed_from s (Some u) unfit = absurd (unfit u refl)

pub not_parsed : (s : List ℕ) → ((u : List ℕ) → parsed s ≡ Some u → ⊥) → tag_of_text s ≡ None
not_parsed s unfit = not_parsed_from s (parsed s) unfit

pub spelled : (s u : List ℕ) (n : ℕ) → n ≡ from_be_bytes w128 u → Some u ≡ parsed s → s ≡ tag_text n → tag_of_text s ≡ Some n
spelled s u n is found e =
    ap (option_and_then (λ v. if_spelled s (from_be_bytes w128 v))) (sym found) ∙ ap (if_spelled s) (sym is) ∙ rw ((bytes_eq-Decides s (tag_text n)).1 e) refl

pub misspelled : (s u : List ℕ) (n : ℕ) → n ≡ from_be_bytes w128 u → Some u ≡ parsed s → bytes_eq s (tag_text n) ≡ false → tag_of_text s ≡ None
misspelled s u n is found e =
    ap (option_and_then (λ v. if_spelled s (from_be_bytes w128 v))) (sym found) ∙ ap (if_spelled s) (sym is) ∙ misspelled_at s n e

-- a tag's text is read as that tag
pub tag_of_text-tag_text : (n : ℕ) → n < 2 ^ 128 → tag_of_text (tag_text n) ≡ Some n
tag_of_text-tag_text n fits = spelled (tag_text n) (to_be_bytes w128 n) n (sym (from_be_bytes-to_be_bytes_16 n fits)) (sym (tag_parses n)) refl
