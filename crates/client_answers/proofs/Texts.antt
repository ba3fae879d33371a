-- What values tell, and texts of them.
use Rattle.std.proofs.Common.{◌≡◌, ◌<◌, ◌+◌, ◌-◌, ◌^◌, ◌∙◌, ℕ, suc, min, List, [], ◌∷◌, ◌++◌, Option, None, Some, append_assoc, ap, arith, sym, refl, decimal, drop, length, get_or, if◌then◌else◌, Bool, true, false}
use Rattle.std.specs.Prelude.{option_and_then, option_map}
use Rattle.std.proofs.lemmas.List.{drop_more}
use Rattle.wire_values.specs.declared.value.Value.{Value}
use Rattle.queue_keys.specs.Names.{Bytes}
use Rattle.queue_keys.specs.Texts.{token}
use Rattle.command_blocks.specs.Answers.{bulk_of, items_of}
use Rattle.command_blocks.specs.EnvelopeTexts.{plain_setting}
use Rattle.command_blocks.specs.PassBlocks.{tags_among}
use Rattle.command_blocks.specs.Scripts.{each_told, onto_told, texts_of}
use Rattle.manner_laws.specs.Cursor.{bulk_texts_of, onto_texts, texts_among}

onto_same : (o : Option Bytes) (l : Option (List Bytes)) → onto_told o l ≡ onto_texts o l
onto_same None l = refl
onto_same (Some b) None = refl
onto_same (Some b) (Some bs) = refl

among_same : (vs : List Value) → each_told bulk_of vs ≡ texts_among vs
among_same [] = refl
among_same (v ∷ vs) = onto_same (bulk_of v) (each_told bulk_of vs) ∙ ap (onto_texts (bulk_of v)) (among_same vs)

then_same : (o : Option (List Value)) → option_and_then (each_told bulk_of) o ≡ option_and_then texts_among o
then_same None = refl
then_same (Some vs) = among_same vs

-- the texts of a value are told by both in the same way
pub texts_same : (r : Value) → texts_of r ≡ bulk_texts_of r
texts_same r = then_same (items_of r)

-- a number that is held within 64 bits spells the same token
pub held_token : (s p : ℕ) → token s (min (p + 1) (2 ^ 64 - 1)) ≡ token s (suc p)
held_token s p = ap (λ n. decimal s ++ (58 ∷ decimal n)) (omega arith)

tag_first : (b : Bool) (t : Bytes) (ts : List Bytes) → (if b then t ∷ ts else ts) ≡ (if b then t ∷ [] else []) ++ ts
tag_first true t ts = refl
tag_first false t ts = refl

-- one more text is looked at
pub tags_more : (out longer whole ms : List Bytes) (i : ℕ) (m : Bytes) → i < length ms → m ≡ get_or ms i m → longer ≡ out ++ tags_among plain_setting (m ∷ []) → out ++ tags_among plain_setting (drop i ms) ≡ whole → longer ++ tags_among plain_setting (drop (i + 1) ms) ≡ whole
tags_more out longer whole ms i m lt read f so_far =
    let left = drop (i + 1) ms in
    let rest = tags_among plain_setting left in
    let next : drop i ms ≡ m ∷ left = drop_more ms i m lt ∙ ap (λ x. x ∷ left) (sym read) in
    ap (λ o. o ++ rest) f
    ∙ (append_assoc out (tags_among plain_setting (m ∷ [])) rest
    ∙ (ap (λ xs. out ++ xs) (sym (tag_first (plain_setting.is_tag m) m rest))
    ∙ (ap (λ xs. out ++ tags_among plain_setting xs) (sym next) ∙ so_far)))
