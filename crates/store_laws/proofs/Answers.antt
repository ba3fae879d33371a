-- Arrays tell what they hold.
use Rattle.std.proofs.Common.{◌≡◌, List, [], ◌∷◌, refl, sym, ap, ◌∙◌, None, Some, Option, unwrap_or}
use Rattle.std.specs.Prelude.{map}
use Rattle.wire_values.specs.Layer.{layer}
use Rattle.wire_values.proofs.Layers.{layer-array}
use Rattle.wire_values.specs.declared.value.Value.{Value}
use Rattle.wire_values.specs.declared.value.Value.TheOpen.{Value-F}
use Rattle.wire_values.specs.declared.value.Value.TheVariants.{Array, Bulk}
use Rattle.store_model.specs.Words.{Bytes}
use Rattle.store_model.specs.Replies.{bulks, pair}

-- the values of a layer that is an array
abbrev values_in : Value-F Value → Option (List Value)
values_in (Value-F.Array vs) = Some vs
values_in other = None

pub array_parts : (vs ws : List Value) → Array vs ≡ Array ws → vs ≡ ws
array_parts vs ws e = ap (λ o. unwrap_or o []) (sym (ap values_in (layer-array vs)) ∙ ap (λ v. values_in (layer v)) e ∙ ap values_in (layer-array ws))

bulks_same : (xs ys : List Bytes) → map Bulk xs ≡ map Bulk ys → xs ≡ ys
bulks_same [] [] e = refl
bulks_same [] (y ∷ ys) e = absurd (cc e)
bulks_same (x ∷ xs) [] e = absurd (cc e)
bulks_same (x ∷ xs) (y ∷ ys) e = let h : x ≡ y = cc e in let t : map Bulk xs ≡ map Bulk ys = cc e in λ i. h i ∷ bulks_same xs ys t i

-- arrays of bulks tell their texts
pub bulks_parts : (xs ys : List Bytes) → bulks xs ≡ bulks ys → xs ≡ ys
bulks_parts xs ys e = bulks_same xs ys (array_parts (map Bulk xs) (map Bulk ys) e)

-- answers of a key and an element tell both
pub pair_parts : (k v k' v' : Bytes) → pair k v ≡ pair k' v' → (k ≡ k') × (v ≡ v')
pair_parts k v k' v' e = let l : (Bulk k ∷ Bulk v ∷ []) ≡ (Bulk k' ∷ Bulk v' ∷ []) = array_parts _ _ e in (cc l, cc l)
