-- Items with commas between them, written one after the other.
use Rattle.std.proofs.Common.{◌≡◌, ℕ, ◌+◌, ◌<◌, List, [], ◌∷◌, ◌++◌, refl, ap, sym, ◌∙◌, append_assoc, map, drop, length, get_or}
use Rattle.std.proofs.lemmas.List.{drop_more}
use Rattle.std.specs.List.{flat_map}
use Rattle.wire_values.specs.declared.value.Value.{Value}
use Rattle.wire_values.specs.declared.value.Value.TheFolds.{fold-roll-Value}
use Rattle.wire_values.specs.declared.value.Value.TheOpen.{Value-F}
use Rattle.wire_values.specs.declared.value.Value.TheVariants.{Array, rolls-Array}
use Rattle.line_text.specs.Forms.{commas, value_step, value_text}

-- texts, the first behind this separator and each other behind a comma and a space
abbrev pub listed : List ℕ → List (List ℕ) → List ℕ
listed separator [] = []
listed separator (text ∷ texts) = separator ++ (text ++ listed (44 ∷ 32 ∷ []) texts)

-- what is listed behind commas alone
listed-flat_map : (texts : List (List ℕ)) → listed (44 ∷ 32 ∷ []) texts ≡ flat_map (λ t. 44 ∷ 32 ∷ t) texts
listed-flat_map [] = refl
listed-flat_map (text ∷ texts) = ap (λ more. 44 ∷ 32 ∷ (text ++ more)) (listed-flat_map texts)

-- what is listed behind nothing
pub listed-commas : (texts : List (List ℕ)) → listed [] texts ≡ commas texts
listed-commas [] = refl
listed-commas (text ∷ texts) = ap (λ more. text ++ more) (listed-flat_map texts)

-- one more text is written
pub listed_more : (out separator text : List ℕ) (texts : List (List ℕ)) → ((out ++ separator) ++ text) ++ listed (44 ∷ 32 ∷ []) texts ≡ out ++ listed separator (text ∷ texts)
listed_more out separator text texts = append_assoc (out ++ separator) text _ ∙ append_assoc out separator _

-- the text of an array
pub value_text-array : (text : List ℕ → List ℕ) (items : List Value) → value_text text (Array items) ≡ 42 ∷ 91 ∷ (commas (map (value_text text) items) ++ 93 ∷ [])
value_text-array text items = ap (value_text text) (sym (rolls-Array items)) ∙ fold-roll-Value (List ℕ) (value_step text) (Value-F.Array items)

-- an array's bracket is written
pub value_begun : (text : List ℕ → List ℕ) (before out : List ℕ) (value : Value) (items found : List Value) → out ≡ before ++ 42 ∷ 91 ∷ [] → value ≡ Array items → found ≡ items → out ++ (listed [] (map (value_text text) (drop 0 found)) ++ 93 ∷ []) ≡ before ++ value_text text value
value_begun text before out value items found e v f =
    ap (λ o. o ++ (listed [] (map (value_text text) found) ++ 93 ∷ [])) e
    ∙ (append_assoc before (42 ∷ 91 ∷ []) _
    ∙ (ap (λ xs. before ++ (42 ∷ 91 ∷ (listed [] (map (value_text text) xs) ++ 93 ∷ []))) f
    ∙ (ap (λ more. before ++ (42 ∷ 91 ∷ (more ++ 93 ∷ []))) (listed-commas (map (value_text text) items))
    ∙ ap (λ t. before ++ t) (sym (value_text-array text items) ∙ ap (value_text text) (sym v)))))

-- one more item of an array is written
pub value_more : (text : List ℕ → List ℕ) (out separator parted longer whole : List ℕ) (items : List Value) (i : ℕ) (item : Value) → i < length items → item ≡ get_or items i item → parted ≡ out ++ separator → longer ≡ parted ++ value_text text item → out ++ (listed separator (map (value_text text) (drop i items)) ++ 93 ∷ []) ≡ whole → longer ++ (listed (44 ∷ 32 ∷ []) (map (value_text text) (drop (i + 1) items)) ++ 93 ∷ []) ≡ whole
value_more text out separator parted longer whole items i item lt read e f so_far =
    let left = drop (i + 1) items in
    let rest = listed (44 ∷ 32 ∷ []) (map (value_text text) left) in
    let next : drop i items ≡ item ∷ left = drop_more items i item lt ∙ ap (λ x. x ∷ left) (sym read) in
    ap (λ o. o ++ (rest ++ 93 ∷ [])) (f ∙ ap (λ o. o ++ value_text text item) e)
    ∙ (sym (append_assoc ((out ++ separator) ++ value_text text item) rest (93 ∷ []))
    ∙ (ap (λ o. o ++ 93 ∷ []) (listed_more out separator (value_text text item) (map (value_text text) left))
    ∙ (append_assoc out (listed separator (value_text text item ∷ map (value_text text) left)) (93 ∷ [])
    ∙ (ap (λ xs. out ++ (listed separator (map (value_text text) xs) ++ 93 ∷ [])) (sym next) ∙ so_far))))
