-- Lists with just one text.
use Rattle.std.proofs.Common.{◌≡◌, List, [], ◌∷◌, length, refl, sym, ap, ◌∙◌, None, Some}
use Rattle.queue_keys.specs.Names.{Bytes}
use Rattle.message_acts.specs.Acts.{only}

no_texts : (ts : List Bytes) → length ts ≡ 0 → ts ≡ []
no_texts [] e = refl
no_texts (t ∷ ts) e = cc

-- no text
pub only_none : (ts : List Bytes) → length ts ≡ 0 → None ≡ only ts
only_none ts e = sym (ap only (no_texts ts e))

-- a text and no more
pub only_one : (ts rest : List Bytes) (t : Bytes) → ts ≡ t ∷ rest → length rest ≡ 0 → Some t ≡ only ts
only_one ts rest t e f = sym (ap only (e ∙ ap (λ (l : List Bytes). t ∷ l) (no_texts rest f)))

-- two texts, or more
pub only_more : (ts rest more : List Bytes) (t u : Bytes) → ts ≡ t ∷ rest → rest ≡ u ∷ more → None ≡ only ts
only_more ts rest more t u e f = sym (ap only (e ∙ ap (λ (l : List Bytes). t ∷ l) f))
