-- Streams go on.
use Rattle.std.proofs.Common.{◌≡◌, ℕ, ◌+◌, List, [], ◌∷◌, ◌++◌, length, refl, ap, ◌∙◌, arith, append_assoc, length-append}
use Rattle.wire_values.specs.declared.value.Value.{Value}
use Rattle.wire_grammar.specs.Spells.{Spells}
use Rattle.wire_grammar.specs.Streams.{Leads}

-- one value more
pub leads_one : (p : ℕ) (s : List ℕ) (vs : List Value) (q : ℕ) (rest : List ℕ) (v : Value) (front more : List ℕ) → Leads p s vs q rest → rest ≡ front ++ more → Spells v front
    → Leads p s (vs ++ v ∷ []) (q + length front) more
leads_one p s [] q rest v front more l e r = (front, more, l.0 ∙ e, r, (refl, ap (λ (i : ℕ). i + length front) l.1))
leads_one p s (w ∷ vs) q rest v front more l e r = (l.0, l.1, l.2, l.3, leads_one (p + length l.0) l.1 vs q rest v front more l.4 e r)

-- more bytes
pub leads_on : (p : ℕ) (s : List ℕ) (vs : List Value) (q : ℕ) (rest t : List ℕ) → Leads p s vs q rest → Leads p (s ++ t) vs q (rest ++ t)
leads_on p s [] q rest t l = (ap (λ x. x ++ t) l.0, l.1)
leads_on p s (w ∷ vs) q rest t l = (l.0, l.1 ++ t, ap (λ x. x ++ t) l.2 ∙ append_assoc l.0 l.1 t, l.3, leads_on (p + length l.0) l.1 vs q rest t l.4)

-- where the rest begins
pub leads_place : (p : ℕ) (s : List ℕ) (vs : List Value) (q : ℕ) (rest : List ℕ) → Leads p s vs q rest → q + length rest ≡ p + length s
leads_place p s [] q rest l = omega (arith, l.1, ap length l.0)
leads_place p s (v ∷ vs) q rest l = omega (arith, leads_place (p + length l.0) l.1 vs q rest l.4, ap length l.2, length-append l.0 l.1)
