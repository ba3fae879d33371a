-- A text that stands first is passed.
use Rattle.std.proofs.Common.{◌≡◌, ℕ, true, List, ◌++◌, sym, ap, ◌∙◌, append_assoc, length, take, drop}
use Rattle.std.proofs.lemmas.List.{take-append-drop}
use Rattle.std.proofs.lemmas.Slice.Eq.{bytes_eq-Decides}
use Rattle.std.specs.Prelude.{bytes_eq}

-- what is left after a text
pub passed : (text bytes rest : List ℕ) → bytes_eq (take (length text) bytes) text ≡ true → rest ≡ drop (length text) bytes → bytes ≡ text ++ rest
passed text bytes rest same e =
    let front = (bytes_eq-Decides (take (length text) bytes) text).0 same in
    sym (take-append-drop (length text) bytes) ∙ (λ i. front i ++ sym e i)

-- one text after the other
pub read_on : (a x b y c : List ℕ) → a ≡ x ++ b → b ≡ y ++ c → a ≡ (x ++ y) ++ c
read_on a x b y c e f = e ∙ ap (λ t. x ++ t) f ∙ sym (append_assoc x y c)
