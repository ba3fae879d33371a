-- Texts of a report, as they are written one after the other.
use Rattle.std.proofs.Common.{◌≡◌, ◌<◌, ◌≤◌, ◌+◌, ℕ, List, [], ◌∷◌, ◌++◌, append_assoc, ap, sym, ◌∙◌, map, take, length, get_or}
use Rattle.std.proofs.lemmas.List.{append-nil, flat_map_more, take_all, take_more}
use Rattle.std.specs.Prelude.{codes}
use Rattle.std.specs.List.{flat_map}
use Rattle.schedule_model.specs.Reports.{parted}

-- the words of a call and its reply
called_text : {A : Type 0} (s : A → List ℕ) (ws : List A) (reply : List ℕ) → flat_map (λ w. codes " " ++ w) (map s ws ++ (codes "=" ∷ reply ∷ [])) ++ 10 ∷ [] ≡ flat_map (λ w. codes " " ++ s w) ws ++ (codes " = " ++ (reply ++ 10 ∷ []))
called_text s [] reply = ap (λ r. codes " = " ++ (r ++ 10 ∷ [])) (append-nil reply)
called_text s (w ∷ ws) reply =
    append_assoc (codes " " ++ s w) _ (10 ∷ [])
    ∙ (ap (λ t. (codes " " ++ s w) ++ t) (called_text s ws reply)
    ∙ sym (append_assoc (codes " " ++ s w) _ _))

-- a call is written: its words, the sign, its reply and the end of the line
pub called_written : {A : Type 0} (s : A → List ℕ) (out o p q r : List ℕ) (ws : List A) (reply : List ℕ) → o ≡ out ++ flat_map (λ w. codes " " ++ s w) ws → p ≡ o ++ codes " = " → q ≡ p ++ reply → r ≡ q ++ 10 ∷ [] → r ≡ out ++ (flat_map (λ w. codes " " ++ w) (map s ws ++ (codes "=" ∷ reply ∷ [])) ++ 10 ∷ [])
called_written s out o p q r ws reply e f g h =
    h ∙ (ap (λ t. t ++ 10 ∷ []) (g ∙ ap (λ t. t ++ reply) (f ∙ ap (λ t. t ++ codes " = ") e))
    ∙ (append_assoc ((out ++ flat_map (λ w. codes " " ++ s w) ws) ++ codes " = ") reply (10 ∷ [])
    ∙ (append_assoc (out ++ flat_map (λ w. codes " " ++ s w) ws) (codes " = ") (reply ++ 10 ∷ [])
    ∙ (append_assoc out (flat_map (λ w. codes " " ++ s w) ws) (codes " = " ++ (reply ++ 10 ∷ []))
    ∙ ap (λ t. out ++ t) (sym (called_text s ws reply))))))

-- three words and what follows them are written as a line
pub line_written : (n a k rest out o p : List ℕ) → o ≡ out ++ (n ++ 32 ∷ (a ++ 32 ∷ k)) → p ≡ o ++ (rest ++ 10 ∷ []) → p ≡ out ++ ((n ++ (32 ∷ (a ++ (32 ∷ (k ++ rest))))) ++ 10 ∷ [])
line_written n a k rest out o p e f =
    let head = n ++ 32 ∷ (a ++ 32 ∷ k) in
    f ∙ (ap (λ t. t ++ (rest ++ 10 ∷ [])) e
    ∙ (append_assoc out head (rest ++ 10 ∷ [])
    ∙ ap (λ t. out ++ t) (sym (append_assoc head rest (10 ∷ []))
    ∙ ap (λ t. t ++ 10 ∷ []) (append_assoc n (32 ∷ (a ++ 32 ∷ k)) rest ∙ ap (λ t. n ++ 32 ∷ t) (append_assoc a (32 ∷ k) rest)))))

-- texts behind a gap each, where the last is known
after_gaps : {A : Type 0} (gap : List ℕ) (s : A → List ℕ) (xs : List A) (a : A) → flat_map (λ u. gap ++ u) (map s (xs ++ a ∷ [])) ≡ gap ++ (flat_map (λ x. s x ++ gap) xs ++ s a)
after_gaps gap s [] a = append-nil (gap ++ s a)
after_gaps gap s (x ∷ xs) a =
    ap (λ t. (gap ++ s x) ++ t) (after_gaps gap s xs a)
    ∙ (append_assoc gap (s x) _
    ∙ ap (λ t. gap ++ t) (sym (append_assoc (s x ++ gap) (flat_map (λ y. s y ++ gap) xs) (s a) ∙ append_assoc (s x) gap (flat_map (λ y. s y ++ gap) xs ++ s a))))

-- texts with a gap between them: each but the last has a gap after it
parted_last : {A : Type 0} (gap : List ℕ) (s : A → List ℕ) (xs : List A) (a : A) → parted gap (map s (xs ++ a ∷ [])) ≡ flat_map (λ x. s x ++ gap) xs ++ s a
parted_last gap s [] a = append-nil (s a)
parted_last gap s (x ∷ xs) a =
    ap (λ t. s x ++ t) (after_gaps gap s xs a)
    ∙ sym (append_assoc (s x ++ gap) (flat_map (λ y. s y ++ gap) xs) (s a) ∙ append_assoc (s x) gap (flat_map (λ y. s y ++ gap) xs ++ s a))

-- a reply is written: each value with a gap after it, and the last
pub reply_written : {A : Type 0} (gap : List ℕ) (s : A → List ℕ) (out o p : List ℕ) (vs ws : List A) (a : A) → vs ≡ ws → o ≡ out ++ flat_map (λ v. s v ++ gap) vs → p ≡ o ++ s a → p ≡ out ++ parted gap (map s (ws ++ a ∷ []))
reply_written gap s out o p vs ws a v e f =
    f ∙ (ap (λ t. t ++ s a) e
    ∙ (append_assoc out (flat_map (λ x. s x ++ gap) vs) (s a)
    ∙ ap (λ t. out ++ t) (sym (parted_last gap s vs a) ∙ ap (λ xs. parted gap (map s (xs ++ a ∷ []))) v)))

-- one more item is written
pub one_more : {A : Type 0} (f : A → List ℕ) (out o p : List ℕ) (xs : List A) (i : ℕ) (x : A) → i < length xs → x ≡ get_or xs i x → o ≡ out ++ flat_map f (take i xs) → p ≡ o ++ f x → p ≡ out ++ flat_map f (take (i + 1) xs)
one_more f out o p xs i x lt read e h =
    h ∙ (ap (λ t. t ++ f x) e
    ∙ (flat_map_more f out (take i xs) x
    ∙ ap (λ ys. out ++ flat_map f ys) (ap (λ y. take i xs ++ y ∷ []) read ∙ sym (take_more xs i x lt))))

-- all items are written
pub all_of_them : {A : Type 0} (f : A → List ℕ) (out o : List ℕ) (xs : List A) (i : ℕ) → length xs ≤ i → o ≡ out ++ flat_map f (take i xs) → o ≡ out ++ flat_map f xs
all_of_them f out o xs i h e = e ∙ ap (λ ys. out ++ flat_map f ys) (take_all i xs h)

-- two texts are written
pub piece : (out o p u r : List ℕ) → o ≡ out ++ u → p ≡ o ++ r → p ≡ out ++ (u ++ r)
piece out o p u r e f = f ∙ (ap (λ t. t ++ r) e ∙ append_assoc out u r)
