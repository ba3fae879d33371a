-- The parts of a report, as they are written one after the other.
use Rattle.std.proofs.Common.{◌≡◌, ◌<◌, ◌+◌, ◌/◌, ◌%◌, ◌^◌, ℕ, Bool, List, [], ◌∷◌, ◌++◌, append_assoc, ap, sym, ◌∙◌, refl, map, drop, length, get_or}
use Rattle.std.proofs.lemmas.List.{drop_more}
use Rattle.std.proofs.lemmas.List.Folds.{flat_map-map}
use Rattle.std.specs.Prelude.{codes, cond, count_by, decimal}
use Rattle.std.specs.List.{flat_map, fold}
use Rattle.delivery_tags.proofs.TagTexts.{tag_of_text-tag_text}
use Rattle.delivery_tags.specs.Tags.{tag_of_text, tag_text}
use Rattle.delivery_tags.specs.declared.tag.Tag.{Tag}
use Rattle.line_text.specs.Short.{tag_short}
use Rattle.place_model.specs.Histories.{History}
use Rattle.place_model.specs.declared.heard.Heard.{Heard}
use Rattle.place_model.specs.declared.history.Entry.{Entry}
use Rattle.place_model.specs.declared.place.Place.{Place}
use Rattle.replay.proofs.Written.{piece}
use Rattle.replay.specs.Kinds.{totals}
use Rattle.place_model.specs.Placed.{all_placed, placed}
use Rattle.schedule_model.specs.Legends.{number_or}
use Rattle.schedule_model.specs.Reports.{ReportLegend, entry_line, entry_lines, line, place_line, report_text, total_line}
use Rattle.place_model.specs.Accepted.{places}

-- one more entry is written
pub lines_more : (l : ReportLegend) (out longer whole : List ℕ) (es : List (Entry Heard)) (i : ℕ) (e : Entry Heard) → i < length es → e ≡ get_or es i e → longer ≡ out ++ entry_line l (i + 1) e → out ++ entry_lines l (i + 1) (drop i es) ≡ whole → longer ++ entry_lines l (i + 1 + 1) (drop (i + 1) es) ≡ whole
lines_more l out longer whole es i e lt read f so_far =
    let left = drop (i + 1) es in
    let next : drop i es ≡ e ∷ left = drop_more es i e lt ∙ ap (λ x. x ∷ left) (sym read) in
    ap (λ o. o ++ entry_lines l (i + 1 + 1) left) f
    ∙ (append_assoc out (entry_line l (i + 1) e) _
    ∙ (ap (λ xs. out ++ entry_lines l (i + 1) xs) (sym next) ∙ so_far))

-- a fold over what is made of elements
fold-map : {A B C : Type 0} (g : C → B → C) (f : A → B) (n : C) (xs : List A) → fold g n (map f xs) ≡ fold (λ a x. g a (f x)) n xs
fold-map g f n [] = refl
fold-map g f n (x ∷ xs) = fold-map g f (g n (f x)) xs

-- what is counted of what is made of elements
pub count_by-map : {A B : Type 0} (p : B → Bool) (f : A → B) (xs : List A) → count_by p (map f xs) ≡ count_by (λ x. p (f x)) xs
count_by-map p f xs = fold-map (λ a y. a + cond (p y) 1 0) f 0 xs

-- a tag's text has its number
number_of_tag : (n : ℕ) → n < 2 ^ 128 → number_or (tag_of_text (tag_text n)) ≡ n
number_of_tag n fits = ap number_or (tag_of_text-tag_text n fits)

-- a place line is written
pub place_written : (n : ℕ) → n < 2 ^ 128 → (words out o p q : List ℕ) → o ≡ out ++ (codes "place " ++ tag_short (n / 2 ^ 64) (n % 2 ^ 64)) → p ≡ o ++ words → q ≡ p ++ 10 ∷ [] → q ≡ out ++ ((codes "place" ++ ((codes " " ++ tag_short (number_or (tag_of_text (tag_text n)) / 2 ^ 64) (number_or (tag_of_text (tag_text n)) % 2 ^ 64)) ++ words)) ++ 10 ∷ [])
place_written n fits words out o p q e f g =
    let named = codes "place " ++ tag_short (n / 2 ^ 64) (n % 2 ^ 64) in
    g ∙ (ap (λ t. t ++ 10 ∷ []) (f ∙ ap (λ t. t ++ words) e)
    ∙ (ap (λ t. t ++ 10 ∷ []) (append_assoc out named words)
    ∙ (append_assoc out (named ++ words) (10 ∷ [])
    ∙ ap (λ m. out ++ ((codes "place" ++ ((codes " " ++ tag_short (m / 2 ^ 64) (m % 2 ^ 64)) ++ words)) ++ 10 ∷ [])) (sym (number_of_tag n fits)))))

-- a report is written
pub report_written : (l : ReportLegend) (h : History Heard) (es : List (Entry Heard)) (tags : List (Tag × Place)) (o p q r : List ℕ) → h.entries ≡ es → all_placed tags ≡ places l.setting h → o ≡ codes "celery-report 1\n" → p ≡ o ++ entry_lines l 1 es → q ≡ p ++ flat_map (λ t. place_line l (placed t)) tags → r ≡ q ++ total_line (all_placed tags) → r ≡ report_text l h
report_written l h es tags o p q r same told e f g k =
    k ∙ (ap (λ t. t ++ total_line (all_placed tags)) (g ∙ (ap (λ t. t ++ flat_map (λ x. place_line l (placed x)) tags) (f ∙ ap (λ t. t ++ entry_lines l 1 es) e)
    ∙ ap (λ t. (codes "celery-report 1\n" ++ entry_lines l 1 es) ++ t) (sym (flat_map-map (place_line l) placed tags))))
    ∙ (λ i. ((codes "celery-report 1\n" ++ entry_lines l 1 (sym same i)) ++ flat_map (place_line l) (told i)) ++ total_line (told i)))

-- six texts and what stands between them, with the end of the line
six_texts : (a b d e f g : List ℕ) → line (codes "total" ∷ codes "list" ∷ a ∷ codes "unacked" ∷ b ∷ codes "hand" ∷ d ∷ codes "ended" ∷ e ∷ codes "lost" ∷ f ∷ codes "copies" ∷ g ∷ []) ≡ codes "total list " ++ (a ++ (codes " unacked " ++ (b ++ (codes " hand " ++ (d ++ (codes " ended " ++ (e ++ (codes " lost " ++ (f ++ (codes " copies " ++ (g ++ codes "\n")))))))))))
six_texts a b d e f g =
    let T = 10 ∷ [] in
    ap (λ t. codes "total list " ++ t) (append_assoc a _ T
    ∙ ap (λ t. a ++ (codes " unacked " ++ t)) (append_assoc b _ T
    ∙ ap (λ t. b ++ (codes " hand " ++ t)) (append_assoc d _ T
    ∙ ap (λ t. d ++ (codes " ended " ++ t)) (append_assoc e _ T
    ∙ ap (λ t. e ++ (codes " lost " ++ t)) (append_assoc f _ T
    ∙ ap (λ t. f ++ (codes " copies " ++ t)) (append_assoc g [] T))))))

-- the line of totals is written
pub totals_line : (a b d e f g : ℕ) → totals a b d e f g ≡ line (codes "total" ∷ codes "list" ∷ decimal a ∷ codes "unacked" ∷ decimal b ∷ codes "hand" ∷ decimal d ∷ codes "ended" ∷ decimal e ∷ codes "lost" ∷ decimal f ∷ codes "copies" ∷ decimal g ∷ [])
totals_line a b d e f g = sym (six_texts (decimal a) (decimal b) (decimal d) (decimal e) (decimal f) (decimal g))

-- the names and the counts are written one after the other
pub totals_written : (a b d e f g : ℕ) (out o p q r s t u : List ℕ) → o ≡ out ++ (codes "total list " ++ decimal a) → p ≡ o ++ (codes " unacked " ++ decimal b) → q ≡ p ++ (codes " hand " ++ decimal d) → r ≡ q ++ (codes " ended " ++ decimal e) → s ≡ r ++ (codes " lost " ++ decimal f) → t ≡ s ++ (codes " copies " ++ decimal g) → u ≡ t ++ 10 ∷ [] → u ≡ out ++ totals a b d e f g
totals_written a b d e f g out o p q r s t u h1 h2 h3 h4 h5 h6 h7 =
    let copies = (codes " copies " ++ decimal g) ++ 10 ∷ [] in
    let lost = (codes " lost " ++ decimal f) ++ copies in
    let ended = (codes " ended " ++ decimal e) ++ lost in
    let hands = (codes " hand " ++ decimal d) ++ ended in
    let unacked = (codes " unacked " ++ decimal b) ++ hands in
    piece out o u (codes "total list " ++ decimal a) unacked h1
    (piece o p u (codes " unacked " ++ decimal b) hands h2
    (piece p q u (codes " hand " ++ decimal d) ended h3
    (piece q r u (codes " ended " ++ decimal e) lost h4
    (piece r s u (codes " lost " ++ decimal f) copies h5
    (piece s t u (codes " copies " ++ decimal g) (10 ∷ []) h6 h7)))))
