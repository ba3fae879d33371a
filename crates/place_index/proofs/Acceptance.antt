-- The accepted messages, each where it was pushed first, are the accepted tags.
use Rattle.std.proofs.Common.{◌≡◌, ℕ, List, [], ◌∷◌, Bool, true, false, cond, not, ◌==◌, refl, sym, ap, subst, ◌∙◌, filter, map, Option, Some}
use Rattle.std.specs.List.{flat_map}
use Rattle.delivery_tags.specs.Tags.{is_tag, tag_of_text, tag_text}
use Rattle.command_blocks.specs.EnvelopeTexts.{plain_setting}
use Rattle.queue_keys.specs.Names.{Bytes, same}
use Rattle.queue_keys.proofs.Basics.{eqb-refl, eqb_true, same-refl, same_true}
use Rattle.queue_keys.proofs.NameFaults.{both_ways}
use Rattle.place_model.specs.Accepted.{accepted_by, accepted_tags, firsts, places}
use Rattle.place_model.specs.Histories.{History}
use Rattle.place_model.specs.PlaceOf.{place_of}
use Rattle.place_model.specs.declared.heard.Heard.{Heard}
use Rattle.place_model.specs.declared.place.Place.{Place}
use Rattle.place_walk.specs.Gathered.{AreTagNumbers}
use Rattle.place_index.specs.Tallies.{first_numbers}

-- the number is read off its own text
abbrev pub IsOwn : ℕ → Type 0
IsOwn n = tag_of_text (tag_text n) ≡ Some n

own-filter : (p : ℕ → Bool) (ns : List ℕ) → AreTagNumbers ns → AreTagNumbers (filter p ns)
own-filter p [] a = tt
own-filter p (n ∷ ns) a = go (p n) (own-filter p ns a.1)
  where
    go : (b : Bool) → AreTagNumbers (filter p ns) → AreTagNumbers (cond b (n ∷ filter p ns) (filter p ns))
    go true i = (a.0, i)
    go false i = i

own-firsts : (ns : List ℕ) → AreTagNumbers ns → AreTagNumbers (first_numbers ns)
own-firsts [] a = tt
own-firsts (n ∷ ns) a = (a.0, own-filter (λ m. not (m == n)) (first_numbers ns) (own-firsts ns a.1))

some_parts : (m n : ℕ) → ◌≡◌ {A = Option ℕ} (Some m) (Some n) → m ≡ n
some_parts m n e = cc

-- two texts are the same where the numbers are
same_is : (m n : ℕ) → IsOwn m → IsOwn n → same (tag_text m) (tag_text n) ≡ (m == n)
same_is m n a b = both_ways (same (tag_text m) (tag_text n)) (m == n) there back
  where
    there : same (tag_text m) (tag_text n) ≡ true → (m == n) ≡ true
    there e =
        let s : m ≡ n = some_parts m n (sym a ∙ ap tag_of_text (same_true (tag_text m) (tag_text n) e) ∙ b) in
        subst (λ q. (m == q) ≡ true) s (eqb-refl m)

    back : (m == n) ≡ true → same (tag_text m) (tag_text n) ≡ true
    back e = subst (λ q. same (tag_text m) (tag_text q) ≡ true) (eqb_true m n e) (same-refl (tag_text m))

filter_texts : (n : ℕ) (ms : List ℕ) → IsOwn n → AreTagNumbers ms → map tag_text (filter (λ m. not (m == n)) ms) ≡ filter (λ u. not (same u (tag_text n))) (map tag_text ms)
filter_texts n [] a b = refl
filter_texts n (m ∷ ms) a b = go (filter_texts n ms a b.1) (m == n) ∙ ap (λ c. cond (not c) (tag_text m ∷ rest) rest) (sym (same_is m n b.0 a))
  where
    rest : List Bytes
    rest = filter (λ u. not (same u (tag_text n))) (map tag_text ms)

    left : List ℕ
    left = filter (λ m. not (m == n)) ms

    go : map tag_text left ≡ rest → (c : Bool) → map tag_text (cond (not c) (m ∷ left) left) ≡ cond (not c) (tag_text m ∷ rest) rest
    go i true = i
    go i false = ap (λ (l : List Bytes). tag_text m ∷ l) i

first_texts : (ns : List ℕ) → AreTagNumbers ns → map tag_text (first_numbers ns) ≡ firsts (map tag_text ns)
first_texts [] a = refl
first_texts (n ∷ ns) a =
    ap (λ (l : List Bytes). tag_text n ∷ l)
    (filter_texts n (first_numbers ns) a.0 (own-firsts ns a.1) ∙ ap (λ l. filter (λ u. not (same u (tag_text n))) l) (first_texts ns a.1))

-- the accepted messages, each where it is pushed first, are the accepted tags
accepted_are : (h : History Heard) (ns : List ℕ) → AreTagNumbers ns → map tag_text ns ≡ flat_map (accepted_by plain_setting) h.entries → map tag_text (first_numbers ns) ≡ accepted_tags plain_setting h.entries
accepted_are h ns own all = first_texts ns own ∙ ap firsts all

-- a list of texts with what each has
map-texts : {A : Type 0} (f : Bytes → A) (ns : List ℕ) → map {B = Bytes × A} (λ n. (tag_text n, f (tag_text n))) ns ≡ map {B = Bytes × A} (λ t. (t, f t)) (map tag_text ns)
map-texts f [] = refl
map-texts {A} f (n ∷ ns) = let p : Bytes × A = (tag_text n, f (tag_text n)) in ap (λ (l : List (Bytes × A)). p ∷ l) (map-texts f ns)

-- the accepted messages with their places are the defined places
pub places_known : (h : History Heard) (ns ms : List ℕ) → AreTagNumbers ns → map tag_text ns ≡ flat_map (accepted_by plain_setting) h.entries → ms ≡ first_numbers ns
    → map {B = Bytes × Place} (λ n. (tag_text n, place_of plain_setting h (tag_text n))) ms ≡ places plain_setting h
places_known h ns ms own all e =
    ap (map {B = Bytes × Place} (λ n. (tag_text n, place_of plain_setting h (tag_text n)))) e
    ∙ map-texts (place_of plain_setting h) (first_numbers ns)
    ∙ ap (map {B = Bytes × Place} (λ t. (t, place_of plain_setting h t))) (accepted_are h ns own all)
