-- What a pattern matches, by its words.
use Rattle.std.proofs.Common.{◌≡◌, ℕ, List, [], ◌∷◌, ◌++◌, Bool, true, false, not, ◌&&◌, ◌||◌, ◌==◌, if◌then◌else◌, refl, sym, ap, subst, ◌∙◌}
use Rattle.queue_keys.specs.Names.{Bytes, same}
use Rattle.queue_keys.specs.Patterns.{any_end, dotted_words, first_and, matches, onto_words, word_matches, words_match}
use Rattle.queue_keys.specs.QueueKeys.{Each}
use Rattle.queue_keys.proofs.Basics.{and_true, eqb_true, same_true, same-refl}
use Rattle.key_laws.specs.PatternLaws.{Any_word, AreWordsOf, No_more, No_words, One_more, PatternsTell, Same_word, WordsFit, has_no_dot, hash_word, star_word, with_dots}

false_true : {A : Type 0} → false ≡ true → A
false_true e = absurd (cc e)

-- ---- a match fits

-- some end of the words fits what follows a #
end_fits : (ps ws : List Bytes) → ((us : List Bytes) → words_match ps us ≡ true → WordsFit ps us) → any_end (words_match ps) ws ≡ true → WordsFit (hash_word ∷ ps) ws
end_fits ps [] more e = No_more ps [] (more [] e)
end_fits ps (w ∷ ws) more e = go (words_match ps (w ∷ ws)) refl e (end_fits ps ws more)
  where
    go : (t : Bool) → words_match ps (w ∷ ws) ≡ t → (t || any_end (words_match ps) ws) ≡ true → (any_end (words_match ps) ws ≡ true → WordsFit (hash_word ∷ ps) ws) → WordsFit (hash_word ∷ ps) (w ∷ ws)
    go true i f later = No_more ps (w ∷ ws) (more (w ∷ ws) i)
    go false i f later = One_more w ps ws (later f)

-- one word fits
word_fits : (p w : Bytes) (ps ws : List Bytes) → word_matches p w ≡ true → WordsFit ps ws → WordsFit (p ∷ ps) (w ∷ ws)
word_fits p w ps ws e fits = go (same star_word p) refl e
  where
    go : (t : Bool) → same star_word p ≡ t → (t || same p w) ≡ true → WordsFit (p ∷ ps) (w ∷ ws)
    go true i f = subst (λ z. WordsFit (z ∷ ps) (w ∷ ws)) (same_true star_word p i) (Any_word w ps ws fits)
    go false i f = subst (λ z. WordsFit (p ∷ ps) (z ∷ ws)) (same_true p w f) (Same_word p ps ws fits)

first_fits : (p : Bytes) (ps ws : List Bytes) → ((us : List Bytes) → words_match ps us ≡ true → WordsFit ps us) → first_and (word_matches p) (words_match ps) ws ≡ true → WordsFit (p ∷ ps) ws
first_fits p ps [] more e = false_true e
first_fits p ps (w ∷ ws) more e = let both = and_true (word_matches p w) (words_match ps ws) e in word_fits p w ps ws both.0 (more ws both.1)

match_fits : (ps ws : List Bytes) → words_match ps ws ≡ true → WordsFit ps ws
match_fits [] [] e = No_words
match_fits [] (w ∷ ws) e = false_true e
match_fits (p ∷ ps) ws e = go (same hash_word p) refl e (match_fits ps)
  where
    go : (t : Bool) → same hash_word p ≡ t → (if t then any_end (words_match ps) ws else first_and (word_matches p) (words_match ps) ws) ≡ true → ((us : List Bytes) → words_match ps us ≡ true → WordsFit ps us) → WordsFit (p ∷ ps) ws
    go true i f more = subst (λ z. WordsFit (z ∷ ps) ws) (same_true hash_word p i) (end_fits ps ws more f)
    go false i f more = first_fits p ps ws more f

-- ---- and what fits matches

or_left : (a b : Bool) → a ≡ true → (a || b) ≡ true
or_left a b e = ap (λ z. z || b) e

or_right : (a b : Bool) → b ≡ true → (a || b) ≡ true
or_right true b e = refl
or_right false b e = e

-- the whole is an end
whole_end : (ps ws : List Bytes) → words_match ps ws ≡ true → any_end (words_match ps) ws ≡ true
whole_end ps [] e = e
whole_end ps (w ∷ ws) e = or_left (words_match ps (w ∷ ws)) (any_end (words_match ps) ws) e

-- after a #
hash_is : (ps ws : List Bytes) → words_match (hash_word ∷ ps) ws ≡ any_end (words_match ps) ws
hash_is ps ws = ap (λ t. if t then any_end (words_match ps) ws else first_and (word_matches hash_word) (words_match ps) ws) (same-refl hash_word)

star_is : (w : Bytes) (ps ws : List Bytes) → words_match (star_word ∷ ps) (w ∷ ws) ≡ words_match ps ws
unfolding same
star_is w ps ws = refl

same_match : (w : Bytes) (ps ws : List Bytes) → words_match ps ws ≡ true → words_match (w ∷ ps) (w ∷ ws) ≡ true
same_match w ps ws e = go (same hash_word w)
  where
    itself : word_matches w w ≡ true
    itself = or_right (same star_word w) (same w w) (same-refl w)

    go : (t : Bool) → (if t then any_end (words_match ps) (w ∷ ws) else first_and (word_matches w) (words_match ps) (w ∷ ws)) ≡ true
    go true = or_right (words_match ps (w ∷ ws)) (any_end (words_match ps) ws) (whole_end ps ws e)
    go false = ap (λ z. z && words_match ps ws) itself ∙ e

fit_matches : (ps ws : List Bytes) → WordsFit ps ws → words_match ps ws ≡ true
fit_matches ps ws No_words = refl
fit_matches ps ws (Same_word w ps' ws' fits) = same_match w ps' ws' (fit_matches ps' ws' fits)
fit_matches ps ws (Any_word w ps' ws' fits) = star_is w ps' ws' ∙ fit_matches ps' ws' fits
fit_matches ps ws (No_more ps' ws' fits) = hash_is ps' ws ∙ whole_end ps' ws (fit_matches ps' ws fits)
fit_matches ps ws (One_more w ps' ws' fits) =
    hash_is ps' (w ∷ ws') ∙ or_right (words_match ps' (w ∷ ws')) (any_end (words_match ps') ws') (sym (hash_is ps' ws') ∙ fit_matches (hash_word ∷ ps') ws' fits)

-- ---- the words of a text

-- a byte before the first of some words, or a dot
onto_are : (b : ℕ) (bs : Bytes) (w : Bytes) (ws : List Bytes) (t : Bool) → (b == 46) ≡ t → AreWordsOf bs (w ∷ ws) → AreWordsOf (b ∷ bs) (if t then [] ∷ w ∷ ws else (b ∷ w) ∷ ws)
onto_are b bs w ws true e h =
    let dot : b ≡ 46 = eqb_true b 46 e in
    record { dotted = λ i. sym dot i ∷ h.dotted i; plain = (refl, h.plain) }
onto_are b bs w ws false e h = record {
  dotted = front ws ∙ ap (λ z. b ∷ z) h.dotted;
  plain = (ap (λ t. not t && has_no_dot w) e ∙ h.plain.0, h.plain.1);
}
  where
    front : (us : List Bytes) → with_dots ((b ∷ w) ∷ us) ≡ b ∷ with_dots (w ∷ us)
    front [] = refl
    front (u ∷ us) = refl

onto_some : (b : ℕ) (bs : Bytes) (ws : List Bytes) → (ws ≡ [] → ⊥) → AreWordsOf bs ws → AreWordsOf (b ∷ bs) (onto_words b ws) × (onto_words b ws ≡ [] → ⊥)
onto_some b bs [] some h = absurd (some refl)
onto_some b bs (w ∷ ws) some h = (onto_are b bs w ws (b == 46) refl h, never (b == 46))
  where
    never : (t : Bool) → (if t then [] ∷ w ∷ ws else (b ∷ w) ∷ ws) ≡ [] → ⊥
    never true e = cc
    never false e = cc

words_are : (x : Bytes) → AreWordsOf x (dotted_words x) × (dotted_words x ≡ [] → ⊥)
words_are [] = (record { dotted = refl; plain = (refl, tt) }, λ e. none e)
  where
    none : ◌≡◌ {A = List Bytes} ([] ∷ []) [] → ⊥
    none e = cc
words_are (b ∷ bs) = let h = words_are bs in onto_some b bs (dotted_words bs) h.1 h.0

pub patterns_tell : PatternsTell
unfolding matches
patterns_tell x r = ((words_are x).0, (match_fits (dotted_words x) (dotted_words r), fit_matches (dotted_words x) (dotted_words r)))
