-- The words of a pattern pass those of a key, one after the other, up to a #.
use Rattle.std.proofs.Common.{◌≡◌, ◌≤◌, suc, Bool, true, false, List, [], ◌∷◌, length, Option, Some, None, refl, sym, ap, ◌∙◌, arith}
use Rattle.std.specs.Prelude.{◌||◌, ◌&&◌, if◌then◌else◌}
use Rattle.queue_keys.specs.Names.{Bytes, same}
use Rattle.queue_keys.specs.Patterns.{any_end, dotted_words, first_and, is_none, word_matches, words_match}
use Rattle.lookups.proofs.Dots.{words_there}
use Rattle.lookups.specs.Runs.{IsPassing, IsUpToHash, all_pass, end_passes}
use Rattle.lookups.specs.WordsLeft.{text_extent, words_in}

-- ---- ends of words

or_same : (a : Bool) → (a || a) ≡ a
or_same true = refl
or_same false = refl

or_false : (a b : Bool) → (a || b) ≡ false → (a ≡ false) × (b ≡ false)
or_false true b e = absurd (cc)
or_false false b e = (refl, e)

-- an end of an end is an end
ends_of_ends : (f : List Bytes → Bool) (ws : List Bytes) → any_end (any_end f) ws ≡ any_end f ws
ends_of_ends f [] = refl
ends_of_ends f (w ∷ ws) = ap (λ b. (f (w ∷ ws) || any_end f ws) || b) (ends_of_ends f ws) ∙ again (f (w ∷ ws)) (any_end f ws) where
  again : (a b : Bool) → ((a || b) || b) ≡ (a || b)
  again true b = refl
  again false b = or_same b

-- the whole is an end
whole_end : (f : List Bytes → Bool) (ws : List Bytes) → any_end f ws ≡ false → f ws ≡ false
whole_end f [] e = e
whole_end f (w ∷ ws) e = (or_false (f (w ∷ ws)) (any_end f ws) e).0

none_of_both : (a b c : Bool) → b ≡ false → c ≡ false → ((a && b) || c) ≡ false
none_of_both true false false g h = refl
none_of_both false false false g h = refl
none_of_both a true c g h = absurd (cc)
none_of_both a false true g h = absurd (cc)

-- where no end passes, none passes with a word before it
no_end_then : (m : Bytes → Bool) (f : List Bytes → Bool) (ws : List Bytes) → any_end f ws ≡ false → any_end (first_and m f) ws ≡ false
no_end_then m f [] e = refl
no_end_then m f (w ∷ ws) e =
    let rest : any_end f ws ≡ false = (or_false (f (w ∷ ws)) (any_end f ws) e).1 in
    none_of_both (m w) (f ws) (any_end (first_and m f) ws) (whole_end f ws rest) (no_end_then m f ws rest)

no_end_after : (m : Bytes → Bool) (f : List Bytes → Bool) (w : Bytes) (ws : List Bytes) → any_end f ws ≡ false → any_end (first_and m f) (w ∷ ws) ≡ false
no_end_after m f w ws e = none_of_both (m w) (f ws) (any_end (first_and m f) ws) (whole_end f ws e) (no_end_then m f ws e)

-- ---- a run

-- it begins before all words
pub starts : (p k : Option Bytes) → IsPassing p k p k
starts p k = record { whole = refl; ends = λ e. e; shorter = omega arith; within = omega arith }

-- what the words of a pattern pass, by the first, which is no #
by_first : (t w : Bytes) (ws : List Bytes) → dotted_words t ≡ w ∷ ws → same (35 ∷ []) w ≡ false → words_match (dotted_words t) ≡ first_and (word_matches w) (words_match ws)
by_first t w ws is off = ap words_match is ∙ ap (λ (b : Bool). λ (l : List Bytes). if b then any_end (words_match ws) l else first_and (word_matches w) (words_match ws) l) off

-- and by the first, which is a #
by_hash : (t w : Bytes) (ws : List Bytes) → dotted_words t ≡ w ∷ ws → same (35 ∷ []) w ≡ true → words_match (dotted_words t) ≡ any_end (words_match ws)
by_hash t w ws is on = ap words_match is ∙ ap (λ (b : Bool). λ (l : List Bytes). if b then any_end (words_match ws) l else first_and (word_matches w) (words_match ws) l) on

module _ (p k : Option Bytes) (t w : Bytes) (others left : Option Bytes) (h : IsPassing p k (Some t) left) (is : dotted_words t ≡ w ∷ words_in others) (few : text_extent others ≤ length t) where
  -- at a #
  pub hash_found : same (35 ∷ []) w ≡ true → IsUpToHash p k others left
  hash_found on =
      let all : all_pass (Some t) left ≡ end_passes others left = ap (λ f. f (words_in left)) (by_hash t w (words_in others) is on) in
      let ended : end_passes (Some t) left ≡ end_passes others left = ap (λ f. any_end f (words_in left)) (by_hash t w (words_in others) is on) ∙ ends_of_ends (words_match (words_in others)) (words_in left) in
      record {
        whole = sym h.whole ∙ all;
        ends = both (end_passes p k) (end_passes others left) (λ e. h.ends (ended ∙ e)) (λ e. sym all ∙ h.whole ∙ whole_end (words_match (words_in p)) (words_in k) e);
        shorter = (let f = h.shorter in omega (arith, f, few));
        within = h.within;
      }
    where
      both : (a b : Bool) → (b ≡ false → a ≡ false) → (a ≡ false → b ≡ false) → a ≡ b
      both true true f g = refl
      both false false f g = refl
      both true false f g = f refl
      both false true f g = sym (g refl)

  module _ (u v : Bytes) (rest : Option Bytes) (key : left ≡ Some u) (there : dotted_words u ≡ v ∷ words_in rest) (off : same (35 ∷ []) w ≡ false) where
    words_left : words_in left ≡ v ∷ words_in rest
    words_left = ap words_in key ∙ there

    decided : all_pass p k ≡ (word_matches w v && all_pass others rest)
    decided = sym h.whole ∙ ap (λ f. f (words_in left)) (by_first t w (words_in others) is off) ∙ ap (first_and (word_matches w) (words_match (words_in others))) words_left

    -- a word passes
    pub word_found : word_matches w v ≡ true → text_extent rest ≤ length u → IsPassing p k others rest
    word_found found less = record {
      whole = sym (decided ∙ ap (λ b. b && all_pass others rest) found);
      ends = λ e. h.ends (ap (λ f. any_end f (words_in left)) (by_first t w (words_in others) is off) ∙ ap (any_end (first_and (word_matches w) (words_match (words_in others)))) words_left ∙ no_end_after (word_matches w) (words_match (words_in others)) v (words_in rest) e);
      shorter = (let f = h.shorter in omega (arith, f, few));
      within = (let f : text_extent left ≤ text_extent k = h.within in let g : text_extent left ≡ suc (length u) = ap text_extent key in omega (arith, f, g, less));
    }

-- the pattern's words are done
done : (p k words left : Option Bytes) → IsPassing p k words left → words ≡ None → (b : Bool) → is_none (words_in left) ≡ b → all_pass p k ≡ b
done p k words left h none b is = sym h.whole ∙ ap (λ o. words_match (words_in o) (words_in left)) none ∙ is

-- and the key has more
pub text_is_left : (p k words left : Option Bytes) (u : Bytes) → IsPassing p k words left → words ≡ None → left ≡ Some u → all_pass p k ≡ false
text_is_left p k words left u h none some =
    let f = words_there u in
    done p k words left h none false (ap (λ o. is_none (words_in o)) some ∙ ap is_none f.2)

-- the whole is an end that passes
pub whole_passes : (p k : Option Bytes) → all_pass p k ≡ true → end_passes p k ≡ true
whole_passes p k e = by (words_in k) e where
  by : (ws : List Bytes) → words_match (words_in p) ws ≡ true → any_end (words_match (words_in p)) ws ≡ true
  by [] e = e
  by (w ∷ ws) e = ap (λ b. b || any_end (words_match (words_in p)) ws) e
