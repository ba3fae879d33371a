-- The place that is looked up is the defined one.
use Rattle.std.proofs.Common.{◌≡◌, ℕ, zero, suc, ◌+◌, ◌^◌, ◌<◌, List, [], ◌∷◌, ◌++◌, append_assoc, arith, drop, drop-cons, get_or, length, map, Bool, true, false, if◌then◌else◌, refl, sym, ap, ◌∙◌, Option, is_some}
use Rattle.std.proofs.lemmas.List.{map-append}
use Rattle.std.specs.FinMap.{empty, entries, get}
use Rattle.delivery_tags.specs.Tags.{tag_text}
use Rattle.delivery_tags.specs.declared.tag.Tag.{Tag}
use Rattle.store_model.specs.Keys.{Keys}
use Rattle.command_blocks.specs.EnvelopeTexts.{plain_setting}
use Rattle.message_acts.specs.Numbers.{has, times}
use Rattle.place_walk.specs.Seats.{hands}
use Rattle.place_index.specs.Standing.{standing_in}
use Rattle.place_index.specs.Places.{first_of, listed_place, place_by, single_place}
use Rattle.place_model.specs.Histories.{History, after}
use Rattle.place_index.specs.Indexed.{IsIndexOf, by_tally, place_in, single_in}
use Rattle.place_index.specs.Kept.{is_kept}
use Rattle.queue_keys.specs.Names.{Bytes}
use Rattle.place_model.specs.PlaceOf.{by_counts, or_place, place_of}
use Rattle.place_model.specs.Placed.{all_placed, placed}
use Rattle.place_index.specs.Tallies.{tally}
use Rattle.place_model.specs.declared.heard.Heard.{Heard}
use Rattle.place_index.specs.declared.index.Index.{Index}
use Rattle.place_model.specs.declared.place.Place.{Place}
use Rattle.place_model.specs.declared.place.Place.TheVariants.{Unacked, Hand, Ended, Lost, Never}
use Rattle.place_walk.specs.Gathered.{positive}
use Rattle.place_walk.proofs.Gathers.{positive-times}
use Rattle.place_index.proofs.Whereabouts.{places_are}

by_tally_is : (n : ℕ) (b : Bool) (p : Place) → by_tally (tally n) b p ≡ by_counts n (if b then 1 else 0) p
by_tally_is zero b p = refl
by_tally_is (suc zero) true p = refl
by_tally_is (suc zero) false p = refl
by_tally_is (suc (suc n)) b p = refl

some_tally : (n : ℕ) → is_some (tally n) ≡ positive n
some_tally zero = refl
some_tally (suc zero) = refl
some_tally (suc (suc n)) = refl

has_is : (t : ℕ) (ns : List ℕ) (o : Option Bool) → o ≡ tally (times t ns) → is_some o ≡ has t ns
has_is t ns o e = ap is_some e ∙ some_tally (times t ns) ∙ positive-times t ns

-- a place by what was looked up
single : Option (Bytes × ℕ) → Bool → Option ℕ → Bool → Option ℕ → Place
single s k h e l = or_place listed_place s (if k then Unacked else or_place Hand h (if e then Ended else or_place Lost l Never))

module _ (h : History Heard) (x : Index) (i : IsIndexOf h x) (m : Keys) (same : m ≡ (after h).store.keys) (t : ℕ) where
  single_is : single_in x m t ≡ single_place t i.walked.0 (standing_in plain_setting (entries (after h).store.keys)) (is_kept (after h).store.keys t)
  unfolding single
  single_is =
      let k = i.walked.0 in
      let r = i.walked.2 in
      let told = standing_in plain_setting (entries (after h).store.keys) in
      let kept = is_kept (after h).store.keys t in
      let e : single_in x m t ≡ single (get x.standing t) (is_kept m t) (get x.walked.hands.there t) (is_some (get x.walked.tallies.ended t)) (get x.walked.hands.gone t) = refl in
      e
      ∙ ap (λ s. single s (is_kept m t) (get x.walked.hands.there t) (is_some (get x.walked.tallies.ended t)) (get x.walked.hands.gone t)) (i.standing t)
      ∙ ap (λ s. single (first_of t told) (is_kept s t) (get x.walked.hands.there t) (is_some (get x.walked.tallies.ended t)) (get x.walked.hands.gone t)) same
      ∙ ap (λ o. single (first_of t told) kept o (is_some (get x.walked.tallies.ended t)) (get x.walked.hands.gone t)) (r.hands.there t)
      ∙ ap (λ b. single (first_of t told) kept (first_of t (hands false (entries k.seats))) b (get x.walked.hands.gone t)) (has_is t k.ended (get x.walked.tallies.ended t) (r.tallies.ended t))
      ∙ ap (λ o. single (first_of t told) kept (first_of t (hands false (entries k.seats))) (has t k.ended) o) (r.hands.gone t)

  place_by_is : place_in x m t ≡ place_by t i.walked.0 (standing_in plain_setting (entries (after h).store.keys)) (is_kept (after h).store.keys t)
  place_by_is =
      let k = i.walked.0 in
      let r = i.walked.2 in
      let p = single_place t k (standing_in plain_setting (entries (after h).store.keys)) (is_kept (after h).store.keys t) in
      ap (λ o. by_tally o (is_some (get x.walked.tallies.copied t)) (single_in x m t)) (r.tallies.pushes t)
      ∙ ap (λ b. by_tally (tally (times t k.pushes)) b (single_in x m t)) (has_is t k.copied (get x.walked.tallies.copied t) (r.tallies.copied t))
      ∙ ap (λ q. by_tally (tally (times t k.pushes)) (has t k.copied) q) single_is
      ∙ by_tally_is (times t k.pushes) (has t k.copied) p

  -- the place that is looked up
  pub place_known : t < 2 ^ 128 → h.start ≡ empty → place_in x m t ≡ place_of plain_setting h (tag_text t)
  place_known fits e = place_by_is ∙ sym (places_are h i.walked.0 t i.walked.1 fits e)

-- what is told of a message
told : History Heard → ℕ → Bytes × Place
told h n = (tag_text n, place_of plain_setting h (tag_text n))

-- one more message with its place
pub placed_more : (h : History Heard) (x : Index) (m : Keys) → IsIndexOf h x → m ≡ (after h).store.keys → h.start ≡ empty → (ps qs : List (Tag × Place)) (ns : List ℕ) (k : ℕ) (p : Place)
    → get_or ns k 0 < 2 ^ 128 → k < length ns → p ≡ place_in x m (get_or ns k 0) → qs ≡ ps ++ (record { 0 = get_or ns k 0 }, p) ∷ []
    → all_placed ps ++ map (λ n. (tag_text n, place_of plain_setting h (tag_text n))) (drop k ns) ≡ map (λ n. (tag_text n, place_of plain_setting h (tag_text n))) ns
    → all_placed qs ++ map (λ n. (tag_text n, place_of plain_setting h (tag_text n))) (drop (k + 1) ns) ≡ map (λ n. (tag_text n, place_of plain_setting h (tag_text n))) ns
unfolding told
placed_more h x m i s e ps qs ns k p fits lt is more so_far =
    let n = get_or ns k 0 in
    let rest : List (Bytes × Place) = map (told h) (drop (suc k) ns) in
    let one : k + 1 ≡ suc k = omega arith in
    let whole : drop k ns ≡ n ∷ drop (suc k) ns = drop-cons ns k 0 lt in
    ap (λ l. all_placed l ++ map (told h) (drop (k + 1) ns)) more
    ∙ ap (λ j. all_placed (ps ++ (record { 0 = n }, p) ∷ []) ++ map (told h) (drop j ns)) one
    ∙ ap (λ l. l ++ rest) (map-append placed ps ((record { 0 = n }, p) ∷ []))
    ∙ append_assoc (all_placed ps) ((tag_text n, p) ∷ []) rest
    ∙ ap (λ q. all_placed ps ++ (tag_text n, q) ∷ rest) (is ∙ place_known h x i m s n fits e)
    ∙ sym (ap (λ l. all_placed ps ++ map (told h) l) whole)
    ∙ so_far
