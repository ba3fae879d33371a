-- The first bad word is found by going on from word to word.
use Rattle.std.proofs.Common.{List, Some, [], ap, drop, false, get_or, if◌then◌else◌, length, map, refl, sym, take, true, ℕ, ◌+◌, ◌++◌, ◌<◌, ◌∷◌, ◌∙◌, ◌≡◌}
use Rattle.std.proofs.lemmas.List.{drop_more, get_or-map, length-map, length-take-le, take-map, take_more}
use Rattle.std.proofs.Common.{arith, ◌≤◌}
use Rattle.wait_words.specs.Words.{bad_after, bad_wait_place, can_end, can_stand, is_address, is_needed, is_option, is_other}

passed : (before : List (List ℕ)) (word : List ℕ) (words : List (List ℕ)) → can_stand before word ≡ true → bad_after before (word ∷ words) ≡ bad_after (before ++ word ∷ []) words
passed before word words good = ap (λ b. if b then bad_after (before ++ word ∷ []) words else Some (length before)) good

refused : (before : List (List ℕ)) (word : List ℕ) (words : List (List ℕ)) → can_stand before word ≡ false → bad_after before (word ∷ words) ≡ Some (length before)
refused before word words wrong = ap (λ b. if b then bad_after (before ++ word ∷ []) words else Some (length before)) wrong

-- words of which contracts see the bytes
module _ {W : Type 0} (now : W → List ℕ) (ws : List W) (i : ℕ) (d : W) (within : i < length ws) where
  abbrev bytes : List (List ℕ)
  bytes = map now ws

  longer : i < length bytes
  longer = omega (arith, within, length-map ws now)

  here : get_or bytes i [] ≡ now (get_or ws i d)
  here = get_or-map now ws i d [] within

  -- a word that can stand at its place is passed
  pub passed_at : can_stand (map now (take i ws)) (now (get_or ws i d)) ≡ true → bad_after (take (i + 1) bytes) (drop (i + 1) bytes) ≡ bad_after (take i bytes) (drop i bytes)
  passed_at good =
      let stands : can_stand (take i bytes) (get_or bytes i []) ≡ true = ap (λ l. can_stand l (get_or bytes i [])) (take-map now i ws) ∙ ap (λ w. can_stand (map now (take i ws)) w) here ∙ good in
      sym (ap (λ l. bad_after (take i bytes) l) (drop_more bytes i [] longer) ∙ passed (take i bytes) (get_or bytes i []) (drop (i + 1) bytes) stands
      ∙ ap (λ l. bad_after l (drop (i + 1) bytes)) (sym (take_more bytes i [] longer)))

  -- one that can't is the first bad one
  pub refused_at : can_stand (map now (take i ws)) (now (get_or ws i d)) ≡ false → bad_after (take i bytes) (drop i bytes) ≡ bad_wait_place bytes → Some i ≡ bad_wait_place bytes
  refused_at wrong so_far =
      let stands : can_stand (take i bytes) (get_or bytes i []) ≡ false = ap (λ l. can_stand l (get_or bytes i [])) (take-map now i ws) ∙ ap (λ w. can_stand (map now (take i ws)) w) here ∙ wrong in
      let short : length (take i bytes) ≡ i = length-take-le i bytes (omega (arith, longer)) in
      ap Some (sym short) ∙ sym (refused (take i bytes) (get_or bytes i []) (drop (i + 1) bytes) stands) ∙ ap (λ l. bad_after (take i bytes) l) (sym (drop_more bytes i [] longer)) ∙ so_far

-- after four words comes the option that doesn't stand there yet
pub stands_fifth : {W : Type 0} (now : W → List ℕ) (ws : List W) (d : W) (word : List ℕ) → 4 ≤ length ws → length ws < 5 → is_other (now (get_or ws 2 d)) word ≡ can_stand (map now ws) word
stands_fifth now [] d word many few = absurd (omega (arith, many))
stands_fifth now (a ∷ []) d word many few = absurd (omega (arith, many))
stands_fifth now (a ∷ b ∷ []) d word many few = absurd (omega (arith, many))
stands_fifth now (a ∷ b ∷ e ∷ []) d word many few = absurd (omega (arith, many))
stands_fifth now (a ∷ b ∷ e ∷ f ∷ []) d word many few = refl
stands_fifth now (a ∷ b ∷ e ∷ f ∷ g ∷ ws) d word many few = absurd (omega (arith, few))

-- after no more than the name comes the address
pub stands_second : {W : Type 0} (now : W → List ℕ) (ws : List W) (word : List ℕ) → 1 ≤ length ws → length ws < 2 → is_address word ≡ can_stand (map now ws) word
stands_second now [] word many few = absurd (omega (arith, many))
stands_second now (a ∷ []) word many few = refl
stands_second now (a ∷ b ∷ ws) word many few = absurd (omega (arith, few))

-- after two words comes an option of the program
pub stands_third : {W : Type 0} (now : W → List ℕ) (ws : List W) (d : W) (word : List ℕ) → 2 ≤ length ws → length ws < 3 → is_option (now (get_or ws 0 d)) word ≡ can_stand (map now ws) word
stands_third now [] d word many few = absurd (omega (arith, many))
stands_third now (a ∷ []) d word many few = absurd (omega (arith, many))
stands_third now (a ∷ b ∷ []) d word many few = refl
stands_third now (a ∷ b ∷ e ∷ ws) d word many few = absurd (omega (arith, few))

-- after six words comes none
pub stands_last : {W : Type 0} (now : W → List ℕ) (ws : List W) (word : List ℕ) → 6 ≤ length ws → false ≡ can_stand (map now ws) word
stands_last now [] word many = absurd (omega (arith, many))
stands_last now (a ∷ []) word many = absurd (omega (arith, many))
stands_last now (a ∷ b ∷ []) word many = absurd (omega (arith, many))
stands_last now (a ∷ b ∷ e ∷ []) word many = absurd (omega (arith, many))
stands_last now (a ∷ b ∷ e ∷ f ∷ []) word many = absurd (omega (arith, many))
stands_last now (a ∷ b ∷ e ∷ f ∷ g ∷ []) word many = absurd (omega (arith, many))
stands_last now (a ∷ b ∷ e ∷ f ∷ g ∷ h ∷ ws) word many = refl

-- four words end by what their option is
pub ends_fourth : {W : Type 0} (now : W → List ℕ) (ws : List W) (d : W) → 4 ≤ length ws → length ws < 5 → is_needed (now (get_or ws 2 d)) ≡ can_end (map now ws)
ends_fourth now [] d many few = absurd (omega (arith, many))
ends_fourth now (a ∷ []) d many few = absurd (omega (arith, many))
ends_fourth now (a ∷ b ∷ []) d many few = absurd (omega (arith, many))
ends_fourth now (a ∷ b ∷ e ∷ []) d many few = absurd (omega (arith, many))
ends_fourth now (a ∷ b ∷ e ∷ f ∷ []) d many few = refl
ends_fourth now (a ∷ b ∷ e ∷ f ∷ g ∷ ws) d many few = absurd (omega (arith, few))
