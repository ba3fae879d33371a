-- What the words ask for.
use Rattle.std.proofs.Common.{Bool, List, None, Some, [], inl, inr, ◌⊎◌, ap, arith, codes, false, length, true, refl, sym, ℕ, ◌≡◌, ◌∙◌, ◌∷◌}
use Rattle.std.specs.Prelude.{Option, bytes_eq, if◌then◌else◌, is_some, ◌&&◌, ◌||◌}
use Rattle.std.proofs.lemmas.Slice.Eq.{bytes_eq-Decides}
use Rattle.std.proofs.lemmas.Option.{none-some}
use Rattle.top_call.specs.Words.{bad_place, count_in, is_apart, is_recording, is_replay, is_show, made_count, place_after_make, place_after_replay, reads_schedule}

bool_clash : false ≡ true → ⊥
bool_clash e = cc

-- one place or another
abbrev pick : Bool → Option ℕ → Option ℕ → Option ℕ
pick a x y = if a then x else y

both : (a b : Bool) → (a && b) ≡ true → (a ≡ true) × (b ≡ true)
both true b e = (refl, e)
both false b e = absurd (bool_clash e)

-- the place of the first bad word by the two tests of the name, and what comes after the one
abbrev named : Bool → Bool → Option ℕ → Option ℕ → Option ℕ
named replay show x y = pick replay x (pick show y (Some 0))

named_replay : (a b : Bool) (x y : Option ℕ) → a ≡ true → named a b x y ≡ x
named_replay true b x y e = refl
named_replay false b x y e = absurd (bool_clash e)

named_show : (a b : Bool) (x y : Option ℕ) → a ≡ false → b ≡ true → named a b x y ≡ y
named_show true b x y e f = absurd (bool_clash (sym e))
named_show false true x y e f = refl
named_show false false x y e f = absurd (bool_clash f)

picked : (a : Bool) (x y : Option ℕ) → a ≡ true → pick a x y ≡ x
picked true x y e = refl
picked false x y e = absurd (bool_clash e)

passed : (a : Bool) (x y : Option ℕ) → a ≡ false → pick a x y ≡ y
passed true x y e = absurd (bool_clash (sym e))
passed false x y e = refl

one_text : (word one other : List ℕ) → (one ≡ other → ⊥) → bytes_eq word one ≡ true → bytes_eq word other ≡ false
one_text word one other differ is = by (bytes_eq word other) refl where
  by : (b : Bool) → bytes_eq word other ≡ b → bytes_eq word other ≡ false
  by true e = absurd (differ (sym ((bytes_eq-Decides word one).0 is) ∙ (bytes_eq-Decides word other).0 e))
  by false e = e

make_record : codes "--make" ≡ codes "--record" → ⊥
make_record same = let lengths : 6 ≡ 8 = ap length same in omega (arith, lengths)

show_replay : codes "show" ≡ codes "replay" → ⊥
show_replay same = let lengths : 4 ≡ 6 = ap length same in omega (arith, lengths)

replay_good : (words : List (List ℕ)) → is_replay words ≡ true → bad_place words ≡ None
replay_good [] e = absurd (bool_clash e)
replay_good (word ∷ []) e = named_replay (bytes_eq word (codes "replay")) (bytes_eq word (codes "show")) None None e
replay_good (word ∷ more ∷ words) e = absurd (bool_clash e)

recording_good : (words : List (List ℕ)) → is_recording words ≡ true → bad_place words ≡ None
recording_good [] e = absurd (bool_clash e)
recording_good (word ∷ []) e = absurd (bool_clash e)
recording_good (word ∷ flag ∷ []) e =
    let p = both (bytes_eq word (codes "replay")) (bytes_eq flag (codes "--record")) e in
    named_replay (bytes_eq word (codes "replay")) (bytes_eq word (codes "show")) (place_after_replay (flag ∷ [])) (Some 1) p.0
    ∙ picked (bytes_eq flag (codes "--record")) None (pick (bytes_eq flag (codes "--make")) (Some 2) (Some 1)) p.1
recording_good (word ∷ flag ∷ more ∷ words) e = absurd (bool_clash e)

show_good : (words : List (List ℕ)) → is_show words ≡ true → bad_place words ≡ None
show_good [] e = absurd (bool_clash e)
show_good (word ∷ []) e = named_show (bytes_eq word (codes "replay")) (bytes_eq word (codes "show")) None None (one_text word (codes "show") (codes "replay") show_replay e) e
show_good (word ∷ more ∷ words) e = absurd (bool_clash e)

none_is : {n : ℕ} → None ≡ Some n → ⊥
none_is e = cc

count_is : (x : Option ℕ) (n : ℕ) → x ≡ Some n → is_some x ≡ true
count_is x n e = ap is_some e

-- the words that ask for a made schedule, with its number
made_words : (a b : Bool) (x : Option ℕ) (n : ℕ) → pick (a && b) x None ≡ Some n → (a ≡ true) × (b ≡ true) × (x ≡ Some n)
made_words true true x n e = (refl, refl, e)
made_words true false x n e = absurd (none_is e)
made_words false b x n e = absurd (none_is e)

making_good : (words : List (List ℕ)) (n : ℕ) → made_count words ≡ Some n → bad_place words ≡ None
making_good [] n e = absurd (none_is e)
making_good (word ∷ []) n e = absurd (none_is e)
making_good (word ∷ option ∷ []) n e = absurd (none_is e)
making_good (word ∷ option ∷ number ∷ []) n e =
    let (named_so, asked, counted) = made_words (bytes_eq word (codes "replay")) (bytes_eq option (codes "--make")) (count_in number) n e in
    named_replay (bytes_eq word (codes "replay")) (bytes_eq word (codes "show")) (place_after_replay (option ∷ number ∷ [])) (Some 1) named_so
    ∙ (passed (bytes_eq option (codes "--record")) (Some 2) (pick (bytes_eq option (codes "--make")) (place_after_make (number ∷ [])) (Some 1)) (one_text option (codes "--make") (codes "--record") make_record asked)
    ∙ (picked (bytes_eq option (codes "--make")) (place_after_make (number ∷ [])) (Some 1) asked
    ∙ picked (is_some (count_in number)) None (Some 2) (count_is (count_in number) n counted)))
making_good (word ∷ option ∷ number ∷ more ∷ words) n e = absurd (none_is e)

-- words that ask for a schedule ask for its report, or for its record
pub asks_which : (a b : Bool) → (a || b) ≡ true → (a ≡ true) ⊎ (b ≡ true)
asks_which true b e = inl refl
asks_which false b e = inr e

-- who doesn't ask for the record asks for the report
pub just_replay : (words : List (List ℕ)) → reads_schedule words ≡ true → is_recording words ≡ false → is_replay words ≡ true
just_replay words reads plain = by (is_replay words) (is_recording words) reads plain where
  by : (a b : Bool) → (a || b) ≡ true → b ≡ false → a ≡ true
  by true b e f = refl
  by false b e f = absurd (bool_clash (sym f ∙ e))

-- words that name a program have no bad one among them
pub replay_lawful : (words : List (List ℕ)) (place : ℕ) → is_replay words ≡ true → bad_place words ≡ Some place → ⊥
replay_lawful words place replay bad = none-some place (sym (replay_good words replay) ∙ bad)

pub recording_lawful : (words : List (List ℕ)) (place : ℕ) → is_recording words ≡ true → bad_place words ≡ Some place → ⊥
recording_lawful words place recording bad = none-some place (sym (recording_good words recording) ∙ bad)

pub lawful_good : (words : List (List ℕ)) (place : ℕ) → reads_schedule words ≡ true → bad_place words ≡ Some place → ⊥
lawful_good words place reads bad = by (asks_which (is_replay words) (is_recording words) reads) where
  by : (is_replay words ≡ true) ⊎ (is_recording words ≡ true) → ⊥
  by (inl replay) = replay_lawful words place replay bad
  by (inr recording) = recording_lawful words place recording bad

pub show_lawful : (words : List (List ℕ)) (place : ℕ) → is_show words ≡ true → bad_place words ≡ Some place → ⊥
show_lawful words place show bad = none-some place (sym (show_good words show) ∙ bad)

some_none : {n : ℕ} → Some n ≡ None → ⊥
some_none e = cc

either_false : (a b : Bool) → (a || b) ≡ false → (a ≡ false) × (b ≡ false)
either_false true b e = absurd (bool_clash (sym e))
either_false false b e = (refl, e)

left_true : (a b : Bool) → a ≡ true → (a || b) ≡ true
left_true true b e = refl
left_true false b e = absurd (bool_clash e)

right_true : (a b : Bool) → b ≡ true → (a || b) ≡ true
right_true true b e = refl
right_true false b e = e

both_false : (a b : Bool) → a ≡ false → b ≡ false → (a || b) ≡ false
both_false true b e f = e
both_false false b e f = f

-- which words ask for a program that reads no schedule
pub show_apart : (words : List (List ℕ)) → is_show words ≡ true → is_apart words ≡ true
show_apart words show = left_true (is_show words) (is_some (made_count words)) show

pub making_apart : (words : List (List ℕ)) (n : ℕ) → made_count words ≡ Some n → is_apart words ≡ true
making_apart words n made = right_true (is_show words) (is_some (made_count words)) (ap is_some made)

pub not_apart : (words : List (List ℕ)) → is_show words ≡ false → made_count words ≡ None → is_apart words ≡ false
not_apart words show made = both_false (is_show words) (is_some (made_count words)) show (ap is_some made)

pub apart_clash : (words : List (List ℕ)) → is_apart words ≡ true → is_apart words ≡ false → ⊥
apart_clash words apart other = bool_clash (sym other ∙ apart)

-- good words that ask for no such program ask for a schedule
pub asks_replay : (words : List (List ℕ)) → is_apart words ≡ false → bad_place words ≡ None → reads_schedule words ≡ true
asks_replay [] other good = absurd (some_none good)
asks_replay (word ∷ []) other good = by (bytes_eq word (codes "replay")) (bytes_eq word (codes "show")) (either_false (bytes_eq word (codes "show")) false other).0 good where
  by : (a b : Bool) → b ≡ false → named a b None None ≡ None → (a || false) ≡ true
  by true b e good = refl
  by false true e good = absurd (bool_clash (sym e))
  by false false e good = absurd (some_none good)
asks_replay (word ∷ flag ∷ []) other good = by (bytes_eq word (codes "replay")) (bytes_eq word (codes "show")) (bytes_eq flag (codes "--record")) (bytes_eq flag (codes "--make")) good where
  by : (a b r m : Bool) → named a b (pick r None (pick m (Some 2) (Some 1))) (Some 1) ≡ None → (a && r) ≡ true
  by true b true m good = refl
  by true b false true good = absurd (some_none good)
  by true b false false good = absurd (some_none good)
  by false true r m good = absurd (some_none good)
  by false false r m good = absurd (some_none good)
asks_replay (word ∷ option ∷ number ∷ []) other good = absurd (by (bytes_eq word (codes "replay")) (bytes_eq word (codes "show")) (bytes_eq option (codes "--record")) (bytes_eq option (codes "--make")) (count_in number) other good) where
  by : (a b r m : Bool) (x : Option ℕ) → is_some (pick (a && m) x None) ≡ false → named a b (pick r (Some 2) (pick m (pick (is_some x) None (Some 2)) (Some 1))) (Some 1) ≡ None → ⊥
  by true b true m x other good = some_none good
  by true b false true None other good = some_none good
  by true b false true (Some n) other good = bool_clash (sym other)
  by true b false false x other good = some_none good
  by false true r m x other good = some_none good
  by false false r m x other good = some_none good
asks_replay (word ∷ option ∷ number ∷ more ∷ words) other good = absurd (by (bytes_eq word (codes "replay")) (bytes_eq word (codes "show")) (bytes_eq option (codes "--record")) (bytes_eq option (codes "--make")) (is_some (count_in number)) good) where
  by : (a b r m c : Bool) → named a b (pick r (Some 2) (pick m (pick c (Some 3) (Some 2)) (Some 1))) (Some 1) ≡ None → ⊥
  by true b true m c good = some_none good
  by true b false true true good = some_none good
  by true b false true false good = some_none good
  by true b false false c good = some_none good
  by false true r m c good = some_none good
  by false false r m c good = some_none good

-- words don't ask for both
pub show_no_replay : (words : List (List ℕ)) → is_show words ≡ true → reads_schedule words ≡ true → ⊥
show_no_replay [] show reads = bool_clash show
show_no_replay (word ∷ []) show reads = by (asks_which (bytes_eq word (codes "replay")) false reads) where
  by : (bytes_eq word (codes "replay") ≡ true) ⊎ (false ≡ true) → ⊥
  by (inl replay) = bool_clash (sym (one_text word (codes "show") (codes "replay") show_replay show) ∙ replay)
  by (inr never) = bool_clash never
show_no_replay (word ∷ more ∷ words) show reads = bool_clash show

pub making_no_replay : (words : List (List ℕ)) (n : ℕ) → made_count words ≡ Some n → reads_schedule words ≡ true → ⊥
making_no_replay [] n made reads = none_is made
making_no_replay (word ∷ []) n made reads = none_is made
making_no_replay (word ∷ option ∷ []) n made reads = none_is made
making_no_replay (word ∷ option ∷ number ∷ []) n made reads = bool_clash reads
making_no_replay (word ∷ option ∷ number ∷ more ∷ words) n made reads = none_is made

pub making_no_show : (words : List (List ℕ)) (n : ℕ) → made_count words ≡ Some n → is_show words ≡ true → ⊥
making_no_show [] n made show = none_is made
making_no_show (word ∷ []) n made show = none_is made
making_no_show (word ∷ option ∷ words) n made show = bool_clash show

pub making_lawful : (words : List (List ℕ)) (n place : ℕ) → made_count words ≡ Some n → bad_place words ≡ Some place → ⊥
making_lawful words n place made bad = none-some place (sym (making_good words n made) ∙ bad)
