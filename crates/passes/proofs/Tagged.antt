-- The tags that are due: which members of the index are texts of tags, and the tag at a place.
use Rattle.std.proofs.Common.{Result, Ok, Err, ◌≡◌, ◌+◌, ◌-◌, ◌<◌, ◌≤◌, ℕ, List, [], ◌∷◌, ◌++◌, append_assoc, length, drop, get_or, Bool, true, false, Option, Some, None, refl, sym, ap, ◌∙◌, subst, arith, if◌then◌else◌}
use Rattle.std.specs.Prelude.{⊤, OnOk, bytes_eq, is_some, option_map}
use Rattle.std.specs.declared.alloc.AllocError.{AllocError}
use Rattle.std.specs.Int.{w128, from_be_bytes}
use Rattle.std.proofs.lemmas.List.{drop_more, get_or-drop, get_or-map, length-drop, length-map, map-append}
use Rattle.uuid.specs.Text.{parsed}
use Rattle.delivery_tags.specs.Tags.{if_spelled, tag_of_text, tag_text}
use Rattle.delivery_tags.specs.declared.tag.Tag.{Tag}
use Rattle.queue_keys.specs.Names.{Bytes}
use Rattle.command_blocks.specs.EnvelopeTexts.{plain_setting}
use Rattle.command_blocks.specs.PassBlocks.{tags_among}
use Rattle.block_laws.proofs.Values.{and_then_is, eq_true, some_is}
use Rattle.passes.specs.Counts.{AreAdded, tag_texts}

-- what is read as a tag is its text
pub tag_spelled : (s : Bytes) (n : ℕ) → tag_of_text s ≡ Some n → s ≡ tag_text n
tag_spelled s n e = let a = and_then_is (λ u. if_spelled s (from_be_bytes w128 u)) (parsed s) n e in by (from_be_bytes w128 a.0) (bytes_eq s (tag_text (from_be_bytes w128 a.0))) refl a.2 where
  by : (m : ℕ) (b : Bool) → bytes_eq s (tag_text m) ≡ b → (if b then Some m else None) ≡ Some n → s ≡ tag_text n
  by m true i h = eq_true s (tag_text m) i ∙ ap tag_text (some_is m n h)
  by m false i h = cc

-- the tags among the members that are left follow those that were found
abbrev pub AreFound : List Bytes → List Tag → List Bytes → Type 0
AreFound members tags rest = tag_texts tags ++ tags_among plain_setting rest ≡ tags_among plain_setting members

-- one more member
abbrev or_not : Bool → Bytes → List Bytes → List Bytes
or_not b m rest = if b then m ∷ rest else rest

tag_read : (m : Bytes) (tag : Tag) (o : Option Tag) → option_map (λ (t : Tag). t.0) o ≡ tag_of_text m → o ≡ Some tag → tag_of_text m ≡ Some tag.0
tag_read m tag o value is = sym value ∙ ap (λ p. option_map (λ (t : Tag). t.0) p) is

pub found_more : (tags more : List Tag) (m : Bytes) (rest : List Bytes) (tag : Tag) (o : Option Tag) → option_map (λ (t : Tag). t.0) o ≡ tag_of_text m → o ≡ Some tag → more ≡ tags ++ tag ∷ []
    → tag_texts more ++ tags_among plain_setting rest ≡ tag_texts tags ++ tags_among plain_setting (m ∷ rest)
found_more tags more m rest tag o value is pushed =
    let read : tag_of_text m ≡ Some tag.0 = tag_read m tag o value is in
    let whole : tags_among plain_setting (m ∷ rest) ≡ m ∷ tags_among plain_setting rest = ap (λ p. or_not (is_some p) m (tags_among plain_setting rest)) read in
    let texts : tag_texts more ≡ tag_texts tags ++ tag_text tag.0 ∷ [] = ap tag_texts pushed ∙ map-append (λ (t : Tag). tag_text t.0) tags (tag ∷ []) in
    ap (λ l. l ++ tags_among plain_setting rest) texts
    ∙ append_assoc (tag_texts tags) (tag_text tag.0 ∷ []) (tags_among plain_setting rest)
    ∙ ap (λ x. tag_texts tags ++ x ∷ tags_among plain_setting rest) (sym (tag_spelled m tag.0 read))
    ∙ ap (λ l. tag_texts tags ++ l) (sym whole)

found_none : (tags : List Tag) (m : Bytes) (rest : List Bytes) (o : Option Tag) → option_map (λ (t : Tag). t.0) o ≡ tag_of_text m → o ≡ None → tag_texts tags ++ tags_among plain_setting rest ≡ tag_texts tags ++ tags_among plain_setting (m ∷ rest)
found_none tags m rest o value is =
    let read : tag_of_text m ≡ None = sym value ∙ ap (λ p. option_map (λ (t : Tag). t.0) p) is in
    ap (λ l. tag_texts tags ++ l) (sym (ap (λ p. or_not (is_some p) m (tags_among plain_setting rest)) read))

-- a member that is a tag's text was added
pub was_added : (result : Result ⊤ AllocError) (tags more : List Tag) (m : Bytes) (tag : Tag) (o : Option Tag) → OnOk result (more ≡ tags ++ tag ∷ []) → option_map (λ (t : Tag). t.0) o ≡ tag_of_text m → o ≡ Some tag → OnOk result (AreAdded tags m more)
was_added (Ok u) tags more m tag o pushed value is = λ rest. found_more tags more m rest tag o value is pushed
was_added (Err f) tags more m tag o pushed value is = tt

-- another wasn't
pub not_added : (tags : List Tag) (m : Bytes) (o : Option Tag) → option_map (λ (t : Tag). t.0) o ≡ tag_of_text m → o ≡ None → AreAdded tags m tags
not_added tags m o value is = λ rest. found_none tags m rest o value is

-- ---- a place

-- what stands at a place of a list, by what is left from there on
pub at_place : (l : List Bytes) (n : ℕ) (x : Bytes) (rest : List Bytes) → drop n l ≡ x ∷ rest → get_or l n [] ≡ x
at_place l n x rest is = ap (λ i. get_or l i []) (let e : n ≡ n + 0 = omega arith in e) ∙ sym (get_or-drop n l 0 []) ∙ ap (λ k. get_or k 0 []) is

pub before_end : (tags : List Tag) (n : ℕ) (x : Bytes) (rest : List Bytes) → drop n (tag_texts tags) ≡ x ∷ rest → n < length tags
before_end tags n x rest is =
    let a : length (drop n (tag_texts tags)) ≡ length (tag_texts tags) - n = length-drop n (tag_texts tags) in
    let b : length (tag_texts tags) ≡ length tags = length-map tags (λ (t : Tag). tag_text t.0) in
    let c : length (drop n (tag_texts tags)) ≡ length (x ∷ rest) = ap length is in
    omega (arith, a, b, c)

pub at_end : (l : List Bytes) (n : ℕ) → drop n l ≡ [] → length l ≤ n
at_end l n is =
    let a : length (drop n l) ≡ length l - n = length-drop n l in
    let c : length (drop n l) ≡ length {A = Bytes} [] = ap length is in
    omega (arith, a, c)

-- the tag at a place, and the end of the tags, by what a slice of them told
pub found_at : (slice tags : List Tag) (place count : ℕ) (tag : Tag) → slice ≡ tags → place ≡ count → drop place (tag_texts slice) ≡ tag_text tag.0 ∷ drop (place + 1) (tag_texts slice) → drop count (tag_texts tags) ≡ tag_text tag.0 ∷ drop (count + 1) (tag_texts tags)
found_at slice tags place count tag s p h =
    subst (λ (k : ℕ). drop k (tag_texts tags) ≡ tag_text tag.0 ∷ drop (k + 1) (tag_texts tags)) p (subst (λ (l : List Tag). drop place (tag_texts l) ≡ tag_text tag.0 ∷ drop (place + 1) (tag_texts l)) s h)

pub found_end : (slice tags : List Tag) (place count : ℕ) → slice ≡ tags → place ≡ count → drop place (tag_texts slice) ≡ [] → drop count (tag_texts tags) ≡ []
found_end slice tags place count s p h = subst (λ (k : ℕ). drop k (tag_texts tags) ≡ []) p (subst (λ (l : List Tag). drop place (tag_texts l) ≡ []) s h)

-- what stands at a place of the tags
pub tag_there : (tags : List Tag) (place : ℕ) (d : Tag) → place < length tags → drop place (tag_texts tags) ≡ tag_text (get_or tags place d).0 ∷ drop (place + 1) (tag_texts tags)
tag_there tags place d lt =
    let n : length (tag_texts tags) ≡ length tags = length-map tags (λ (t : Tag). tag_text t.0) in
    drop_more (tag_texts tags) place [] (omega (arith, n, lt)) ∙ ap (λ (x : Bytes). x ∷ drop (place + 1) (tag_texts tags)) (get_or-map (λ (t : Tag). tag_text t.0) tags place d [] lt)

-- one more member was read
pub found_step : (members : List Bytes) (i : ℕ) (m : Bytes) (tags more : List Tag) (slice : Bytes) → i < length members → m ≡ get_or members i m → AreFound members tags (drop i members) → slice ≡ m → AreAdded tags slice more → AreFound members more (drop (i + 1) members)
found_step members i m tags more slice lt at found s added =
    let next : m ∷ drop (i + 1) members ≡ drop i members = sym (drop_more members i m lt ∙ ap (λ x. x ∷ drop (i + 1) members) (sym at)) in
    added (drop (i + 1) members) ∙ ap (λ l. tag_texts tags ++ tags_among plain_setting l) (ap (λ x. x ∷ drop (i + 1) members) s ∙ next) ∙ found
