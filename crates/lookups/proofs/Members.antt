-- Members of an exchange's set, parted where their separators stand.
use Rattle.std.proofs.Common.{◌≡◌, ℕ, suc, ◌+◌, ◌-◌, ◌<◌, ◌≤◌, Bool, true, false, ◌&&◌, ◌==◌, List, [], ◌∷◌, length, get_or, take, drop, Option, Some, None, refl, sym, ap, ◌∙◌, subst, arith, if◌then◌else◌}
use Rattle.std.proofs.lemmas.List.{drop_more}
use Rattle.std.specs.Prelude.{option_map}
use Rattle.queue_keys.specs.Names.{Bytes, has_front, is_name}
use Rattle.queue_keys.specs.Bindings.{parts, onto_parts, of_parts, binding_of}
use Rattle.queue_keys.specs.Lookup.{insert_once, lookup, with_bound_queue}
use Rattle.queue_keys.proofs.Basics.{and_true, eqb_true}
use Rattle.lookups.specs.Parts.{binds_by, bound_queue, cut, cut_at, first_cut, if_bound, if_last, second_cut, separator_from, with_found_queue}

-- ---- the first separator

-- a place without a separator is passed
pub passed : (t : Bytes) (i : ℕ) → i < length t → has_front (6 ∷ 22 ∷ []) (drop i t) ≡ false → separator_from (i + 1) (drop (i + 1) t) ≡ separator_from i (drop i t)
passed t i lt off =
    let more = drop_more t i 0 lt in
    let none : has_front (6 ∷ 22 ∷ []) (get_or t i 0 ∷ drop (i + 1) t) ≡ false = ap (has_front (6 ∷ 22 ∷ [])) (sym more) ∙ off in
    let next : suc i ≡ i + 1 = omega arith in
    sym (ap (separator_from i) more ∙ ap (λ c. if c then Some i else separator_from (suc i) (drop (i + 1) t)) none ∙ ap (λ j. separator_from j (drop (i + 1) t)) next)

other : (b : ℕ) (bs : Bytes) → b ≡ 6 → false ≡ has_front (22 ∷ []) (b ∷ bs)
other b bs e = subst (λ x. false ≡ has_front (22 ∷ []) (x ∷ bs)) (sym e) refl

longer : (b : ℕ) (bs w : Bytes) (ws : List Bytes) (c : Bool) → ((b == 6) && has_front (22 ∷ []) w) ≡ c → parts bs ≡ w ∷ ws → (p : Bytes) × (ps : List Bytes) × (parts (b ∷ bs) ≡ p ∷ ps) × (has_front (22 ∷ []) p ≡ has_front (22 ∷ []) (b ∷ bs))
longer b bs w ws true e is = ([], drop 1 w ∷ ws, ap (onto_parts b) is ∙ ap (λ c. if c then [] ∷ drop 1 w ∷ ws else (b ∷ w) ∷ ws) e, other b bs (eqb_true b 6 (and_true (b == 6) (has_front (22 ∷ []) w) e).0))
longer b bs w ws false e is = (b ∷ w, ws, ap (onto_parts b) is ∙ ap (λ c. if c then [] ∷ drop 1 w ∷ ws else (b ∷ w) ∷ ws) e, refl)

-- each text has a first part, which begins as the text does
parts_there : (bs : Bytes) → (p : Bytes) × (ps : List Bytes) × (parts bs ≡ p ∷ ps) × (has_front (22 ∷ []) p ≡ has_front (22 ∷ []) bs)
parts_there [] = ([], [], refl, refl)
parts_there (b ∷ bs) = let h = parts_there bs in longer b bs h.0 h.1 ((b == 6) && has_front (22 ∷ []) h.0) refl h.2

-- a text is parted where its first separator stands
abbrev IsParted : ℕ → Bytes → Option ℕ → Type 0
IsParted k m None = parts m ≡ m ∷ []
IsParted k m (Some i) = (j : ℕ) × (i ≡ k + j) × (parts m ≡ take j m ∷ parts (drop (j + 2) m))

-- a byte before a text's first part, where no separator begins with it
onto_first : (b : ℕ) (bs p : Bytes) (ps : List Bytes) → has_front (6 ∷ 22 ∷ []) (b ∷ bs) ≡ false → has_front (22 ∷ []) p ≡ has_front (22 ∷ []) bs → onto_parts b (p ∷ ps) ≡ (b ∷ p) ∷ ps
onto_first b bs p ps off same = by (b == 6) refl where
  by : (c : Bool) → (b == 6) ≡ c → onto_parts b (p ∷ ps) ≡ (b ∷ p) ∷ ps
  by false e = ap (λ c. if (c && has_front (22 ∷ []) p) then [] ∷ drop 1 p ∷ ps else (b ∷ p) ∷ ps) e
  by true e =
      let six : b ≡ 6 = eqb_true b 6 e in
      let none : has_front (22 ∷ []) bs ≡ false = subst (λ x. has_front (6 ∷ 22 ∷ []) (x ∷ bs) ≡ false) six off in
      ap (λ c. if (c && has_front (22 ∷ []) p) then [] ∷ drop 1 p ∷ ps else (b ∷ p) ∷ ps) e ∙ ap (λ c. if c then [] ∷ drop 1 p ∷ ps else (b ∷ p) ∷ ps) (same ∙ none)

-- a separator parts what follows it
after_it : (ds : Bytes) → parts (6 ∷ 22 ∷ ds) ≡ [] ∷ parts ds
after_it ds = let h = parts_there ds in rw (h.2) refl

at_front : (m : Bytes) → has_front (6 ∷ 22 ∷ []) m ≡ true → parts m ≡ [] ∷ parts (drop 2 m)
at_front [] e = absurd (cc)
at_front (b ∷ []) e = absurd (by (6 == b) e) where
  by : (c : Bool) → (if c then has_front (22 ∷ []) [] else false) ≡ true → ⊥
  by true e = cc
  by false e = cc
at_front (b ∷ c ∷ ds) e = by (6 == b) refl (22 == c) refl e where
  by : (x : Bool) → (6 == b) ≡ x → (y : Bool) → (22 == c) ≡ y → (if x then (if y then true else false) else false) ≡ true → parts (b ∷ c ∷ ds) ≡ [] ∷ parts ds
  by true f true g e = subst (λ z. parts (z ∷ c ∷ ds) ≡ [] ∷ parts ds) (eqb_true 6 b f) (subst (λ z. parts (6 ∷ z ∷ ds) ≡ [] ∷ parts ds) (eqb_true 22 c g) (after_it ds))
  by true f false g e = absurd (cc)
  by false f true g e = absurd (cc)
  by false f false g e = absurd (cc)

parted_on : (k b : ℕ) (bs : Bytes) (o : Option ℕ) → IsParted (suc k) bs o → has_front (6 ∷ 22 ∷ []) (b ∷ bs) ≡ false → IsParted k (b ∷ bs) o
parted_on k b bs None h off = let p = parts_there bs in ap (onto_parts b) h ∙ onto_first b bs bs [] off refl
parted_on k b bs (Some i) (j, is, at) off =
    let p = parts_there bs in
    let first : p.0 ∷ p.1 ≡ take j bs ∷ parts (drop (j + 2) bs) = sym p.2 ∙ at in (
      suc j,
      (let f : i ≡ k + suc j = omega (arith, is) in f),
      ap (onto_parts b) p.2 ∙ onto_first b bs p.0 p.1 off p.3 ∙ ap (onto b) first ∙ ap (λ n. (b ∷ take j bs) ∷ parts (drop n (b ∷ bs))) (let f : suc (j + 2) ≡ suc j + 2 = omega arith in f),
    ) where
      onto : ℕ → List Bytes → List Bytes
      onto b [] = []
      onto b (w ∷ ws) = (b ∷ w) ∷ ws

parted : (k : ℕ) (m : Bytes) → IsParted k m (separator_from k m)
parted k [] = refl
parted k (b ∷ bs) = by (has_front (6 ∷ 22 ∷ []) (b ∷ bs)) refl (parted (suc k) bs) where
  by : (c : Bool) → has_front (6 ∷ 22 ∷ []) (b ∷ bs) ≡ c → IsParted (suc k) bs (separator_from (suc k) bs) → IsParted k (b ∷ bs) (if c then Some k else separator_from (suc k) bs)
  by true e h = (0, (let f : k ≡ k + 0 = omega arith in f), at_front (b ∷ bs) e)
  by false e h = parted_on k b bs (separator_from (suc k) bs) h e

-- the parts of a text, by where it is cut
abbrev IsCut : Bytes → Option (Bytes × Bytes) → Type 0
IsCut m None = parts m ≡ m ∷ []
IsCut m (Some p) = parts m ≡ p.0 ∷ parts p.1

cuts : (m : Bytes) → IsCut m (cut m)
cuts m = by (separator_from 0 m) (parted 0 m) where
  by : (o : Option ℕ) → IsParted 0 m o → IsCut m (option_map (cut_at m) o)
  by None h = h
  by (Some i) (j, is, at) = let same : j ≡ i = omega (arith, is) in subst (λ n. parts m ≡ take n m ∷ parts (drop (n + 2) m)) same at

-- ---- three parts

-- the three of a list of three
abbrev three_of : List Bytes → Option (Bytes × Bytes × Bytes)
three_of [] = None
three_of (r ∷ []) = None
three_of (r ∷ x ∷ []) = None
three_of (r ∷ x ∷ q ∷ []) = Some (r, x, q)
three_of (r ∷ x ∷ q ∷ p ∷ ps) = None

last_is : (r x q : Bytes) (o : Option (Bytes × Bytes)) → IsCut q o → if_last r x q o ≡ three_of (r ∷ x ∷ parts q)
last_is r x q None h = sym (ap (λ l. three_of (r ∷ x ∷ l)) h)
last_is r x q (Some p) h = let w = parts_there p.1 in sym (ap (λ l. three_of (r ∷ x ∷ l)) h ∙ ap (λ l. three_of (r ∷ x ∷ p.0 ∷ l)) w.2)

second_is : (r t : Bytes) (o : Option (Bytes × Bytes)) → IsCut t o → second_cut r o ≡ three_of (r ∷ parts t)
second_is r t None h = sym (ap (λ l. three_of (r ∷ l)) h)
second_is r t (Some p) h = last_is r p.0 p.1 (cut p.1) (cuts p.1) ∙ sym (ap (λ l. three_of (r ∷ l)) h)

first_is : (m : Bytes) (o : Option (Bytes × Bytes)) → IsCut m o → first_cut o ≡ three_of (parts m)
first_is m None h = sym (ap three_of h)
first_is m (Some p) h = second_is p.0 p.1 (cut p.1) (cuts p.1) ∙ sym (ap three_of h)

-- ---- the queue of a binding

with_parts : (r : Bytes) (ps qs : List Bytes) → with_found_queue (if_bound r (three_of ps)) qs ≡ with_bound_queue r (of_parts ps) qs
with_parts r [] qs = refl
with_parts r (d ∷ []) qs = refl
with_parts r (d ∷ x ∷ []) qs = refl
with_parts r (d ∷ x ∷ q ∷ []) qs = by (is_name q) (binds_by d x r) refl where
  by : (n b : Bool) → binds_by d x r ≡ b → with_found_queue (if n then (if b then Some q else None) else None) qs ≡ with_bound_queue r (if n then Some (record { routing_key = d; pattern = x; queue = q }) else None) qs
  by true true e = sym (ap (λ b. if b then insert_once q qs else qs) e)
  by true false e = sym (ap (λ b. if b then insert_once q qs else qs) e)
  by false true e = refl
  by false false e = refl
with_parts r (d ∷ x ∷ q ∷ p ∷ ps) qs = refl

pub with_member : (r m : Bytes) (qs : List Bytes) → with_found_queue (bound_queue r m) qs ≡ with_bound_queue r (binding_of m) qs
unfolding binding_of
with_member r m qs = ap (λ o. with_found_queue (if_bound r o) qs) (first_is m (cut m) (cuts m)) ∙ with_parts r (parts m) qs

-- a lookup's queues with those of one member more
pub one_more : (r : Bytes) (ms : List Bytes) (count : ℕ) (m d : Bytes) (qs new : List Bytes) → 0 < count → count ≤ length ms → m ≡ get_or ms (count - 1) d → qs ≡ lookup r (drop count ms) → new ≡ with_found_queue (bound_queue r m) qs → new ≡ lookup r (drop (count - 1) ms)
one_more r ms count m d qs new some few is so now =
    let next : count - 1 + 1 ≡ count = omega (arith, some) in
    let more : drop (count - 1) ms ≡ get_or ms (count - 1) d ∷ drop (count - 1 + 1) ms = drop_more ms (count - 1) d (omega (arith, some, few)) in
    now ∙ ap (with_found_queue (bound_queue r m)) so ∙ with_member r m (lookup r (drop count ms))
    ∙ sym (ap (lookup r) more ∙ (λ i. with_bound_queue r (binding_of (sym is i)) (lookup r (drop (next i) ms))))
