-- A value taken from under its key: what stands in for it is written over, and it can be put back.
use Rattle.std.proofs.Common.{◌≡◌, List, [], ◌∷◌, Bool, true, false, cond, refl, sym, ap, ◌∙◌, None, Some, Option, IfSome, length, nat_eq, ℤ, arith}
use Rattle.std.specs.Cmp.{unsigned_Decides}
use Rattle.std.specs.FinMap.{FinMap, get, insert, remove, empty, len, len-empty, empty_of_len}
use Rattle.wire_values.specs.Order.{bytes_cmp}
use Rattle.store_tables.proofs.Maps.{bytes_total, bytes_anti}
use Rattle.store_tables.proofs.Lookups.{get-insert_same, insert-insert, remove-insert, insert_same}
use Rattle.store_model.specs.Words.{Bytes}
use Rattle.store_model.specs.Keys.{Keys, put, expiry_of}
use Rattle.store_model.specs.Lists.{items_at}
use Rattle.store_model.specs.Sets.{members_at}
use Rattle.store_model.specs.Hashes.{hash_at}
use Rattle.store_model.specs.SortedSets.{scores_at}
use Rattle.store_model.specs.declared.held.Stored.{Stored}
use Rattle.store_model.specs.declared.held.Stored.TheVariants.{Text, Items, Members, Hash, Scores}
use Rattle.store_model.specs.declared.held.Held.{Held}

pub same_some : {X : Type 0} (x y : X) → Some x ≡ Some y → x ≡ y
same_some x y e = cc

pub always : {X : Type 0} {P : Type 0} (o : Option X) → P → IfSome o (λ _. P)
always None p = tt
always (Some x) p = p

pub where_some : {X : Type 0} (o : Option X) (P : X → Type 0) → ((x : X) → Some x ≡ o → P x) → IfSome o P
where_some None P h = tt
where_some (Some x) P h = h x refl

-- a value that stands in for the one of a key, with its expiry, is written over
pub put_room : (m n : Keys) (k : Bytes) (h b : Held) (v : Stored) → Some h ≡ get m k → b.expiry ≡ h.expiry → n ≡ insert m k b → put n k v ≡ put m k v
put_room m n k h b v e x s =
    let there : get n k ≡ Some b = ap (λ t. get t k) s ∙ get-insert_same bytes_total bytes_anti m k b in
    let expiry : expiry_of (get n k) ≡ expiry_of (get m k) = ap expiry_of there ∙ x ∙ ap expiry_of e in
    ap (λ t. insert t k (record { value = v; expiry = expiry_of (get n k) })) s
    ∙ ap (λ t. insert (insert m k b) k (record { value = v; expiry = t })) expiry
    ∙ insert-insert bytes_total bytes_anti m k b _

pub remove_room : (m n : Keys) (k : Bytes) (b : Held) → n ≡ insert m k b → remove n k ≡ remove m k
remove_room m n k b s = ap (λ t. remove t k) s ∙ remove-insert bytes_total bytes_anti m k b

put_same : (m : Keys) (k : Bytes) (h : Held) (v : Stored) → Some h ≡ get m k → h.value ≡ v → put m k v ≡ m
put_same m k h v e is =
    let whole : record { value = v; expiry = expiry_of (get m k) } ≡ h = λ i. record { value = sym is i; expiry = ap expiry_of (sym e) i } in
    ap (insert m k) whole ∙ insert_same bytes_total bytes_anti m k h (sym e)

-- what was taken is put back, or stands there still where nothing was in it
pub back_room : {X : Type 0} (wrap : X → Stored) (m n : Keys) (k : Bytes) (h t b : Held) (x z : X) (none : Bool) → (none ≡ true → x ≡ z) → Some h ≡ get m k → get m k ≡ Some t → t.value ≡ wrap x → b.value ≡ wrap z → b.expiry ≡ h.expiry → n ≡ insert m k b → cond none n (put n k (wrap x)) ≡ m
back_room wrap m n k h t b x z true nil e f is blank life s =
    let same : h ≡ t = same_some h t (e ∙ f) in
    let value : b.value ≡ h.value = blank ∙ ap wrap (sym (nil refl)) ∙ sym is ∙ ap (λ (r : Held). r.value) (sym same) in
    let whole : b ≡ h = λ i. record { value = value i; expiry = life i } in
    s ∙ insert_same bytes_total bytes_anti m k b (sym e ∙ ap Some (sym whole))
back_room wrap m n k h t b x z false nil e f is blank life s =
    put_room m n k h b (wrap x) e life s ∙ put_same m k t (wrap x) (sym f) is

nothing : {A : Type 0} (xs : List A) → length xs ≡ 0 → xs ≡ []
nothing [] e = refl
nothing (x ∷ xs) e = absurd (omega (arith, e))

pub no_items : {A : Type 0} (xs : List A) → nat_eq (length xs) 0 ≡ true → xs ≡ []
no_items xs e = nothing xs ((unsigned_Decides (length xs) 0).0 e)

pub no_entries : {X : Type 0} (h : FinMap bytes_cmp X) → nat_eq (len h) 0 ≡ true → h ≡ empty
no_entries h e = empty_of_len h ((unsigned_Decides (len h) 0).0 e)

pub is_items : (v : Stored) (xs : List Bytes) → Some xs ≡ items_at (Some v) → v ≡ Items xs
is_items (Items ys) xs s = ap Items (sym (same_some _ _ s))
is_items (Text t) xs s = cc
is_items (Members h) xs s = cc
is_items (Hash h) xs s = cc
is_items (Scores h) xs s = cc

pub is_members : (v : Stored) (h : FinMap bytes_cmp (Unit {0})) → Some h ≡ members_at (Some v) → v ≡ Members h
is_members (Members g) h s = ap Members (sym (same_some _ _ s))
is_members (Text t) h s = cc
is_members (Items xs) h s = cc
is_members (Hash g) h s = cc
is_members (Scores g) h s = cc

pub is_hash : (v : Stored) (h : FinMap bytes_cmp Bytes) → Some h ≡ hash_at (Some v) → v ≡ Hash h
is_hash (Hash g) h s = ap Hash (sym (same_some _ _ s))
is_hash (Text t) h s = cc
is_hash (Items xs) h s = cc
is_hash (Members g) h s = cc
is_hash (Scores g) h s = cc

pub is_scores : (v : Stored) (h : FinMap bytes_cmp ℤ) → Some h ≡ scores_at (Some v) → v ≡ Scores h
is_scores (Scores g) h s = ap Scores (sym (same_some _ _ s))
is_scores (Text t) h s = cc
is_scores (Items xs) h s = cc
is_scores (Members g) h s = cc
is_scores (Hash g) h s = cc

-- an absent key was left alone
pub none_back : {X : Type 0} (m n : Keys) (h : FinMap bytes_cmp X) → h ≡ empty → cond (nat_eq (len h) 0) m n ≡ m
none_back {X} m n h e = ap (λ t. cond (nat_eq (len t) 0) m n) e ∙ ap (λ t. cond (nat_eq t 0) m n) (len-empty bytes_cmp X)
