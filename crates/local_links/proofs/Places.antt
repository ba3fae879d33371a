-- Stores and links in their places.
use Rattle.std.proofs.Common.{List, Some, [], ap, arith, drop, length, map, refl, sym, take, zero, suc, ℕ, ◌+◌, ◌++◌, ◌<◌, ◌∙◌, ◌∷◌, ◌≡◌, ◌≤◌}
use Rattle.std.proofs.lemmas.List.{take-append-le}
use Rattle.links.specs.Causes.{Rose}
use Rattle.net_links.specs.LinkViews.{LinkView}
use Rattle.net_links.specs.NetCauses.{HasClosedFaults}
use Rattle.net_links.specs.Traffics.{IsFresh}
use Rattle.store_model.specs.Store.{StoreView}
use Rattle.local_links.specs.LocalLinks.{IsNewLink, told_by}
use Rattle.local_links.specs.declared.local_link.LocalLink.{LocalLink}
use Rattle.std.specs.Prelude.{Err, Ok, Result, if◌then◌else◌, is_ok, slice_index_or, slice_set}

-- the first of some, and the others
pub first_of : {A : Type 0} (xs ys : List A) (x : A) → 0 < length xs → x ≡ slice_index_or xs 0 x → ys ≡ take 0 xs ++ drop (0 + 1) xs → xs ≡ x ∷ ys
first_of [] ys x some is rest = absurd (omega (arith, some))
first_of (a ∷ xs) ys x some is rest = λ i. sym is i ∷ sym rest i

-- one put behind those before its place
pub set_behind : {A : Type 0} (xs : List A) (at : ℕ) (x : A) → at < length xs → take (at + 1) (slice_set xs at x) ≡ take at xs ++ x ∷ []
set_behind {A = A} xs at x within = let e : at + 1 ≡ suc at = omega arith in rw e (by xs at within) where
  by : (xs : List A) (at : ℕ) → at < length xs → take (suc at) (slice_set xs at x) ≡ take at xs ++ x ∷ []
  by [] at within = absurd (omega (arith, within))
  by (a ∷ xs) zero within = refl
  by (a ∷ xs) (suc at) within = ap (λ l. a ∷ l) (by xs at (omega (arith, within)))

told_behind : (ls : List LocalLink) (l : LocalLink) → map told_by (ls ++ l ∷ []) ≡ map told_by ls ++ told_by l ∷ []
told_behind [] l = refl
told_behind (k ∷ ls) l = ap (λ t. told_by k ∷ t) (told_behind ls l)

-- the closed links with one more
pub closed_one : (ls : List LocalLink) (at : ℕ) (l : LocalLink) → at < length ls → map told_by (take (at + 1) (slice_set ls at l)) ≡ map told_by (take at ls) ++ told_by l ∷ []
closed_one ls at l within = ap (map told_by) (set_behind ls at l within) ∙ told_behind (take at ls) l

-- a place more leaves the closed links
pub closed_same : (ls : List LocalLink) (at : ℕ) (l : LocalLink) → at ≤ length ls → map told_by (take at (ls ++ l ∷ [])) ≡ map told_by (take at ls)
closed_same ls at l within = ap (map told_by) (take-append-le at ls (l ∷ []) within)

-- so does a place for which there was no memory
pub closed_pushed : {T E : Type 0} (r : Result T E) (ls new : List LocalLink) (at : ℕ) (l : LocalLink) → at ≤ length ls → new ≡ (if is_ok r then ls ++ l ∷ [] else ls) → map told_by (take at new) ≡ map told_by (take at ls)
closed_pushed (Ok x) ls new at l within e = ap (λ k. map told_by (take at k)) e ∙ closed_same ls at l within
closed_pushed (Err x) ls new at l within e = ap (λ k. map told_by (take at k)) e

-- a close is counted where the link ended
pub closed_counted : (before now ends : ℕ) → (ends ≡ 0 → now ≡ before) → (0 < ends → Rose before now) → HasClosedFaults before now 0 ends
closed_counted before now zero none some = none refl
closed_counted before now (suc ends) none some = some (omega arith)

-- a link that nobody used
pub fresh_of : (closed : List LinkView) (store : StoreView) (l : LocalLink) → IsNewLink store l → IsFresh (Some closed) (told_by l)
fresh_of closed store l n = record {
  unused = (ap (λ v. v.sent) n.told, ap (λ v. v.received) n.told, ap (λ v. v.gains) n.told);
  no_fault = ap (λ v. v.faults) n.told;
  no_end = ap (λ v. v.ends) n.told;
}
