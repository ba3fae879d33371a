-- Links in their places.
use Rattle.std.proofs.Common.{◌≡◌, ◌≤◌, ◌<◌, ◌+◌, ◌-◌, ℕ, List, All, [], ◌∷◌, arith, refl, take, drop, length, sym, ap, ◌∙◌, subst, slice_set, slice_index_or, length-drop, get_or-drop, zero, suc}
use Rattle.net_links.specs.MemoryForms.{MemoryLinkView, IsUnusedLink}

-- a link put into a place before the rest leaves the rest
set_before : (links : List MemoryLinkView) (at : ℕ) (link : MemoryLinkView) → drop (suc at) (slice_set links at link) ≡ drop (suc at) links
set_before [] at link = refl
set_before (l ∷ ls) zero link = refl
set_before (l ∷ ls) (suc at) link = set_before ls at link

after_set : (links : List MemoryLinkView) (at : ℕ) (link : MemoryLinkView) → drop (at + 1) (slice_set links at link) ≡ drop (at + 1) links
after_set links at link = let e : at + 1 ≡ suc at = omega arith in rw e (set_before links at link)

pub fewer_unused : (links : List MemoryLinkView) (at : ℕ) (link : MemoryLinkView) → at < length links → All IsUnusedLink (drop at links) → All IsUnusedLink (drop (at + 1) (slice_set links at link))
fewer_unused links at link within all = subst (λ ls. All IsUnusedLink ls) (sym (after_set links at link)) (λ k d small.
    let e : at + (k + 1) ≡ (at + 1) + k = omega arith in
    let same : slice_index_or (drop at links) (k + 1) d ≡ slice_index_or (drop (at + 1) links) k d = get_or-drop at links (k + 1) d ∙ ap (λ n. slice_index_or links n d) e ∙ sym (get_or-drop (at + 1) links k d) in
    subst (λ l. IsUnusedLink l) same (all (k + 1) d (omega (arith, small, length-drop at links, length-drop (at + 1) links))))

pub first_unused : (links : List MemoryLinkView) (at : ℕ) (link : MemoryLinkView) → at < length links → All IsUnusedLink (drop at links) → slice_index_or links at link ≡ link → IsUnusedLink link
first_unused links at link within all is =
    let e : at + 0 ≡ at = omega arith in
    let same : slice_index_or (drop at links) 0 link ≡ link = get_or-drop at links 0 link ∙ ap (λ n. slice_index_or links n link) e ∙ is in
    subst (λ l. IsUnusedLink l) same (all 0 link (omega (arith, within, length-drop at links)))
