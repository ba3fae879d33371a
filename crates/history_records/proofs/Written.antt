-- A record as it is written.
use Rattle.std.proofs.Common.{◌≡◌, ℕ, ◌+◌, ◌-◌, ◌<◌, ◌≤◌, List, [], ◌∷◌, ◌++◌, refl, sym, ap, ◌∙◌, append_assoc, arith, drop, get_or, length, map}
use Rattle.std.proofs.lemmas.List.{drop_more}
use Rattle.std.specs.Ordering.{nat_cmp}
use Rattle.std.specs.FinMap.{entries, from_entries, insert}
use Rattle.std.specs.List.{flat_map}
use Rattle.std.proofs.lemmas.List.Concat.{flat_map-append}
use Rattle.place_model.specs.Histories.{History}
use Rattle.place_model.specs.declared.heard.Heard.{Heard}
use Rattle.place_model.specs.declared.history.Entry.{Entry}
use Rattle.history_records.specs.Lines.{header, client_line, entry_line}
use Rattle.history_records.specs.Records.{ended, record_text, seed_map}

-- lines of the things of a list
ended_map : {A : Type 0} (f : A → List ℕ) (xs : List A) → ended (map f xs) ≡ flat_map (λ x. f x ++ 10 ∷ []) xs
ended_map f [] = refl
ended_map f (x ∷ xs) = ap (λ t. (f x ++ 10 ∷ []) ++ t) (ended_map f xs)

-- the header, the clients and the entries are written
pub record_written : (h : History Heard) (cs : List (ℕ × ℕ)) (es : List (Entry Heard)) (a b c : List ℕ) → cs ≡ h.clients → es ≡ h.entries → a ≡ header ++ 10 ∷ []
    → b ≡ a ++ flat_map (λ x. client_line x ++ 10 ∷ []) (entries (seed_map cs))
    → c ≡ b ++ flat_map (λ e. entry_line e ++ 10 ∷ []) es → c ≡ record_text h
record_written h cs es a b c p q e f g =
    let rows = entries (seed_map cs) in
    g ∙ ap (λ t. t ++ flat_map (λ x. entry_line x ++ 10 ∷ []) es) (f ∙ ap (λ t. t ++ flat_map (λ x. client_line x ++ 10 ∷ []) rows) e)
    ∙ append_assoc (header ++ 10 ∷ []) (flat_map (λ x. client_line x ++ 10 ∷ []) rows) (flat_map (λ x. entry_line x ++ 10 ∷ []) es)
    ∙ ap (λ t. (header ++ 10 ∷ []) ++ t) (sym (flat_map-append (λ l. l ++ 10 ∷ []) (map client_line rows) (map entry_line es) ∙ (λ i. ended_map client_line rows i ++ ended_map entry_line es i)))
    ∙ (λ i. (header ++ 10 ∷ []) ++ ended (map client_line (entries (seed_map (p i))) ++ map entry_line (q i)))

-- ---- clients

-- one more client is in the map
pub made_more : (clients : List (ℕ × ℕ)) (left : ℕ) (d : ℕ × ℕ) (es fs : List (ℕ × ℕ)) → 0 < left → left ≤ length clients
    → from_entries {R = nat_cmp} fs ≡ insert (from_entries {R = nat_cmp} es) (get_or clients (left - 1) d).0 (get_or clients (left - 1) d).1
    → from_entries {R = nat_cmp} es ≡ seed_map (drop left clients) → from_entries {R = nat_cmp} fs ≡ seed_map (drop (left - 1) clients)
made_more clients left d es fs some bound e f =
    let c = get_or clients (left - 1) d in
    let next : left - 1 + 1 ≡ left = omega (arith, some) in
    e ∙ ap (λ m. insert m c.0 c.1) (f ∙ ap (λ n. seed_map (drop n clients)) (sym next)) ∙ sym (ap seed_map (drop_more clients (left - 1) d (omega (arith, some, bound))))

pub made_all : (clients : List (ℕ × ℕ)) (left : ℕ) → left ≡ 0 → seed_map (drop left clients) ≡ seed_map clients
made_all clients left e = ap (λ n. seed_map (drop n clients)) e
