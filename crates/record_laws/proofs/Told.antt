-- A record determines its history.
use Rattle.std.proofs.Common.{◌≡◌, ℕ, List, [], ◌∷◌, ◌++◌, refl, sym, ap, subst, ◌∙◌, append_assoc, map}
use Rattle.place_model.specs.declared.history.Entry.TheVariants.{Call, Heard as Noted, Stop}
use Rattle.std.specs.FinMap.{entries, same_entries_map}
use Rattle.std.proofs.lemmas.List.{append_cancel_left}
use Rattle.place_model.specs.Histories.{History}
use Rattle.place_model.specs.declared.heard.Heard.{Heard}
use Rattle.place_model.specs.declared.history.Entry.{Entry}
use Rattle.history_records.specs.Lines.{header, client_line, entry_line}
use Rattle.history_records.specs.Recordable.{IsRecordable, IsRow, IsClient, IsEvent, Each}
use Rattle.history_records.specs.Records.{ended, record_lines, record_text, seed_map}
use Rattle.history_records.specs.Rows.{row_line, rows}
use Rattle.history_records.specs.declared.row.Row.{Row}
use Rattle.history_records.specs.declared.row.Row.TheVariants.{Client, Event}
use Rattle.record_laws.specs.Determines.{RecordsDetermine}
use Rattle.record_laws.proofs.Apart.{heads, tails}
use Rattle.record_laws.proofs.Rows.{row_apart}

-- ---- rows

clients_of : List Row → List (ℕ × ℕ)
clients_of [] = []
clients_of (Client c s ∷ xs) = (c, s) ∷ clients_of xs
clients_of (Event e ∷ xs) = clients_of xs

events_of : List Row → List (Entry Heard)
events_of [] = []
events_of (Client c s ∷ xs) = events_of xs
events_of (Event e ∷ xs) = e ∷ events_of xs

abbrev all_rows : List (ℕ × ℕ) → List (Entry Heard) → List Row
all_rows cs es = map (λ c. Client c.0 c.1) cs ++ map Event es

clients_back : (cs : List (ℕ × ℕ)) (es : List (Entry Heard)) → clients_of (all_rows cs es) ≡ cs
unfolding clients_of
clients_back [] [] = refl
clients_back [] (e ∷ es) = clients_back [] es
clients_back (c ∷ cs) es = ap (λ xs. c ∷ xs) (clients_back cs es)

events_back : (cs : List (ℕ × ℕ)) (es : List (Entry Heard)) → events_of (all_rows cs es) ≡ es
unfolding events_of
events_back [] [] = refl
events_back [] (e ∷ es) = ap (λ xs. e ∷ xs) (events_back [] es)
events_back (c ∷ cs) es = events_back cs es

-- the lines of rows
row_lines : (cs : List (ℕ × ℕ)) (es : List (Entry Heard)) → map row_line (all_rows cs es) ≡ map client_line cs ++ map entry_line es
row_lines [] [] = refl
row_lines [] (e ∷ es) = ap (λ ls. entry_line e ∷ ls) (row_lines [] es)
row_lines (c ∷ cs) es = ap (λ ls. client_line c ∷ ls) (row_lines cs es)

are_rows : (cs : List (ℕ × ℕ)) (es : List (Entry Heard)) → Each IsClient cs → Each IsEvent es → Each IsRow (all_rows cs es)
are_rows [] [] a b = tt
are_rows [] (e ∷ es) a b = (b.0, are_rows [] es a b.1)
are_rows (c ∷ cs) es a b = (a.0, are_rows cs es a.1 b)

-- ---- texts

-- nothing is written
abbrev NoBytes : List ℕ → Type 0
NoBytes [] = Unit {0}
NoBytes (b ∷ bs) = ⊥

-- a line isn't without bytes
some_line : (x : Row) (r : List ℕ) → [] ≡ row_line x ++ r → ⊥
some_line (Client c s) r e = subst NoBytes e tt
some_line (Event (Call c at words reply)) r e = subst NoBytes e tt
some_line (Event (Noted c note)) r e = subst NoBytes e tt
some_line (Event (Stop c)) r e = subst NoBytes e tt

pub rows_apart : (xs ys : List Row) → Each IsRow xs → Each IsRow ys → ended (map row_line xs) ≡ ended (map row_line ys) → xs ≡ ys
rows_apart [] [] a b e = refl
rows_apart [] (y ∷ ys) a b e = absurd (some_line y _ (e ∙ append_assoc (row_line y) (10 ∷ []) (ended (map row_line ys))))
rows_apart (x ∷ xs) [] a b e = absurd (some_line x _ (sym e ∙ append_assoc (row_line x) (10 ∷ []) (ended (map row_line xs))))
rows_apart (x ∷ xs) (y ∷ ys) a b e =
    let h = row_apart x y _ _ a.0 b.0 refl refl (sym (append_assoc (row_line x) (10 ∷ []) (ended (map row_line xs))) ∙ e ∙ append_assoc (row_line y) (10 ∷ []) (ended (map row_line ys))) in
    let t = rows_apart xs ys a.1 b.1 (tails 10 10 _ _ h.1) in
    (λ i. h.0 i ∷ t i)

-- the record is the header and the lines of its rows
rows_text : (h : History Heard) → record_text h ≡ (header ++ 10 ∷ []) ++ ended (map row_line (rows h))
rows_text h = ap (λ ls. (header ++ 10 ∷ []) ++ ended ls) (sym (row_lines (entries (seed_map h.clients)) h.entries))

pub determines : RecordsDetermine
determines g h a b e =
    let t = append_cancel_left (header ++ 10 ∷ []) _ _ (sym (rows_text g) ∙ e ∙ rows_text h) in
    let same = rows_apart (rows g) (rows h) (are_rows _ g.entries a.clients a.events) (are_rows _ h.entries b.clients b.events) t in (
      same_entries_map _ _ (sym (clients_back _ g.entries) ∙ ap clients_of same ∙ clients_back _ h.entries),
      sym (events_back _ g.entries) ∙ ap events_of same ∙ events_back _ h.entries,
    )
