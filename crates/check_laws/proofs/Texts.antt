-- Lines, each with its line feed, are the text that they were cut from, of which the last line feed may be missing.
use Rattle.std.proofs.Common.{◌≡◌, ◌⊎◌, inl, inr, ℕ, ◌<◌, ◌≤◌, ◌+◌, List, [], ◌∷◌, ◌++◌, refl, sym, ap, ◌∙◌, append_assoc, arith, length, take}
use Rattle.std.proofs.lemmas.Cmp.{nat_cmp_total}
use Rattle.std.proofs.lemmas.List.{append-nil, take_all}
use Rattle.std.proofs.lemmas.List.Splits.{join_with_byte-slice_split}
use Rattle.std.specs.Prelude.{◌==◌}
use Rattle.std.specs.List.{AllByRecursion, slice_split, join_with_byte}
use Rattle.std.specs.List.Sorted.{IsStrictlySortedBy}
use Rattle.std.specs.Map.{keys_of}
use Rattle.std.specs.Ordering.{nat_cmp}
use Rattle.std.specs.FinMap.{entries, nat_cmp-IsAntisymmetric}
use Rattle.std.specs.declared.cmp.Ordering.TheVariants.{Less}
use Rattle.store_tables.proofs.Maps.{entries_made}
use Rattle.line_text.specs.Lines.{lines_of, whole_lines}
use Rattle.history_records.specs.Records.{ended, seed_map}
use Rattle.check_laws.proofs.Kept.{AreAbove, DoRise}

-- the text is that of the lines, or but for a last line feed
abbrev pub IsTextOf : List (List ℕ) → List ℕ → Type 0
IsTextOf ls bytes = (ended ls ≡ bytes) ⊎ (ended ls ≡ bytes ++ 10 ∷ [])

one_on : (l more rest : List ℕ) → more ≡ rest → (l ++ 10 ∷ []) ++ more ≡ l ++ 10 ∷ rest
one_on l more rest e = append_assoc l (10 ∷ []) more ∙ ap (λ t. l ++ 10 ∷ t) e

onto : (l : List ℕ) (ls : List (List ℕ)) (bytes : List ℕ) → IsTextOf ls bytes → IsTextOf (l ∷ ls) (l ++ 10 ∷ bytes)
onto l ls bytes (inl e) = inl (one_on l (ended ls) bytes e)
onto l ls bytes (inr e) = inr (one_on l (ended ls) (bytes ++ 10 ∷ []) e ∙ sym (append_assoc l (10 ∷ bytes) (10 ∷ [])))

joined : (parts : List (List ℕ)) → IsTextOf (whole_lines parts) (join_with_byte 10 parts)
joined [] = inl refl
joined ([] ∷ []) = inl refl
joined ((b ∷ l) ∷ []) = inr (append-nil ((b ∷ l) ++ 10 ∷ []))
joined ([] ∷ m ∷ ps) = onto [] (whole_lines (m ∷ ps)) (join_with_byte 10 (m ∷ ps)) (joined (m ∷ ps))
joined ((b ∷ l) ∷ m ∷ ps) = onto (b ∷ l) (whole_lines (m ∷ ps)) (join_with_byte 10 (m ∷ ps)) (joined (m ∷ ps))

pub text_of_lines : (bytes : List ℕ) → IsTextOf (lines_of bytes) bytes
text_of_lines bytes = by (join_with_byte 10 (slice_split (λ b. b == 10) bytes)) (join_with_byte-slice_split 10 bytes) (joined (slice_split (λ b. b == 10) bytes)) where
  by : (t : List ℕ) → t ≡ bytes → IsTextOf (lines_of bytes) t → IsTextOf (lines_of bytes) bytes
  by t e (inl f) = inl (f ∙ e)
  by t e (inr f) = inr (f ∙ ap (λ u. u ++ 10 ∷ []) e)

pub all_taken : (bytes : List ℕ) (n : ℕ) → length bytes ≤ n → take (n + 1) bytes ≡ bytes
all_taken bytes n le = take_all (n + 1) bytes (omega (arith, le))

-- ---- clients that rise are those of their map

below : (c d : ℕ) → c < d → nat_cmp c d ≡ Less
below c d lt = grind (arith)

sorted_above : (c : ℕ) (cs : List (ℕ × ℕ)) → AreAbove c cs → AllByRecursion (λ y. nat_cmp c y ≡ Less) (keys_of cs)
sorted_above c [] h = tt
sorted_above c (d ∷ ds) h = (below c d.0 h.0, sorted_above c ds h.1)

sorted : (cs : List (ℕ × ℕ)) → DoRise cs → IsStrictlySortedBy nat_cmp (keys_of cs)
unfolding IsStrictlySortedBy
sorted [] h = tt
sorted (c ∷ cs) h = (sorted_above c.0 cs h.0, sorted cs h.1)

pub risen : (cs : List (ℕ × ℕ)) → DoRise cs → entries (seed_map cs) ≡ cs
risen cs h = entries_made nat_cmp_total nat_cmp-IsAntisymmetric cs (sorted cs h)
