-- The entry of an envelope is short enough, and is read again.
use Rattle.std.proofs.Common.{◌≡◌, ℕ, ◌+◌, ◌*◌, ◌/◌, ◌%◌, ◌≤◌, List, [], ◌∷◌, length, Bool, true, false, cond, Some, Ok, refl, sym, ap, ◌∙◌, arith, length-append}
use Rattle.std.specs.Prelude.{IsUtf8, nat_le, ◌&&◌, nat_lt}
use Rattle.std.specs.List.{flat_map}
use Rattle.std.specs.Char.{digit_char}
use Rattle.std.proofs.lemmas.Bool.Decides.{nat_tests}
use Rattle.json.specs.Print.{escape_byte, escape_letter, quoted}
use Rattle.serde_json.specs.Data.{Data}
use Rattle.serde_json.specs.Read.{read}
use Rattle.serde_json.specs.Written.{compact_text}
use Rattle.envelope.specs.Entries.{entry_at, entry_data, entry_for, max_entry}
use Rattle.envelope.specs.Envelopes.{Parts, said_by, envelope_of, are_short, max_bytes, max_name}
use Rattle.envelope.proofs.Said.{said_is}
use Rattle.envelope.proofs.Texts.{json_some}
use Rattle.envelope.proofs.Told.{told_by}

-- ---- lengths

escape_length : (x : ℕ) → length (escape_byte x) ≤ 6
unfolding escape_byte
escape_length x =
    elim (nat_lt 0 (escape_letter x)) as (λ b. length (cond b (92 ∷ escape_letter x ∷ []) (cond (nat_lt x 32) (92 ∷ 117 ∷ 48 ∷ 48 ∷ digit_char (x / 16) ∷ digit_char (x % 16) ∷ []) (x ∷ []))) ≤ 6) [
      | true ↦ omega arith
      | false ↦ elim (nat_lt x 32) as (λ b. length (cond b (92 ∷ 117 ∷ 48 ∷ 48 ∷ digit_char (x / 16) ∷ digit_char (x % 16) ∷ []) (x ∷ [])) ≤ 6) [ true ↦ omega arith | false ↦ omega arith ]
    ]

escaped_length : (s : List ℕ) → length (flat_map escape_byte s) ≤ 6 * length s
escaped_length [] = omega arith
escaped_length (x ∷ s) = omega (arith, escape_length x, escaped_length s, length-append (escape_byte x) (flat_map escape_byte s))

quoted_length : (s : List ℕ) → length (quoted s) ≤ 6 * length s + 2
quoted_length s = omega (arith, escaped_length s, length-append (flat_map escape_byte s) (34 ∷ []))

entry_length : (d : Data) (e r : List ℕ) → length (compact_text (entry_data (record { tree = d; exchange = e; routing_key = r }))) ≡ length (compact_text d) + (length (quoted e) + (length (quoted r) + 4))
entry_length d e r = simp length-append (omega arith)

names_are : (a b : List ℕ) → are_short a b ≡ true → (length a ≤ max_name) × (length b ≤ max_name)
names_are a b h = go (nat_le (length a) max_name) (nat_le (length b) max_name) refl refl h
  where
    go : (x y : Bool) → nat_le (length a) max_name ≡ x → nat_le (length b) max_name ≡ y → (x && y) ≡ true → (length a ≤ max_name) × (length b ≤ max_name)
    go true true i j k = let m : length a ≤ max_name = grind (arith, nat_tests) in let n : length b ≤ max_name = grind (arith, nat_tests) in (m, n)
    go true false i j k = cc
    go false y i j k = cc

-- what an envelope says has short names
pub short_names : (d : Data) (p : Parts) → said_by d ≡ Ok p → are_short p.exchange p.routing_key ≡ true
short_names d p e =
    let h = told_by d p (said_is d p e).parts in
    ap (λ (x : List ℕ). are_short x p.routing_key) (sym h.exchange_is) ∙ ap (λ (x : List ℕ). are_short h.said.exchange x) (sym h.routing_key_is) ∙ h.short

-- so its entry is short enough
pub entry_fits : (d : Data) (p : Parts) → said_by d ≡ Ok p → length (compact_text (entry_data (record { tree = d; exchange = p.exchange; routing_key = p.routing_key }))) ≤ max_entry
entry_fits d p e =
    let text : length (compact_text d) ≤ max_bytes = (said_is d p e).text in
    let names = names_are p.exchange p.routing_key (short_names d p e) in
    let a : length p.exchange ≤ max_name = names.0 in
    let b : length p.routing_key ≤ max_name = names.1 in
    omega (arith, entry_length d p.exchange p.routing_key, quoted_length p.exchange, quoted_length p.routing_key)

-- ---- reading again

-- bytes that are read as the array of an envelope's entry are that entry
pub entry_is : (d : Data) (p : Parts) (b : List ℕ) → said_by d ≡ Ok p → IsUtf8 b → read b ≡ Some (entry_data (record { tree = d; exchange = p.exchange; routing_key = p.routing_key })) → length b ≤ max_entry → entry_at b ≡ Ok (entry_for d)
unfolding entry_at envelope_of
entry_is d p b said utf8 reads fits =
    let short : nat_le (length b) max_entry ≡ true = grind (arith, nat_tests) in
    rw (short, json_some b _ utf8 reads, said, short_names d p said) refl
