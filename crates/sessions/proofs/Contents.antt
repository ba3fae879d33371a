-- The contents of bulk strings, one after the other.
use Rattle.std.proofs.Common.{List, None, Option, Some, [], refl, sym, ap, ◌++◌, ◌∙◌, ◌∷◌, ◌≡◌, ◌≢◌, append_assoc, false, length, true}
use Rattle.std.specs.Bool.{◌==◌}
use Rattle.std.specs.Prelude.{Err, Ok, OnErr, Result, is_some}
use Rattle.wire_values.specs.Layer.{layer}
use Rattle.wire_values.specs.declared.value.Value.{Value}
use Rattle.wire_values.specs.declared.value.Value.TheOpen.{Value-F}
use Rattle.wire_values.specs.declared.value.Value.TheVariants.{Array}
use Rattle.wire_values.proofs.Layers.{layer-array}
use Rattle.store_model.specs.Words.{Bytes, Words}
use Rattle.command_blocks.specs.Answers.{bulk_of}
use Rattle.sessions.specs.CommandValues.{contents, with_word, command_items}

pub array_layer : (xs : List Value) → layer (Array xs) ≡ Value-F.Array xs
array_layer xs = layer-array xs

-- words before the contents of what is left
abbrev pub after_words : Words → Option Words → Option Words
after_words words None = None
after_words words (Some more) = Some (words ++ more)

-- all values are whole items
pub all_items : (vs : List Value) (n : Option Words) → vs ≢ [] → n ≡ after_words [] (contents vs) → n ≡ command_items vs
all_items [] n some e = absurd (some refl)
all_items (v ∷ vs) n some e = e ∙ by (contents (v ∷ vs)) where
  by : (o : Option Words) → after_words [] o ≡ o
  by None = refl
  by (Some ws) = refl

-- what holds anyway holds of an error
pub on_err : {T E P : Type 0} (r : Result T E) → P → OnErr r P
on_err (Ok x) p = tt
on_err (Err e) p = p

-- bulk strings spell words
pub some_items : (vs : List Value) → (length vs == 0) ≡ false → is_some (contents vs) ≡ true → (words : Words) × (command_items vs ≡ Some words)
some_items [] some e = absurd cc
some_items (v ∷ vs) some e = by (contents (v ∷ vs)) e where
  by : (o : Option Words) → is_some o ≡ true → (words : Words) × (o ≡ Some words)
  by None e = absurd cc
  by (Some words) e = (words, refl)

-- and other values none
pub no_items : (vs : List Value) → is_some (contents vs) ≡ false → command_items vs ≡ None
no_items [] e = refl
no_items (v ∷ vs) e = by (contents (v ∷ vs)) e where
  by : (o : Option Words) → is_some o ≡ false → o ≡ None
  by None e = refl
  by (Some words) e = absurd cc

-- whether all are bulk strings, with one more before them
pub more_bulks : (v : Value) (rest : List Value) (word : Bytes) → bulk_of v ≡ Some word → is_some (contents (v ∷ rest)) ≡ is_some (contents rest)
more_bulks v rest word e = rw e (by (contents rest)) where
  by : (o : Option Words) → is_some (with_word (Some word) o) ≡ is_some o
  by None = refl
  by (Some more) = refl

pub no_bulk : (v : Value) (rest : List Value) → bulk_of v ≡ None → is_some (contents (v ∷ rest)) ≡ false
no_bulk v rest e = rw e refl

-- one content more
pub one_content : (words : Words) (v : Value) (rest : List Value) (word : Bytes) → bulk_of v ≡ Some word → after_words words (contents (v ∷ rest)) ≡ after_words (words ++ word ∷ []) (contents rest)
one_content words v rest word e = rw e (by (contents rest)) where
  by : (o : Option Words) → after_words words (with_word (Some word) o) ≡ after_words (words ++ word ∷ []) o
  by None = refl
  by (Some more) = ap (λ l. Some l) (sym (append_assoc words (word ∷ []) more))

-- no bulk string
pub no_content : (words : Words) (v : Value) (rest : List Value) → bulk_of v ≡ None → after_words words (contents (v ∷ rest)) ≡ None
no_content words v rest e = rw e refl
