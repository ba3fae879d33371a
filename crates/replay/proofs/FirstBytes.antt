-- A JSON text of an object begins with its bracket or a blank, and so does one of an array.
use Rattle.std.proofs.Common.{◌≡◌, ℕ, zero, suc, List, [], ◌∷◌, length, Bool, true, false, cond, ◌==◌, ◌||◌, if◌then◌else◌, Option, Some, None, option_map, option_and_then, refl, subst}
use Rattle.std.specs.Prelude.{not}
use Rattle.json.specs.Ascii as ascii
use Rattle.json.specs.Json as json
use Rattle.json.specs.Lex.{Lexeme, token, comma, colon, quote, backslash, operator, space, other, Mode, between, lex_byte, lex, string_token, fresh, Place, begins_colon, place_token, punctuate, tokens}
use Rattle.json.specs.Text.{content, plain}
use Rattle.json.specs.Token.{Token}
use Rattle.json.specs.Word.{after_number, ends_word, head, is_operator, is_space, literal, number_before, word}
use Rattle.serde_json.specs.Data.{Data, null, boolean, number, string, array, object, no_members}
use Rattle.serde_json.specs.Read.{max_depth, number_of, of_items, of_json, of_members, read}
use Rattle.replay.specs.Openings.{bracket, is_blank, may_open}

-- ---- what opens an object, or else an array

abbrev opens : Token → Bool → Bool
opens Token.begin_object b = b
opens Token.end_object b = false
opens Token.begin_array b = not b
opens Token.end_array b = false
opens (Token.key s) b = false
opens (Token.string s) b = false
opens (Token.number s) b = false
opens (Token.boolean c) b = false
opens Token.null b = false
opens Token.bad b = false

abbrev is_json : json.Json → Bool → Bool
is_json json.null b = false
is_json (json.boolean c) b = false
is_json (json.number s) b = false
is_json (json.string s) b = false
is_json (json.array js) b = not b
is_json (json.object ms) b = b

-- whether a tree is an object, or else an array
abbrev pub is_tree : Data → Bool → Bool
is_tree null b = false
is_tree (boolean c) b = false
is_tree (number n) b = false
is_tree (string s) b = false
is_tree (array ds) b = not b
is_tree (object ms) b = b

-- the first token doesn't open it
abbrev FirstToken : Bool → List Token → Type 0
FirstToken b [] = Unit {0}
FirstToken b (t ∷ ts) = opens t b ≡ false

abbrev FirstLexeme : Bool → List Lexeme → Type 0
FirstLexeme b [] = Unit {0}
FirstLexeme b (token t ∷ ls) = opens t b ≡ false
FirstLexeme b (comma ∷ ls) = Unit {0}
FirstLexeme b (colon ∷ ls) = Unit {0}

-- ---- the first byte

either : (b c : Bool) (x y : Token) → opens x b ≡ false → opens y b ≡ false → opens (cond c x y) b ≡ false
either b true x y h k = h
either b false x y h k = k

string_opens : (b : Bool) (o : Option (List ℕ)) → opens (string_token o) b ≡ false
string_opens b None = refl
string_opens b (Some s) = refl

number_opens : (b : Bool) (t : List ℕ) (o : Option (List ℕ)) → opens (number_before t o) b ≡ false
number_opens b t None = refl
number_opens b t (Some rest) = either b (ends_word rest) _ Token.bad refl refl

literal_opens : (b : Bool) (name : List ℕ) (x : Token) (t : List ℕ) → opens x b ≡ false → opens (literal name x t) b ≡ false
literal_opens b name x t h = either b _ x Token.bad h refl

word_opens : (b : Bool) (t : List ℕ) → opens (word t) b ≡ false
unfolding word
word_opens b t =
    either b (head t == ascii.lower_t) _ _ (literal_opens b ascii.true_text (Token.boolean true) t refl)
    (either b (head t == ascii.lower_f) _ _ (literal_opens b ascii.false_text (Token.boolean false) t refl)
    (either b (head t == ascii.lower_n) _ _ (literal_opens b ascii.null_text Token.null t refl) (number_opens b t (after_number t))))

operators : (b o p q r s : Bool) (ls : List Lexeme) → (if b then o else q) ≡ false
    → FirstLexeme b (cond o (token Token.begin_object) (cond p (token Token.end_object) (cond q (token Token.begin_array) (cond r (token Token.end_array) (cond s comma colon)))) ∷ ls)
operators true true p q r s ls e = e
operators false true p q r s ls e = refl
operators b false true q r s ls e = refl
operators true false false true r s ls e = refl
operators false false false true r s ls e = e
operators b false false false true s ls e = refl
operators b false false false false true ls e = tt
operators b false false false false false ls e = tt

chosen : (b : Bool) (x : ℕ) → (x == bracket b) ≡ false → (if b then (x == ascii.open_brace) else (x == ascii.open_bracket)) ≡ false
chosen true x h = h
chosen false x h = h

one_byte : (b : Bool) (x : ℕ) (xs : List ℕ) (k : Mode → List Lexeme) (p q r s : Bool) → (x == bracket b) ≡ false → s ≡ false
    → FirstLexeme b (lex_byte between (cond p quote (cond q backslash (cond r operator (cond s space other)))) x xs k)
one_byte b x xs k true q r s h e = string_opens b (content plain xs)
one_byte b x xs k false true r s h e = refl
one_byte b x xs k false false true s h e =
    operators b (x == ascii.open_brace) (x == ascii.close_brace) (x == ascii.open_bracket) (x == ascii.close_bracket) (x == ascii.comma) (k between) (chosen b x h)
one_byte b x xs k false false false true h e = cc
one_byte b x xs k false false false false h e = word_opens b (x ∷ xs)

or_false : (a c : Bool) → (a || c) ≡ false → (a ≡ false) × (c ≡ false)
or_false true c e = cc
or_false false c e = (refl, e)

lexed : (b : Bool) (text : List ℕ) → may_open b text ≡ false → FirstLexeme b (lex between text)
unfolding lex
lexed b [] h = tt
lexed b (x ∷ xs) h =
    let p = or_false (x == bracket b) (is_blank x) h in
    one_byte b x xs (λ next. lex next xs) (x == ascii.quote) (x == ascii.backslash) (is_operator x) (is_space x) p.0 p.1

-- ---- the first token

placed : (b : Bool) (t : Token) (c : Bool) (k : Place → List Token) → opens t b ≡ false → FirstToken b (place_token fresh t c k)
placed b Token.begin_object c k h = h
placed b Token.end_object c k h = refl
placed b Token.begin_array c k h = h
placed b Token.end_array c k h = refl
placed b (Token.key s) c k h = refl
placed b (Token.string s) true k h = refl
placed b (Token.string s) false k h = refl
placed b (Token.number s) c k h = refl
placed b (Token.boolean d) c k h = refl
placed b Token.null c k h = refl
placed b Token.bad c k h = refl

punctuated : (b : Bool) (ls : List Lexeme) → FirstLexeme b ls → FirstToken b (punctuate fresh ls)
unfolding punctuate
punctuated b [] h = tt
punctuated b (token t ∷ ls) h = placed b t (begins_colon ls) (λ next. punctuate next ls) h
punctuated b (comma ∷ ls) h = refl
punctuated b (colon ∷ ls) h = refl

-- ---- the value

-- what was read isn't what the bracket opens
abbrev Misses : Bool → Option (json.Json × List Token) → Type 0
Misses b None = Unit {0}
Misses b (Some p) = is_json p.0 b ≡ false

abbrev MissesJson : Bool → Option json.Json → Type 0
MissesJson b None = Unit {0}
MissesJson b (Some j) = is_json j b ≡ false

abbrev MissesTree : Bool → Option Data → Type 0
MissesTree b None = Unit {0}
MissesTree b (Some d) = is_tree d b ≡ false

mapped : {A : Type 0} (b : Bool) (f : A → json.Json) (r : Option (A × List Token)) → ((a : A) → is_json (f a) b ≡ false) → Misses b (json.parse_map f r)
mapped b f None h = tt
mapped b f (Some p) h = h p.0

value_misses : (b : Bool) (a : json.Parse json.Items) (o : json.Parse json.Members) (ts : List Token) → FirstToken b ts → Misses b (json.value_with a o ts)
value_misses b a o [] h = tt
value_misses b a o (Token.begin_object ∷ ts) h = mapped b json.object (o ts) (λ ms. h)
value_misses b a o (Token.end_object ∷ ts) h = tt
value_misses b a o (Token.begin_array ∷ ts) h = mapped b json.array (a ts) (λ js. h)
value_misses b a o (Token.end_array ∷ ts) h = tt
value_misses b a o (Token.key s ∷ ts) h = tt
value_misses b a o (Token.string s ∷ ts) h = refl
value_misses b a o (Token.number s ∷ ts) h = refl
value_misses b a o (Token.boolean c ∷ ts) h = refl
value_misses b a o (Token.null ∷ ts) h = refl
value_misses b a o (Token.bad ∷ ts) h = tt

nested : (b : Bool) (n : ℕ) (ts : List Token) → FirstToken b ts → Misses b (json.value n ts)
unfolding json.value
nested b zero ts h = value_misses b (λ us. None) (λ us. None) ts h
nested b (suc n) ts h = value_misses b (λ us. json.items (json.value n) (length us) us) (λ us. json.members (json.value n) (length us) us) ts h

last : (b : Bool) (j : json.Json) (ts : List Token) → is_json j b ≡ false → MissesJson b (json.if_last j ts)
last b j [] h = h
last b j (t ∷ ts) h = tt

whole : (b : Bool) (o : Option (json.Json × List Token)) → Misses b o → MissesJson b (option_and_then (λ p. json.if_last p.0 p.1) o)
whole b None h = tt
whole b (Some p) h = last b p.0 p.1 h

made : {A : Type 0} (b : Bool) (f : A → Data) (o : Option A) → ((a : A) → is_tree (f a) b ≡ false) → MissesTree b (option_map f o)
made b f None h = tt
made b f (Some a) h = h a

tree_of : (b : Bool) (j : json.Json) → is_json j b ≡ false → MissesTree b (of_json j)
tree_of b json.null h = refl
tree_of b (json.boolean c) h = refl
tree_of b (json.number s) h = made b number (number_of s) (λ n. refl)
tree_of b (json.string s) h = refl
tree_of b (json.array js) h = made b array (of_items js) (λ ds. h)
tree_of b (json.object ms) h = made b object (of_members ms no_members) (λ ns. h)

converted : (b : Bool) (o : Option json.Json) → MissesJson b o → MissesTree b (option_and_then of_json o)
converted b None h = tt
converted b (Some j) h = tree_of b j h

-- a text that doesn't begin so is no such tree's
pub misses : (b : Bool) (text : List ℕ) (d : Data) → may_open b text ≡ false → read text ≡ Some d → is_tree d b ≡ false
misses b text d h e = subst (MissesTree b) e (converted b _ (whole b _ (nested b max_depth (tokens text) (punctuated b (lex between text) (lexed b text h)))))
