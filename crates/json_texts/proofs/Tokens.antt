-- The strings among the tokens of a UTF-8 text are UTF-8.
use Rattle.std.proofs.Common.{◌≡◌, ℕ, Bool, true, false, cond, ◌==◌, List, [], ◌∷◌, ◌++◌, Option, Some, None, IsUtf8, refl, sym, subst, arith}
use Rattle.std.proofs.lemmas.Bool.{eqb-true}
use Rattle.std.proofs.lemmas.List.{append_assoc}
use Rattle.json.specs.Ascii as ascii
use Rattle.json.specs.Text.{content, plain}
use Rattle.json.specs.Token.{Token}
use Rattle.json.specs.Word.{is_operator, is_space, head, ends_word, literal, number_before, after_number, word}
use Rattle.json.specs.Lex.{Lexeme, token, comma, colon, Class, quote, backslash, operator, space, other, class, operator_lexeme, string_token, Mode, between, in_word, in_string, in_escape, lex_byte, lex, Place, fresh, after_value, after_comma, after_key, begins_colon, may_begin, may_close, if_allowed, place_token, punctuate, tokens}
use Rattle.json_texts.proofs.Contents.{After, content_after, at_ascii}

-- a key or a string that is UTF-8, or another token
abbrev pub IsTextToken : Token → Type 0
IsTextToken Token.begin_object = Unit {0}
IsTextToken Token.end_object = Unit {0}
IsTextToken Token.begin_array = Unit {0}
IsTextToken Token.end_array = Unit {0}
IsTextToken (Token.key s) = IsUtf8 s
IsTextToken (Token.string s) = IsUtf8 s
IsTextToken (Token.number s) = Unit {0}
IsTextToken (Token.boolean b) = Unit {0}
IsTextToken Token.null = Unit {0}
IsTextToken Token.bad = Unit {0}

abbrev pub AreTextTokens : List Token → Type 0
AreTextTokens [] = Unit {0}
AreTextTokens (t ∷ ts) = IsTextToken t × AreTextTokens ts

abbrev IsTextLexeme : Lexeme → Type 0
IsTextLexeme (token t) = IsTextToken t
IsTextLexeme comma = Unit {0}
IsTextLexeme colon = Unit {0}

abbrev AreTextLexemes : List Lexeme → Type 0
AreTextLexemes [] = Unit {0}
AreTextLexemes (l ∷ ls) = IsTextLexeme l × AreTextLexemes ls

-- ---- one lexeme

either : (b : Bool) (x y : Token) → IsTextToken x → IsTextToken y → IsTextToken (cond b x y)
either true x y p q = p
either false x y p q = q

one_of : (b : Bool) (x y : Lexeme) → IsTextLexeme x → IsTextLexeme y → IsTextLexeme (cond b x y)
one_of true x y p q = p
one_of false x y p q = q

operator_text : (x : ℕ) → IsTextLexeme (operator_lexeme x)
operator_text x =
    one_of (x == ascii.open_brace) _ _ tt (one_of (x == ascii.close_brace) _ _ tt (one_of (x == ascii.open_bracket) _ _ tt (one_of (x == ascii.close_bracket) _ _ tt (one_of (x == ascii.comma) comma colon tt tt))))

string_text : (o : Option (List ℕ)) → After [] o → IsTextToken (string_token o)
string_text None h = tt
string_text (Some s) h = h

number_text : (t : List ℕ) (o : Option (List ℕ)) → IsTextToken (number_before t o)
number_text t None = tt
number_text t (Some rest) = either (ends_word rest) _ _ tt tt

literal_text : (name : List ℕ) (x : Token) (t : List ℕ) → IsTextToken x → IsTextToken (literal name x t)
literal_text name x t h = either _ x Token.bad h tt

word_text : (t : List ℕ) → IsTextToken (word t)
unfolding word
word_text t =
    either (head t == ascii.lower_t) _ _ (literal_text ascii.true_text (Token.boolean true) t tt)
    (either (head t == ascii.lower_f) _ _ (literal_text ascii.false_text (Token.boolean false) t tt)
    (either (head t == ascii.lower_n) _ _ (literal_text ascii.null_text Token.null t tt) (number_text t (after_number t))))

quote_is : (a b c d : Bool) → cond a quote (cond b backslash (cond c operator (cond d space other))) ≡ quote → a ≡ true
quote_is true b c d e = refl
quote_is false true c d e = cc
quote_is false false true d e = cc
quote_is false false false true e = cc
quote_is false false false false e = cc

-- ---- lexemes

one_byte : (m : Mode) (c : Class) (x : ℕ) (xs : List ℕ) (k : Mode → List Lexeme) → (c ≡ quote → IsUtf8 xs) → ((n : Mode) → AreTextLexemes (k n)) → AreTextLexemes (lex_byte m c x xs k)
one_byte between quote x xs k u h = (string_text (content plain xs) (content_after plain [] xs tt (u refl)), h in_string)
one_byte between backslash x xs k u h = (tt, h in_word)
one_byte between operator x xs k u h = (operator_text x, h between)
one_byte between space x xs k u h = h between
one_byte between other x xs k u h = (word_text (x ∷ xs), h in_word)
one_byte in_word quote x xs k u h = h in_word
one_byte in_word backslash x xs k u h = h in_word
one_byte in_word operator x xs k u h = (operator_text x, h between)
one_byte in_word space x xs k u h = h between
one_byte in_word other x xs k u h = h in_word
one_byte in_string quote x xs k u h = h between
one_byte in_string backslash x xs k u h = h in_escape
one_byte in_string operator x xs k u h = h in_string
one_byte in_string space x xs k u h = h in_string
one_byte in_string other x xs k u h = h in_string
one_byte in_escape c x xs k u h = h in_string

lex_texts : (m : Mode) (pre xs : List ℕ) → IsUtf8 (pre ++ xs) → AreTextLexemes (lex m xs)
unfolding lex
lex_texts m pre [] u = tt
lex_texts m pre (x ∷ xs) u =
    one_byte m (class x) x xs (λ n. lex n xs)
    (λ e. (at_ascii pre x xs (let s = eqb-true x ascii.quote (quote_is (x == ascii.quote) (x == ascii.backslash) (is_operator x) (is_space x) e) in omega (arith, s)) u).1)
    (λ n. lex_texts n (pre ++ x ∷ []) xs (subst IsUtf8 (sym (append_assoc pre (x ∷ []) xs)) u))

-- ---- tokens

allowed : (b : Bool) (t : Token) (k : Place → List Token) (p : Place) → IsTextToken t → ((q : Place) → AreTextTokens (k q)) → AreTextTokens (if_allowed b t k p)
allowed true t k p h more = (h, more p)
allowed false t k p h more = (tt, tt)

place_texts : (p : Place) (t : Token) (b : Bool) (k : Place → List Token) → IsTextToken t → ((q : Place) → AreTextTokens (k q)) → AreTextTokens (place_token p t b k)
place_texts p Token.begin_object b k h more = allowed (may_begin p) Token.begin_object k fresh tt more
place_texts p Token.end_object b k h more = allowed (may_close p) Token.end_object k after_value tt more
place_texts p Token.begin_array b k h more = allowed (may_begin p) Token.begin_array k fresh tt more
place_texts p Token.end_array b k h more = allowed (may_close p) Token.end_array k after_value tt more
place_texts p (Token.key s) b k h more = (tt, tt)
place_texts p (Token.string s) true k h more = allowed (may_begin p) (Token.key s) k after_key h more
place_texts p (Token.string s) false k h more = allowed (may_begin p) (Token.string s) k after_value h more
place_texts p (Token.number s) b k h more = allowed (may_begin p) (Token.number s) k after_value tt more
place_texts p (Token.boolean v) b k h more = allowed (may_begin p) (Token.boolean v) k after_value tt more
place_texts p Token.null b k h more = allowed (may_begin p) Token.null k after_value tt more
place_texts p Token.bad b k h more = (tt, tt)

punctuated : (p : Place) (ls : List Lexeme) → AreTextLexemes ls → AreTextTokens (punctuate p ls)
unfolding punctuate
punctuated fresh [] h = tt
punctuated after_value [] h = tt
punctuated after_comma [] h = (tt, tt)
punctuated after_key [] h = (tt, tt)
punctuated fresh (token t ∷ ls) h = place_texts fresh t (begins_colon ls) (λ next. punctuate next ls) h.0 (λ q. punctuated q ls h.1)
punctuated after_value (token t ∷ ls) h = place_texts after_value t (begins_colon ls) (λ next. punctuate next ls) h.0 (λ q. punctuated q ls h.1)
punctuated after_comma (token t ∷ ls) h = place_texts after_comma t (begins_colon ls) (λ next. punctuate next ls) h.0 (λ q. punctuated q ls h.1)
punctuated after_key (token t ∷ ls) h = place_texts after_key t (begins_colon ls) (λ next. punctuate next ls) h.0 (λ q. punctuated q ls h.1)
punctuated fresh (comma ∷ ls) h = (tt, tt)
punctuated after_value (comma ∷ ls) h = punctuated after_comma ls h.1
punctuated after_comma (comma ∷ ls) h = (tt, tt)
punctuated after_key (comma ∷ ls) h = (tt, tt)
punctuated fresh (colon ∷ ls) h = (tt, tt)
punctuated after_value (colon ∷ ls) h = (tt, tt)
punctuated after_comma (colon ∷ ls) h = (tt, tt)
punctuated after_key (colon ∷ ls) h = punctuated fresh ls h.1

pub tokens_are : (text : List ℕ) → IsUtf8 text → AreTextTokens (tokens text)
tokens_are text u = punctuated fresh (lex between text) (lex_texts between [] text u)
