-- The words of the commands are within the limits of a command.
use Rattle.std.proofs.Common.{◌≡◌, ℕ, ◌*◌, ◌<◌, ◌≤◌, ◌^◌, List, [], ◌∷◌, ◌++◌, length, true, sym, subst, codes, decimal, arith, length-append, Result, Ok, Err}
use Rattle.std.specs.declared.alloc.AllocError.{AllocError}
use Rattle.std.specs.Prelude.{All, IfOk, nat_le}
use Rattle.std.proofs.lemmas.Bool.Decides.{nat_tests}
use Rattle.std.proofs.lemmas.List.Elements.{All-nil, All-cons, All-append}
use Rattle.std.proofs.lemmas.Fmt.{length-decimal-le}
use Rattle.uuid.proofs.TextLemmas.{by_index_length}
use Rattle.envelope.specs.Entries.{EntryParts, entry_at, max_entry}
use Rattle.delivery_tags.specs.Tags.{tag_text}
use Rattle.envelope_trees.specs.declared.fault.EnvelopeFault.TheVariants.{TooLong}
use Rattle.envelope_trees.specs.Reading.{wanted}
use Rattle.envelope.proofs.Said.{bind_ok, wanted_is}
use Rattle.store_model.specs.Words.{Words}
use Rattle.wire_grammar.specs.Fits.{IsShort, IsWithinLimits}
use Rattle.wire_grammar.proofs.Fitted.{words_fit}
use Rattle.queue_keys.specs.Layouts.{plain}
use Rattle.queue_keys.specs.Names.{Bytes, is_name}
use Rattle.queue_keys.specs.QueueKeys.{keys_at, keys_by, pop_keys, queue_key}
use Rattle.place_model.proofs.CommandLimits.{four_within, key_few, one_within, three_within}
use Rattle.key_laws.proofs.Lists.{length-pop_keys}
use Rattle.unacked.specs.Queues.{are_names}
use Rattle.unacked.proofs.Names.{and_is}

-- a tag's text has 36 bytes
length-tag_text : (n : ℕ) → length (tag_text n) ≡ 36
length-tag_text n = by_index_length 36 _

pub tag_short : (n : ℕ) → IsShort (tag_text n)
tag_short n = let h = length-tag_text n in omega (arith, h)

pub decimal_short : (n : ℕ) → n < 2 ^ 64 → IsShort (decimal n)
decimal_short n h = let x : length (decimal n) ≤ 20 = length-decimal-le 20 n (omega arith) (omega (arith, h)) h in omega (arith, x)

-- what is read as an entry is short enough
pub entry_short : (u : Bytes) (e : EntryParts) → entry_at u ≡ Ok e → IsShort u
unfolding entry_at
entry_short u e is =
    let a = bind_ok (wanted TooLong (nat_le (length u) max_entry)) _ e is in
    let b : nat_le (length u) 1048576 ≡ true = wanted_is TooLong _ a.0 a.1 in
    grind (arith, nat_tests)

-- ---- the keys of a pop

-- a key of a lawful name has few bytes
abbrev IsKeyLong : Bytes → Type 0
IsKeyLong k = length k ≤ 258

at_few : (s : ℕ) (qs : List Bytes) → are_names qs ≡ true → All IsKeyLong (keys_at plain s qs)
at_few s [] e = All-nil IsKeyLong
at_few s (q ∷ qs) e = let h = and_is (is_name q) (are_names qs) e in All-cons IsKeyLong (queue_key plain q s) (keys_at plain s qs) (key_few s q h.0) (at_few s qs h.1)

by_few : (ss : List ℕ) (qs : List Bytes) → are_names qs ≡ true → All IsKeyLong (keys_by plain ss qs)
by_few [] qs e = All-nil IsKeyLong
by_few (s ∷ ss) qs e = All-append IsKeyLong (keys_at plain s qs) (keys_by plain ss qs) (at_few s qs e) (by_few ss qs e)

-- BRPOP of the keys of at most 1,023 lawful names
pub pop_within : (qs : List Bytes) → are_names qs ≡ true → length qs ≤ 1023 → IsWithinLimits (codes "BRPOP" ∷ pop_keys plain qs ++ codes "1" ∷ [])
pop_within qs e few =
    let n : length (pop_keys plain qs) ≡ 4 * length qs = length-pop_keys plain qs in
    let m = length-append (pop_keys plain qs) (codes "1" ∷ []) in
    words_fit 258 (codes "BRPOP" ∷ pop_keys plain qs ++ codes "1" ∷ []) (omega (arith, n, m, few)) (omega arith) (omega (arith, n, m, few))
    (All-cons IsKeyLong (codes "BRPOP") (pop_keys plain qs ++ codes "1" ∷ []) (omega arith) (All-append IsKeyLong (pop_keys plain qs) (codes "1" ∷ []) (by_few plain.steps qs e) (All-cons IsKeyLong (codes "1") [] (omega arith) (All-nil IsKeyLong))))

-- ---- what a call that makes words answers

-- one word
pub one_made : (r : Result Words AllocError) (a : Bytes) → IfOk r (λ w. w ≡ a ∷ []) → IsShort a → IfOk r IsWithinLimits
one_made (Ok w) a e x = subst IsWithinLimits (sym e) (one_within a x)
one_made (Err f) a e x = tt

-- words of three
pub three_made : (r : Result Words AllocError) (a b c : Bytes) → IfOk r (λ w. w ≡ a ∷ b ∷ c ∷ []) → IsShort a → IsShort b → IsShort c → IfOk r IsWithinLimits
three_made (Ok w) a b c e x y z = subst IsWithinLimits (sym e) (three_within a b c x y z)
three_made (Err f) a b c e x y z = tt

-- words of four, the last two of which are short
pub four_made : (r : Result Words AllocError) (a b c d : Bytes) → IfOk r (λ w. w ≡ a ∷ b ∷ c ∷ d ∷ []) → IsShort a → IsShort b → IsShort c → IsShort d → IfOk r IsWithinLimits
four_made (Ok w) a b c d e x y z u = subst IsWithinLimits (sym e) (four_within a b c d x y z u)
four_made (Err f) a b c d e x y z u = tt
