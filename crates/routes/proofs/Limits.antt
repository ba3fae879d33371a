-- The words of publications and declarations are within the limits of a command.
use Rattle.std.proofs.Common.{◌≡◌, ℕ, ◌≤◌, [], ◌∷◌, ◌++◌, length, true, refl, sym, arith, Bool, false, Ok, Err, Result, subst, codes, length-append, ◌&&◌}
use Rattle.std.specs.Prelude.{IfOk, nat_le}
use Rattle.std.proofs.lemmas.Bool.{and_parts}
use Rattle.std.proofs.lemmas.Bool.Decides.{nat_tests}
use Rattle.std.proofs.lemmas.List.Elements.{All-nil, All-cons}
use Rattle.std.specs.declared.alloc.AllocError.{AllocError}
use Rattle.serde_json.specs.Data.{Data}
use Rattle.serde_json.specs.Written.{compact_text}
use Rattle.envelope.specs.Envelopes.{envelope_at, parts_in, said_by}
use Rattle.envelope.proofs.EnvelopeTags.{read_said}
use Rattle.envelope.proofs.EntryTexts.{short_names}
use Rattle.envelope.proofs.Relations.{short_is}
use Rattle.envelope.proofs.Said.{said_is}
use Rattle.store_model.specs.Words.{Words}
use Rattle.wire_grammar.specs.Fits.{IsShort, IsWithinLimits}
use Rattle.wire_grammar.proofs.Fitted.{words_fit}
use Rattle.queue_keys.specs.Bindings.{is_part, member}
use Rattle.queue_keys.specs.Layouts.{plain}
use Rattle.queue_keys.specs.Names.{Bytes, all_free, is_name}
use Rattle.queue_keys.specs.QueueKeys.{binding_key, queue_key}
use Rattle.routes.specs.Declares.{change_word}
use Rattle.routes.specs.declared.declaration.Change.{Change}
use Rattle.routes.specs.declared.declaration.Change.TheVariants.{Add, Remove}
use Rattle.routes.specs.declared.declaration.Declaration.{Declaration}
use Rattle.place_model.proofs.CommandLimits.{key_short, three_within, key_few}

-- an envelope's text is short enough for a word
pub text_short : (d : Data) (b : Bytes) → envelope_at b ≡ Ok d → b ≡ compact_text d → IsShort b
text_short d b e is =
    let s = (read_said b d e).1 in
    let fits : length (compact_text d) ≤ 1040000 = (said_is d s.0 s.1).text in
    subst IsShort (sym is) (omega (arith, fits))

-- the key of an exchange's bindings is, where the exchange is
binding_short : (e : Bytes) → length e ≤ 255 → IsShort (binding_key plain e)
binding_short e few = let n = length-append (codes "_kombu.binding.") e in omega (arith, n, few)

two_within : (a b : Bytes) → IsShort a → IsShort b → IsWithinLimits (a ∷ b ∷ [])
two_within a b x y = words_fit 1048576 (a ∷ b ∷ []) (omega arith) (omega arith) (omega arith) (All-cons IsShort a (b ∷ []) x (All-cons IsShort b [] y (All-nil IsShort)))

-- words that were made of these are within the limits
pub all_within : (result : Result Words AllocError) (words : Words) → IfOk result (λ made. made ≡ words) → IsWithinLimits words → IfOk result (λ made. IsWithinLimits made)
all_within (Ok made) words is fits = subst IsWithinLimits (sym is) fits
all_within (Err f) words is fits = tt

-- ---- a publication

pub push_within : (k b q : Bytes) (s : ℕ) → k ≡ queue_key plain q s → is_name q ≡ true → IsShort b → IsWithinLimits (codes "LPUSH" ∷ k ∷ b ∷ [])
push_within k b q s is name short = three_within (codes "LPUSH") k b (omega arith) (subst IsShort (sym is) (key_short s q name)) short

pub asking_within : (d : Data) (k : Bytes) → said_by d ≡ Ok (parts_in d) → k ≡ binding_key plain (parts_in d).exchange → IsWithinLimits (codes "SMEMBERS" ∷ k ∷ [])
asking_within d k said is =
    let few = short_is (parts_in d).exchange (and_parts _ _ (short_names d (parts_in d) said)).0 in
    two_within (codes "SMEMBERS") k (omega arith) (subst IsShort (sym is) (binding_short (parts_in d).exchange few))

-- ---- a declaration

part_few : (x : Bytes) → is_part x ≡ true → length x ≤ 255
part_few x e = by (all_free x) (nat_le (length x) 255) refl e where
  by : (a b : Bool) → nat_le (length x) 255 ≡ b → (a && b) ≡ true → length x ≤ 255
  by true true e h = grind (arith, nat_tests)
  by true false e h = cc
  by false b e h = cc

member_short : (r x q : Bytes) → is_part r ≡ true → is_part x ≡ true → is_name q ≡ true → IsShort (member r x q)
member_short r x q a b c =
    let f = part_few r a in
    let g = part_few x b in
    let h = key_few 0 q c in
    let k = length-append q [] in
    let n = length-append r (6 ∷ 22 ∷ (x ++ (6 ∷ 22 ∷ q))) in
    let m = length-append x (6 ∷ 22 ∷ q) in
    omega (arith, f, g, h, k, n, m)

word_short : (c : Change) → IsShort (change_word c)
word_short Add = omega arith
word_short Remove = omega arith

pub declaration_within : (d : Declaration) (w k m : Bytes) → w ≡ change_word d.change → k ≡ binding_key plain d.exchange → m ≡ member d.routing_key d.pattern d.queue → is_name d.queue ≡ true → IsWithinLimits (w ∷ k ∷ m ∷ [])
declaration_within d w k m word key text name = three_within w k m
    (subst IsShort (sym word) (word_short d.change))
    (subst IsShort (sym key) (binding_short d.exchange (part_few d.exchange d.exchange_part)))
    (subst IsShort (sym text) (member_short d.routing_key d.pattern d.queue d.key_part d.pattern_part name))
