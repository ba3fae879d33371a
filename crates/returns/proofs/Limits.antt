-- The words of a return are within the limits of a command.
use Rattle.std.proofs.Common.{◌≡◌, ℕ, ◌≤◌, List, [], ◌∷◌, drop, length, refl, true, sym, subst, codes, arith, length-append, Result, Ok, Err}
use Rattle.std.specs.declared.alloc.AllocError.{AllocError}
use Rattle.std.specs.Prelude.{IfOk}
use Rattle.std.proofs.lemmas.List.Elements.{All-nil, All-cons}
use Rattle.uuid.proofs.TextLemmas.{by_index_length}
use Rattle.delivery_tags.specs.Tags.{tag_text}
use Rattle.store_model.specs.Words.{Words}
use Rattle.wire_grammar.specs.Fits.{IsShort, IsWithinLimits}
use Rattle.wire_grammar.proofs.Fitted.{words_fit}
use Rattle.queue_keys.specs.Layouts.{plain}
use Rattle.queue_keys.specs.Names.{Bytes}
use Rattle.queue_keys.specs.QueueKeys.{binding_key}
use Rattle.serde_json.specs.Data.{Data}
use Rattle.serde_json.specs.Written.{compact_text}
use Rattle.envelope.specs.Envelopes.{envelope_at}
use Rattle.envelope.proofs.EnvelopeTags.{read_said}
use Rattle.envelope.proofs.Said.{said_is}
use Rattle.command_blocks.specs.Calls.{push_word}
use Rattle.command_blocks.specs.declared.side.Side.{Side}
use Rattle.command_blocks.specs.declared.side.Side.TheVariants.{Left, Right}
use Rattle.returns.specs.Keys.{are_few}
use Rattle.returns.specs.Spots.{pushed_words}
use Rattle.returns.proofs.Few.{first_short}
use Rattle.place_model.proofs.CommandLimits.{one_within, three_within}

-- a tag's text has 36 bytes
length-tag_text : (n : ℕ) → length (tag_text n) ≡ 36
length-tag_text n = by_index_length 36 _

pub tag_short : (n : ℕ) → IsShort (tag_text n)
tag_short n = let h = length-tag_text n in omega (arith, h)

-- the key of an exchange of at most 255 bytes
pub binding_short : (e : Bytes) → length e ≤ 255 → IsShort (binding_key plain e)
binding_short e h = let n = length-append (codes "_kombu.binding.") e in omega (arith, n, h)

two_within : (a b : Bytes) → IsShort a → IsShort b → IsWithinLimits (a ∷ b ∷ [])
two_within a b x y = words_fit 1048576 (a ∷ b ∷ []) (omega arith) (omega arith) (omega arith) (All-cons IsShort a (b ∷ []) x (All-cons IsShort b [] y (All-nil IsShort)))

-- ---- what a call that makes words answers

-- one word
pub one_made : (r : Result Words AllocError) (a : Bytes) → IfOk r (λ w. w ≡ a ∷ []) → IsShort a → IfOk r IsWithinLimits
one_made (Ok w) a e x = subst IsWithinLimits (sym e) (one_within a x)
one_made (Err f) a e x = tt

-- two words
pub two_made : (r : Result Words AllocError) (a b : Bytes) → IfOk r (λ w. w ≡ a ∷ b ∷ []) → IsShort a → IsShort b → IfOk r IsWithinLimits
two_made (Ok w) a b e x y = subst IsWithinLimits (sym e) (two_within a b x y)
two_made (Err f) a b e x y = tt

-- words of three
pub three_made : (r : Result Words AllocError) (a b c : Bytes) → IfOk r (λ w. w ≡ a ∷ b ∷ c ∷ []) → IsShort a → IsShort b → IsShort c → IfOk r IsWithinLimits
three_made (Ok w) a b c e x y z = subst IsWithinLimits (sym e) (three_within a b c x y z)
three_made (Err f) a b c e x y z = tt

-- an envelope's text is short enough for a word
pub text_short : (d : Data) (b : Bytes) → envelope_at b ≡ Ok d → b ≡ compact_text d → IsShort b
text_short d b e is =
    let s = (read_said b d e).1 in
    let fits : length (compact_text d) ≤ 1040000 = (said_is d s.0 s.1).text in
    subst IsShort (sym is) (omega (arith, fits))

name_short : (side : Side) → IsShort (push_word side)
name_short Left = omega arith
name_short Right = omega arith

-- the push of a short text, or EXEC
pub push_made : (r : Result Words AllocError) (side : Side) (text : Bytes) (ks : List Bytes) (i : ℕ) → IfOk r (λ w. w ≡ pushed_words side text (drop i ks)) → are_few ks ≡ true → IsShort text → IfOk r IsWithinLimits
push_made (Ok w) side text ks i e few short = subst IsWithinLimits (sym e) (by (drop i ks) refl) where
  by : (l : List Bytes) → drop i ks ≡ l → IsWithinLimits (pushed_words side text l)
  by [] is = one_within (codes "EXEC") (omega arith)
  by (k ∷ rest) is = three_within (push_word side) k text (name_short side) (first_short ks k i rest few is) short
push_made (Err f) side text ks i e few short = tt
