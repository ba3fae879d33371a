-- What a word spells, by its envelope, its entry and its tag.
use Rattle.std.proofs.Common.{◌≡◌, ◌/◌, ◌%◌, ◌^◌, ℕ, Bool, true, false, codes, Option, Some, None, option_map, Result, Ok, Err, refl, sym}
use Rattle.std.specs.Result.{result_ok}
use Rattle.serde_json.specs.Data.{Data, null, boolean, number, string, array, object}
use Rattle.envelope.specs.Entries.{EntryParts, entry_at, entry_in}
use Rattle.envelope.specs.Envelopes.{envelope_at, parts_in}
use Rattle.envelope_trees.specs.Members.{text_at}
use Rattle.envelope_trees.specs.declared.fault.EnvelopeFault.{EnvelopeFault}
use Rattle.envelope.proofs.BodyTexts.{entry_is_read, envelope_from_read}
use Rattle.envelope.proofs.Said.{said_is}
use Rattle.envelope.proofs.Told.{told_by}
use Rattle.envelope_trees.specs.Marks.{is_marked}
use Rattle.letters.specs.Letters.{entry_letter, entry_or_none, envelope_letter, letter_of}
use Rattle.letters.specs.Letters as letters
use Rattle.letters.specs.declared.letter.Letter.{Letter}
use Rattle.letters.specs.declared.letter.Letter.TheVariants as letter
use Rattle.line_text.specs.declared.short.Shape.{Shape}
use Rattle.line_text.specs.declared.short.Shape.TheVariants.{Envelope}
use Rattle.line_text.specs.declared.short.Shape.TheVariants as shapes
use Rattle.queue_keys.specs.Names.{Bytes}
use Rattle.schedule_model.specs.Shapes.{entry_or_tag, entry_shape, envelope_or, envelope_shape, shape_of, tag_shape}
use Rattle.delivery_tags.specs.Tags.{tag_of_text}
use Rattle.replay.specs.Openings.{may_open}
use Rattle.replay.proofs.FirstBytes.{is_tree, misses}

-- ---- what can't be

no_text : (d : Data) (s : Bytes) → is_tree d true ≡ false → text_at (codes "body") d ≡ Some s → ⊥
no_text null s h e = cc
no_text (boolean b) s h e = cc
no_text (number n) s h e = cc
no_text (string t) s h e = cc
no_text (array ds) s h e = cc
no_text (object ms) s h e = cc h

no_items : (d : Data) (f : EntryParts) → is_tree d false ≡ false → entry_in d ≡ Some f → ⊥
no_items null f h e = cc
no_items (boolean b) f h e = cc
no_items (number n) f h e = cc
no_items (string t) f h e = cc
no_items (array ds) f h e = cc h
no_items (object ms) f h e = cc

-- a word that doesn't begin as an object is no envelope
pub no_envelope : (w : Bytes) → may_open true w ≡ false → result_ok (envelope_at w) ≡ None
no_envelope w h = go (envelope_at w) refl
  where
    go : (r : Result Data EnvelopeFault) → envelope_at w ≡ r → result_ok r ≡ None
    go (Ok d) e =
        let k = envelope_from_read d w e in
        let t = told_by d (parts_in d) (said_is d (parts_in d) k.said).parts in
        absurd (no_text d t.body (misses true w d h k.text) t.body_is)
    go (Err f) e = refl

-- and one that doesn't begin as an array is no entry
pub no_entry : (w : Bytes) → may_open false w ≡ false → result_ok (entry_at w) ≡ None
no_entry w h = go (entry_at w) refl
  where
    go : (r : Result EntryParts EnvelopeFault) → entry_at w ≡ r → result_ok r ≡ None
    go (Ok f) e = let k = entry_is_read w f e in absurd (no_items k.value f (misses false w k.value h k.text) k.items)
    go (Err f) e = refl

-- ---- what is

same_shape : (s r : Shape) → ◌≡◌ {A = Option Shape} (Some s) (Some r) → s ≡ r
same_shape s r e = cc

-- the shape of an envelope
pub from_envelope : (w : Bytes) (s : Shape) → Some s ≡ option_map envelope_shape (result_ok (envelope_at w)) → s ≡ shape_of w
unfolding shape_of
from_envelope w s h = go (envelope_at w) h
  where
    go : (r : Result Data EnvelopeFault) → Some s ≡ option_map envelope_shape (result_ok r) → s ≡ envelope_or r (entry_or_tag (entry_at w) (tag_of_text w))
    go (Ok d) e = same_shape s (envelope_shape d) e
    go (Err f) e = cc

-- the shape of what is no envelope
pub past_envelope : (w : Bytes) → None ≡ option_map envelope_shape (result_ok (envelope_at w)) → entry_or_tag (entry_at w) (tag_of_text w) ≡ shape_of w
unfolding shape_of
past_envelope w none = go (envelope_at w) none
  where
    go : (r : Result Data EnvelopeFault) → None ≡ option_map envelope_shape (result_ok r) → entry_or_tag (entry_at w) (tag_of_text w) ≡ envelope_or r (entry_or_tag (entry_at w) (tag_of_text w))
    go (Ok d) e = cc
    go (Err f) e = refl

-- the shape of an entry
pub from_entry : (r : Result EntryParts EnvelopeFault) (t : Option ℕ) (s : Shape) → Some s ≡ option_map (λ e. entry_shape e.tree) (result_ok r) → s ≡ entry_or_tag r t
from_entry (Ok f) t s e = same_shape s (entry_shape f.tree) e
from_entry (Err f) t s e = cc

-- and of what is no entry
pub past_entry : (r : Result EntryParts EnvelopeFault) (t : Option ℕ) → None ≡ option_map (λ e. entry_shape e.tree) (result_ok r) → tag_shape t ≡ entry_or_tag r t
past_entry (Ok f) t e = cc
past_entry (Err f) t e = refl

-- ---- what is known of a text

same_letter : (d : Data) (n : ℕ) (m : Bool) → ◌≡◌ {A = Option Letter} (Some (envelope_letter d)) (Some (letter.Envelope n m)) → ((parts_in d).tag ≡ n) × (is_marked d ≡ m)
same_letter d n m e = (cc, cc)

same_entry : (d : Data) (n : ℕ) (m : Bool) → ◌≡◌ {A = Option Letter} (Some (entry_letter d)) (Some (letter.Entry n m)) → ((parts_in d).tag ≡ n) × (is_marked d ≡ m)
same_entry d n m e = (cc, cc)

-- an envelope's letter tells its shape
pub letter_envelope : (b : Bytes) (n : ℕ) (m : Bool) → letter_of b ≡ Some (letter.Envelope n m) → Envelope (n / 2 ^ 64) (n % 2 ^ 64) m ≡ shape_of b
unfolding letter_of shape_of
letter_envelope b n m h = go (envelope_at b) h
  where
    by_entry : (r : Result EntryParts EnvelopeFault) → entry_or_none r ≡ Some (letter.Envelope n m) → ⊥
    by_entry (Ok x) i = cc
    by_entry (Err f) i = cc

    go : (r : Result Data EnvelopeFault) → letters.letter_or r (entry_or_none (entry_at b)) ≡ Some (letter.Envelope n m) → Envelope (n / 2 ^ 64) (n % 2 ^ 64) m ≡ envelope_or r (entry_or_tag (entry_at b) (tag_of_text b))
    go (Ok d) i = let s = same_letter d n m i in λ j. Envelope (sym s.0 j / 2 ^ 64) (sym s.0 j % 2 ^ 64) (sym s.1 j)
    go (Err f) i = absurd (by_entry (entry_at b) i)

-- and an entry's tells its own
pub letter_entry : (b : Bytes) (n : ℕ) (m : Bool) → letter_of b ≡ Some (letter.Entry n m) → shapes.Entry (n / 2 ^ 64) (n % 2 ^ 64) m ≡ shape_of b
unfolding letter_of shape_of
letter_entry b n m h = go (envelope_at b) h
  where
    by_entry : (r : Result EntryParts EnvelopeFault) → entry_or_none r ≡ Some (letter.Entry n m) → shapes.Entry (n / 2 ^ 64) (n % 2 ^ 64) m ≡ entry_or_tag r (tag_of_text b)
    by_entry (Ok x) i = let s = same_entry x.tree n m i in λ j. shapes.Entry (sym s.0 j / 2 ^ 64) (sym s.0 j % 2 ^ 64) (sym s.1 j)
    by_entry (Err f) i = cc

    go : (r : Result Data EnvelopeFault) → letters.letter_or r (entry_or_none (entry_at b)) ≡ Some (letter.Entry n m) → shapes.Entry (n / 2 ^ 64) (n % 2 ^ 64) m ≡ envelope_or r (entry_or_tag (entry_at b) (tag_of_text b))
    go (Ok d) i = cc
    go (Err f) i = by_entry (entry_at b) i
