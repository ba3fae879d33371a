-- What the texts of envelopes and of their entries spell.
use Rattle.std.proofs.Common.{◌≡◌, ℕ, List, false, codes, Option, Some, None, Result, Ok, Err, refl, sym, ap, ◌∙◌}
use Rattle.serde_json.specs.Data.{Data, null, boolean, number, string, array, object}
use Rattle.envelope.specs.Entries.{EntryParts, entry_at, entry_in}
use Rattle.envelope.specs.Envelopes.{envelope_at, parts_in}
use Rattle.envelope_trees.specs.Members.{text_at}
use Rattle.envelope_trees.specs.declared.fault.EnvelopeFault.{EnvelopeFault}
use Rattle.envelope.proofs.BodyTexts.{entry_is_read, envelope_from_read}
use Rattle.envelope.proofs.Said.{said_is}
use Rattle.envelope.proofs.Told.{told_by}
use Rattle.letters.specs.Letters.{entry_letter, entry_or_none, envelope_letter, letter_or, letter_of}

same_tree : (a b : Data) → ◌≡◌ {A = Option Data} (Some a) (Some b) → a ≡ b
same_tree a b e = cc

-- a tree with a body is no array
no_array : (d : Data) (s : List ℕ) (f : EntryParts) → text_at (codes "body") d ≡ Some s → entry_in d ≡ Some f → ⊥
no_array null s f e i = cc
no_array (boolean b) s f e i = cc
no_array (number n) s f e i = cc
no_array (string t) s f e i = cc
no_array (array ds) s f e i = cc
no_array (object ms) s f e i = cc

-- an entry is no envelope
no_envelope : (w : List ℕ) (f : EntryParts) (d : Data) → entry_at w ≡ Ok f → envelope_at w ≡ Ok d → ⊥
no_envelope w f d e h =
    let k = envelope_from_read d w h in
    let r = entry_is_read w f e in
    let t = told_by d (parts_in d) (said_is d (parts_in d) k.said).parts in
    let same : r.value ≡ d = same_tree r.value d (sym r.text ∙ k.text) in
    no_array d t.body f t.body_is (ap entry_in (sym same) ∙ r.items)

-- the text of an envelope
pub of_envelope : (w : List ℕ) (d : Data) → envelope_at w ≡ Ok d → letter_of w ≡ Some (envelope_letter d)
unfolding letter_of
of_envelope w d e = rw e refl

-- the text of an entry
pub of_entry : (w : List ℕ) (f : EntryParts) → entry_at w ≡ Ok f → letter_of w ≡ Some (entry_letter f.tree)
unfolding letter_of
of_entry w f e = go (envelope_at w) refl
  where
    go : (r : Result Data EnvelopeFault) → envelope_at w ≡ r → letter_or r (entry_or_none (entry_at w)) ≡ Some (entry_letter f.tree)
    go (Ok d) h = absurd (no_envelope w f d e h)
    go (Err x) h = rw e refl
