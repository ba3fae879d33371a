-- The numbers of envelopes' tags.
use Rattle.std.proofs.Common.{◌≡◌, ℕ, ◌^◌, ◌<◌, Bool, refl, sym, ap, ◌∙◌, Option, Some, None, Result, Ok, Err, option_map}
use Rattle.std.specs.Result.{result_ok}
use Rattle.serde_json.specs.Data.{Data}
use Rattle.envelope.specs.Bodies.{tag_of_bytes}
use Rattle.envelope.specs.Entries.{EntryParts, entry_at}
use Rattle.envelope.specs.Envelopes.{envelope_at, parts_in}
use Rattle.envelope_trees.specs.Marks.{is_marked}
use Rattle.delivery_tags.specs.Tags.{tag_text}
use Rattle.envelope_trees.specs.declared.fault.EnvelopeFault.{EnvelopeFault}
use Rattle.delivery_tags.proofs.TagTexts.{tag_of_text-tag_text}
use Rattle.letters.specs.Letters.{entry_or_none, letter_or, letter_of}
use Rattle.letters.specs.declared.letter.Letter.{Letter}
use Rattle.letters.specs.declared.letter.Letter.TheVariants as letter
use Rattle.message_acts.specs.Numbers.{number_told}
use Rattle.queue_keys.specs.Names.{Bytes}

-- an envelope's tag is read as its number
pub message_is : (v : Bytes) (d : Data) (n : ℕ) → envelope_at v ≡ Ok d → n ≡ (parts_in d).tag → n < 2 ^ 128 → Some n ≡ number_told (tag_of_bytes v)
message_is v d n e f fits =
    sym (tag_of_text-tag_text n fits) ∙ ap (λ m. number_told (Some (tag_text m))) f
    ∙ sym (ap (λ r. number_told (option_map (λ p. tag_text p.tag) (option_map parts_in (result_ok r)))) e)

-- bytes that are no envelope have none
pub no_message : (v : Bytes) (fault : EnvelopeFault) → envelope_at v ≡ Err fault → None ≡ number_told (tag_of_bytes v)
no_message v fault e = sym (ap (λ r. number_told (option_map (λ p. tag_text p.tag) (option_map parts_in (result_ok r)))) e)

-- ---- what is known of a text

same_number : (a n : ℕ) (k m : Bool) → ◌≡◌ {A = Option Letter} (Some (letter.Envelope a k)) (Some (letter.Envelope n m)) → a ≡ n
same_number a n k m e = cc

-- an envelope's letter tells its number
pub letter_tells : (b : Bytes) (n : ℕ) (m : Bool) → letter_of b ≡ Some (letter.Envelope n m) → n < 2 ^ 128 → Some n ≡ number_told (tag_of_bytes b)
unfolding letter_of
letter_tells b n m h fits = go (envelope_at b) refl h
  where
    by_entry : (r : Result EntryParts EnvelopeFault) → entry_or_none r ≡ Some (letter.Envelope n m) → Some n ≡ number_told (tag_of_bytes b)
    by_entry (Ok x) i = cc
    by_entry (Err f) i = cc

    go : (r : Result Data EnvelopeFault) → envelope_at b ≡ r → letter_or r (entry_or_none (entry_at b)) ≡ Some (letter.Envelope n m) → Some n ≡ number_told (tag_of_bytes b)
    go (Ok d) e i = message_is b d n e (sym (same_number (parts_in d).tag n (is_marked d) m i)) fits
    go (Err f) e i = by_entry (entry_at b) i

-- an entry's letter is no message's
pub entry_tells : (b : Bytes) (n : ℕ) (m : Bool) → letter_of b ≡ Some (letter.Entry n m) → None ≡ number_told (tag_of_bytes b)
unfolding letter_of
entry_tells b n m h = go (envelope_at b) refl h
  where
    go : (r : Result Data EnvelopeFault) → envelope_at b ≡ r → letter_or r (entry_or_none (entry_at b)) ≡ Some (letter.Entry n m) → None ≡ number_told (tag_of_bytes b)
    go (Ok d) e i = cc
    go (Err f) e i = no_message b f e
