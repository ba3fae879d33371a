-- What BRPOP's answer brings, by what was read of it.
use Rattle.std.proofs.Common.{◌≡◌, ℕ, List, [], ◌∷◌, ◌++◌, true, false, Option, Some, option_map, option_and_then, refl, sym, ap, ◌∙◌, codes, decimal, arith, Result, Ok, Err, if◌then◌else◌}
use Rattle.std.specs.declared.alloc.AllocError.{AllocError}
use Rattle.std.specs.Prelude.{IfOk, insert, nat_le}
use Rattle.std.specs.Result.{result_ok}
use Rattle.std.proofs.lemmas.Bool.Decides.{nat_tests}
use Rattle.serde_json.specs.Data.{Data, depth}
use Rattle.serde_json.specs.Read.{read}
use Rattle.serde_json.specs.Written.{compact_text}
use Rattle.wire_values.specs.Layer.{layer}
use Rattle.wire_values.specs.declared.value.Value.{Value}
use Rattle.envelope.specs.Bodies.{entry_of, entry_text, exchange_or, if_plain, parts_at, routing_key_or, tag_of_bytes}
use Rattle.envelope.specs.Entries.{entry_data, entry_for}
use Rattle.envelope.specs.Envelopes.{envelope_at, max_levels, parts_in}
use Rattle.envelope_trees.specs.Reading.{Fails}
use Rattle.delivery_tags.specs.Tags.{tag_text}
use Rattle.envelope_trees.specs.declared.fault.EnvelopeFault.{EnvelopeFault}
use Rattle.envelope_trees.specs.declared.fault.EnvelopeFault.TheVariants.{TooLong, NotJson, TooDeep, Float, Missing, Compressed, BadBody, Memory}
use Rattle.envelope.proofs.BodyTexts.{envelope_from_read}
use Rattle.envelope.proofs.Said.{IsPlain, said_is}
use Rattle.command_blocks.specs.Answers.{pair_of}
use Rattle.command_blocks.specs.EnvelopeTexts.{plain_setting}
use Rattle.queue_keys.specs.Layouts.{plain}
use Rattle.queue_keys.specs.Names.{Bytes}
use Rattle.queue_keys.specs.QueueKeys.{pop_keys}
use Rattle.command_blocks.specs.Scripts.{Over, if_told, kept_by, next_words, null_array_in, on_popped, pop_script}
use Rattle.unacked.specs.Pops.{index_words, table_words, tag_within}
use Rattle.unacked.specs.Queues.{are_some}
use Rattle.unacked.proofs.Names.{no_some}
use Rattle.unacked.specs.Steps.{multi_left, steps_left}
use Rattle.store_model.specs.Words.{Words}
use Rattle.unacked.specs.declared.step.Step.{Step}
use Rattle.unacked.specs.declared.step.Step.TheVariants.{Begin, Index, Table}

-- ---- BRPOP

-- the words of a pop
pub asks : (names : List Bytes) (at : ℕ) → are_some names ≡ true → next_words (pop_script plain_setting names) at ≡ Some (codes "BRPOP" ∷ pop_keys plain names ++ codes "1" ∷ [])
asks [] at h = absurd (no_some h)
asks (q ∷ qs) at h = refl

-- after the null array a pop is over
pub empty : (r : Value) → null_array_in (layer r) ≡ true → on_popped plain_setting r ≡ Over
empty r e = ap (λ b. if b then Over else if_told (λ (p : Bytes × Bytes). kept_by plain_setting p.1 (tag_of_bytes p.1)) (pair_of r)) e

-- another answer goes on by its element
pub found : (r : Value) (p : Option (Bytes × Bytes)) → null_array_in (layer r) ≡ false → pair_of r ≡ p → on_popped plain_setting r ≡ if_told (λ (p : Bytes × Bytes). kept_by plain_setting p.1 (tag_of_bytes p.1)) p
found r p e f =
    ap (λ b. if b then Over else if_told (λ (p : Bytes × Bytes). kept_by plain_setting p.1 (tag_of_bytes p.1)) (pair_of r)) e
    ∙ ap (if_told (λ (p : Bytes × Bytes). kept_by plain_setting p.1 (tag_of_bytes p.1))) f

-- ---- an element that is an envelope

tag_is : (d : Data) (v : Bytes) → envelope_at v ≡ Ok d → tag_of_bytes v ≡ Some (tag_within d)
tag_is d v e = ap (λ r. option_map (λ p. tag_text p.tag) (option_map parts_in (result_ok r))) e

plain_is : (d : Data) → IsPlain d → if_plain d ≡ Some d
plain_is d h = let s : nat_le (depth d) max_levels ≡ true = let x = h.shallow in grind (arith, nat_tests) in rw (s, h.whole) refl

entry_is : (d : Data) (v : Bytes) → envelope_at v ≡ Ok d → entry_of v ≡ compact_text (entry_data (entry_for d))
entry_is d v e =
    let is = envelope_from_read d v e in
    let parts : parts_at v ≡ Some (parts_in d) = ap (λ r. option_map parts_in (result_ok r)) e in
    ap (λ o. entry_text (exchange_or o) (routing_key_or o) (option_and_then if_plain (read v))) parts
    ∙ ap (λ o. entry_text (parts_in d).exchange (parts_in d).routing_key (option_and_then if_plain o)) is.text
    ∙ ap (λ o. entry_text (parts_in d).exchange (parts_in d).routing_key o) (plain_is d (said_is d (parts_in d) is.said).plain)

-- what was read as an envelope is put into the table
pub kept : (d : Data) (v : Bytes) → envelope_at v ≡ Ok d → steps_left (index_words d) (table_words d) Begin ≡ kept_by plain_setting v (tag_of_bytes v)
kept d v e = sym (ap (kept_by plain_setting v) (tag_is d v e) ∙ ap (λ u. multi_left (index_words d) (codes "HSET" ∷ codes "unacked" ∷ tag_within d ∷ u ∷ [])) (entry_is d v e))

-- ---- an element that is none

failed : (v : Bytes) (f : EnvelopeFault) → envelope_at v ≡ Err f → kept_by plain_setting v (tag_of_bytes v) ≡ Over
failed v f e = ap (λ r. kept_by plain_setting v (option_map (λ p. tag_text p.tag) (option_map parts_in (result_ok r)))) e

-- what can't be read ends the pop
pub unread : (v : Bytes) (f : EnvelopeFault) → (f ≡ Memory → ⊥) → Fails f (envelope_at v) → kept_by plain_setting v (tag_of_bytes v) ≡ Over
unread v TooLong n h = failed v TooLong h
unread v NotJson n h = failed v NotJson h
unread v TooDeep n h = failed v TooDeep h
unread v Float n h = failed v Float h
unread v (Missing f) n h = failed v (Missing f) h
unread v Compressed n h = failed v Compressed h
unread v BadBody n h = failed v BadBody h
unread v Memory n h = absurd (n refl)

-- ---- words that were made

-- the words of BRPOP
pub asked_words : (names out pushed inserted v keys slice : List Bytes) (b one : Bytes) → out ≡ pushed → pushed ≡ inserted ++ one ∷ [] → inserted ≡ insert v 0 b → b ≡ codes "BRPOP" → one ≡ codes "1" → v ≡ keys → keys ≡ pop_keys plain slice → slice ≡ names
    → out ≡ codes "BRPOP" ∷ pop_keys plain names ++ codes "1" ∷ []
asked_words names out pushed inserted v keys slice b one e f g h i j k l =
    let all : v ≡ pop_keys plain names = j ∙ k ∙ ap (pop_keys plain) l in
    e ∙ f ∙ ap (λ x. x ++ one ∷ []) g ∙ (λ t. (h t ∷ all t) ++ i t ∷ [])

-- the command on the index
pub index_said : (r : Result Words AllocError) (d : Data) (step : Step) (at : ℕ) (moment tag : Bytes) → step ≡ Index → IfOk r (λ w. w ≡ codes "ZADD" ∷ codes "unacked_index" ∷ moment ∷ tag ∷ []) → moment ≡ decimal at → tag ≡ tag_within d
    → IfOk r (λ w. Some w ≡ next_words (steps_left (index_words d) (table_words d) step) at)
index_said (Ok w) d step at moment tag is e m t = ap (λ (w : Words). Some w) (e ∙ (λ i. codes "ZADD" ∷ codes "unacked_index" ∷ m i ∷ t i ∷ [])) ∙ sym (ap (λ s. next_words (steps_left (index_words d) (table_words d) s) at) is)
index_said (Err f) d step at moment tag is e m t = tt

-- the command on the table
pub table_said : (r : Result Words AllocError) (d : Data) (step : Step) (at : ℕ) (tag entry : Bytes) → step ≡ Table → IfOk r (λ w. w ≡ codes "HSET" ∷ codes "unacked" ∷ tag ∷ entry ∷ []) → tag ≡ tag_within d → entry ≡ compact_text (entry_data (entry_for d))
    → IfOk r (λ w. Some w ≡ next_words (steps_left (index_words d) (table_words d) step) at)
table_said (Ok w) d step at tag entry is e t u = ap (λ (w : Words). Some w) (e ∙ (λ i. codes "HSET" ∷ codes "unacked" ∷ t i ∷ u i ∷ [])) ∙ sym (ap (λ s. next_words (steps_left (index_words d) (table_words d) s) at) is)
table_said (Err f) d step at tag entry is e t u = tt
