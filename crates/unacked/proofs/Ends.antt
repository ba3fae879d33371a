-- What the end of an acknowledgement tells.
use Rattle.std.proofs.Common.{◌≡◌, ℕ, ◌<◌, ◌^◌, Bool, true, List, [], ◌∷◌, ◌++◌, Some, refl, ap, ◌∙◌, Result, Ok, Err}
use Rattle.std.specs.declared.alloc.AllocError.{AllocError}
use Rattle.std.specs.Prelude.{IfOk, is_some}
use Rattle.wire_values.specs.declared.value.Value.{Value}
use Rattle.store_model.specs.Words.{Words}
use Rattle.delivery_tags.specs.Tags.{tag_text}
use Rattle.delivery_tags.proofs.TagTexts.{tag_of_text-tag_text}
use Rattle.command_blocks.specs.Calls.{Call}
use Rattle.command_blocks.specs.EnvelopeTexts.{plain_setting}
use Rattle.command_blocks.specs.Scripts.{Script, next_words}
use Rattle.unacked.specs.Ends.{TellsEnd}
use Rattle.unacked.specs.Steps.{HasExecuted}
use Rattle.unacked.specs.declared.step.Course.TheVariants.{Ran}

-- what ran tells of its last answer
pub ran_tells : (calls : List Call) (last : Call) (r : Value) (removed : Bool) → last.answer ≡ r → HasExecuted (Ran removed) r → TellsEnd (calls ++ last ∷ []) (record { removed = removed })
ran_tells calls last r removed is (x, y, e, f) = (calls, last, x, y, refl, is ∙ e, f)

-- words at every moment are those at this one
pub words_at : (result : Result Words AllocError) (left : Script) (at : ℕ) → IfOk result (λ words. (at : ℕ) → Some words ≡ next_words left at) → IfOk result (λ words. Some words ≡ next_words left at)
words_at (Ok words) left at h = h at
words_at (Err e) left at h = tt

-- a tag's text is a tag's text
pub is_text : (tag : ℕ) → tag < 2 ^ 128 → plain_setting.is_tag (tag_text tag) ≡ true
is_text tag fits = ap is_some (tag_of_text-tag_text tag fits)
