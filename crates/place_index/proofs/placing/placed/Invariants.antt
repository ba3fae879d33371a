use Rattle.std.proofs.Common.{◌≡◌, ◌++◌, drop, map}
use Rattle.std.specs.FinMap.{empty}
use Rattle.delivery_tags.specs.Tags.{tag_text}
use Rattle.command_blocks.specs.EnvelopeTexts.{plain_setting}
use Rattle.place_model.specs.Histories.{History, after}
use Rattle.place_index.specs.Indexed.{IsIndexOf}
use Rattle.place_model.specs.PlaceOf.{place_of}
use Rattle.place_model.specs.Placed.{all_placed}
use Rattle.place_model.specs.declared.heard.Heard.{Heard}
use Rattle.place_index.proofs.placing.placed.Given as goal

abbrev pub invariant-loop-number : goal.invariant-loop-number
invariant-loop-number l = (h : History Heard) → IsIndexOf h l.index → l.keys ≡ (after h).store.keys → h.start ≡ empty
    → all_placed l.places.items ++ map (λ n. (tag_text n, place_of plain_setting h (tag_text n))) (drop l.number-index l.numbers) ≡ map (λ n. (tag_text n, place_of plain_setting h (tag_text n))) l.numbers
