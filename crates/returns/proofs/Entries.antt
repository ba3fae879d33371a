-- What goes on after an entry that was read.
use Rattle.std.proofs.Common.{◌≡◌, ℕ, List, [], ◌∷◌, true, false, Option, Some, None, refl, sym, ap, ◌∙◌, Result, Ok, Err, if◌then◌else◌}
use Rattle.std.specs.declared.alloc.AllocError.{AllocError}
use Rattle.std.specs.Prelude.{IfOk, option_map, option_and_then}
use Rattle.std.specs.Result.{result_ok}
use Rattle.serde_json.specs.Data.{Data}
use Rattle.serde_json.specs.Written.{compact_text}
use Rattle.delivery_tags.specs.Tags.{tag_text}
use Rattle.envelope.specs.Bodies.{tag_of_bytes}
use Rattle.envelope.specs.Entries.{EntryParts, entry_at}
use Rattle.envelope.specs.Envelopes.{envelope_at, parts_in, priority_of}
use Rattle.envelope_trees.specs.Marks.{marked}
use Rattle.queue_keys.specs.Layouts.{plain, step_of}
use Rattle.queue_keys.specs.Lookup.{route_keys}
use Rattle.queue_keys.specs.Names.{Bytes, same}
use Rattle.command_blocks.specs.EnvelopeTexts.{plain_setting, way_kept}
use Rattle.command_blocks.specs.Scripts.{Script, asking_script, leave_script, take_script, route_script, if_of, carried_for}
use Rattle.command_blocks.specs.Setting.{Way, named_exchange, named_or_none, way_keys}
use Rattle.block_core.specs.declared.stage.Progress.{Progress}
use Rattle.returns.specs.Spots.{IsCarried, aimed, ask_left, begin_left, entry_left, failed_left, sent_left, tried_left}
use Rattle.returns.specs.declared.carried.Carried.{Carried}
use Rattle.returns.specs.declared.returned.Returned.{Returned}
use Rattle.returns.specs.declared.spot.Aim.{Aim}
use Rattle.returns.specs.declared.trying.Trying.{Trying}

-- the transaction of a lookup that gives keys
pub keys_left : (ended stuck : Script) (aim : Aim) (text : Bytes) (ws ks : List Bytes) → ws ≡ ks → (ws ≡ [] → ⊥) → begin_left ended stuck aim text ws ≡ take_script plain_setting aim.side (aimed aim) text ended (failed_left ended stuck aim) ks
keys_left ended stuck aim text [] ks e some = absurd (some refl)
keys_left ended stuck aim text (w ∷ ws) ks e some = ap (take_script plain_setting aim.side (aimed aim) text ended (failed_left ended stuck aim)) e

-- what was answered for each bytes of an entry holds of these
pub of_entry : (r : Result (Progress Trying Returned) AllocError) (aim : Aim) (e : EntryParts) (u : Bytes) → IfOk r (λ p. (ended stuck : Script) (u : Bytes) → entry_at u ≡ Ok e → tried_left ended stuck p ≡ entry_left ended stuck aim u) → entry_at u ≡ Ok e
    → IfOk r (λ p. (ended stuck : Script) → tried_left ended stuck p ≡ entry_left ended stuck aim u)
of_entry (Ok p) aim e u h read = λ ended stuck. h ended stuck u read
of_entry (Err f) aim e u h read = tt

-- an exchange that has a name
named : (e : Bytes) → (e ≡ [] → ⊥) → named_or_none e ≡ Some e
named [] some = absurd (some refl)
named (b ∷ e) some = refl

module _ (ended stuck : Script) (aim : Aim) (u : Bytes) (e : EntryParts) (made : Data) (read : entry_at u ≡ Ok e) (is_marked : made ≡ marked e.tree) (again : envelope_at (compact_text made) ≡ Ok made) where
  -- the envelope, where the tag is this one
  for_is : carried_for plain_setting (aimed aim) u ≡ (if same (tag_text (parts_in made).tag) (aimed aim) then Some (compact_text made) else None)
  for_is =
      ap (λ r. option_and_then (λ v. if_of (aimed aim) v (tag_of_bytes v)) (option_map (λ (e : EntryParts). compact_text (marked e.tree)) (result_ok r))) read
      ∙ ap (λ d. if_of (aimed aim) (compact_text d) (tag_of_bytes (compact_text d))) (sym is_marked)
      ∙ ap (λ r. if_of (aimed aim) (compact_text made) (option_map (λ p. tag_text p.tag) (option_map parts_in (result_ok r)))) again

  abbrev routed : Option Bytes → Script
  routed o = route_script plain_setting aim.side (aimed aim) u ended (failed_left ended stuck aim) o

  -- an entry of another tag stays
  pub other_left : same (tag_text (parts_in made).tag) (aimed aim) ≡ false → leave_script ended ≡ entry_left ended stuck aim u
  other_left not = sym (ap routed (for_is ∙ ap (λ b. if b then Some (compact_text made) else None) not))

  -- by the names and the priority of an entry
  abbrev going : Bytes → Bytes → Bytes → ℕ → Script
  going text exchange routing_key priority =
      asking_script plain_setting (named_or_none exchange) (λ ms. take_script plain_setting aim.side (aimed aim) text ended (failed_left ended stuck aim) (route_keys plain (step_of plain priority) exchange routing_key ms))

  own_left : same (tag_text (parts_in made).tag) (aimed aim) ≡ true → entry_left ended stuck aim u ≡ going (compact_text made) e.exchange e.routing_key (priority_of e.tree)
  own_left own =
      ap routed (for_is ∙ ap (λ b. if b then Some (compact_text made) else None) own)
      ∙ ap (λ (w : Option Way). asking_script plain_setting (named_exchange w) (λ ms. take_script plain_setting aim.side (aimed aim) (compact_text made) ended (failed_left ended stuck aim) (way_keys plain w ms)))
      (ap (λ r. option_map way_kept (result_ok r)) read)

  module _ (own : same (tag_text (parts_in made).tag) (aimed aim) ≡ true) (priority : priority_of made ≡ priority_of e.tree) (c : Carried) (h : IsCarried c made e) where
    carried_left : going c.text c.exchange c.routing_key c.priority ≡ entry_left ended stuck aim u
    carried_left = (λ i. going (h.text i) (h.exchange i) (h.routing_key i) ((h.priority ∙ priority) i)) ∙ sym (own_left own)

    abbrev go : List Bytes → Script
    go ms = sent_left ended stuck aim c ms

    -- without an exchange no bindings are read
    pub plain_left : c.exchange ≡ [] → go [] ≡ entry_left ended stuck aim u
    plain_left none = sym (ap (λ e. asking_script plain_setting (named_or_none e) go) none) ∙ carried_left

    -- with one they are
    pub named_left : (c.exchange ≡ [] → ⊥) → ask_left ended stuck aim c ≡ entry_left ended stuck aim u
    named_left some = sym (ap (λ o. asking_script plain_setting o go) (named c.exchange some)) ∙ carried_left
