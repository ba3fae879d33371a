-- The setting of a lawful layout has what the proofs rest on.
use Rattle.std.proofs.Common.{◌≡◌, List, [], ◌∷◌, true, Option, Some, None, refl}
use Rattle.queue_keys.specs.Names.{Bytes}
use Rattle.queue_keys.specs.Layouts.{Layout, is_layout, step_of}
use Rattle.queue_keys.specs.QueueKeys.{is_queue_key, Each, Differ}
use Rattle.command_blocks.specs.Setting.{Texts, IsTexts, IsLawful, Way, named_or_none, named_exchange, way_keys, setting_of}
use Rattle.key_laws.proofs.Others.{unacked_not, index_not, mutex_not, binding_not, reply_not, table_apart, mutex_unacked, mutex_index, binding_unacked, binding_index, reply_unacked, reply_index}
use Rattle.key_laws.proofs.Lists.{pops_are}
use Rattle.key_laws.proofs.Steps.{has_step}
use Rattle.key_laws.proofs.Routes.{routes_are, routes_differ}

unnamed : (e : Bytes) → named_or_none e ≡ None → e ≡ []
unnamed [] h = refl
unnamed (b ∷ e) h = cc

module _ (l : Layout) (lawful : is_layout l ≡ true) where
  ways_are : (o : Option Way) (ms : List Bytes) → Each (is_queue_key l) (way_keys l o ms)
  ways_are None ms = tt
  ways_are (Some w) ms = routes_are l (step_of l w.priority) w.exchange w.routing_key ms (has_step l w.priority lawful)

  ways_differ : (o : Option Way) (ms : List Bytes) → Differ (way_keys l o ms)
  ways_differ None ms = tt
  ways_differ (Some w) ms = routes_differ l (step_of l w.priority) w.exchange w.routing_key ms (has_step l w.priority lawful)

  -- without an exchange the bindings don't matter
  ways_alone : (o : Option Way) (ms : List Bytes) → named_exchange o ≡ None → way_keys l o ms ≡ way_keys l o []
  ways_alone None ms h = refl
  ways_alone (Some w) ms h = rw (unnamed w.exchange h) refl

pub lawful_setting : (l : Layout) (τ : Texts) → is_layout l ≡ true → IsTexts τ → IsLawful (setting_of l τ)
lawful_setting l τ lawful facts = record {
  unacked_not = unacked_not l;
  index_not = index_not l;
  apart = table_apart l;
  mutex_apart = (mutex_not l, mutex_unacked l, mutex_index l);
  binding_apart = λ e. (binding_not l e, binding_unacked l e, binding_index l e);
  reply_apart = λ k h. (reply_not l k h, reply_unacked l k h, reply_index l k h);
  tag_parts = facts.tag_parts;
  tag_is = facts.tag_is;
  tag_short = facts.tag_short;
  tag_text = facts.tag_text;
  written_is = facts.written_is;
  entry_body = facts.entry_body;
  carried_body = facts.carried_body;
  pops_are = pops_are l;
  keys_are = λ v ms. ways_are l lawful (τ.way_of v) ms;
  keys_in_are = λ u ms. ways_are l lawful (τ.way_in u) ms;
  keys_in_differ = λ u ms. ways_differ l lawful (τ.way_in u) ms;
  keys_in_alone = λ u ms h. ways_alone l lawful (τ.way_in u) ms h;
}
