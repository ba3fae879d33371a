-- The messages that a walk over a history gathers as accepted are the defined ones, by the numbers of their tags.
use Rattle.std.proofs.Common.{◌≡◌, ℕ, List, [], ◌∷◌, ◌++◌, Bool, true, false, if◌then◌else◌, refl, sym, ap, subst, ◌∙◌, map, Option, None, Some, is_some, append_assoc}
use Rattle.std.specs.Prelude.{ℤ}
use Rattle.std.specs.List.{flat_map}
use Rattle.std.proofs.lemmas.List.{append-nil, map-append}
use Rattle.std.specs.FinMap.{get}
use Rattle.wire_values.specs.declared.value.Value.{Value}
use Rattle.store_model.specs.Words.{command_of}
use Rattle.store_model.specs.declared.command.Command.{Command}
use Rattle.store_model.specs.declared.command.Command.TheVariants.{Lpush}
use Rattle.delivery_tags.specs.Tags.{is_tag, tag_of_text, tag_text}
use Rattle.envelope.proofs.EnvelopeTags.{tag_text_is}
use Rattle.command_blocks.specs.Answers.{number_of}
use Rattle.command_blocks.specs.EnvelopeTexts.{plain_setting}
use Rattle.command_blocks.specs.Setting.{is_queue}
use Rattle.queue_keys.specs.Names.{Bytes}
use Rattle.queue_keys.proofs.Basics.{false_true}
use Rattle.place_model.specs.Accepted.{accepted_by}
use Rattle.place_model.specs.Seen.{push_by, push_with, tag_list}
use Rattle.place_model.specs.declared.heard.Heard.{Heard}
use Rattle.place_model.specs.declared.history.Entry.{Entry}
use Rattle.place_model.specs.declared.history.Entry.TheVariants.{Call as Called, Heard as Noted, Stop}
use Rattle.message_acts.specs.Acts.{act_of, kind_of, push_act, push_at, push_of, push_told}
use Rattle.message_acts.specs.Numbers.{listed, number_told}
use Rattle.message_acts.specs.declared.act.Act.TheVariants.{Nothing}
use Rattle.place_walk.specs.Gathered.{AreTagNumbers}
use Rattle.place_walk.specs.Walks.{walk_called, walk_stopped, walked, walked_all}
use Rattle.place_walk.specs.declared.seat.ClientSeat.{ClientSeat}
use Rattle.place_walk.specs.declared.walk.HistoryWalk.{HistoryWalk}
use Rattle.place_walk.proofs.Numbers.{text_is}

own-append : (ms ns : List ℕ) → AreTagNumbers ms → AreTagNumbers ns → AreTagNumbers (ms ++ ns)
own-append [] ns a b = b
own-append (m ∷ ms) ns a b = (a.0, own-append ms ns a.1 b)

-- ---- what a call pushes

no_tag : {P : Type 0} (u : Bytes) → tag_of_text u ≡ None → is_tag u ≡ true → P
no_tag u e f = false_true (ap is_some (sym e) ∙ f)

tag_told : (o : Option Bytes) → ((u : Bytes) → o ≡ Some u → is_tag u ≡ true) → map tag_text (listed (number_told o)) ≡ tag_list o
tag_told None h = refl
tag_told (Some u) h = go (tag_of_text u) refl
  where
    go : (q : Option ℕ) → tag_of_text u ≡ q → map tag_text (listed q) ≡ u ∷ []
    go None e = no_tag u e (h u refl)
    go (Some n) e = ap (λ (t : Bytes). t ∷ []) (sym (text_is u n e))

number_own : (o : Option Bytes) → AreTagNumbers (listed (number_told o))
number_own None = tt
number_own (Some u) = go (tag_of_text u) refl
  where
    go : (q : Option ℕ) → tag_of_text u ≡ q → AreTagNumbers (listed q)
    go None e = tt
    go (Some n) e = (ap tag_of_text (sym (text_is u n e)) ∙ e, tt)

push_listed : (z : ℤ) (o : Option ℕ) → listed (push_told (push_act o) (Some z)) ≡ listed o
push_listed z None = refl
push_listed z (Some n) = refl

none_told : (o : Option ℤ) → listed (push_told Nothing o) ≡ []
none_told None = refl
none_told (Some z) = refl

-- the messages that a call pushes directly
pushed_texts : (c : Command) (r : Value) → map tag_text (listed (push_of (kind_of c) (act_of plain_setting c) r)) ≡ push_by plain_setting c r
pushed_texts (Lpush k []) r = ap (map tag_text) (none_told (number_of r))
pushed_texts (Lpush k (v ∷ [])) r = by (number_of r)
  where
    by_queue : (z : ℤ) (b : Bool) → map tag_text (listed (push_told (if b then push_act (number_told (plain_setting.tag_of v)) else Nothing) (Some z))) ≡ (if b then tag_list (plain_setting.tag_of v) else [])
    by_queue z true = ap (map tag_text) (push_listed z (number_told (plain_setting.tag_of v))) ∙ tag_told (plain_setting.tag_of v) (λ u e. tag_text_is v u e)
    by_queue z false = refl

    by : (o : Option ℤ) → map tag_text (listed (push_told (push_at plain_setting k v) o)) ≡ push_with plain_setting k v o
    by None = refl
    by (Some z) = by_queue z (is_queue plain_setting k)
pushed_texts (Lpush k (v ∷ w ∷ vs)) r = ap (map tag_text) (none_told (number_of r))
pushed_texts other r = refl

pushed_own : (c : Command) (r : Value) → AreTagNumbers (listed (push_of (kind_of c) (act_of plain_setting c) r))
pushed_own (Lpush k []) r = subst AreTagNumbers (sym (none_told (number_of r))) tt
pushed_own (Lpush k (v ∷ [])) r = by (number_of r)
  where
    by_queue : (z : ℤ) (b : Bool) → AreTagNumbers (listed (push_told (if b then push_act (number_told (plain_setting.tag_of v)) else Nothing) (Some z)))
    by_queue z true = subst AreTagNumbers (sym (push_listed z (number_told (plain_setting.tag_of v)))) (number_own (plain_setting.tag_of v))
    by_queue z false = tt

    by : (o : Option ℤ) → AreTagNumbers (listed (push_told (push_at plain_setting k v) o))
    by None = tt
    by (Some z) = by_queue z (is_queue plain_setting k)
pushed_own (Lpush k (v ∷ w ∷ vs)) r = subst AreTagNumbers (sym (none_told (number_of r))) tt
pushed_own other r = tt

-- ---- the walk

-- what a call adds, whatever is known of its client
called_adds : (w : HistoryWalk) (c : ℕ) (command : Command) (r : Value) (o : Option ClientSeat) → (walk_called plain_setting w c (kind_of command) (act_of plain_setting command) r o).accepted ≡ w.accepted ++ listed (push_of (kind_of command) (act_of plain_setting command) r)
called_adds w c command r None = refl
called_adds w c command r (Some seat) = refl

stopped_adds : (w : HistoryWalk) (c : ℕ) (o : Option ClientSeat) → (walk_stopped w c o).accepted ≡ w.accepted
stopped_adds w c None = refl
stopped_adds w c (Some seat) = refl

one : (w : HistoryWalk) (e : Entry Heard) → map tag_text (walked plain_setting w e).accepted ≡ map tag_text w.accepted ++ accepted_by plain_setting e
one w (Called c at words reply) =
    ap (map tag_text) (called_adds w c (command_of words) reply.answer (get w.seats c))
    ∙ map-append tag_text w.accepted (listed (push_of (kind_of (command_of words)) (act_of plain_setting (command_of words)) reply.answer))
    ∙ ap (λ l. map tag_text w.accepted ++ l) (pushed_texts (command_of words) reply.answer)
one w (Noted c note) = sym (append-nil (map tag_text w.accepted))
one w (Stop c) = ap (map tag_text) (stopped_adds w c (get w.seats c)) ∙ sym (append-nil (map tag_text w.accepted))

-- each entry adds the tags that it accepted
pub all_texts : (es : List (Entry Heard)) (w : HistoryWalk) → map tag_text (walked_all plain_setting w es).accepted ≡ map tag_text w.accepted ++ flat_map (accepted_by plain_setting) es
all_texts [] w = sym (append-nil (map tag_text w.accepted))
all_texts (e ∷ es) w =
    all_texts es (walked plain_setting w e)
    ∙ ap (λ l. l ++ flat_map (accepted_by plain_setting) es) (one w e)
    ∙ append_assoc (map tag_text w.accepted) (accepted_by plain_setting e) (flat_map (accepted_by plain_setting) es)

one_own : (w : HistoryWalk) (e : Entry Heard) → AreTagNumbers w.accepted → AreTagNumbers (walked plain_setting w e).accepted
one_own w (Called c at words reply) a =
    subst AreTagNumbers (sym (called_adds w c (command_of words) reply.answer (get w.seats c)))
    (own-append w.accepted (listed (push_of (kind_of (command_of words)) (act_of plain_setting (command_of words)) reply.answer)) a (pushed_own (command_of words) reply.answer))
one_own w (Noted c note) a = a
one_own w (Stop c) a = subst AreTagNumbers (sym (stopped_adds w c (get w.seats c))) a

-- each of them is the number of a tag
pub all_own : (es : List (Entry Heard)) (w : HistoryWalk) → AreTagNumbers w.accepted → AreTagNumbers (walked_all plain_setting w es).accepted
all_own [] w a = a
all_own (e ∷ es) w a = all_own es (walked plain_setting w e) (one_own w e a)
