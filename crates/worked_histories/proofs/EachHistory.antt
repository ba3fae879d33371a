-- The worked histories over Celery's envelopes: the store over lists gives their replies, and the cursor judges their clients mannered.
use Rattle.std.proofs.Common.{◌≡◌, true, refl, codes, [], List}
use Rattle.std.specs.Fmt.{digits}
use Rattle.std.specs.Str as text
use Rattle.std.specs.Float as F
use Rattle.std.specs.Float.Numeral as N
use Rattle.json.specs.Json as J
use Rattle.json.specs.Lex as L
use Rattle.json.specs.Text as T
use Rattle.json.specs.Word as W
use Rattle.json.specs.Print as P
use Rattle.serde_json.specs.Read as R
use Rattle.base64.specs.Decode as B
use Rattle.base64.specs.GeneralPurpose as G
use Rattle.uuid.specs.Text as U
use Rattle.envelope.specs.Entries as M
use Rattle.envelope.specs.Envelopes as E
use Rattle.wire_values.specs.Layer.{layer}
use Rattle.store_model.specs.Words.{command_of}
use Rattle.queue_keys.specs.Bindings.{binding_of}
use Rattle.queue_keys.specs.Layouts.{plain}
use Rattle.queue_keys.specs.Names.{same}
use Rattle.queue_keys.specs.Patterns.{matches}
use Rattle.queue_keys.specs.QueueKeys.{split_key}
use Rattle.command_blocks.specs.Blocks.{IsMannered}
use Rattle.place_model.specs.Histories.{calls_of}
use Rattle.place_model.specs.Starts.{IsSound}
use Rattle.place_model.specs.declared.heard.Heard.{Heard}
use Rattle.place_model.specs.declared.history.Entry.{Entry}
use Rattle.manner_laws.specs.Spots.{Free}
use Rattle.manner_laws.specs.Cursor.{start_ask, neutral_ask}
use Rattle.command_blocks.specs.EnvelopeTexts.{plain_setting}
use Rattle.message_places.proofs.Serving.{lawful, readable}
use Rattle.worked_histories.specs.Messages.{celery_message}
use Rattle.worked_histories.specs.Rows.{clients, contended, each_kind, stuck, worked}
use Rattle.worked_histories.proofs.Kept.{judged, sound}
use Rattle.worked_histories.proofs.Played.{empty_desk, may_play, replayed}

-- ---- each kind

abbrev each_kind_es : List (Entry Heard)
each_kind_es = each_kind (celery_message 7 1 [] (codes "q")) (celery_message 7 2 (codes "ex") (codes "rk"))

each_kind_plays : may_play clients empty_desk each_kind_es ≡ true
unfolding same layer command_of digits U.by_index
each_kind_plays = refl

each_kind_same : replayed empty_desk each_kind_es ≡ each_kind_es
unfolding same layer command_of digits U.by_index
each_kind_same = refl

each_kind_1 : IsMannered plain_setting 7 (calls_of 1 each_kind_es)
unfolding same layer command_of digits matches binding_of start_ask neutral_ask split_key text.is_utf8 text.chars lib.Utf8.encode E.envelope_at E.tree_at E.envelope_of E.said_by E.parts_of E.content_of E.info_said E.properties_said J.value J.items J.members L.punctuate L.lex T.content T.code_unit T.short_escape W.word W.after_number P.escape_byte R.number_of N.scan_numeral F.float_is_finite B.groups_bytes B.groups_error B.scan_steps G.decoded_of U.by_index lib.Count.count_trailing_zeros lib.Ieee.climb lib.Ieee.odd lib.Ieee.round lib.Ieee.size lib.Ieee.span lib.Ieee.units M.entry_at
each_kind_1 = judged plain_setting (lawful plain refl) (readable plain refl) 7 (calls_of 1 each_kind_es) (Free 3 1) refl refl

each_kind_2 : IsMannered plain_setting 8 (calls_of 2 each_kind_es)
unfolding same layer command_of digits matches binding_of start_ask neutral_ask split_key text.is_utf8 text.chars lib.Utf8.encode E.envelope_at E.tree_at E.envelope_of E.said_by E.parts_of E.content_of E.info_said E.properties_said J.value J.items J.members L.punctuate L.lex T.content T.code_unit T.short_escape W.word W.after_number P.escape_byte R.number_of N.scan_numeral F.float_is_finite B.groups_bytes B.groups_error B.scan_steps G.decoded_of U.by_index lib.Count.count_trailing_zeros lib.Ieee.climb lib.Ieee.odd lib.Ieee.round lib.Ieee.size lib.Ieee.span lib.Ieee.units M.entry_at
each_kind_2 = judged plain_setting (lawful plain refl) (readable plain refl) 8 (calls_of 2 each_kind_es) (Free 0 0) refl refl

each_kind_3 : IsMannered plain_setting 9 (calls_of 3 each_kind_es)
unfolding same layer command_of digits matches binding_of start_ask neutral_ask split_key text.is_utf8 text.chars lib.Utf8.encode E.envelope_at E.tree_at E.envelope_of E.said_by E.parts_of E.content_of E.info_said E.properties_said J.value J.items J.members L.punctuate L.lex T.content T.code_unit T.short_escape W.word W.after_number P.escape_byte R.number_of N.scan_numeral F.float_is_finite B.groups_bytes B.groups_error B.scan_steps G.decoded_of U.by_index lib.Count.count_trailing_zeros lib.Ieee.climb lib.Ieee.odd lib.Ieee.round lib.Ieee.size lib.Ieee.span lib.Ieee.units M.entry_at
each_kind_3 = judged plain_setting (lawful plain refl) (readable plain refl) 9 (calls_of 3 each_kind_es) (Free 0 0) refl refl

pub each_kind_sound : IsSound plain_setting (worked each_kind_es)
each_kind_sound = sound plain_setting each_kind_es each_kind_plays each_kind_same each_kind_1 each_kind_2 each_kind_3

-- ---- contended

abbrev contended_es : List (Entry Heard)
contended_es = contended (celery_message 7 1 [] (codes "q")) (λ n. celery_message 8 n [] (codes "q"))

contended_plays : may_play clients empty_desk contended_es ≡ true
unfolding same layer command_of digits U.by_index
contended_plays = refl

contended_same : replayed empty_desk contended_es ≡ contended_es
unfolding same layer command_of digits U.by_index
contended_same = refl

contended_1 : IsMannered plain_setting 7 (calls_of 1 contended_es)
unfolding same layer command_of digits matches binding_of start_ask neutral_ask split_key text.is_utf8 text.chars lib.Utf8.encode E.envelope_at E.tree_at E.envelope_of E.said_by E.parts_of E.content_of E.info_said E.properties_said J.value J.items J.members L.punctuate L.lex T.content T.code_unit T.short_escape W.word W.after_number P.escape_byte R.number_of N.scan_numeral F.float_is_finite B.groups_bytes B.groups_error B.scan_steps G.decoded_of U.by_index lib.Count.count_trailing_zeros lib.Ieee.climb lib.Ieee.odd lib.Ieee.round lib.Ieee.size lib.Ieee.span lib.Ieee.units M.entry_at
contended_1 = judged plain_setting (lawful plain refl) (readable plain refl) 7 (calls_of 1 contended_es) (Free 1 0) refl refl

contended_2 : IsMannered plain_setting 8 (calls_of 2 contended_es)
unfolding same layer command_of digits matches binding_of start_ask neutral_ask split_key text.is_utf8 text.chars lib.Utf8.encode E.envelope_at E.tree_at E.envelope_of E.said_by E.parts_of E.content_of E.info_said E.properties_said J.value J.items J.members L.punctuate L.lex T.content T.code_unit T.short_escape W.word W.after_number P.escape_byte R.number_of N.scan_numeral F.float_is_finite B.groups_bytes B.groups_error B.scan_steps G.decoded_of U.by_index lib.Count.count_trailing_zeros lib.Ieee.climb lib.Ieee.odd lib.Ieee.round lib.Ieee.size lib.Ieee.span lib.Ieee.units M.entry_at
contended_2 = judged plain_setting (lawful plain refl) (readable plain refl) 8 (calls_of 2 contended_es) (Free 4 0) refl refl

contended_3 : IsMannered plain_setting 9 (calls_of 3 contended_es)
unfolding same layer command_of digits matches binding_of start_ask neutral_ask split_key text.is_utf8 text.chars lib.Utf8.encode E.envelope_at E.tree_at E.envelope_of E.said_by E.parts_of E.content_of E.info_said E.properties_said J.value J.items J.members L.punctuate L.lex T.content T.code_unit T.short_escape W.word W.after_number P.escape_byte R.number_of N.scan_numeral F.float_is_finite B.groups_bytes B.groups_error B.scan_steps G.decoded_of U.by_index lib.Count.count_trailing_zeros lib.Ieee.climb lib.Ieee.odd lib.Ieee.round lib.Ieee.size lib.Ieee.span lib.Ieee.units M.entry_at
contended_3 = judged plain_setting (lawful plain refl) (readable plain refl) 9 (calls_of 3 contended_es) (Free 0 0) refl refl

pub contended_sound : IsSound plain_setting (worked contended_es)
contended_sound = sound plain_setting contended_es contended_plays contended_same contended_1 contended_2 contended_3

-- ---- stuck

abbrev stuck_es : List (Entry Heard)
stuck_es = stuck (celery_message 7 1 [] (codes "q")) (λ n. celery_message 8 n [] (codes "q"))

stuck_plays : may_play clients empty_desk stuck_es ≡ true
unfolding same layer command_of digits U.by_index
stuck_plays = refl

stuck_same : replayed empty_desk stuck_es ≡ stuck_es
unfolding same layer command_of digits U.by_index
stuck_same = refl

stuck_1 : IsMannered plain_setting 7 (calls_of 1 stuck_es)
unfolding same layer command_of digits matches binding_of start_ask neutral_ask split_key text.is_utf8 text.chars lib.Utf8.encode E.envelope_at E.tree_at E.envelope_of E.said_by E.parts_of E.content_of E.info_said E.properties_said J.value J.items J.members L.punctuate L.lex T.content T.code_unit T.short_escape W.word W.after_number P.escape_byte R.number_of N.scan_numeral F.float_is_finite B.groups_bytes B.groups_error B.scan_steps G.decoded_of U.by_index lib.Count.count_trailing_zeros lib.Ieee.climb lib.Ieee.odd lib.Ieee.round lib.Ieee.size lib.Ieee.span lib.Ieee.units M.entry_at
stuck_1 = judged plain_setting (lawful plain refl) (readable plain refl) 7 (calls_of 1 stuck_es) (Free 1 1) refl refl

stuck_2 : IsMannered plain_setting 8 (calls_of 2 stuck_es)
unfolding same layer command_of digits matches binding_of start_ask neutral_ask split_key text.is_utf8 text.chars lib.Utf8.encode E.envelope_at E.tree_at E.envelope_of E.said_by E.parts_of E.content_of E.info_said E.properties_said J.value J.items J.members L.punctuate L.lex T.content T.code_unit T.short_escape W.word W.after_number P.escape_byte R.number_of N.scan_numeral F.float_is_finite B.groups_bytes B.groups_error B.scan_steps G.decoded_of U.by_index lib.Count.count_trailing_zeros lib.Ieee.climb lib.Ieee.odd lib.Ieee.round lib.Ieee.size lib.Ieee.span lib.Ieee.units M.entry_at
stuck_2 = judged plain_setting (lawful plain refl) (readable plain refl) 8 (calls_of 2 stuck_es) (Free 4 1) refl refl

stuck_3 : IsMannered plain_setting 9 (calls_of 3 stuck_es)
unfolding same layer command_of digits matches binding_of start_ask neutral_ask split_key text.is_utf8 text.chars lib.Utf8.encode E.envelope_at E.tree_at E.envelope_of E.said_by E.parts_of E.content_of E.info_said E.properties_said J.value J.items J.members L.punctuate L.lex T.content T.code_unit T.short_escape W.word W.after_number P.escape_byte R.number_of N.scan_numeral F.float_is_finite B.groups_bytes B.groups_error B.scan_steps G.decoded_of U.by_index lib.Count.count_trailing_zeros lib.Ieee.climb lib.Ieee.odd lib.Ieee.round lib.Ieee.size lib.Ieee.span lib.Ieee.units M.entry_at
stuck_3 = judged plain_setting (lawful plain refl) (readable plain refl) 9 (calls_of 3 stuck_es) (Free 0 1) refl refl

pub stuck_sound : IsSound plain_setting (worked stuck_es)
stuck_sound = sound plain_setting stuck_es stuck_plays stuck_same stuck_1 stuck_2 stuck_3
