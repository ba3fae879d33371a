-- Reading a task is never refused as too long, and sending it again for nothing else.
use Rattle.std.proofs.Common.{◌≡◌, ℕ, ℤ, List, length, Bool, true, false, codes, Option, Some, None, Result, Ok, Err, if◌then◌else◌, option_and_then, refl}
use Rattle.std.specs.Prelude.{is_some, nat_le, not}
use Rattle.serde_json.specs.Data.{Data}
use Rattle.serde_json.specs.Find.{get}
use Rattle.serde_json.specs.Written.{compact_text, has_float}
use Rattle.envelope.specs.Envelopes.{json_at, max_bytes, max_text, parts_in}
use Rattle.envelope_trees.specs.Marks.{marked}
use Rattle.envelope_trees.specs.Members.{if_object, is_nothing, object_at, text_at}
use Rattle.moments.specs.MomentTexts.{moment_of}
use Rattle.task_message.specs.Again.{again_of, again_tree}
use Rattle.task_message.specs.Reading.{◌>>=◌, needed, wanted}
use Rattle.task_message.specs.Tasks.{TaskCall, TaskParts, array_at, call_in, content_in, first_task, fit_call, headers_in, if_array, if_shallow, if_word, moment_at, retries_at, second_task, settings_in, spelled_moment, task_in, task_of, told_name, word_at}
use Rattle.task_message.specs.declared.fault.Part.{Part}
use Rattle.task_message.specs.declared.fault.Part.TheVariants as part
use Rattle.task_message.specs.declared.fault.TaskFault.{TaskFault}
use Rattle.task_message.specs.declared.fault.TaskFault.TheVariants.{BadField, BadMoment, Float, Memory, NoTask, TooLong}

-- a reading that isn't refused as too long
abbrev NeverLong : {A : Type 0} → Result A TaskFault → Type 0
NeverLong r = r ≡ Err TooLong → ⊥

after : {A B : Type 0} (r : Result A TaskFault) (f : A → Result B TaskFault) → NeverLong r → ((x : A) → NeverLong (f x)) → NeverLong (r >>= f)
after (Ok x) f a b e = b x e
after (Err TooLong) f a b e = a refl
after (Err NoTask) f a b e = cc
after (Err Float) f a b e = cc
after (Err (BadField p)) f a b e = cc
after (Err BadMoment) f a b e = cc
after (Err Memory) f a b e = cc

needs : {A : Type 0} (fault : TaskFault) (o : Option A) → (fault ≡ TooLong → ⊥) → NeverLong (needed fault o)
needs fault (Some x) n e = cc
needs fault None n e = n cc

wants : (fault : TaskFault) (b : Bool) → (fault ≡ TooLong → ⊥) → NeverLong (wanted fault b)
wants fault true n e = cc
wants fault false n e = n cc

field_other : (p : Part) → BadField p ≡ TooLong → ⊥
field_other p e = cc

moment_never : (k : List ℕ) (d : Data) → NeverLong (moment_at k d)
moment_never k d e = go (is_nothing (get k d)) (option_and_then moment_of (text_at k d)) e
  where
    go : (b : Bool) (o : Option ℤ) → NeverLong (if b then Ok None else spelled_moment o)
    go true o e = cc
    go false None e = cc
    go false (Some m) e = cc

settings_never : (d : Data) → NeverLong (settings_in d)
unfolding settings_in
settings_never d =
    after (needed (BadField part.Retries) (retries_at d)) _ (needs _ (retries_at d) (field_other part.Retries)) λ r.
    after (moment_at (codes "eta") d) _ (moment_never (codes "eta") d) λ a.
    after (moment_at (codes "expires") d) _ (moment_never (codes "expires") d) λ b e. cc

content_never : (b : List ℕ) → NeverLong (content_in b)
unfolding content_in
content_never b =
    after (needed (BadField part.Body) (option_and_then if_shallow (json_at b))) _ (needs _ _ (field_other part.Body)) λ c.
    after (wanted Float (not (has_float c))) _ (wants Float _ (λ e. cc)) λ w e. cc

call_never : (call : TaskCall) → NeverLong (fit_call call)
unfolding fit_call
call_never call =
    after (needed (BadField part.Args) (if_array call.args)) _ (needs _ _ (field_other part.Args)) λ a.
    after (needed (BadField part.Kwargs) (if_object call.kwargs)) _ (needs _ _ (field_other part.Kwargs)) λ k.
    after (needed (BadField part.Embed) (if_object call.embed)) _ (needs _ _ (field_other part.Embed)) λ m e. cc

second_never : (headers c : Data) → NeverLong (second_task headers c)
unfolding second_task
second_never headers c =
    after (needed (BadField part.Body) (call_in c)) _ (needs _ _ (field_other part.Body)) λ call.
    after (needed (BadField part.Name) (word_at (codes "task") headers)) _ (needs _ _ (field_other part.Name)) λ name.
    after (needed (BadField part.Id) (word_at (codes "id") headers)) _ (needs _ _ (field_other part.Id)) λ id.
    after (fit_call call) _ (call_never call) λ fit.
    after (settings_in headers) _ (settings_never headers) λ s e. cc

name_never : (c : Data) → NeverLong (told_name c)
unfolding told_name
name_never c =
    after (needed NoTask (text_at (codes "task") c)) _ (needs NoTask _ (λ e. cc)) λ text.
    needs (BadField part.Name) (if_word text) (field_other part.Name)

first_never : (c : Data) → NeverLong (first_task c)
unfolding first_task
first_never c =
    after (told_name c) _ (name_never c) λ name.
    after (needed (BadField part.Id) (word_at (codes "id") c)) _ (needs _ _ (field_other part.Id)) λ id.
    after (needed (BadField part.Args) (array_at (codes "args") c)) _ (needs _ _ (field_other part.Args)) λ a.
    after (needed (BadField part.Kwargs) (object_at (codes "kwargs") c)) _ (needs _ _ (field_other part.Kwargs)) λ k.
    after (settings_in c) _ (settings_never c) λ s e. cc

either_never : (headers c : Data) → NeverLong (task_in headers c)
either_never headers c e = go (is_some (get (codes "task") headers)) e
  where
    go : (b : Bool) → NeverLong (if b then second_task headers c else first_task c)
    go true e = second_never headers c e
    go false e = first_never c e

-- reading is never refused as too long
pub never_too_long : (d : Data) → task_of d ≡ Err TooLong → ⊥
unfolding task_of
never_too_long d = after (content_in (parts_in d).content) _ (content_never (parts_in d).content) λ c. either_never (headers_in d) c

long_by : (a b : Bool) (x : Data) (f : TaskFault) → (wanted TooLong a >>= λ u. wanted TooLong b >>= λ v. Ok x) ≡ Err f → f ≡ TooLong
long_by true true x f e = cc
long_by true false x f e = cc
long_by false b x f e = cc

-- sending again is refused for nothing else
pub again_too_long : (d : Data) (t : TaskParts) (n : ℕ) (eta : ℤ) (f : TaskFault) → again_of d t n eta ≡ Err f → f ≡ TooLong
unfolding again_of
again_too_long d t n eta f e =
    let x = again_tree d t.version t.settings.retries n eta in
    long_by (nat_le (length (compact_text x)) max_bytes) (nat_le (length (compact_text (marked x))) max_text) x f e
