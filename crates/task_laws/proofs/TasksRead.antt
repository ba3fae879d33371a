-- A task is read exactly where an envelope carries it.
use Rattle.std.proofs.Common.{◌≡◌, ◌<◌, ◌≤◌, ◌^◌, inl, inr, ◌∷◌, [], ℕ, ℤ, List, length, Bool, true, false, nat_lt, codes, Option, Some, None, Result, Ok, Err, if◌then◌else◌, refl, sym, ap, ◌∙◌, subst, arith}
use Rattle.std.specs.Prelude.{⊤, is_some, nat_le, not, option_and_then}
use Rattle.std.proofs.lemmas.Bool.Decides.{nat_tests}
use Rattle.serde_json.specs.Data.{Data, null, boolean, number, unsigned, negative, float, string, array, object, no_items, item, depth}
use Rattle.serde_json.specs.Find.{as_number, as_str, as_u64, get}
use Rattle.serde_json.specs.Written.{has_float}
use Rattle.envelope.specs.Envelopes.{json_at, max_levels, parts_in}
use Rattle.envelope_trees.specs.Members.{if_object, is_nothing, object_at, text_at}
use Rattle.moments.specs.MomentTexts.{moment_of}
use Rattle.task_message.specs.Reading.{◌>>=◌, needed, wanted}
use Rattle.task_message.specs.Tasks.{TaskCall, TaskParts, TaskSettings, array_at, call_in, content_in, first_task, fit_call, headers_in, if_32_bits, if_array, if_shallow, if_word, moment_at, retries_at, second_task, settings_in, spelled_moment, task_in, task_of, told_name, word_at}
use Rattle.task_message.specs.declared.fault.Part.TheVariants as part
use Rattle.task_message.specs.declared.fault.TaskFault.{TaskFault}
use Rattle.task_message.specs.declared.fault.TaskFault.TheVariants.{BadField, Float, NoTask}
use Rattle.task_laws.specs.Relations.{IsJsonArray, IsRetries, TellsTask, IsFirstTask, IsJsonObject, IsSecondTask, IsTask, IsMoment, IsWordAt, TellsSettings}
use Rattle.task_laws.proofs.DraftsBack.{bits_are, word_is}

-- ---- readings

bind_ok : {A B : Type 0} (r : Result A TaskFault) (f : A → Result B TaskFault) (y : B) → (r >>= f) ≡ Ok y → (x : A) × (r ≡ Ok x) × (f x ≡ Ok y)
bind_ok (Ok x) f y e = (x, refl, e)
bind_ok (Err x) f y e = cc

wanted_is : (fault : TaskFault) (b : Bool) (x : ⊤) → wanted fault b ≡ Ok x → b ≡ true
wanted_is fault true x e = refl
wanted_is fault false x e = cc

needed_is : {A : Type 0} (fault : TaskFault) (o : Option A) (x : A) → needed fault o ≡ Ok x → o ≡ Some x
needed_is fault None x e = cc
needed_is fault (Some y) x e = let s : y ≡ x = cc in ap (λ z. Some z) s

pub same_ok : {A : Type 0} (x y : A) → ◌≡◌ {A = Result A TaskFault} (Ok x) (Ok y) → x ≡ y
same_ok x y e = cc

-- ---- words

text_is : (o : Option Data) (s : List ℕ) → option_and_then as_str o ≡ Some s → o ≡ Some (string s)
text_is None s e = cc
text_is (Some null) s e = cc
text_is (Some (boolean b)) s e = cc
text_is (Some (number n)) s e = cc
text_is (Some (string u)) s e = let k : u ≡ s = cc in ap (λ x. Some (string x)) k
text_is (Some (array ds)) s e = cc
text_is (Some (object ms)) s e = cc

word_known : (u s : List ℕ) → if_word u ≡ Some s → (u ≡ s) × (1 ≤ length s)
word_known [] s e = cc
word_known (b ∷ u) s e = let k : (b ∷ u) ≡ s = cc in (k, subst (λ x. 1 ≤ length x) k (omega arith))

word_from : (k : List ℕ) (d : Data) (s : List ℕ) → word_at k d ≡ Some s → IsWordAt k d s
word_from k d s e = go (text_at k d) refl e
  where
    go : (o : Option (List ℕ)) → text_at k d ≡ o → option_and_then if_word o ≡ Some s → IsWordAt k d s
    go None i h = cc
    go (Some u) i h = let w = word_known u s h in (text_is (get k d) s (i ∙ ap (λ x. Some x) w.0), w.1)

word_to : (k : List ℕ) (d : Data) (s : List ℕ) → IsWordAt k d s → word_at k d ≡ Some s
word_to k d s h = ap (λ o. option_and_then if_word (option_and_then as_str o)) h.0 ∙ word_is s h.1

-- ---- arrays and objects

array_known : (d e : Data) → if_array d ≡ Some e → (d ≡ e) × IsJsonArray e
array_known null e h = cc
array_known (boolean b) e h = cc
array_known (number n) e h = cc
array_known (string s) e h = cc
array_known (array ds) e h = let k : array ds ≡ e = cc in (k, (ds, sym k))
array_known (object ms) e h = cc

array_to : (e : Data) → IsJsonArray e → if_array e ≡ Some e
array_to e h = subst (λ x. if_array x ≡ Some x) (sym h.1) refl

object_known : (d e : Data) → if_object d ≡ Some e → (d ≡ e) × IsJsonObject e
object_known null e h = cc
object_known (boolean b) e h = cc
object_known (number n) e h = cc
object_known (string s) e h = cc
object_known (array ds) e h = cc
object_known (object ms) e h = let k : object ms ≡ e = cc in (k, (ms, sym k))

object_to : (e : Data) → IsJsonObject e → if_object e ≡ Some e
object_to e h = subst (λ x. if_object x ≡ Some x) (sym h.1) refl

array_from : (k : List ℕ) (d e : Data) → array_at k d ≡ Some e → (get k d ≡ Some e) × IsJsonArray e
array_from k d e h = go (get k d) h
  where
    go : (o : Option Data) → option_and_then if_array o ≡ Some e → (o ≡ Some e) × IsJsonArray e
    go None f = cc
    go (Some x) f = let a = array_known x e f in (ap (λ z. Some z) a.0, a.1)

object_from : (k : List ℕ) (d e : Data) → object_at k d ≡ Some e → (get k d ≡ Some e) × IsJsonObject e
object_from k d e h = go (get k d) h
  where
    go : (o : Option Data) → option_and_then if_object o ≡ Some e → (o ≡ Some e) × IsJsonObject e
    go None f = cc
    go (Some x) f = let a = object_known x e f in (ap (λ z. Some z) a.0, a.1)

-- ---- settings

count_by : (m n : ℕ) → if_32_bits m ≡ Some n → (m ≡ n) × (n < 2 ^ 32)
count_by m n e = go (nat_lt m (2 ^ 32)) refl e
  where
    go : (t : Bool) → nat_lt m (2 ^ 32) ≡ t → (if t then Some m else None) ≡ Some n → (m ≡ n) × (n < 2 ^ 32)
    go true i h = let k : m ≡ n = cc in let small : m < 2 ^ 32 = grind (arith, nat_tests) in (k, subst (λ x. x < 2 ^ 32) k small)
    go false i h = cc

-- what a count is read as
abbrev count_of : Option Data → Option ℕ
count_of o = if is_nothing o then Some 0 else option_and_then if_32_bits (option_and_then as_u64 (option_and_then as_number o))

count_from : (o : Option Data) (n : ℕ) → count_of o ≡ Some n → IsRetries o n
count_from None n e = let k : 0 ≡ n = cc in inl (refl, sym k)
count_from (Some null) n e = let k : 0 ≡ n = cc in inl (refl, sym k)
count_from (Some (boolean b)) n e = cc
count_from (Some (number (unsigned m))) n e = let c = count_by m n e in inr (ap (λ x. Some (number (unsigned x))) c.0, c.1)
count_from (Some (number (negative z))) n e = cc
count_from (Some (number (float x))) n e = cc
count_from (Some (string s)) n e = cc
count_from (Some (array ds)) n e = cc
count_from (Some (object ms)) n e = cc

count_to : (o : Option Data) (n : ℕ) → IsRetries o n → count_of o ≡ Some n
count_to o n (inl h) = ap (λ t. if t then Some 0 else option_and_then if_32_bits (option_and_then as_u64 (option_and_then as_number o))) h.0 ∙ ap (λ x. Some x) (sym h.1)
count_to o n (inr h) = ap count_of h.0 ∙ bits_are n h.1

-- what a moment is read as
abbrev time_of : Option Data → Result (Option ℤ) TaskFault
time_of o = if is_nothing o then Ok None else spelled_moment (option_and_then moment_of (option_and_then as_str o))

time_from : (o : Option Data) (m : Option ℤ) → time_of o ≡ Ok m → IsMoment o m
time_from None m e = subst (IsMoment None) (same_ok None m e) refl
time_from (Some null) m e = subst (IsMoment (Some null)) (same_ok None m e) refl
time_from (Some (boolean b)) m e = cc
time_from (Some (number n)) m e = cc
time_from (Some (string s)) m e = go (moment_of s) refl e
  where
    go : (r : Option ℤ) → moment_of s ≡ r → spelled_moment r ≡ Ok m → IsMoment (Some (string s)) m
    go None i h = cc
    go (Some z) i h = subst (IsMoment (Some (string s))) (same_ok (Some z) m h) (s, refl, i)
time_from (Some (array ds)) m e = cc
time_from (Some (object ms)) m e = cc

time_to : (o : Option Data) (m : Option ℤ) → IsMoment o m → time_of o ≡ Ok m
time_to o None h = ap (λ t. if t then Ok None else spelled_moment (option_and_then moment_of (option_and_then as_str o))) h
time_to o (Some z) h = ap time_of h.1 ∙ ap spelled_moment h.2

settings_from : (d : Data) (s : TaskSettings) → settings_in d ≡ Ok s → TellsSettings d s
unfolding settings_in
settings_from d s e =
    let a = bind_ok (needed (BadField part.Retries) (retries_at d)) _ s e in
    let b = bind_ok (moment_at (codes "eta") d) _ s a.2 in
    let c = bind_ok (moment_at (codes "expires") d) _ s b.2 in
    subst (TellsSettings d) (same_ok _ s c.2)
    (record {
      retries = count_from (get (codes "retries") d) a.0 (needed_is (BadField part.Retries) _ a.0 a.1);
      eta = time_from (get (codes "eta") d) b.0 b.1;
      expires = time_from (get (codes "expires") d) c.0 c.1;
    })

settings_to : (d : Data) (s : TaskSettings) → TellsSettings d s → settings_in d ≡ Ok s
unfolding settings_in
settings_to d s h = rw (count_to (get (codes "retries") d) s.retries h.retries, time_to (get (codes "eta") d) s.eta h.eta, time_to (get (codes "expires") d) s.expires h.expires) refl

-- ---- version 2

three : Data → Data → Data → Data
three a k e = array (item a (item k (item e no_items)))

call_from : (c : Data) (call : TaskCall) → call_in c ≡ Some call → c ≡ three call.args call.kwargs call.embed
unfolding three
call_from null call e = cc
call_from (boolean b) call e = cc
call_from (number n) call e = cc
call_from (string s) call e = cc
call_from (array no_items) call e = cc
call_from (array (item a no_items)) call e = cc
call_from (array (item a (item k no_items))) call e = cc
call_from (array (item a (item k (item x no_items)))) call e =
    let same : ◌≡◌ {A = TaskCall} (record { args = a; kwargs = k; embed = x }) call = cc in ap (λ (z : TaskCall). array (item z.args (item z.kwargs (item z.embed no_items)))) same
call_from (array (item a (item k (item x (item y ys))))) call e = cc
call_from (object ms) call e = cc

-- a call whose parts are of the right kinds
record IsFit (call fit : TaskCall) : Type 0 where
  args_same : call.args ≡ fit.args
  args : IsJsonArray fit.args
  kwargs_same : call.kwargs ≡ fit.kwargs
  kwargs : IsJsonObject fit.kwargs
  embed_same : call.embed ≡ fit.embed
  embed : IsJsonObject fit.embed

fit_from : (call fit : TaskCall) → fit_call call ≡ Ok fit → IsFit call fit
unfolding fit_call
fit_from call fit e =
    let a = bind_ok (needed (BadField part.Args) (if_array call.args)) _ fit e in
    let k = bind_ok (needed (BadField part.Kwargs) (if_object call.kwargs)) _ fit a.2 in
    let m = bind_ok (needed (BadField part.Embed) (if_object call.embed)) _ fit k.2 in
    let x = array_known call.args a.0 (needed_is (BadField part.Args) _ a.0 a.1) in
    let y = object_known call.kwargs k.0 (needed_is (BadField part.Kwargs) _ k.0 k.1) in
    let z = object_known call.embed m.0 (needed_is (BadField part.Embed) _ m.0 m.1) in
    subst (IsFit call) (same_ok _ fit m.2) (record { args_same = x.0; args = x.1; kwargs_same = y.0; kwargs = y.1; embed_same = z.0; embed = z.1 })

same_three : (a a' k k' e e' : Data) → a ≡ a' → k ≡ k' → e ≡ e' → three a k e ≡ three a' k' e'
same_three a a' k k' e e' p q r = ap (λ x. three x k e) p ∙ ap (λ x. three a' x e) q ∙ ap (λ x. three a' k' x) r

second_from : (headers c : Data) (t : TaskParts) → second_task headers c ≡ Ok t → IsSecondTask headers c t
unfolding second_task three
second_from headers c t e =
    let a = bind_ok (needed (BadField part.Body) (call_in c)) _ t e in
    let b = bind_ok (needed (BadField part.Name) (word_at (codes "task") headers)) _ t a.2 in
    let i = bind_ok (needed (BadField part.Id) (word_at (codes "id") headers)) _ t b.2 in
    let f = bind_ok (fit_call a.0) _ t i.2 in
    let s = bind_ok (settings_in headers) _ t f.2 in
    let fit = fit_from a.0 f.0 f.1 in
    subst (IsSecondTask headers c) (same_ok _ t s.2)
    (record {
      version = refl;
      name = word_from (codes "task") headers b.0 (needed_is (BadField part.Name) _ b.0 b.1);
      id = word_from (codes "id") headers i.0 (needed_is (BadField part.Id) _ i.0 i.1);
      settings = settings_from headers s.0 s.1;
      embed = f.0.embed;
      call = call_from c a.0 (needed_is (BadField part.Body) _ a.0 a.1) ∙ same_three a.0.args f.0.args a.0.kwargs f.0.kwargs a.0.embed f.0.embed fit.args_same fit.kwargs_same fit.embed_same;
      args = fit.args;
      kwargs = fit.kwargs;
      embedded = fit.embed;
    })

second_to : (headers c : Data) (t : TaskParts) → IsSecondTask headers c t → second_task headers c ≡ Ok t
unfolding second_task fit_call
second_to headers c t h = subst (λ x. second_task headers x ≡ Ok t) (sym h.call) (carried ∙ ap (λ x. Ok x) same)
  where
    carried : second_task headers (array (item t.args (item t.kwargs (item h.embed no_items)))) ≡ Ok (record t { version = 2 })
    carried =
        rw (word_to (codes "task") headers t.name h.name, word_to (codes "id") headers t.id h.id, array_to t.args h.args, object_to t.kwargs h.kwargs, object_to h.embed h.embedded, settings_to headers t.settings h.settings) refl

    same : record t { version = 2 } ≡ t
    same = λ l. record t { version = sym h.version l }

-- ---- version 1

name_from : (c : Data) (s : List ℕ) → told_name c ≡ Ok s → IsWordAt (codes "task") c s
unfolding told_name
name_from c s e =
    let a = bind_ok (needed NoTask (text_at (codes "task") c)) _ s e in
    let w = word_known a.0 s (needed_is (BadField part.Name) _ s a.2) in
    (text_is (get (codes "task") c) s (needed_is NoTask _ a.0 a.1 ∙ ap (λ x. Some x) w.0), w.1)

name_to : (c : Data) (s : List ℕ) → IsWordAt (codes "task") c s → told_name c ≡ Ok s
unfolding told_name
name_to c s h = rw (ap (option_and_then as_str) h.0, word_is s h.1) refl

first_from : (c : Data) (t : TaskParts) → first_task c ≡ Ok t → IsFirstTask c t
unfolding first_task
first_from c t e =
    let n = bind_ok (told_name c) _ t e in
    let i = bind_ok (needed (BadField part.Id) (word_at (codes "id") c)) _ t n.2 in
    let a = bind_ok (needed (BadField part.Args) (array_at (codes "args") c)) _ t i.2 in
    let k = bind_ok (needed (BadField part.Kwargs) (object_at (codes "kwargs") c)) _ t a.2 in
    let s = bind_ok (settings_in c) _ t k.2 in
    let args = array_from (codes "args") c a.0 (needed_is (BadField part.Args) _ a.0 a.1) in
    let kwargs = object_from (codes "kwargs") c k.0 (needed_is (BadField part.Kwargs) _ k.0 k.1) in
    subst (IsFirstTask c) (same_ok _ t s.2)
    (record {
      version = refl;
      name = name_from c n.0 n.1;
      id = word_from (codes "id") c i.0 (needed_is (BadField part.Id) _ i.0 i.1);
      settings = settings_from c s.0 s.1;
      args_at = args.0;
      args = args.1;
      kwargs_at = kwargs.0;
      kwargs = kwargs.1;
    })

first_to : (c : Data) (t : TaskParts) → IsFirstTask c t → first_task c ≡ Ok t
unfolding first_task
first_to c t h = carried ∙ ap (λ x. Ok x) same
  where
    arguments : array_at (codes "args") c ≡ Some t.args
    arguments = ap (option_and_then if_array) h.args_at ∙ array_to t.args h.args

    keywords : object_at (codes "kwargs") c ≡ Some t.kwargs
    keywords = ap (option_and_then if_object) h.kwargs_at ∙ object_to t.kwargs h.kwargs

    carried : first_task c ≡ Ok (record t { version = 1 })
    carried = rw (name_to c t.name h.name, word_to (codes "id") c t.id h.id, arguments, keywords, settings_to c t.settings h.settings) refl

    same : record t { version = 1 } ≡ t
    same = λ l. record t { version = sym h.version l }

-- ---- both

either_from : (headers c : Data) (t : TaskParts) → task_in headers c ≡ Ok t → TellsTask headers c t
either_from headers c t e = go (get (codes "task") headers) refl e
  where
    go : (o : Option Data) → get (codes "task") headers ≡ o → (if is_some o then second_task headers c else first_task c) ≡ Ok t → TellsTask headers c t
    go None i h = inl (i, first_from c t h)
    go (Some x) i h = inr (second_from headers c t h)

either_to : (headers c : Data) (t : TaskParts) → TellsTask headers c t → task_in headers c ≡ Ok t
either_to headers c t (inl h) = ap (λ o. if is_some o then second_task headers c else first_task c) h.0 ∙ first_to c t h.1
either_to headers c t (inr h) = ap (λ o. if is_some o then second_task headers c else first_task c) h.name.0 ∙ second_to headers c t h

-- a content that was read
pub record IsReadContent (b : List ℕ) (c : Data) : Type 0 where
  pub reads : json_at b ≡ Some c
  pub shallow : depth c ≤ max_levels
  pub whole : has_float c ≡ false

not_true : (b : Bool) → not b ≡ true → b ≡ false
not_true true e = cc
not_true false e = refl

shallow_from : (o : Option Data) (c : Data) → option_and_then if_shallow o ≡ Some c → (o ≡ Some c) × (depth c ≤ max_levels)
shallow_from None c e = cc
shallow_from (Some x) c e = go (nat_le (depth x) max_levels) refl e
  where
    go : (t : Bool) → nat_le (depth x) max_levels ≡ t → (if t then Some x else None) ≡ Some c → (◌≡◌ {A = Option Data} (Some x) (Some c)) × (depth c ≤ max_levels)
    go true i h = let k : x ≡ c = cc in let small : depth x ≤ max_levels = grind (arith, nat_tests) in (ap (λ z. Some z) k, subst (λ z. depth z ≤ max_levels) k small)
    go false i h = cc

pub content_from : (b : List ℕ) (c : Data) → content_in b ≡ Ok c → IsReadContent b c
unfolding content_in
content_from b c e =
    let a = bind_ok (needed (BadField part.Body) (option_and_then if_shallow (json_at b))) _ c e in
    let w = bind_ok (wanted Float (not (has_float a.0))) _ c a.2 in
    let s = shallow_from (json_at b) a.0 (needed_is (BadField part.Body) _ a.0 a.1) in
    subst (IsReadContent b) (same_ok a.0 c w.2) (record { reads = s.0; shallow = s.1; whole = not_true (has_float a.0) (wanted_is Float _ w.0 w.1) })

content_to : (b : List ℕ) (c : Data) → IsReadContent b c → content_in b ≡ Ok c
unfolding content_in
content_to b c h = let t : nat_le (depth c) max_levels ≡ true = let x = h.shallow in grind (arith, nat_tests) in rw (h.reads, t, h.whole) refl

pub task_from : (d : Data) (t : TaskParts) → task_of d ≡ Ok t → IsTask d t
unfolding task_of
task_from d t e =
    let a = bind_ok (content_in (parts_in d).content) _ t e in
    let c = content_from (parts_in d).content a.0 a.1 in
    record { content = a.0; reads = c.reads; shallow = c.shallow; whole = c.whole; told = either_from (headers_in d) a.0 t a.2 }

pub task_to : (d : Data) (t : TaskParts) → IsTask d t → task_of d ≡ Ok t
unfolding task_of
task_to d t h =
    ap (λ r. r >>= task_in (headers_in d)) (content_to (parts_in d).content h.content (record { reads = h.reads; shallow = h.shallow; whole = h.whole })) ∙ either_to (headers_in d) h.content t h.told
