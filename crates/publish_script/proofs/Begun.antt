-- The tests of a publish line and of a declare line, and what is begun.
use Rattle.std.proofs.Common.{◌≡◌, ℕ, suc, ◌≤◌, List, [], ◌∷◌, length, Bool, true, false, ◌&&◌, if◌then◌else◌, Option, Some, None, is_some, refl, sym, ap, subst, ◌∙◌, arith}
use Rattle.std.specs.Prelude.{bytes_eq, codes, is_none, nat_le, not}
use Rattle.std.specs.List.{join_with_byte, list_all}
use Rattle.std.proofs.lemmas.Bool.{and_parts}
use Rattle.std.proofs.lemmas.Bool.Decides.{nat_tests}
use Rattle.serde_json.specs.Data.{Data}
use Rattle.line_text.specs.Numbers.{number_in}
use Rattle.line_text.specs.Words.{is_visible, is_word}
use Rattle.line_text.specs.declared.reason.Reason.{Reason}
use Rattle.line_text.specs.declared.reason.Reason.TheVariants.{Json, Name, Reserved, Task}
use Rattle.queue_keys.specs.Names.{Bytes, is_reserved}
use Rattle.command_blocks.specs.Scripts.{Declare, Publish}
use Rattle.schedule_model.specs.Drafts.{arguments_of}
use Rattle.schedule_model.specs.Faults.{Test, asked_tests, first_reason, is_empty, is_no_name}
use Rattle.schedule_model.specs.Lines.{dashed_in, declare_in, made_of_four, name_in, publish_in}
use Rattle.schedule_model.specs.Programs.{are_arguments}
use Rattle.schedule_model.specs.Schedules.{publish_plan}
use Rattle.schedule_model.specs.declared.line.Asked.{Asked}
use Rattle.schedule_model.specs.declared.line.Asked.TheVariants as asked
use Rattle.client_plans.specs.Plans.{is_no_binding, way_reason}
use Rattle.publish_script.specs.Drafts.{timed_craft, timed_task}
use Rattle.publish_script.specs.Readings.{ArePublishers}
use Rattle.publish_script.specs.Scripts.{Says, ScriptReader, Wrong, asked_step, no_times, plan_step, tested_step, words_step}

none_some : {A : Type 0} {x : A} → None ≡ Some x → ⊥
none_some e = cc

abbrev before_rest : Bool → Bool → List Test → List Test
before_rest a b rest = (a, Name) ∷ (b, Reserved) ∷ rest

one_holds : (a b : Bool) (rest : List Test) (r : Reason) → first_reason (before_rest a b []) ≡ Some r → first_reason (before_rest a b rest) ≡ Some r
one_holds true b rest r e = e
one_holds false true rest r e = e
one_holds false false rest r e = absurd (none_some e)

none_holds : (a b : Bool) (rest : List Test) → first_reason (before_rest a b []) ≡ None → first_reason (before_rest a b rest) ≡ first_reason rest
none_holds true b rest e = absurd (none_some (sym e))
none_holds false true rest e = absurd (none_some (sym e))
none_holds false false rest e = refl

-- ---- a publish line

module _ (s : ℕ) (d : ScriptReader) (x k : Bytes) (p : ℕ) (t j : Bytes) where
  abbrev line : Asked
  line = asked.Publish x k p t j

  abbrev sealed : Option Bytes
  sealed = timed_task d.times s (suc d.drawn) x k p t j

  abbrev found : Option Reason
  found = first_reason (asked_tests (timed_craft d.times) s (suc d.drawn) line)

  abbrev more : Bool → Bool → List Test
  more a b = (a, Json) ∷ (b, Task) ∷ []

  wrong : (r : Reason) → found ≡ Some r → asked_step s d (Some line) ≡ Wrong r
  wrong r e = ap (tested_step s d line) e

  pub wrong_way : (r : Reason) → way_reason x k ≡ Some r → asked_step s d (Some line) ≡ Wrong r
  wrong_way r e = wrong r (one_holds (is_empty x && is_no_name k) (is_empty x && is_reserved k) (more (not (are_arguments j)) (is_none sealed)) r e)

  passed : way_reason x k ≡ None → found ≡ first_reason (more (not (are_arguments j)) (is_none sealed))
  passed e = none_holds (is_empty x && is_no_name k) (is_empty x && is_reserved k) (more (not (are_arguments j)) (is_none sealed)) e

  pub wrong_json : way_reason x k ≡ None → None ≡ arguments_of j → asked_step s d (Some line) ≡ Wrong Json
  wrong_json a e = wrong Json (passed a ∙ ap (λ o. first_reason (more (not (is_some o)) (is_none sealed))) (sym e))

  spelled : (args : Data) → way_reason x k ≡ None → Some args ≡ arguments_of j → found ≡ first_reason (more false (is_none sealed))
  spelled args a e = passed a ∙ ap (λ o. first_reason (more (not (is_some o)) (is_none sealed))) (sym e)

  pub wrong_task : (args : Data) → way_reason x k ≡ None → Some args ≡ arguments_of j → None ≡ sealed → asked_step s d (Some line) ≡ Wrong Task
  wrong_task args a e f = wrong Task (spelled args a e ∙ ap (λ o. first_reason (more false (is_none o))) (sym f))

  pub says_task : (args : Data) (v : Bytes) → way_reason x k ≡ None → Some args ≡ arguments_of j → Some v ≡ sealed → asked_step s d (Some line) ≡ Says (record { drawn = suc d.drawn; times = no_times }) (Publish v)
  says_task args v a e f =
      ap (tested_step s d line) (spelled args a e ∙ ap (λ o. first_reason (more false (is_none o))) (sym f))
      ∙ ap (λ o. plan_step d (publish_plan o)) (sym f)

-- ---- a declare line

two_known : (a b x y : Bool) → a ≡ x → b ≡ y → first_reason (before_rest a b []) ≡ first_reason (before_rest x y [])
two_known a b x y e f = ap (λ z. first_reason (before_rest z b [])) e ∙ ap (λ z. first_reason (before_rest x z [])) f

module _ (s : ℕ) (d : ScriptReader) (x k p q : Bytes) where
  abbrev binding : Asked
  binding = asked.Declare x k p q

  pub wrong_part : is_no_binding x k p q ≡ true → asked_step s d (Some binding) ≡ Wrong Name
  wrong_part e = ap (tested_step s d binding) (ap (λ y. first_reason (before_rest y (is_reserved q) [])) e)

  pub wrong_queue : is_no_binding x k p q ≡ false → is_reserved q ≡ true → asked_step s d (Some binding) ≡ Wrong Reserved
  wrong_queue e f = ap (tested_step s d binding) (two_known (is_no_binding x k p q) (is_reserved q) false true e f)

  pub says_binding : is_no_binding x k p q ≡ false → is_reserved q ≡ false → asked_step s d (Some binding) ≡ Says d (Declare x k p q)
  says_binding e f = ap (tested_step s d binding) (two_known (is_no_binding x k p q) (is_reserved q) false false e f)

-- ---- what the words of a line begin

named : (w t : Bytes) → name_in w ≡ Some t → 1 ≤ length t
named w t e = go (is_word w) refl e
  where
    some : (u : Bytes) → is_word u ≡ true → 1 ≤ length u
    some u h = let a = (and_parts (nat_le 1 (length u)) (list_all is_visible u) h).0 in grind (arith, nat_tests)

    go : (b : Bool) → is_word w ≡ b → (if b then Some w else None) ≡ Some t → 1 ≤ length t
    go true i f = let same : w ≡ t = cc in subst (λ u. 1 ≤ length u) same (some w i)
    go false i f = cc

made_publish : (x k : Option Bytes) (p : Option ℕ) (w j : Bytes) → ArePublishers (made_of_four (λ a b c t. asked.Publish a b c t j) x k p (name_in w))
made_publish None k p w j = tt
made_publish (Some x) None p w j = tt
made_publish (Some x) (Some k) None w j = tt
made_publish (Some x) (Some k) (Some p) w j = go (name_in w) refl
  where
    go : (o : Option Bytes) → name_in w ≡ o → ArePublishers (made_of_four (λ a b c t. asked.Publish a b c t j) (Some x) (Some k) (Some p) o)
    go None i = tt
    go (Some t) i = named w t i

-- a publish line begins a publication of a task with a name
pub publish_begins : (ws : List Bytes) → ArePublishers (publish_in ws)
publish_begins [] = tt
publish_begins (a ∷ []) = tt
publish_begins (a ∷ b ∷ []) = tt
publish_begins (a ∷ b ∷ c ∷ []) = tt
publish_begins (a ∷ b ∷ c ∷ e ∷ []) = tt
publish_begins (x ∷ k ∷ p ∷ t ∷ j ∷ js) = made_publish (dashed_in x) (dashed_in k) (number_in 0 255 p) t (join_with_byte 32 (j ∷ js))

made_declare : (x k p q : Option Bytes) → ArePublishers (made_of_four asked.Declare x k p q)
made_declare None k p q = tt
made_declare (Some x) None p q = tt
made_declare (Some x) (Some k) None q = tt
made_declare (Some x) (Some k) (Some p) None = tt
made_declare (Some x) (Some k) (Some p) (Some q) = tt

either : (b : Bool) (o : Option Asked) → ArePublishers o → ArePublishers (if b then None else o)
either true o h = tt
either false o h = h

-- a declare line begins a declaration
pub declare_begins : (ws : List Bytes) → ArePublishers (declare_in asked.Declare ws)
declare_begins [] = tt
declare_begins (a ∷ []) = tt
declare_begins (a ∷ b ∷ []) = tt
declare_begins (a ∷ b ∷ c ∷ []) = tt
declare_begins (x ∷ k ∷ p ∷ q ∷ []) = either (bytes_eq x (codes "-")) _ (made_declare (name_in x) (dashed_in k) (dashed_in p) (name_in q))
declare_begins (a ∷ b ∷ c ∷ e ∷ f ∷ ws) = tt

-- ---- the first word of a line

pub words_publish : (s : ℕ) (d : ScriptReader) (w : Bytes) (ws : List Bytes) → bytes_eq w (codes "publish") ≡ true → words_step s d (w ∷ ws) ≡ asked_step s d (publish_in ws)
words_publish s d w ws e = rw e refl

pub words_declare : (s : ℕ) (d : ScriptReader) (w : Bytes) (ws : List Bytes) → bytes_eq w (codes "publish") ≡ false → bytes_eq w (codes "declare") ≡ true → words_step s d (w ∷ ws) ≡ asked_step s d (declare_in asked.Declare ws)
words_declare s d w ws e f = rw (e, f) refl
