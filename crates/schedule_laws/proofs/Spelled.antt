-- What the spelling of a line says of its numbers and names.
use Rattle.std.proofs.Common.{◌≡◌, ℕ, ◌-◌, ◌<◌, ◌≤◌, ◌^◌, refl, arith, List, [], ◌∷◌, Bool, true, false, Option, None, Some, if◌then◌else◌, length, codes}
use Rattle.std.specs.Prelude.{◌&&◌, nat_le, bytes_eq, ◌==◌}
use Rattle.std.specs.List.{list_all, list_any, before_first, after_first}
use Rattle.std.specs.Str.Parse.{digits_value}
use Rattle.std.proofs.lemmas.Grind.{common_steps}
use Rattle.line_text.specs.Numbers.{moment_in, is_number, number_in, part_in, both_parts, tag_in}
use Rattle.line_text.specs.Words.{is_word}
use Rattle.queue_keys.specs.Names.{Bytes}
use Rattle.schedule_model.specs.Lines.{client_in, seed_in, name_in, dashed_in, queues_in, made_of_one, made_of_two, made_of_four, publish_in, declare_in, tagged_in, pass_in, asked_in, client_line, at_line, begin_line, of_client, line_in}
use Rattle.schedule_model.specs.declared.line.Asked.{Asked}
use Rattle.schedule_model.specs.declared.line.Asked.TheVariants as asked
use Rattle.schedule_model.specs.declared.line.Line.{Line}
use Rattle.schedule_model.specs.declared.line.Line.TheVariants.{Client, At, Begin, Step, Run, Stop}

-- it holds of what is there, if anything is
abbrev pub IfThere : {A : Type 0} → (A → Type 0) → Option A → Type 0
IfThere P None = Unit {0}
IfThere P (Some x) = P x

-- from one to as many queues as a line may name
abbrev pub AreFew : List Bytes → Type 0
AreFew [] = ⊥
AreFew (q ∷ qs) = length (q ∷ qs) ≤ 1023

-- what is begun is within its bounds
abbrev pub IsAskedWithin : Asked → Type 0
IsAskedWithin (asked.Pop qs) = AreFew qs
IsAskedWithin (asked.Ack a b) = (a < 2 ^ 64) × (b < 2 ^ 64)
IsAskedWithin (asked.Restore a b) = (a < 2 ^ 64) × (b < 2 ^ 64)
IsAskedWithin (asked.Requeue a b) = (a < 2 ^ 64) × (b < 2 ^ 64)
IsAskedWithin (asked.Pass v) = v < 2 ^ 32
IsAskedWithin (asked.Publish x k p t j) = Unit {0}
IsAskedWithin (asked.Declare x k p q) = Unit {0}
IsAskedWithin (asked.Undeclare x k p q) = Unit {0}

abbrev pub IsWithin : Line → Type 0
IsWithin (Begin c a) = IsAskedWithin a
IsWithin (Client c s) = Unit {0}
IsWithin (At m) = Unit {0}
IsWithin (Step c) = Unit {0}
IsWithin (Run c) = Unit {0}
IsWithin (Stop c) = Unit {0}

-- ---- parts

if_there : {A : Type 0} (P : A → Type 0) (b : Bool) (x y : Option A) → IfThere P x → IfThere P y → IfThere P (if b then x else y)
if_there P true x y f g = f
if_there P false x y f g = g

one_there : {A B : Type 0} (P : A → Type 0) (Q : B → Type 0) (f : A → B) → ((x : A) → P x → Q (f x)) → (o : Option A) → IfThere P o → IfThere Q (made_of_one f o)
one_there P Q f h None p = tt
one_there P Q f h (Some x) p = h x p

two_there : {A B C : Type 0} (P : B → Type 0) (Q : C → Type 0) (f : A → B → C) → ((x : A) (y : B) → P y → Q (f x y)) → (a : Option A) (b : Option B) → IfThere P b → IfThere Q (made_of_two f a b)
two_there P Q f h None b p = tt
two_there P Q f h (Some x) None p = tt
two_there P Q f h (Some x) (Some y) p = h x y p

four_there : {A B C D E : Type 0} (Q : E → Type 0) (f : A → B → C → D → E) → ((x : A) (y : B) (z : C) (u : D) → Q (f x y z u)) → (a : Option A) (b : Option B) (c : Option C) (d : Option D) → IfThere Q (made_of_four f a b c d)
four_there Q f h None b c d = tt
four_there Q f h (Some x) None c d = tt
four_there Q f h (Some x) (Some y) None d = tt
four_there Q f h (Some x) (Some y) (Some z) None = tt
four_there Q f h (Some x) (Some y) (Some z) (Some u) = h x y z u

-- ---- numbers

number_bound : (low high : ℕ) (w : Bytes) → IfThere (λ n. n ≤ high) (number_in low high w)
number_bound low high w = by (is_number w && nat_le low n) (nat_le n high) refl where
  n : ℕ
  n = digits_value 10 w

  by : (a b : Bool) → nat_le n high ≡ b → IfThere (λ n. n ≤ high) (if a && b then Some n else None)
  by true true e = grind (arith, common_steps, e)
  by true false e = tt
  by false b e = tt

part_bound : (w : Bytes) → IfThere (λ n. n < 2 ^ 64) (part_in w)
part_bound w = by (part_in w) (number_bound 0 (2 ^ 64 - 1) w) where
  by : (o : Option ℕ) → IfThere (λ n. n ≤ 2 ^ 64 - 1) o → IfThere (λ n. n < 2 ^ 64) o
  by None h = tt
  by (Some n) h = omega arith

abbrev AreParts : ℕ × ℕ → Type 0
AreParts p = (p.0 < 2 ^ 64) × (p.1 < 2 ^ 64)

both_there : (a b : Option ℕ) → IfThere (λ n. n < 2 ^ 64) a → IfThere (λ n. n < 2 ^ 64) b → IfThere AreParts (both_parts a b)
both_there None b f g = tt
both_there (Some x) None f g = tt
both_there (Some x) (Some y) f g = (f, g)

tag_there : (w : Bytes) → IfThere AreParts (tag_in w)
tag_there w = if_there AreParts (list_any (λ b. b == 58) w) _ None (both_there _ _ (part_bound (before_first (λ b. b == 58) w)) (part_bound (after_first (λ b. b == 58) w))) tt

-- ---- what is begun

few : (ws : List Bytes) → IfThere AreFew (queues_in ws)
few [] = tt
few (q ∷ qs) = by (list_all is_word (q ∷ qs)) (nat_le (length (q ∷ qs)) 1023) refl where
  by : (a b : Bool) → nat_le (length (q ∷ qs)) 1023 ≡ b → IfThere AreFew (if a && b then Some (q ∷ qs) else None)
  by true true e = grind (arith, common_steps, e)
  by true false e = tt
  by false b e = tt

publish_there : (ws : List Bytes) → IfThere IsAskedWithin (publish_in ws)
publish_there (x ∷ k ∷ p ∷ t ∷ j ∷ js) = four_there IsAskedWithin _ (λ x k p t. tt) (dashed_in x) (dashed_in k) (number_in 0 255 p) (name_in t)
publish_there other = tt

declare_there : (f : Bytes → Bytes → Bytes → Bytes → Asked) → ((x k p q : Bytes) → IsAskedWithin (f x k p q)) → (ws : List Bytes) → IfThere IsAskedWithin (declare_in f ws)
declare_there f h (x ∷ k ∷ p ∷ q ∷ []) = if_there IsAskedWithin (bytes_eq x (codes "-")) None _ tt (four_there IsAskedWithin f h (name_in x) (dashed_in k) (dashed_in p) (name_in q))
declare_there f h other = tt

tagged_there : (f : ℕ → ℕ → Asked) → ((a b : ℕ) → a < 2 ^ 64 → b < 2 ^ 64 → IsAskedWithin (f a b)) → (ws : List Bytes) → IfThere IsAskedWithin (tagged_in f ws)
tagged_there f h (t ∷ []) = one_there AreParts IsAskedWithin (λ p. f p.0 p.1) (λ p g. h p.0 p.1 g.0 g.1) (tag_in t) (tag_there t)
tagged_there f h other = tt

pass_there : (ws : List Bytes) → IfThere IsAskedWithin (pass_in ws)
pass_there (v ∷ []) = one_there (λ n. n ≤ 2 ^ 32 - 1) IsAskedWithin asked.Pass (λ n le. omega arith) (number_in 0 (2 ^ 32 - 1) v) (number_bound 0 (2 ^ 32 - 1) v)
pass_there other = tt

asked_there : (w : Bytes) (ws : List Bytes) → IfThere IsAskedWithin (asked_in w ws)
asked_there w ws =
    if_there IsAskedWithin (bytes_eq w (codes "publish")) (publish_in ws) _ (publish_there ws)
    (if_there IsAskedWithin (bytes_eq w (codes "declare")) (declare_in asked.Declare ws) _ (declare_there asked.Declare (λ x k p q. tt) ws)
    (if_there IsAskedWithin (bytes_eq w (codes "undeclare")) (declare_in asked.Undeclare ws) _ (declare_there asked.Undeclare (λ x k p q. tt) ws)
    (if_there IsAskedWithin (bytes_eq w (codes "pop")) (made_of_one asked.Pop (queues_in ws)) _ (one_there AreFew IsAskedWithin asked.Pop (λ qs h. h) (queues_in ws) (few ws))
    (if_there IsAskedWithin (bytes_eq w (codes "ack")) (tagged_in asked.Ack ws) _ (tagged_there asked.Ack (λ a b f g. (f, g)) ws)
    (if_there IsAskedWithin (bytes_eq w (codes "restore")) (tagged_in asked.Restore ws) _ (tagged_there asked.Restore (λ a b f g. (f, g)) ws)
    (if_there IsAskedWithin (bytes_eq w (codes "requeue")) (tagged_in asked.Requeue ws) _ (tagged_there asked.Requeue (λ a b f g. (f, g)) ws)
    (if_there IsAskedWithin (bytes_eq w (codes "pass")) (pass_in ws) None (pass_there ws) tt)))))))

-- ---- lines

client_there : (ws : List Bytes) → IfThere IsWithin (client_line ws)
client_there (c ∷ k ∷ s ∷ []) = if_there IsWithin (bytes_eq k (codes "seed")) (made_of_two Client (client_in c) (seed_in s)) None (two_there (λ n. Unit {0}) IsWithin Client (λ c s h. tt) (client_in c) (seed_in s) (any (seed_in s))) tt where
  any : (o : Option ℕ) → IfThere (λ n. Unit {0}) o
  any None = tt
  any (Some n) = tt
client_there other = tt

at_there : (ws : List Bytes) → IfThere IsWithin (at_line ws)
at_there (m ∷ []) = one_there (λ n. Unit {0}) IsWithin At (λ n h. tt) (moment_in m) (any (moment_in m)) where
  any : (o : Option ℕ) → IfThere (λ n. Unit {0}) o
  any None = tt
  any (Some n) = tt
at_there other = tt

begin_there : (ws : List Bytes) → IfThere IsWithin (begin_line ws)
begin_there (c ∷ w ∷ ws) = two_there IsAskedWithin IsWithin Begin (λ c a h. h) (client_in c) (asked_in w ws) (asked_there w ws)
begin_there other = tt

of_client_there : (f : ℕ → Line) → ((c : ℕ) → IsWithin (f c)) → (ws : List Bytes) → IfThere IsWithin (of_client f ws)
of_client_there f h (c ∷ []) = one_there (λ n. Unit {0}) IsWithin f (λ n u. h n) (client_in c) (any (client_in c)) where
  any : (o : Option ℕ) → IfThere (λ n. Unit {0}) o
  any None = tt
  any (Some n) = tt
of_client_there f h other = tt

-- the numbers and names of a line are within their bounds
pub line_there : (ws : List Bytes) → IfThere IsWithin (line_in ws)
line_there [] = tt
line_there (w ∷ ws) =
    if_there IsWithin (bytes_eq w (codes "client")) (client_line ws) _ (client_there ws)
    (if_there IsWithin (bytes_eq w (codes "at")) (at_line ws) _ (at_there ws)
    (if_there IsWithin (bytes_eq w (codes "begin")) (begin_line ws) _ (begin_there ws)
    (if_there IsWithin (bytes_eq w (codes "step")) (of_client Step ws) _ (of_client_there Step (λ c. tt) ws)
    (if_there IsWithin (bytes_eq w (codes "run")) (of_client Run ws) _ (of_client_there Run (λ c. tt) ws)
    (if_there IsWithin (bytes_eq w (codes "stop")) (of_client Stop ws) None (of_client_there Stop (λ c. tt) ws) tt)))))
