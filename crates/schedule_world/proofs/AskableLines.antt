-- What a line begins can be asked for.
use Rattle.std.proofs.Common.{◌≡◌, ℕ, ◌≤◌, List, [], ◌∷◌, length, codes, Bool, true, false, refl, subst, Option, None, Some, arith}
use Rattle.std.specs.Prelude.{if◌then◌else◌, ◌&&◌, ◌-◌, ◌^◌, IfSome, bytes_eq, nat_le}
use Rattle.std.specs.List.{list_all}
use Rattle.std.proofs.lemmas.Bool.{and_parts}
use Rattle.std.proofs.lemmas.Bool.Decides.{nat_tests}
use Rattle.line_text.specs.Numbers.{moment_in, number_in, tag_in}
use Rattle.line_text.specs.Words.{is_visible, is_word}
use Rattle.queue_keys.specs.Names.{Bytes}
use Rattle.schedule_model.specs.Lines.{asked_in, at_line, begin_line, client_in, client_line, dashed_in, declare_in, line_in, name_in, of_client, pass_in, publish_in, queues_in, seed_in, tagged_in, made_of_four, made_of_one, made_of_two}
use Rattle.schedule_model.specs.declared.line.Asked.{Asked}
use Rattle.schedule_model.specs.declared.line.Asked.TheVariants.{Ack, Declare, Pass, Pop, Requeue, Restore, Undeclare}
use Rattle.schedule_model.specs.declared.line.Line.{Line}
use Rattle.schedule_model.specs.declared.line.Line.TheVariants.{At, Begin, Client, Run, Step, Stop}
use Rattle.client_plans.specs.Plans.{IsAskable}
use Rattle.schedule_world.specs.AskableLines.{IsAskableLine}

-- ---- parts

-- one of two, whichever is taken
either_askable : {A : Type 0} (P : A → Type 0) (b : Bool) (x y : Option A) → IfSome x P → IfSome y P → IfSome (if b then x else y) P
either_askable P true x y f g = f
either_askable P false x y f g = g

one_askable : {A B : Type 0} (P : A → Type 0) (Q : B → Type 0) (f : A → B) → ((x : A) → P x → Q (f x)) → (o : Option A) → IfSome o P → IfSome (made_of_one f o) Q
one_askable P Q f h None p = tt
one_askable P Q f h (Some x) p = h x p

two_askable : {A B C : Type 0} (P : B → Type 0) (Q : C → Type 0) (f : A → B → C) → ((x : A) (y : B) → P y → Q (f x y)) → (a : Option A) (b : Option B) → IfSome b P → IfSome (made_of_two f a b) Q
two_askable P Q f h None b p = tt
two_askable P Q f h (Some x) None p = tt
two_askable P Q f h (Some x) (Some y) p = h x y p

four_askable : {A B C D E : Type 0} (P : D → Type 0) (Q : E → Type 0) (f : A → B → C → D → E) → ((x : A) (y : B) (z : C) (u : D) → P u → Q (f x y z u)) → (a : Option A) (b : Option B) (c : Option C) (d : Option D) → IfSome d P → IfSome (made_of_four f a b c d) Q
four_askable P Q f h None b c d p = tt
four_askable P Q f h (Some x) None c d p = tt
four_askable P Q f h (Some x) (Some y) None d p = tt
four_askable P Q f h (Some x) (Some y) (Some z) None p = tt
four_askable P Q f h (Some x) (Some y) (Some z) (Some u) p = h x y z u p

-- whatever is there
abbrev Whatever : {A : Type 0} → A → Type 0
Whatever x = Unit {0}

whatever : {A : Type 0} (o : Option A) → IfSome o (λ x. Whatever x)
whatever None = tt
whatever (Some x) = tt

-- ---- what is begun

at_most : (n m : ℕ) → nat_le n m ≡ true → n ≤ m
at_most n m e = grind (arith, nat_tests)

-- a word isn't empty
named : (w : Bytes) → IfSome (name_in w) (λ t. 1 ≤ length t)
named w = go (is_word w) refl
  where
    go : (b : Bool) → is_word w ≡ b → IfSome (if b then Some w else None) (λ t. 1 ≤ length t)
    go true i = at_most 1 (length w) (and_parts (nat_le 1 (length w)) (list_all is_visible w) i).0
    go false i = tt

publish_askable : (ws : List Bytes) → IfSome (publish_in ws) IsAskable
publish_askable (x ∷ k ∷ p ∷ t ∷ j ∷ js) = four_askable (λ t. 1 ≤ length t) IsAskable _ (λ x k p t h. h) (dashed_in x) (dashed_in k) (number_in 0 255 p) (name_in t) (named t)
publish_askable other = tt

some : (q : Bytes) (qs : List Bytes) → 1 ≤ length (q ∷ qs)
some q qs = omega arith

-- from one queue to as many as a line may name
abbrev AreFew : List Bytes → Type 0
AreFew qs = (1 ≤ length qs) × (length qs ≤ 1023)

few : (ws : List Bytes) → IfSome (queues_in ws) AreFew
few [] = tt
few (q ∷ qs) = by (list_all is_word (q ∷ qs)) (nat_le (length (q ∷ qs)) 1023) refl
  where
    by : (a b : Bool) → nat_le (length (q ∷ qs)) 1023 ≡ b → IfSome (if a && b then Some (q ∷ qs) else None) AreFew
    by false b e = tt
    by true false e = tt
    by true true e = (some q qs, at_most (length (q ∷ qs)) 1023 e)

declare_askable : (f : Bytes → Bytes → Bytes → Bytes → Asked) → ((x k p q : Bytes) → IsAskable (f x k p q)) → (ws : List Bytes) → IfSome (declare_in f ws) IsAskable
declare_askable f h (x ∷ k ∷ p ∷ q ∷ []) =
    either_askable IsAskable (bytes_eq x (codes "-")) None _ tt (four_askable (λ q. Whatever q) IsAskable f (λ x k p q w. h x k p q) (name_in x) (dashed_in k) (dashed_in p) (name_in q) (whatever (name_in q)))
declare_askable f h other = tt

tagged_askable : (f : ℕ → ℕ → Asked) → ((a b : ℕ) → IsAskable (f a b)) → (ws : List Bytes) → IfSome (tagged_in f ws) IsAskable
tagged_askable f h (t ∷ []) = one_askable (λ p. Whatever p) IsAskable (λ p. f p.0 p.1) (λ p w. h p.0 p.1) (tag_in t) (whatever (tag_in t))
tagged_askable f h other = tt

pass_askable : (ws : List Bytes) → IfSome (pass_in ws) IsAskable
pass_askable (v ∷ []) = one_askable (λ n. Whatever n) IsAskable Pass (λ n w. tt) (number_in 0 (2 ^ 32 - 1) v) (whatever (number_in 0 (2 ^ 32 - 1) v))
pass_askable other = tt

asked_askable : (w : Bytes) (ws : List Bytes) → IfSome (asked_in w ws) IsAskable
asked_askable w ws =
    either_askable IsAskable (bytes_eq w (codes "publish")) (publish_in ws) _ (publish_askable ws)
    (either_askable IsAskable (bytes_eq w (codes "declare")) (declare_in Declare ws) _ (declare_askable Declare (λ x k p q. tt) ws)
    (either_askable IsAskable (bytes_eq w (codes "undeclare")) (declare_in Undeclare ws) _ (declare_askable Undeclare (λ x k p q. tt) ws)
    (either_askable IsAskable (bytes_eq w (codes "pop")) (made_of_one Pop (queues_in ws)) _ (one_askable AreFew IsAskable Pop (λ qs h. h) (queues_in ws) (few ws))
    (either_askable IsAskable (bytes_eq w (codes "ack")) (tagged_in Ack ws) _ (tagged_askable Ack (λ a b. tt) ws)
    (either_askable IsAskable (bytes_eq w (codes "restore")) (tagged_in Restore ws) _ (tagged_askable Restore (λ a b. tt) ws)
    (either_askable IsAskable (bytes_eq w (codes "requeue")) (tagged_in Requeue ws) _ (tagged_askable Requeue (λ a b. tt) ws)
    (either_askable IsAskable (bytes_eq w (codes "pass")) (pass_in ws) None (pass_askable ws) tt)))))))

-- ---- lines

client_askable : (ws : List Bytes) → IfSome (client_line ws) IsAskableLine
client_askable (c ∷ k ∷ s ∷ []) = either_askable IsAskableLine (bytes_eq k (codes "seed")) (made_of_two Client (client_in c) (seed_in s)) None (two_askable (λ s. Whatever s) IsAskableLine Client (λ c s w. tt) (client_in c) (seed_in s) (whatever (seed_in s))) tt
client_askable other = tt

at_askable : (ws : List Bytes) → IfSome (at_line ws) IsAskableLine
at_askable (m ∷ []) = one_askable (λ m. Whatever m) IsAskableLine At (λ m w. tt) (moment_in m) (whatever (moment_in m))
at_askable other = tt

of_askable : (f : ℕ → Line) → ((n : ℕ) → IsAskableLine (f n)) → (ws : List Bytes) → IfSome (of_client f ws) IsAskableLine
of_askable f h (c ∷ []) = one_askable (λ n. Whatever n) IsAskableLine f (λ n w. h n) (client_in c) (whatever (client_in c))
of_askable f h other = tt

begin_askable : (ws : List Bytes) → IfSome (begin_line ws) IsAskableLine
begin_askable [] = tt
begin_askable (c ∷ []) = tt
begin_askable (c ∷ w ∷ ws) = two_askable IsAskable IsAskableLine Begin (λ c a h. h) (client_in c) (asked_in w ws) (asked_askable w ws)

line_askable : (ws : List Bytes) → IfSome (line_in ws) IsAskableLine
line_askable [] = tt
line_askable (w ∷ ws) =
    either_askable IsAskableLine (bytes_eq w (codes "client")) (client_line ws) _ (client_askable ws)
    (either_askable IsAskableLine (bytes_eq w (codes "at")) (at_line ws) _ (at_askable ws)
    (either_askable IsAskableLine (bytes_eq w (codes "begin")) (begin_line ws) _ (begin_askable ws)
    (either_askable IsAskableLine (bytes_eq w (codes "step")) (of_client Step ws) _ (of_askable Step (λ n. tt) ws)
    (either_askable IsAskableLine (bytes_eq w (codes "run")) (of_client Run ws) _ (of_askable Run (λ n. tt) ws)
    (either_askable IsAskableLine (bytes_eq w (codes "stop")) (of_client Stop ws) None (of_askable Stop (λ n. tt) ws) tt)))))

-- what the line that words spell begins can be asked for
pub askable : (ws : List Bytes) (l : Line) → line_in ws ≡ Some l → IsAskableLine l
askable ws l e = subst (λ o. IfSome o IsAskableLine) e (line_askable ws)
