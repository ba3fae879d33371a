-- Tests of asks, and lists without an element.
use Rattle.std.proofs.Common.{◌≡◌, ◌<◌, ◌≤◌, ◌∙◌, ℕ, Bool, true, false, List, [], ◌∷◌, Option, None, Some, ap, arith, codes, drop, get_or, length, refl, suc, sym, take, ◌-◌}
use Rattle.store_model.specs.Words.{Words}
use Rattle.queue_keys.specs.Layouts.{plain}
use Rattle.queue_keys.specs.Names.{Bytes}
use Rattle.command_blocks.specs.Calls.{push_word}
use Rattle.command_blocks.specs.EnvelopeTexts.{plain_setting}
use Rattle.command_blocks.specs.declared.side.Side.{Side}
use Rattle.manner_laws.specs.Cursor.{ask_at, if_said, only_if, same_words, side_for}
use Rattle.manner_laws.specs.LayoutKeys.{exchange_of_key}
use Rattle.manner_laws.specs.Spots.{Ask, Job, Putting, Queueing, job_tag, sided}
use Rattle.client_spots.specs.Stands.{return_begun, job_by, return_removed}
use Rattle.client_spots.specs.declared.spot.Tried.{Tried}
use Rattle.client_spots.specs.declared.spot.Tried.TheVariants as tried

pub first_off : (b : Bool) (o : Option Ask) → b ≡ false → only_if b o ≡ None
first_off true o e = cc
first_off false o e = refl

pub second_off : (b s : Bool) (q : Ask) → s ≡ false → only_if b (only_if s (Some q)) ≡ None
second_off true true q e = cc
second_off true false q e = refl
second_off false s q e = refl

pub both_on : (b s : Bool) (q : Ask) → b ≡ true → s ≡ true → only_if b (only_if s (Some q)) ≡ Some q
both_on true true q e f = refl
both_on true false q e f = cc
both_on false s q e f = cc

pub no_element : {A : Type 0} (l : List A) → length l < 1 → l ≡ []
no_element [] e = refl
no_element (x ∷ xs) e = absurd (omega (arith, e))

pub first_on : (b : Bool) (o : Option Ask) → b ≡ true → only_if b o ≡ o
first_on true o e = refl
first_on false o e = cc

pub job_tag_is : (k : Tried) (t : Bytes) (ts : List Bytes) → job_tag (job_by k t ts) ≡ t
job_tag_is tried.Open t ts = refl
job_tag_is tried.Left t ts = refl
job_tag_is tried.Right t ts = refl
job_tag_is tried.OfPass t ts = refl

-- whether words name the tag that is returned
module _ (name key tag : Bytes) (k : Tried) (ts : List Bytes) (w : Words) (x : Bytes) (res b : Bool) (said : res ≡ same_words (name ∷ key ∷ x ∷ []) w) (named : x ≡ tag) (is : res ≡ b) where
  pub job_said : (q : Ask) → if_said (name ∷ key ∷ job_tag (job_by k tag ts) ∷ []) w q ≡ only_if b (Some q)
  job_said q = ap (λ c. only_if c (Some q)) (ap (λ t. same_words (name ∷ key ∷ t ∷ []) w) (job_tag_is k tag ts ∙ sym named) ∙ sym said ∙ is)

none_in : {P : Type 0} → 1 ≤ length {A = Bytes} [] → P
none_in e = absurd (omega (arith, e))

-- where a return's transaction begins, and where the index has its message no more
module _ (n p at seed : ℕ) (j : Job) (k : ℕ) (v : Bytes) (w : Words) (b : Bool) where
  pub begun_said : (keys : List Bytes) → 1 ≤ length keys → ((q : Ask) → if_said (codes "ZREM" ∷ plain_setting.index ∷ job_tag j ∷ []) w q ≡ only_if b (Some q))
      → ask_at plain_setting (exchange_of_key plain) seed (return_begun n p j k v keys) at w ≡ only_if b (Some (Queueing (return_removed n p j k v keys)))
  begun_said [] some said = none_in some
  begun_said (q ∷ qs) some said = said (Queueing (return_removed n p j k v (q ∷ qs)))

  pub removed_said : (keys : List Bytes) → 1 ≤ length keys → ((q : Ask) → if_said (codes "HDEL" ∷ plain_setting.unacked ∷ job_tag j ∷ []) w q ≡ only_if b (Some q))
      → ask_at plain_setting (exchange_of_key plain) seed (return_removed n p j k v keys) at w ≡ only_if b (Some (Queueing (Putting n p j k v keys)))
  removed_said [] some said = none_in some
  removed_said (q ∷ qs) some said = said (Queueing (Putting n p j k v (q ∷ qs)))

all_of : (xs : List Bytes) → take (length xs) xs ≡ xs
all_of [] = refl
all_of (x ∷ xs) = ap (λ l. x ∷ l) (all_of xs)

one_less : (n : ℕ) → suc n - 1 ≡ n
one_less n = omega arith

first_key : (ks : List Bytes) (key : Bytes) (rest : List Bytes) → 1 ≤ length ks → key ≡ get_or ks 0 key → rest ≡ take (length ks - 1) (drop 1 ks) → ks ≡ key ∷ rest
first_key [] key rest some g r = none_in some
first_key (x ∷ xs) key rest some g r = λ i. sym g i ∷ sym (r ∙ ap (λ n. take n xs) (one_less (length xs)) ∙ all_of xs) i

-- a push of a return
module _ (n p at seed k : ℕ) (t : Tried) (tag : Bytes) (tags : List Bytes) (v : Bytes) (keys ks : List Bytes) (key : Bytes) (rest : List Bytes) (w : Words) (side : Side) (a b d : Bytes) (res : Bool) where
  pub putting_said : ks ≡ keys → 1 ≤ length ks → key ≡ get_or ks 0 key → rest ≡ take (length ks - 1) (drop 1 ks)
      → side ≡ side_for (job_by t tag tags) w → a ≡ push_word side → b ≡ key → d ≡ v → res ≡ same_words (a ∷ b ∷ d ∷ []) w → res ≡ true
      → ask_at plain_setting (exchange_of_key plain) seed (Putting n p (job_by t tag tags) k v keys) at w ≡ Some (Queueing (Putting n p (sided (job_by t tag tags) side) k v rest))
  putting_said same some g r side_is a_is b_is d_is said is_so =
      ap (λ l. ask_at plain_setting (exchange_of_key plain) seed (Putting n p (job_by t tag tags) k v l) at w) (sym same ∙ first_key ks key rest some g r)
      ∙ (ap (λ s. if_said (push_word s ∷ key ∷ v ∷ []) w (Queueing (Putting n p (sided (job_by t tag tags) s) k v rest))) (sym side_is)
      ∙ first_on (same_words (push_word side ∷ key ∷ v ∷ []) w) (Some (Queueing (Putting n p (sided (job_by t tag tags) side) k v rest)))
      ((λ i. same_words (sym a_is i ∷ sym b_is i ∷ sym d_is i ∷ []) w) ∙ (sym said ∙ is_so)))
