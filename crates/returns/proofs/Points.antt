-- A try from spot to spot: what is left after an answer.
use Rattle.std.proofs.Common.{◌≡◌, ◌<◌, ◌+◌, ◌==◌, ℕ, List, [], ◌∷◌, length, drop, get_or, subst, Bool, true, false, refl, sym, ap, ◌∙◌, Result, Ok, Err, if◌then◌else◌}
use Rattle.std.proofs.lemmas.List.{drop_more}
use Rattle.std.specs.declared.alloc.AllocError.{AllocError}
use Rattle.std.specs.Prelude.{IfOk}
use Rattle.envelope.specs.Entries.{EntryParts, entry_at}
use Rattle.queue_keys.specs.Names.{Bytes}
use Rattle.command_blocks.specs.Scripts.{Script, Off}
use Rattle.block_core.specs.declared.stage.Progress.{Progress}
use Rattle.block_core.specs.declared.stage.Progress.TheVariants as found
use Rattle.returns.specs.Spots.{entry_left, sent_left, tried_left, trying_left}
use Rattle.returns.specs.declared.carried.Carried.{Carried}
use Rattle.returns.specs.declared.returned.Returned.{Returned}
use Rattle.returns.specs.declared.spot.Aim.{Aim}
use Rattle.returns.specs.declared.trying.Trying.{Trying}

-- a try that goes on where an answer is a listed one
pub listed : (ended stuck : Script) (p : Progress Trying Returned) (trying : Trying) (b c : Bool) (go : Script) → p ≡ (if b then found.Next trying else found.Refused) → b ≡ c → trying_left ended stuck trying ≡ go → tried_left ended stuck p ≡ (if c then go else Off)
listed ended stuck p trying b c go is e h = ap (tried_left ended stuck) is ∙ by b ∙ ap (λ x. if x then go else Off) e where
  by : (b : Bool) → tried_left ended stuck (if b then found.Next trying else found.Refused) ≡ (if b then go else Off)
  by true = h
  by false = refl

-- the push after so many is next
pub next_push : (words slice : List Bytes) (i : ℕ) → i < length slice → slice ≡ words → drop i words ≡ get_or words i [] ∷ drop (i + 1) words
next_push words slice i lt is = let more : (i < length words) = subst (λ (l : List Bytes). i < length l) is lt in drop_more words i [] more

-- some keys are there
pub some_of : (words slice : List Bytes) (b : Bool) → b ≡ (length slice == 0) → b ≡ false → slice ≡ words → words ≡ [] → ⊥
some_of words slice b e f is none = let no : true ≡ false = sym (e ∙ ap (λ (l : List Bytes). length l == 0) (is ∙ none)) ∙ f in absurd (cc no)

-- what was answered for a lookup holds of an entry without an exchange
pub of_lookup : (r : Result (Progress Trying Returned) AllocError) (aim : Aim) (e : EntryParts) (c d : Carried) → IfOk r (λ p. (ended stuck : Script) → tried_left ended stuck p ≡ sent_left ended stuck aim c []) → c ≡ d
    → ((ended stuck : Script) (u : Bytes) → entry_at u ≡ Ok e → sent_left ended stuck aim d [] ≡ entry_left ended stuck aim u) → IfOk r (λ p. (ended stuck : Script) (u : Bytes) → entry_at u ≡ Ok e → tried_left ended stuck p ≡ entry_left ended stuck aim u)
of_lookup (Ok p) aim e c d h is go = λ ended stuck u read. h ended stuck ∙ ap (λ (x : Carried). sent_left ended stuck aim x []) is ∙ go ended stuck u read
of_lookup (Err f) aim e c d h is go = tt
