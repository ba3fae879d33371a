-- Clients that are gone.
use Rattle.std.proofs.Common.{◌≡◌, ℕ, List, [], ◌∷◌, ◌++◌, false, refl, ap, ◌∙◌}
use Rattle.std.specs.Prelude.{◌==◌, ◌||◌}
use Rattle.store_model.specs.declared.reply.Reply.{Reply}
use Rattle.place_model.specs.Shown.{has_stopped}
use Rattle.place_model.specs.declared.heard.Heard.{Heard}
use Rattle.place_model.specs.declared.history.Entry.{Entry}
use Rattle.place_model.specs.declared.history.Entry.TheVariants.{Call, Heard as Noted, Stop}

-- after one more call just those are gone who were
stopped_as_before : (k : ℕ) (es : List (Entry Heard)) (c at : ℕ) (words : List (List ℕ)) (reply : Reply) → has_stopped k (es ++ Call c at words reply ∷ []) ≡ has_stopped k es
stopped_as_before k [] c at words reply = refl
stopped_as_before k (Call d m ws r ∷ es) c at words reply = stopped_as_before k es c at words reply
stopped_as_before k (Noted d note ∷ es) c at words reply = stopped_as_before k es c at words reply
stopped_as_before k (Stop d ∷ es) c at words reply = ap (λ b. (d == k) || b) (stopped_as_before k es c at words reply)

-- so it is where the entries are these
pub gone_as_before : (k : ℕ) (es fs : List (Entry Heard)) (c at : ℕ) (words : List (List ℕ)) (reply : Reply) → fs ≡ es ++ Call c at words reply ∷ [] → has_stopped k fs ≡ has_stopped k es
gone_as_before k es fs c at words reply grown = ap (has_stopped k) grown ∙ stopped_as_before k es c at words reply

-- after one more stop just those others are gone who were
others_as_before : (k : ℕ) (es : List (Entry Heard)) (c : ℕ) → (c == k) ≡ false → has_stopped k (es ++ Stop c ∷ []) ≡ has_stopped k es
others_as_before k [] c e = ap (λ b. b || false) e
others_as_before k (Call d m ws r ∷ es) c e = others_as_before k es c e
others_as_before k (Noted d note ∷ es) c e = others_as_before k es c e
others_as_before k (Stop d ∷ es) c e = ap (λ b. (d == k) || b) (others_as_before k es c e)

pub others_gone_as_before : (k : ℕ) (es fs : List (Entry Heard)) (c : ℕ) → fs ≡ es ++ Stop c ∷ [] → (c == k) ≡ false → has_stopped k fs ≡ has_stopped k es
others_gone_as_before k es fs c grown e = ap (has_stopped k) grown ∙ others_as_before k es c e
