-- The test of commands that concern no message.
use Rattle.std.proofs.Common.{◌≡◌, Bool, true, false, ◌&&◌, ◌||◌, ◌⊎◌, inl, inr, List, [], ◌∷◌, codes, refl, subst, ap, ◌∙◌}
use Rattle.std.proofs.lemmas.Slice.Eq.{bytes_eq-Decides}
use Rattle.store_model.specs.Words.{Words}
use Rattle.queue_keys.specs.Names.{Bytes, same}
use Rattle.command_blocks.specs.Blocks.{IsNeutral, Pings, Selects, Measures, Subscribes, Unsubscribes, Announces, Replies, Receives, Limits}
use Rattle.command_blocks.specs.EnvelopeTexts.{plain_setting}
use Rattle.command_blocks.specs.Setting.{control_channel}
use Rattle.steps.specs.Neutrals.{is_neutral, is_neutral_pair, is_neutral_triple}

same-refl : (v : Bytes) → same v v ≡ true
unfolding same
same-refl v = (bytes_eq-Decides v v).1 refl

same_is : (v w : Bytes) → same v w ≡ true → v ≡ w
unfolding same
same_is v w e = (bytes_eq-Decides v w).0 e

both : (a b : Bool) → (a && b) ≡ true → (a ≡ true) × (b ≡ true)
both true b e = (refl, e)
both false b e = cc

either : (a b : Bool) → (a || b) ≡ true → (a ≡ true) ⊎ (b ≡ true)
either true b e = inl refl
either false b e = inr e

and_of : (a b : Bool) → a ≡ true → b ≡ true → (a && b) ≡ true
and_of a b e f = ap (λ x. x && b) e ∙ f

or_left : (a b : Bool) → a ≡ true → (a || b) ≡ true
or_left a b e = ap (λ x. x || b) e

or_right : (a b : Bool) → b ≡ true → (a || b) ≡ true
or_right true b e = refl
or_right false b e = e

abbrev Neutral : Words → Type 0
Neutral words = IsNeutral plain_setting words

-- ---- what the test finds

pair_is : (a b : Bytes) → is_neutral_pair a b ≡ true → Neutral (a ∷ b ∷ [])
pair_is a b e = by (either (same (codes "LLEN") a || same (codes "SELECT") a && same (codes "0") b) ((same (codes "SUBSCRIBE") a || same (codes "UNSUBSCRIBE") a) && same control_channel b) e) where
  on_channel : (same (codes "SUBSCRIBE") a ≡ true) ⊎ (same (codes "UNSUBSCRIBE") a ≡ true) → same control_channel b ≡ true → Neutral (a ∷ b ∷ [])
  on_channel (inl x) y = subst (λ z. Neutral (z ∷ b ∷ [])) (same_is (codes "SUBSCRIBE") a x) (subst (λ z. Neutral (codes "SUBSCRIBE" ∷ z ∷ [])) (same_is control_channel b y) Subscribes)
  on_channel (inr x) y = subst (λ z. Neutral (z ∷ b ∷ [])) (same_is (codes "UNSUBSCRIBE") a x) (subst (λ z. Neutral (codes "UNSUBSCRIBE" ∷ z ∷ [])) (same_is control_channel b y) Unsubscribes)

  first : (same (codes "LLEN") a ≡ true) ⊎ ((same (codes "SELECT") a && same (codes "0") b) ≡ true) → Neutral (a ∷ b ∷ [])
  first (inl x) = subst (λ z. Neutral (z ∷ b ∷ [])) (same_is (codes "LLEN") a x) (Measures b)
  first (inr x) = let y = both (same (codes "SELECT") a) (same (codes "0") b) x in
      subst (λ z. Neutral (z ∷ b ∷ [])) (same_is (codes "SELECT") a y.0) (subst (λ z. Neutral (codes "SELECT" ∷ z ∷ [])) (same_is (codes "0") b y.1) Selects)

  by : ((same (codes "LLEN") a || same (codes "SELECT") a && same (codes "0") b) ≡ true) ⊎ (((same (codes "SUBSCRIBE") a || same (codes "UNSUBSCRIBE") a) && same control_channel b) ≡ true) → Neutral (a ∷ b ∷ [])
  by (inl x) = first (either (same (codes "LLEN") a) (same (codes "SELECT") a && same (codes "0") b) x)
  by (inr x) = let y = both (same (codes "SUBSCRIBE") a || same (codes "UNSUBSCRIBE") a) (same control_channel b) x in
      on_channel (either (same (codes "SUBSCRIBE") a) (same (codes "UNSUBSCRIBE") a) y.0) y.1

replies_is : (a b c : Bytes) (ws : List Bytes) → same (codes "LPUSH") a ≡ true → plain_setting.is_reply b ≡ true → Neutral (a ∷ b ∷ c ∷ ws)
replies_is a b c ws e r = subst (λ z. Neutral (z ∷ b ∷ c ∷ ws)) (same_is (codes "LPUSH") a e) (Replies b c ws r)

triple_is : (a b c : Bytes) → is_neutral_triple a b ≡ true → Neutral (a ∷ b ∷ c ∷ [])
triple_is a b c e = by (either (same (codes "PUBLISH") a && same control_channel b) ((same (codes "LPUSH") a || same (codes "BRPOP") a || same (codes "EXPIRE") a) && plain_setting.is_reply b) e) where
  on_reply : ((same (codes "LPUSH") a || same (codes "BRPOP") a) ≡ true) ⊎ (same (codes "EXPIRE") a ≡ true) → plain_setting.is_reply b ≡ true → Neutral (a ∷ b ∷ c ∷ [])
  on_reply (inr x) r = subst (λ z. Neutral (z ∷ b ∷ c ∷ [])) (same_is (codes "EXPIRE") a x) (Limits b c r)
  on_reply (inl x) r = first (either (same (codes "LPUSH") a) (same (codes "BRPOP") a) x) where
    first : (same (codes "LPUSH") a ≡ true) ⊎ (same (codes "BRPOP") a ≡ true) → Neutral (a ∷ b ∷ c ∷ [])
    first (inl y) = replies_is a b c [] y r
    first (inr y) = subst (λ z. Neutral (z ∷ b ∷ c ∷ [])) (same_is (codes "BRPOP") a y) (Receives b c r)

  by : ((same (codes "PUBLISH") a && same control_channel b) ≡ true) ⊎ (((same (codes "LPUSH") a || same (codes "BRPOP") a || same (codes "EXPIRE") a) && plain_setting.is_reply b) ≡ true) → Neutral (a ∷ b ∷ c ∷ [])
  by (inl x) = let y = both (same (codes "PUBLISH") a) (same control_channel b) x in
      subst (λ z. Neutral (z ∷ b ∷ c ∷ [])) (same_is (codes "PUBLISH") a y.0) (subst (λ z. Neutral (codes "PUBLISH" ∷ z ∷ c ∷ [])) (same_is control_channel b y.1) (Announces c))
  by (inr x) = let y = both (same (codes "LPUSH") a || same (codes "BRPOP") a || same (codes "EXPIRE") a) (plain_setting.is_reply b) x in
      on_reply (either (same (codes "LPUSH") a || same (codes "BRPOP") a) (same (codes "EXPIRE") a) y.0) y.1

pub found : (words : Words) → is_neutral words ≡ true → Neutral words
found [] e = cc
found (a ∷ []) e = subst (λ z. Neutral (z ∷ [])) (same_is (codes "PING") a e) Pings
found (a ∷ b ∷ []) e = pair_is a b e
found (a ∷ b ∷ c ∷ []) e = triple_is a b c e
found (a ∷ b ∷ c ∷ d ∷ ws) e = let x = both (same (codes "LPUSH") a) (plain_setting.is_reply b) e in replies_is a b c (d ∷ ws) x.0 x.1

-- ---- and all of them

replied : (name b : Bytes) → (same (codes "LPUSH") name || same (codes "BRPOP") name || same (codes "EXPIRE") name) ≡ true → plain_setting.is_reply b ≡ true → is_neutral_triple name b ≡ true
replied name b e r = or_right (same (codes "PUBLISH") name && same control_channel b) _ (and_of _ (plain_setting.is_reply b) e r)

pub all_found : (words : Words) → Neutral words → is_neutral words ≡ true
all_found words Pings = same-refl (codes "PING")
all_found words Selects = or_left _ _ (or_right (same (codes "LLEN") (codes "SELECT")) _ (and_of _ _ (same-refl (codes "SELECT")) (same-refl (codes "0"))))
all_found words (Measures k) = or_left _ _ (or_left _ _ (same-refl (codes "LLEN")))
all_found words Subscribes = or_right _ _ (and_of _ _ (or_left _ _ (same-refl (codes "SUBSCRIBE"))) (same-refl control_channel))
all_found words Unsubscribes = or_right _ _ (and_of _ _ (or_right _ _ (same-refl (codes "UNSUBSCRIBE"))) (same-refl control_channel))
all_found words (Announces m) = or_left _ _ (and_of _ _ (same-refl (codes "PUBLISH")) (same-refl control_channel))
all_found words (Replies k v [] r) = replied (codes "LPUSH") k (or_left _ _ (or_left _ _ (same-refl (codes "LPUSH")))) r
all_found words (Replies k v (w ∷ ws) r) = and_of _ _ (same-refl (codes "LPUSH")) r
all_found words (Receives k w r) = replied (codes "BRPOP") k (or_left _ _ (or_right _ _ (same-refl (codes "BRPOP")))) r
all_found words (Limits k s r) = replied (codes "EXPIRE") k (or_right _ _ (same-refl (codes "EXPIRE"))) r
