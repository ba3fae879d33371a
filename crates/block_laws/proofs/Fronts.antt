-- Scripts and fronts of blocks.
use Rattle.std.proofs.Common.{◌≡◌, ◌⊎◌, inl, inr, ℕ, ◌<◌, ◌^◌, refl, ap, sym, ◌∙◌, subst, List, [], ◌∷◌, ◌++◌, append_assoc, Some, lit<}
use Rattle.std.proofs.lemmas.List.{append-nil}
use Rattle.wire_values.specs.declared.value.Value.{Value}
use Rattle.store_model.specs.Words.{Words}
use Rattle.command_blocks.specs.Setting.{Setting}
use Rattle.command_blocks.specs.Calls.{Call, call, concat}
use Rattle.command_blocks.specs.Blocks.{CounterUse, drawn, passes_after, IsBlock, AreBlocks, IsFrontOfBlocks}
use Rattle.command_blocks.specs.Scripts.{Script, Over, Off, Say, after_call, rest_of, IsSaid}
use Rattle.block_laws.specs.Rows.{IsGood, AreTimely}

-- ---- calls by a script, and then calls by what is left of it

pub said-append : (p : Script) (xs ys : List Call) → IsSaid p xs → IsSaid (rest_of p xs) ys → IsSaid p (xs ++ ys)
said-append p [] ys h k = k
said-append p (x ∷ xs) ys h k = (h.0, said-append (after_call p x) xs ys h.1 k)

pub rest-append : (p : Script) (xs ys : List Call) → rest_of p (xs ++ ys) ≡ rest_of (rest_of p xs) ys
rest-append p [] ys = refl
rest-append p (x ∷ xs) ys = rest-append (after_call p x) xs ys

pub timely-append : (xs ys : List Call) → AreTimely xs → AreTimely ys → AreTimely (xs ++ ys)
timely-append [] ys h k = k
timely-append (x ∷ xs) ys h k = (h.0, timely-append xs ys h.1 k)

-- ---- good scripts

-- a good script can be said to its end
pub end_of : (p : Script) → IsGood p → (ys : List Call) × AreTimely ys × IsSaid p ys × (rest_of p ys ≡ Over)
end_of Over g = ([], tt, tt, refl)
end_of Off g = absurd g
end_of (Say w go) g =
    let more = end_of (go g.0.0) g.0.1 in
    (call 0 (w 0) g.0.0 ∷ more.0, (lit< tt, more.1), (refl, more.2), more.3)

-- a good script isn't off
pub good_on : (p : Script) → IsGood p → p ≡ Off → ⊥
good_on p g e = subst IsGood e g

-- the last of these calls got an answer that isn't listed, and with a listed one the script could have been said to its end
pub record IsPutOff (p : Script) (xs : List Call) : Type 0 where
  pub before : List Call
  pub last : Call
  pub listed : Value
  pub is : xs ≡ before ++ last ∷ []
  pub more : List Call
  pub timely : AreTimely (before ++ call last.at last.words listed ∷ more)
  pub said : IsSaid p (before ++ call last.at last.words listed ∷ more)
  pub over : rest_of p (before ++ call last.at last.words listed ∷ more) ≡ Over

-- a call before
later : (w : ℕ → Words) (go : Value → Script) (x : Call) (xs : List Call) → x.at < 2 ^ 40 → Some (w x.at) ≡ Some x.words → IsPutOff (go x.answer) xs → IsPutOff (Say w go) (x ∷ xs)
later w go x xs at words h = record {
  before = x ∷ h.before;
  last = h.last;
  listed = h.listed;
  is = ap (λ l. x ∷ l) h.is;
  more = h.more;
  timely = (at, h.timely);
  said = (words, h.said);
  over = h.over;
}

-- nothing is said after an answer that isn't listed
off_silent : (xs : List Call) → IsSaid Off xs → xs ≡ []
off_silent [] h = refl
off_silent (x ∷ xs) h = let e = h.0 in cc

-- what is left of a good script is good, or its last answer put it off
pub rest_good : (p : Script) (xs : List Call) → IsGood p → AreTimely xs → IsSaid p xs → IsGood (rest_of p xs) ⊎ ((rest_of p xs ≡ Off) × IsPutOff p xs)
rest_good p [] g timely said = inl g
rest_good Over (x ∷ xs) g timely said = let e = said.0 in cc
rest_good Off (x ∷ xs) g timely said = absurd g
rest_good (Say w go) (x ∷ xs) g timely said = by (g.1 x.answer) (λ k. rest_good (go x.answer) xs k timely.1 said.1) where
  now : go x.answer ≡ Off → (rest_of (go x.answer) xs ≡ Off) × IsPutOff (Say w go) (x ∷ xs)
  now e =
      let none = off_silent xs (subst (λ q. IsSaid q xs) e said.1) in
      let more = end_of (go g.0.0) g.0.1 in (
        ap (rest_of (go x.answer)) none ∙ e,
        record {
          before = [];
          last = x;
          listed = g.0.0;
          is = ap (λ l. x ∷ l) none;
          more = more.0;
          timely = (timely.0, more.1);
          said = (said.0, more.2);
          over = more.3;
        },
      )

  by : (go x.answer ≡ Off) ⊎ IsGood (go x.answer) → (IsGood (go x.answer) → IsGood (rest_of (go x.answer) xs) ⊎ ((rest_of (go x.answer) xs ≡ Off) × IsPutOff (go x.answer) xs))
      → IsGood (rest_of (go x.answer) xs) ⊎ ((rest_of (go x.answer) xs ≡ Off) × IsPutOff (Say w go) (x ∷ xs))
  by (inl e) f = inr (now e)
  by (inr k) f = on (f k) where
    on : IsGood (rest_of (go x.answer) xs) ⊎ ((rest_of (go x.answer) xs ≡ Off) × IsPutOff (go x.answer) xs) → IsGood (rest_of (go x.answer) xs) ⊎ ((rest_of (go x.answer) xs ≡ Off) × IsPutOff (Say w go) (x ∷ xs))
    on (inl h) = inl h
    on (inr h) = inr (h.0, later w go x xs timely.0 said.0 h.1)

-- ---- blocks one after the other

-- from the counters n and p to the counters m and q
abbrev pub BlocksTo : Setting → ℕ → ℕ → ℕ → List (List Call) → ℕ → ℕ → Type 0
BlocksTo σ s n p [] m q = (n ≡ m) × (p ≡ q)
BlocksTo σ s n p (b ∷ bs) m q = (k : CounterUse) × IsBlock σ s n p k b × BlocksTo σ s (drawn k n) (passes_after k p) bs m q

-- one block more
pub blocks_more : (σ : Setting) (s n p : ℕ) (bs : List (List Call)) (m q : ℕ) (k : CounterUse) (b : List Call) → BlocksTo σ s n p bs m q → IsBlock σ s m q k b → BlocksTo σ s n p (bs ++ b ∷ []) (drawn k m) (passes_after k q)
blocks_more σ s n p [] m q k b h one = (k, subst (λ x. IsBlock σ s x p k b) (sym h.0) (subst (λ y. IsBlock σ s m y k b) (sym h.1) one), (ap (drawn k) h.0, ap (passes_after k) h.1))
blocks_more σ s n p (c ∷ cs) m q k b h one = (h.0, h.1, blocks_more σ s (drawn h.0 n) (passes_after h.0 p) cs m q k b h.2 one)

-- they are blocks
pub blocks_of : (σ : Setting) (s n p : ℕ) (bs : List (List Call)) (m q : ℕ) → BlocksTo σ s n p bs m q → AreBlocks σ s n p bs
blocks_of σ s n p [] m q h = tt
blocks_of σ s n p (b ∷ bs) m q h = (h.0, h.1, blocks_of σ s (drawn h.0 n) (passes_after h.0 p) bs m q h.2)

pub concat_more : (bs : List (List Call)) (b : List Call) → concat (bs ++ b ∷ []) ≡ concat bs ++ b
concat_more [] b = append-nil b
concat_more (c ∷ cs) b = ap (λ l. c ++ l) (concat_more cs b) ∙ sym (append_assoc c (concat cs) b)

-- whole blocks are a front
pub whole_front : (σ : Setting) (s m q : ℕ) (bs : List (List Call)) → BlocksTo σ s 0 0 bs m q → IsFrontOfBlocks σ s (concat bs)
whole_front σ s m q bs h = (bs, blocks_of σ s 0 0 bs m q h, ([], append-nil (concat bs)))

-- and so they are with a part of one more
pub part_front : (σ : Setting) (s m q : ℕ) (bs : List (List Call)) (k : CounterUse) (part more : List Call) → BlocksTo σ s 0 0 bs m q → IsBlock σ s m q k (part ++ more) → IsFrontOfBlocks σ s (concat bs ++ part)
part_front σ s m q bs k part more h b =
    let all = blocks_more σ s 0 0 bs m q k (part ++ more) h b in
    (bs ++ (part ++ more) ∷ [], blocks_of σ s 0 0 (bs ++ (part ++ more) ∷ []) (drawn k m) (passes_after k q) all, (more, append_assoc (concat bs) part more ∙ sym (concat_more bs (part ++ more))))
