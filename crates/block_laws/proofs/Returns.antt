-- Returns and passes: their scripts are good, and what was said by them is the block.
use Rattle.std.proofs.Common.{◌≡◌, ◌⊎◌, inl, inr, ℕ, ◌+◌, ◌<◌, zero, suc, List, [], ◌∷◌, ◌++◌, append_assoc, Bool, true, false, refl, ap, sym, subst, ◌∙◌, codes, arith, rules, if◌then◌else◌}
use Rattle.wire_values.specs.declared.value.Value.{Value}
use Rattle.wire_values.specs.declared.value.Value.TheVariants.{Bulk, NullBulk, NullArray}
use Rattle.store_model.specs.Replies.{done, queued, bulks}
use Rattle.store_model.specs.Words.{Words}
use Rattle.queue_keys.specs.Names.{Bytes, same}
use Rattle.command_blocks.specs.Answers.{integers, items_of, bulk_of}
use Rattle.command_blocks.specs.Setting.{Setting}
use Rattle.command_blocks.specs.Calls.{Call, call}
use Rattle.command_blocks.specs.ReturnBlocks.{ReturnEnd, Moved, Gone, Stayed, Contended, goes_on, reading, asking, leaving, Try, whole_try, IsTry, IsTries, Missing, Useless, Nowhere, Whole, Eighth, Again, IsReturnBlock}
use Rattle.command_blocks.specs.PassBlocks.{PassEnd, Held, Stuck, Done, IsReturns, All_returned, Returned, Returned_until, Ended_early, IsRelease, Own, Foreign, tags_among, lock_words, due_words, IsPassBlock, Is_held, Ran}
use Rattle.command_blocks.specs.Scripts.{Script, Over, Say, plainly, if_told, on_done, on_queued, on_texts, leave_script, try_script, tries_script, return_script, on_released, on_token, release_script, returns_script, on_locked, pass_script}
use Rattle.command_blocks.specs.declared.side.Side.{Side}
use Rattle.command_blocks.specs.declared.side.Side.TheVariants.{Right}
use Rattle.block_laws.specs.Rows.{IsGood}
use Rattle.block_laws.proofs.Values.{eq_true, eq_itself, bulk_is, items_are}
use Rattle.block_laws.proofs.Talks.{Talks, over_talks, say_talks, texts_talks, null_array_talks, null_bulk_talks, told_talks, status_talks, done_talks, queued_talks}
use Rattle.block_laws.proofs.Good.{if_on, told_on, status_on, done_good, queued_good, texts_good, null_array_good, null_bulk_good}
use Rattle.block_laws.proofs.Tries.{leave_good, tries_good, Follows, TriesTo, whole-append, try_talk}

-- ---- tries in a row

module _ (σ : Setting) (side : Side) (t : Bytes) (ended stuck : Script) where
  abbrev To : ℕ → List Call → Type 0
  To n xs = TriesTo σ side t ended stuck n xs

  failed_again : (n : ℕ) (y : Try) (ys : List Call) → n < 7 → IsTry σ t y → To (suc n) ys → To n (whole_try σ side t y NullArray ys)
  failed_again n y ys less fits more =
      (more.0, whole_try σ side t y NullArray more.1, more.2, whole-append σ side t y NullArray more.1 more.2 ∙ ap (whole_try σ side t y NullArray) more.3, Again n y more.0 more.1 less fits more.4, more.5)

  failed_last : (k : ℕ) → k ≡ 7 → (y : Try) (ys : List Call) → IsTry σ t y → Talks stuck ys → To k (whole_try σ side t y NullArray ys)
  failed_last k e y ys fits u =
      (Contended, whole_try σ side t y NullArray [], ys, whole-append σ side t y NullArray [] ys, subst (λ i. IsTries σ side t i Contended (whole_try σ side t y NullArray [])) (sym e) (Eighth y fits), inr (refl, u))

  -- a try, by what follows one that failed
  try_to : (failed : Script) (k : ℕ) → ((y : Try) (ys : List Call) → IsTry σ t y → Talks failed ys → To k (whole_try σ side t y NullArray ys)) → (xs : List Call) → Talks (try_script σ side t ended failed) xs → To k xs
  try_to failed k again = try_talk σ side t ended failed (To k)
      (λ a b c ys u. (Gone, reading σ t a b NullBulk (leaving c), ys, refl, Missing k a b c, inl (refl, u)))
      (λ a b c u ys no v. (Stayed, reading σ t a b (Bulk u) (leaving c), ys, refl, Useless k a b c u no, inl (refl, v)))
      (λ a b c d u v ms ys carries none w. (Stayed, reading σ t a b (Bulk u) (asking σ (σ.exchange_in u) c ms (leaving d)), ys, refl, Nowhere k a b c d u v ms carries none, inl (refl, w)))
      (λ y zs ys fits u. (Moved, whole_try σ side t y (integers zs) [], ys, whole-append σ side t y (integers zs) [] ys, Whole k y zs fits, inl (refl, u)))
      again

  pub tries_talk : (n k : ℕ) → k + suc n ≡ 8 → (xs : List Call) → Talks (tries_script σ side t ended stuck (suc n)) xs → To k xs
  tries_talk zero k is = try_to stuck k (failed_last k (omega arith))
  tries_talk (suc j) k is = try_to (tries_script σ side t ended stuck (suc j)) k (λ y ys fits u. failed_again k y ys (omega arith) fits (tries_talk j (suc k) (omega arith) ys u))

-- ---- returns

pub return_good : (σ : Setting) (side : Side) (t : Bytes) → IsGood (return_script σ side t)
return_good σ side t = tries_good σ side t Over Over tt tt 8

pub return_talk : (σ : Setting) (side : Side) (t : Bytes) → σ.is_tag t ≡ true → (xs : List Call) → Talks (return_script σ side t) xs → (end : ReturnEnd) × IsReturnBlock σ t side end xs
return_talk σ side t tag xs talk =
    let h = tries_talk σ side t Over Over 7 0 refl xs talk in
    (h.0, (tag, subst (IsTries σ side t 0 h.0) (over_talks (λ ys. h.1 ≡ h.1 ++ ys) (search rules) h.2 (over h.0 h.2 h.5) ∙ h.3) h.4)) where
      over : (end : ReturnEnd) (ys : List Call) → Follows Over Over end ys → Talks Over ys
      over end ys (inl f) = f.1
      over end ys (inr f) = f.1

-- ---- the release of a pass

released_good : IsGood (plainly (codes "EXEC" ∷ []) on_released)
released_good = null_array_good (codes "EXEC" ∷ []) Over (λ r. if_told (λ (vs : List Value). Over) (items_of r)) tt (λ r. told_on (λ (vs : List Value). Over) (λ vs. inr tt) (items_of r))

-- the mutex is the pass's own
abbrev own_script : Setting → Script
own_script σ =
    plainly (codes "MULTI" ∷ []) (on_done (
    plainly (codes "DEL" ∷ σ.mutex ∷ []) (on_queued (
    plainly (codes "EXEC" ∷ []) on_released))))

own_good : (σ : Setting) → IsGood (own_script σ)
own_good σ = done_good (codes "MULTI" ∷ []) _ (queued_good (λ at. codes "DEL" ∷ σ.mutex ∷ []) _ released_good)

pub release_good : (σ : Setting) (token : Bytes) → IsGood (release_script σ token)
release_good σ token =
    done_good (codes "WATCH" ∷ σ.mutex ∷ []) _
    (null_bulk_good (codes "GET" ∷ σ.mutex ∷ []) (leave_script Over) (λ r. if_told (λ u. if same u token then own_script σ else leave_script Over) (bulk_of r)) (leave_good Over tt)
    (λ r. told_on (λ u. if same u token then own_script σ else leave_script Over) (λ u. if_on (same u token) (own_script σ) (leave_script Over) (inr (own_good σ)) (inr (leave_good Over tt))) (bulk_of r)))

differs : (u token : Bytes) → same u token ≡ false → u ≡ token → ⊥
unfolding same
differs u token is e = let no : false ≡ true = sym is ∙ (ap (λ w. same w token) e ∙ eq_itself token) in absurd (cc no)

module _ (σ : Setting) (token : Bytes) where
  abbrev watch : Words
  watch = codes "WATCH" ∷ σ.mutex ∷ []

  abbrev get : Words
  get = codes "GET" ∷ σ.mutex ∷ []

  abbrev multi : Words
  multi = codes "MULTI" ∷ []

  abbrev del : Words
  del = codes "DEL" ∷ σ.mutex ∷ []

  abbrev exec : Words
  exec = codes "EXEC" ∷ []

  own_talk : (a b : ℕ) (u : Bytes) → same u token ≡ true → (xs : List Call) → Talks (own_script σ) xs → IsRelease σ token (call a watch done ∷ call b get (Bulk u) ∷ xs)
  unfolding same
  own_talk a b u is xs₀ t₀ = subst (λ w. IsRelease σ token (call a watch done ∷ call b get (Bulk w) ∷ xs₀)) (sym (eq_true u token is))
      (done_talks multi (plainly del (on_queued (plainly exec on_released))) P (λ c xs t₁. queued_talks (λ at. del) (plainly exec on_released) (λ l. P (call c multi done ∷ l)) (λ d xs _ t₂.
      say_talks (λ at. exec) on_released (λ l. P (call c multi done ∷ call d del queued ∷ l)) (λ e r xs _ t₃. null_array_talks Over (if_told (λ (vs : List Value). Over) (items_of r)) r xs t₃ (λ x. P (call c multi done ∷ call d del queued ∷ call e exec x ∷ xs))
      (over_talks (λ l. P (call c multi done ∷ call d del queued ∷ call e exec NullArray ∷ l)) (Own a b c d e NullArray (inr refl)) xs)
      (λ t₄. let h = told_talks (λ (vs : List Value). Over) (items_of r) xs t₄ in
      over_talks (λ l. P (call c multi done ∷ call d del queued ∷ call e exec r ∷ l)) (Own a b c d e r (inl (h.0, items_are r h.0 h.1))) xs h.2)) xs t₂) xs t₁) xs₀ t₀) where
        P : List Call → Type 0
        P l = IsRelease σ token (call a watch done ∷ call b get (Bulk token) ∷ l)

  foreign_talk : (a b : ℕ) (r : Value) → ((u : Bytes) × (r ≡ Bulk u) × (u ≡ token → ⊥)) ⊎ (r ≡ NullBulk) → (xs : List Call) → Talks (leave_script Over) xs → IsRelease σ token (call a watch done ∷ call b get r ∷ xs)
  foreign_talk a b r why = done_talks (codes "UNWATCH" ∷ []) Over (λ l. IsRelease σ token (call a watch done ∷ call b get r ∷ l)) (λ c ys.
      over_talks (λ l. IsRelease σ token (call a watch done ∷ call b get r ∷ call c (codes "UNWATCH" ∷ []) done ∷ l)) (Foreign a b c r why) ys)

  got_talk : (a b : ℕ) (u : Bytes) (xs : List Call) (yes : Bool) → same u token ≡ yes → Talks (if yes then own_script σ else leave_script Over) xs → IsRelease σ token (call a watch done ∷ call b get (Bulk u) ∷ xs)
  got_talk a b u xs true is t = own_talk a b u is xs t
  got_talk a b u xs false is t = foreign_talk a b (Bulk u) (inl (u, refl, differs u token is)) xs t

  pub release_talk : (xs : List Call) → Talks (release_script σ token) xs → IsRelease σ token xs
  release_talk = done_talks watch (plainly get (on_token σ token)) (IsRelease σ token) (λ a xs t₁. say_talks (λ at. get) (on_token σ token) (λ l. IsRelease σ token (call a watch done ∷ l)) (λ b r ys _ t₂.
      null_bulk_talks (leave_script Over) (if_told (λ u. if same u token then own_script σ else leave_script Over) (bulk_of r)) r ys t₂ (λ x. IsRelease σ token (call a watch done ∷ call b get x ∷ ys))
      (foreign_talk a b NullBulk (inr refl) ys)
      (λ t₃. let h = told_talks (λ u. if same u token then own_script σ else leave_script Over) (bulk_of r) ys t₃ in
      subst (λ x. IsRelease σ token (call a watch done ∷ call b get x ∷ ys)) (sym (bulk_is r h.0 h.1)) (got_talk a b h.0 ys (same h.0 token) refl h.2))) xs t₁)

-- ---- passes

returns_good : (σ : Setting) (token : Bytes) (ts : List Bytes) → IsGood (returns_script σ token ts)
returns_good σ token [] = release_good σ token
returns_good σ token (t ∷ ts) = tries_good σ Right t (returns_script σ token ts) (release_script σ token) (returns_good σ token ts) (release_good σ token) 8

pub pass_good : (σ : Setting) (token : Bytes) (v : ℕ) → IsGood (pass_script σ token v)
pass_good σ token v =
    null_bulk_good (lock_words σ token) Over (on_done go) tt (λ r. status_on (codes "OK") go (texts_good (λ at. due_words σ at v) (λ ms. returns_script σ token (tags_among σ ms)) (λ ms. returns_good σ token (tags_among σ ms))) r) where
      go : Script
      go = Say (λ at. due_words σ at v) (on_texts (λ ms. returns_script σ token (tags_among σ ms)))

module _ (σ : Setting) (token : Bytes) where
  -- returns, as far as they go, and the release
  abbrev ReturnsTo : List Bytes → List Call → Type 0
  ReturnsTo ts xs = (l : List Call) × (ys : List Call) × (l ++ ys ≡ xs) × (((ends : List ReturnEnd) × IsReturns σ ts (Done ends) l) ⊎ ((b : Bytes) × IsReturns σ ts (Stuck b) l)) × Talks (release_script σ token) ys

  returned : (t : Bytes) (ts : List Bytes) (end : ReturnEnd) (l ys : List Call) → IsTries σ Right t 0 end l → goes_on end ≡ true → ReturnsTo ts ys → ReturnsTo (t ∷ ts) (l ++ ys)
  returned t ts end l ys tries on more = (l ++ more.0, more.1, append_assoc l more.0 more.1 ∙ ap (λ z. l ++ z) more.2, by more.3, more.4) where
    by : ((ends : List ReturnEnd) × IsReturns σ ts (Done ends) more.0) ⊎ ((b : Bytes) × IsReturns σ ts (Stuck b) more.0) → ((ends : List ReturnEnd) × IsReturns σ (t ∷ ts) (Done ends) (l ++ more.0)) ⊎ ((b : Bytes) × IsReturns σ (t ∷ ts) (Stuck b) (l ++ more.0))
    by (inl h) = inl (end ∷ h.0, Returned t ts end h.0 l more.0 tries on h.1)
    by (inr h) = inr (h.0, Returned_until t ts end h.0 l more.0 tries on h.1)

  -- the returns of one tag, and then those of the others
  turn_talk : (t : Bytes) (ts : List Bytes) → ((ys : List Call) → Talks (returns_script σ token ts) ys → ReturnsTo ts ys) → (end : ReturnEnd) (l ys : List Call) → IsTries σ Right t 0 end l → Follows (returns_script σ token ts) (release_script σ token) end ys
      → ReturnsTo (t ∷ ts) (l ++ ys)
  turn_talk t ts others end l ys tries (inl f) = returned t ts end l ys tries f.0 (others ys f.1)
  turn_talk t ts others end l ys tries (inr f) = (l, ys, refl, inr (t, Ended_early t ts l (subst (λ e. IsTries σ Right t 0 e l) f.0 tries)), f.1)

  returns_talk : (ts : List Bytes) (xs : List Call) → Talks (returns_script σ token ts) xs → ReturnsTo ts xs
  returns_talk [] xs talk = ([], xs, refl, inl ([], All_returned), talk)
  returns_talk (t ∷ ts) xs talk =
      let h = tries_talk σ Right t (returns_script σ token ts) (release_script σ token) 7 0 refl xs talk in
      subst (ReturnsTo (t ∷ ts)) h.3 (turn_talk t ts (returns_talk ts) h.0 h.1 h.2 h.4 h.5)

  pub pass_talk : (v : ℕ) (xs : List Call) → Talks (pass_script σ token v) xs → (end : PassEnd) × IsPassBlock σ token v end xs
  pass_talk v = say_talks (λ at. lock_words σ token) (on_locked after) P (λ a r ys _ t₁. null_bulk_talks Over (on_done after r) r ys t₁ (λ x. P (call a (lock_words σ token) x ∷ ys))
      (over_talks (λ l. P (call a (lock_words σ token) NullBulk ∷ l)) (Held, Is_held a) ys)
      (λ t₂. status_talks (codes "OK") after r ys t₂ (λ x. P (call a (lock_words σ token) x ∷ ys)) (λ t₃. due_talk a ys t₃))) where
        P : List Call → Type 0
        P l = (end : PassEnd) × IsPassBlock σ token v end l

        go : List Bytes → Script
        go ms = returns_script σ token (tags_among σ ms)

        after : Script
        after = Say (λ at. due_words σ at v) (on_texts go)

        by : (a b : ℕ) (ms : List Bytes) (l ys : List Call) → ((ends : List ReturnEnd) × IsReturns σ (tags_among σ ms) (Done ends) l) ⊎ ((b : Bytes) × IsReturns σ (tags_among σ ms) (Stuck b) l) → IsRelease σ token ys
            → P (call a (lock_words σ token) done ∷ call b (due_words σ b v) (bulks ms) ∷ l ++ ys)
        by a b ms l ys (inl h) release = (Done h.0, Ran a b ms (Done h.0) l ys h.1 release)
        by a b ms l ys (inr h) release = (Stuck h.0, Ran a b ms (Stuck h.0) l ys h.1 release)

        returned_talk : (a b : ℕ) (ms : List Bytes) (ys : List Call) → ReturnsTo (tags_among σ ms) ys → P (call a (lock_words σ token) done ∷ call b (due_words σ b v) (bulks ms) ∷ ys)
        returned_talk a b ms ys h = subst (λ l. P (call a (lock_words σ token) done ∷ call b (due_words σ b v) (bulks ms) ∷ l)) h.2 (by a b ms h.0 h.1 h.3 (release_talk σ token h.1 h.4))

        due_talk : (a : ℕ) (ys : List Call) → Talks after ys → P (call a (lock_words σ token) done ∷ ys)
        due_talk a = say_talks (λ at. due_words σ at v) (on_texts go) (λ l. P (call a (lock_words σ token) done ∷ l)) (λ b r zs _ t₁. texts_talks go r zs t₁ (λ x. P (call a (lock_words σ token) done ∷ call b (due_words σ b v) x ∷ zs)) (λ ms t₂.
            returned_talk a b ms zs (returns_talk (tags_among σ ms) zs t₂)))
