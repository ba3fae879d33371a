-- The last two answers of a return tell its end.
use Rattle.std.proofs.Common.{◌≡◌, ℕ, suc, ℤ, List, [], ◌∷◌, ◌++◌, map, Bool, true, false, Option, Some, None, refl, sym, ap, ◌∙◌, subst, codes}
use Rattle.wire_values.specs.Layer.{layer}
use Rattle.wire_values.proofs.Layers.{layer-array}
use Rattle.wire_values.specs.declared.value.Value.{Value}
use Rattle.wire_values.specs.declared.value.Value.TheVariants.{Bulk, Integer, NullArray}
use Rattle.store_model.specs.Replies.{done, queued, bulks}
use Rattle.queue_keys.specs.Names.{Bytes}
use Rattle.command_blocks.specs.Answers.{integers}
use Rattle.command_blocks.specs.Calls.{Call, call, push_word}
use Rattle.command_blocks.specs.EnvelopeTexts.{plain_setting}
use Rattle.command_blocks.specs.ReturnBlocks.{ReturnEnd, Moved, Gone, Stayed, Contended, queued_calls, asking, leaving, reading, taking, Try, whole_try, IsTries, Missing, Useless, Nowhere, Whole, Eighth, Again}
use Rattle.command_blocks.specs.Scripts.{null_array_in, null_bulk_in, status_in}
use Rattle.command_blocks.specs.Setting.{Setting}
use Rattle.command_blocks.specs.declared.side.Side.{Side}
use Rattle.block_laws.proofs.Values.{layer-Bulk, layer-NullArray, layer-NullBulk, layer-Status}
use Rattle.returns.specs.Returns.{AreIntegers, IsBeforeLast, IsLast, IsNullBulk, TellsReturned}
use Rattle.returns.specs.declared.returned.Returned.{Returned}
use Rattle.returns.specs.declared.returned.Returned.TheVariants as returned
use Rattle.return_laws.specs.Ends.{end_told}

-- the last two answers, after these two
abbrev last_two : Value → Value → List Call → Value × Value
last_two p q [] = (p, q)
last_two p q (x ∷ xs) = last_two q x.answer xs

-- the last two answers of a return with this end
abbrev Shows : ReturnEnd → Value × Value → Type 0
Shows Moved s = AreIntegers s.1
Shows Gone s = IsNullBulk true s.0 × (s.1 ≡ done)
Shows Stayed s = IsNullBulk false s.0 × (s.1 ≡ done)
Shows Contended s = s.1 ≡ NullArray

-- ---- of what is told

one_last : (p q : Value) (before : List Call) (x : Call) → (last_two p q (before ++ x ∷ [])).1 ≡ x.answer
one_last p q [] x = refl
one_last p q (y ∷ before) x = one_last q y.answer before x

two_last : (p q : Value) (before : List Call) (x y : Call) → last_two p q ((before ++ x ∷ []) ++ y ∷ []) ≡ (x.answer, y.answer)
two_last p q [] x y = refl
two_last p q (z ∷ before) x y = two_last q z.answer before x y

last_shown : (P : Value → Type 0) (p q : Value) (calls : List Call) → IsLast P calls → P (last_two p q calls).1
last_shown P p q calls (before, last, is, h) = subst (λ l. P (last_two p q l).1) (sym is) (subst P (sym (one_last p q before last)) h)

before_shown : (P : Value → Type 0) (p q : Value) (calls : List Call) → IsBeforeLast P calls → P (last_two p q calls).0 × ((last_two p q calls).1 ≡ done)
before_shown P p q calls (before, x, last, is, h, e) =
    let Q : Value × Value → Type 0 = λ s. P s.0 × (s.1 ≡ done) in
    subst (λ l. Q (last_two p q l)) (sym is) (subst Q (sym (two_last p q before x last)) (h, e))

told_shown : (t : Bytes) (p q : Value) (calls : List Call) (told : Returned) → TellsReturned t calls told → Shows (end_told told) (last_two p q calls)
told_shown t p q calls returned.Moved h = last_shown AreIntegers p q calls h
told_shown t p q calls returned.Gone h = before_shown (IsNullBulk true) p q calls h
told_shown t p q calls returned.Stayed h = before_shown (IsNullBulk false) p q calls h
told_shown t p q calls (returned.Contended tag) h = last_shown (λ r. r ≡ NullArray) p q calls h.0

-- ---- of the grammar

module _ (σ : Setting) (side : Side) (t : Bytes) (P : Value × Value → Type 0) where
  through_pushes : (v : Bytes) (qs : List (ℕ × Bytes)) (l : List Call) → ((p q : Value) → P (last_two p q l)) → (p q : Value) → P (last_two p q (queued_calls side v qs l))
  through_pushes v [] l h p q = h p q
  through_pushes v (k ∷ qs) l h p q = through_pushes v qs l h q queued

  through_asking : (o : Option Bytes) (a : ℕ) (ms : List Bytes) (l : List Call) → ((p q : Value) → P (last_two p q l)) → (p q : Value) → P (last_two p q (asking σ o a ms l))
  through_asking None a ms l h p q = h p q
  through_asking (Some e) a ms l h p q = h q (bulks ms)

  through_try : (y : Try) (r : Value) (l : List Call) → ((p q : Value) → P (last_two p q (call y.g (codes "EXEC" ∷ []) r ∷ l))) → (p q : Value) → P (last_two p q (whole_try σ side t y r l))
  through_try y r l h p q =
      through_asking (σ.exchange_in y.entry) y.c y.members (taking σ side t y.d y.e y.f y.g y.envelope (y.first ∷ y.others) r l)
      (λ p q. through_pushes y.envelope (y.first ∷ y.others) (call y.g (codes "EXEC" ∷ []) r ∷ l) h queued queued) done (Bulk y.entry)

bulk_not : (u : Bytes) → IsNullBulk false (Bulk u)
bulk_not u = ap null_bulk_in (layer-Bulk u)

bulks_not : (ms : List Bytes) → IsNullBulk false (bulks ms)
bulks_not ms = ap null_bulk_in (layer-array (map Bulk ms))

asked_shown : (σ : Setting) (o : Option Bytes) (a d : ℕ) (ms : List Bytes) (u : Bytes) → Shows Stayed (last_two done (Bulk u) (asking σ o a ms (leaving d)))
asked_shown σ None a d ms u = (bulk_not u, refl)
asked_shown σ (Some e) a d ms u = (bulks_not ms, refl)

shown : (σ : Setting) (side : Side) (t : Bytes) (n : ℕ) (end : ReturnEnd) (l : List Call) → IsTries σ side t n end l → (p q : Value) → Shows end (last_two p q l)
shown σ side t k e l (Missing n a b c) p q = (ap null_bulk_in layer-NullBulk, refl)
shown σ side t k e l (Useless n a b c u none) p q = (bulk_not u, refl)
shown σ side t k e l (Nowhere n a b c d u v ms carries none) p q = asked_shown σ (σ.exchange_in u) c d ms u
shown σ side t k e l (Whole n y zs fits) p q = through_try σ side t (Shows Moved) y (integers zs) [] (λ p q. (zs, refl)) p q
shown σ side t k e l (Eighth y fits) p q = through_try σ side t (Shows Contended) y NullArray [] (λ p q. refl) p q
shown σ side t k e l (Again n y end l' less fits more) p q = through_try σ side t (Shows end) y NullArray l' (λ p q. shown σ side t (suc n) end l' more q NullArray) p q

-- ---- ends that show the same are the same

done_status : status_in (codes "OK") (layer done) ≡ true
done_status = ap (status_in (codes "OK")) (layer-Status (codes "OK"))

not_done : (r : Value) → status_in (codes "OK") (layer r) ≡ false → r ≡ done → ⊥
not_done r e is = let no : true ≡ false = sym done_status ∙ ap (λ v. status_in (codes "OK") (layer v)) (sym is) ∙ e in absurd (cc no)

integers_not : (r : Value) → AreIntegers r → status_in (codes "OK") (layer r) ≡ false
integers_not r (zs, is) = ap (λ v. status_in (codes "OK") (layer v)) is ∙ ap (status_in (codes "OK")) (layer-array (map Integer zs))

null_not : (r : Value) → r ≡ NullArray → status_in (codes "OK") (layer r) ≡ false
null_not r is = ap (λ v. status_in (codes "OK") (layer v)) is ∙ ap (status_in (codes "OK")) layer-NullArray

apart : (r : Value) → AreIntegers r → r ≡ NullArray → ⊥
apart r (zs, is) e = let no : false ≡ true = sym (ap null_array_in (layer-array (map Integer zs))) ∙ ap (λ v. null_array_in (layer v)) (sym is ∙ e) ∙ ap null_array_in layer-NullArray in absurd (cc no)

same_end : (e f : ReturnEnd) (s : Value × Value) → Shows e s → Shows f s → e ≡ f
same_end Moved Moved s h k = refl
same_end Moved Gone s h k = absurd (not_done s.1 (integers_not s.1 h) k.1)
same_end Moved Stayed s h k = absurd (not_done s.1 (integers_not s.1 h) k.1)
same_end Moved Contended s h k = absurd (apart s.1 h k)
same_end Gone Moved s h k = absurd (not_done s.1 (integers_not s.1 k) h.1)
same_end Gone Gone s h k = refl
same_end Gone Stayed s h k = let no : true ≡ false = sym h.0 ∙ k.0 in absurd (cc no)
same_end Gone Contended s h k = absurd (not_done s.1 (null_not s.1 k) h.1)
same_end Stayed Moved s h k = absurd (not_done s.1 (integers_not s.1 k) h.1)
same_end Stayed Gone s h k = let no : false ≡ true = sym h.0 ∙ k.0 in absurd (cc no)
same_end Stayed Stayed s h k = refl
same_end Stayed Contended s h k = absurd (not_done s.1 (null_not s.1 k) h.1)
same_end Contended Moved s h k = absurd (apart s.1 k h)
same_end Contended Gone s h k = absurd (not_done s.1 (null_not s.1 h) k.1)
same_end Contended Stayed s h k = absurd (not_done s.1 (null_not s.1 h) k.1)
same_end Contended Contended s h k = refl

pub ends : (side : Side) (t : Bytes) (end : ReturnEnd) (calls : List Call) (told : Returned) → IsTries plain_setting side t 0 end calls → TellsReturned t calls told → end ≡ end_told told
ends side t end calls told tries tells = same_end end (end_told told) (last_two done done calls) (shown plain_setting side t 0 end calls tries done done) (told_shown t done done calls told tells)
