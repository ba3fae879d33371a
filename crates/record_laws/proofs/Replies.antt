-- The words and the reply of a call are told by what is written of them.
use Rattle.std.proofs.Common.{◌≡◌, ℕ, Bool, true, false, List, [], ◌∷◌, ◌++◌, refl, sym, ap, ◌∙◌, arith, append_assoc}
use Rattle.std.specs.Prelude.{codes, nat_eq, ◌&&◌}
use Rattle.std.specs.List.{flat_map, list_all}
use Rattle.std.proofs.lemmas.Bool.Decides.{nat_tests}
use Rattle.wire_values.specs.declared.value.Value.{Value}
use Rattle.store_model.specs.declared.reply.Reply.{Reply}
use Rattle.line_text.specs.Forms.{quoted, value_form, words_text}
use Rattle.history_records.specs.Lines.{pushed_text, reply_text}
use Rattle.history_records.specs.Recordable.{is_typed, IsReply}
use Rattle.record_laws.proofs.Apart.{heads, tails}
use Rattle.record_laws.proofs.Digits.{no_digit}
use Rattle.record_laws.proofs.Quotes.{quoted_apart}
use Rattle.record_laws.proofs.Values.{value_apart}

-- a line ends here
abbrev pub is_end : List ℕ → Bool
is_end [] = true
is_end (b ∷ bs) = nat_eq b 10

true_false : {P : Type 0} (b : Bool) → b ≡ true → b ≡ false → P
true_false true e f = absurd (cc)
true_false false e f = absurd (cc)

-- no digit stands at a line's end
pub end_digit : (r : List ℕ) → is_end r ≡ true → no_digit r ≡ true
end_digit [] e = refl
end_digit (b ∷ bs) e = by (nat_eq b 10) refl e where
  by : (t : Bool) → nat_eq b 10 ≡ t → t ≡ true → no_digit (b ∷ bs) ≡ true
  by true f g = let is : b ≡ 10 = grind (arith, nat_tests, f) in rw is refl
  by false f g = absurd (cc)

both : (a b : Bool) → (a && b) ≡ true → (a ≡ true) × (b ≡ true)
both true b e = (refl, e)
both false b e = cc

-- ---- words

pub words_apart : (vs ws : List (List ℕ)) (r s : List ℕ) → words_text quoted vs ++ 61 ∷ r ≡ words_text quoted ws ++ 61 ∷ s → (vs ≡ ws) × (r ≡ s)
words_apart [] [] r s e = (refl, tails 61 61 r s e)
words_apart [] (w ∷ ws) r s e = let c : 61 ≡ 34 = heads 61 34 _ _ e in absurd (omega (arith, c))
words_apart (v ∷ vs) [] r s e = let c : 34 ≡ 61 = heads 34 61 _ _ e in absurd (omega (arith, c))
words_apart (v ∷ vs) (w ∷ ws) r s e =
    let h = quoted_apart v w _ _ (sym (on v vs r) ∙ e ∙ on w ws s) in
    let t = words_apart vs ws r s (tails 32 32 _ _ h.1) in
    ((λ i. h.0 i ∷ t.0 i), t.1) where
      on : (u : List ℕ) (us : List (List ℕ)) (t : List ℕ) → words_text quoted (u ∷ us) ++ 61 ∷ t ≡ quoted u ++ 32 ∷ (words_text quoted us ++ 61 ∷ t)
      on u us t = append_assoc (quoted u ++ 32 ∷ []) (words_text quoted us) (61 ∷ t) ∙ append_assoc (quoted u) (32 ∷ []) (words_text quoted us ++ 61 ∷ t)

-- ---- replies

-- what is written of values that were pushed, of an answer, and what follows
abbrev pub reply_on : List Value → Value → List ℕ → List ℕ
reply_on vs a r = pushed_text vs ++ (value_form a ++ r)

-- the first value that was pushed, and the rest
pub reply_on-more : (v : Value) (vs : List Value) (a : Value) (r : List ℕ) → reply_on (v ∷ vs) a r ≡ value_form v ++ 32 ∷ 59 ∷ 32 ∷ reply_on vs a r
reply_on-more v vs a r = append_assoc (value_form v ++ codes " ; ") (pushed_text vs) (value_form a ++ r) ∙ append_assoc (value_form v) (codes " ; ") (reply_on vs a r)

pub reply_on_apart : (vs ws : List Value) (a b : Value) (r s : List ℕ) → list_all is_typed vs ≡ true → list_all is_typed ws ≡ true → is_typed a ≡ true → is_typed b ≡ true → is_end r ≡ true → is_end s ≡ true → reply_on vs a r ≡ reply_on ws b s → (vs ≡ ws) × (a ≡ b) × (r ≡ s)
reply_on_apart [] [] a b r s f g h i j k e = let t = value_apart a b r s h i (end_digit r j) (end_digit s k) e in (refl, t.0, t.1)
reply_on_apart [] (w ∷ ws) a b r s f g h i j k e =
    let t = value_apart a w r _ h (both _ _ g).0 (end_digit r j) refl (e ∙ reply_on-more w ws b s) in
    true_false (is_end r) j (ap is_end t.1)
reply_on_apart (v ∷ vs) [] a b r s f g h i j k e =
    let t = value_apart v b _ s (both _ _ f).0 i refl (end_digit s k) (sym (reply_on-more v vs a r) ∙ e) in
    true_false (is_end s) k (sym (ap is_end t.1))
reply_on_apart (v ∷ vs) (w ∷ ws) a b r s f g h i j k e =
    let t = value_apart v w _ _ (both _ _ f).0 (both _ _ g).0 refl refl (sym (reply_on-more v vs a r) ∙ e ∙ reply_on-more w ws b s) in
    let u = reply_on_apart vs ws a b r s (both _ _ f).1 (both _ _ g).1 h i j k (tails 32 32 _ _ (tails 59 59 _ _ (tails 32 32 _ _ t.1))) in
    ((λ l. t.0 l ∷ u.0 l), u.1, u.2)

pub reply_apart : (p q : Reply) (r s : List ℕ) → IsReply p → IsReply q → is_end r ≡ true → is_end s ≡ true → reply_text p ++ r ≡ reply_text q ++ s → (p ≡ q) × (r ≡ s)
reply_apart p q r s f g j k e =
    let h = reply_on_apart p.pushed q.pushed p.answer q.answer r s f.0 g.0 f.1 g.1 j k (sym (append_assoc (pushed_text p.pushed) (value_form p.answer) r) ∙ e ∙ append_assoc (pushed_text q.pushed) (value_form q.answer) s) in
    ((λ i. record { pushed = h.0 i; answer = h.1 i }), h.2)
