-- What HDEL and ZREM leave of the others: the bytes of each field, and the score of each member.
use Rattle.std.proofs.Common.{◌≡◌, ◌≢◌, ℕ, zero, suc, ◌+◌, [], ◌∷◌, refl, sym, ap, ◌∙◌, None, Some, Option}
use Rattle.std.specs.Prelude.{ℤ, if◌then◌else◌, is_some}
use Rattle.std.specs.FinMap.{FinMap, get, remove, len, get-empty, empty_of_len}
use Rattle.wire_values.specs.Order.{bytes_cmp}
use Rattle.store_tables.proofs.Maps.{bytes_total, bytes_anti}
use Rattle.store_model.specs.Words.{Bytes}
use Rattle.store_model.specs.Keys.{Keys, value_at, kept, after_taking}
use Rattle.store_model.specs.Hashes.{hdel}
use Rattle.store_model.specs.SortedSets.{zrem}
use Rattle.store_model.specs.Commands.{Around, run}
use Rattle.store_model.specs.declared.command.Command.TheVariants.{Hdel, Zrem}
use Rattle.store_model.specs.declared.held.Stored.{Stored}
use Rattle.store_model.specs.declared.held.Stored.TheVariants.{Hash, Scores}
use Rattle.store_laws.proofs.Maps.{get-remove_other}
use Rattle.store_laws.proofs.Changes.{IsHashOrNone, IsScoresOrNone, field_of, changed-put, changed-remove}

-- the score of a member
abbrev pub score_of : Option Stored → Bytes → Option ℤ
score_of (Some (Scores h)) t = get h t
score_of other t = None

-- a map that nothing is left of but what was removed had no other
none_left : {X : Type 0} (h : FinMap bytes_cmp X) (x t : Bytes) → t ≢ x → len (remove h x) ≡ 0 → get h t ≡ None
none_left {X = X} h x t n z =
    sym (get-remove_other bytes_cmp bytes_total bytes_anti h x t n) ∙ ap (λ m. get m t) (empty_of_len (remove h x) z) ∙ get-empty {X = X} bytes_cmp t

pub hdel_others : (e : Around) (m : Keys) (k x t : Bytes) → t ≢ x → IsHashOrNone (value_at m k) → field_of (value_at (run e m (Hdel k (x ∷ []))).keys k) t ≡ field_of (value_at m k) t
hdel_others e m k x t n is = go (value_at m k) refl is
  where
    shut : (h : FinMap bytes_cmp Bytes) (l : ℕ) → value_at m k ≡ Some (Hash h) → len (remove h x) ≡ l → field_of (value_at (kept m k (Hash (remove h x)) l) k) t ≡ field_of (value_at m k) t
    shut h zero was z = ap (λ o. field_of o t) (changed-remove m k).here ∙ sym (ap (λ o. field_of o t) was ∙ none_left h x t n z)
    shut h (suc l) was z = ap (λ o. field_of o t) (changed-put m k (Hash (remove h x))).here ∙ get-remove_other bytes_cmp bytes_total bytes_anti h x t n ∙ sym (ap (λ o. field_of o t) was)

    taken : (h : FinMap bytes_cmp Bytes) (p : ℕ) → value_at m k ≡ Some (Hash h) → field_of (value_at (after_taking m k (Hash (remove h x)) (len (remove h x)) p).keys k) t ≡ field_of (value_at m k) t
    taken h zero was = refl
    taken h (suc p) was = shut h (len (remove h x)) was refl

    go : (o : Option Stored) → value_at m k ≡ o → IsHashOrNone o → field_of (value_at (hdel m k (x ∷ []) o).keys k) t ≡ field_of (value_at m k) t
    go None was z = refl
    go (Some (Hash h)) was z = taken h ((if is_some (get h x) then 1 else 0) + 0) was
    go (Some other) was z = absurd z

pub zrem_others : (e : Around) (m : Keys) (k x t : Bytes) → t ≢ x → IsScoresOrNone (value_at m k) → score_of (value_at (run e m (Zrem k (x ∷ []))).keys k) t ≡ score_of (value_at m k) t
zrem_others e m k x t n is = go (value_at m k) refl is
  where
    shut : (h : FinMap bytes_cmp ℤ) (l : ℕ) → value_at m k ≡ Some (Scores h) → len (remove h x) ≡ l → score_of (value_at (kept m k (Scores (remove h x)) l) k) t ≡ score_of (value_at m k) t
    shut h zero was z = ap (λ o. score_of o t) (changed-remove m k).here ∙ sym (ap (λ o. score_of o t) was ∙ none_left h x t n z)
    shut h (suc l) was z = ap (λ o. score_of o t) (changed-put m k (Scores (remove h x))).here ∙ get-remove_other bytes_cmp bytes_total bytes_anti h x t n ∙ sym (ap (λ o. score_of o t) was)

    taken : (h : FinMap bytes_cmp ℤ) (p : ℕ) → value_at m k ≡ Some (Scores h) → score_of (value_at (after_taking m k (Scores (remove h x)) (len (remove h x)) p).keys k) t ≡ score_of (value_at m k) t
    taken h zero was = refl
    taken h (suc p) was = shut h (len (remove h x)) was refl

    go : (o : Option Stored) → value_at m k ≡ o → IsScoresOrNone o → score_of (value_at (zrem m k (x ∷ []) o).keys k) t ≡ score_of (value_at m k) t
    go None was z = refl
    go (Some (Scores h)) was z = taken h ((if is_some (get h x) then 1 else 0) + 0) was
    go (Some other) was z = absurd z
