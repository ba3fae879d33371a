-- What taking the last element of a list leaves.
use Rattle.std.proofs.Common.{◌≡◌, List, [], ◌∷◌, ◌++◌, refl, sym, ap, ◌∙◌, None, Some, Option}
use Rattle.std.specs.FinMap.{remove}
use Rattle.wire_values.specs.declared.value.Value.{Value}
use Rattle.wire_values.specs.declared.value.Value.TheVariants.{Bulk, NullBulk}
use Rattle.store_model.specs.Words.{Bytes, front, final}
use Rattle.store_model.specs.Replies.{pair}
use Rattle.store_model.specs.Keys.{Keys, put, CommandOutcome, out}
use Rattle.store_model.specs.Lists.{shortened, rpop, brpop_at, items_at}
use Rattle.store_model.specs.declared.held.Stored.{Stored}
use Rattle.store_model.specs.declared.held.Stored.TheVariants.{Text, Items, Members, Hash, Scores}
use Rattle.store_model.proofs.Ends.{not_empty, front_is, final_is}
use Rattle.store_keys.proofs.Rooms.{same_some}

shorter : (m n : Keys) (k : Bytes) (ys : List Bytes) → ((v : Stored) → put n k v ≡ put m k v) → remove n k ≡ remove m k → shortened n k ys ≡ shortened m k ys
shorter m n k [] h g = g
shorter m n k (y ∷ ys) h g = h _

taken : (answer : Bytes → Value) (m n : Keys) (k : Bytes) (z : Bytes) (zs ys : List Bytes) (l : Bytes) → z ∷ zs ≡ ys ++ l ∷ [] → ((v : Stored) → put n k v ≡ put m k v) → remove n k ≡ remove m k
    → out (shortened n k ys) (k ∷ []) (answer l) ≡ out (shortened m k (front z zs)) (k ∷ []) (answer (final z zs))
taken answer m n k z zs ys l is h g =
    ap (λ t. out t (k ∷ []) (answer l)) (shorter m n k ys h g)
    ∙ ap (λ t. out (shortened m k t) (k ∷ []) (answer l)) (sym (front_is z zs ys l is))
    ∙ ap (λ t. out (shortened m k (front z zs)) (k ∷ []) (answer t)) (sym (final_is z zs ys l is))

-- BRPOP took the last element
pub popped : (m n : Keys) (k : Bytes) (o : Option Stored) (xs ys : List Bytes) (l : Bytes) (later : CommandOutcome)
    → Some xs ≡ items_at o → xs ≡ ys ++ l ∷ [] → ((v : Stored) → put n k v ≡ put m k v) → remove n k ≡ remove m k
    → out (shortened n k ys) (k ∷ []) (pair k l) ≡ brpop_at m k o later
popped m n k None xs ys l later s e h g = absurd (not_empty ys l (same_some _ _ (sym s) ∙ e))
popped m n k (Some (Items [])) xs ys l later s e h g = absurd (not_empty ys l (same_some _ _ (sym s) ∙ e))
popped m n k (Some (Items (z ∷ zs))) xs ys l later s e h g = taken (pair k) m n k z zs ys l (same_some _ _ (sym s) ∙ e) h g
popped m n k (Some (Text t)) xs ys l later s e h g = cc
popped m n k (Some (Members t)) xs ys l later s e h g = cc
popped m n k (Some (Hash t)) xs ys l later s e h g = cc
popped m n k (Some (Scores t)) xs ys l later s e h g = cc

-- BRPOP goes on to the later keys
pub passed : (m : Keys) (k : Bytes) (o : Option Stored) (xs : List Bytes) (later : CommandOutcome) → Some xs ≡ items_at o → xs ≡ [] → brpop_at m k o later ≡ later
passed m k None xs later s e = refl
passed m k (Some (Items [])) xs later s e = refl
passed m k (Some (Items (z ∷ zs))) xs later s e = let h = same_some _ _ s in cc
passed m k (Some (Text t)) xs later s e = cc
passed m k (Some (Members t)) xs later s e = cc
passed m k (Some (Hash t)) xs later s e = cc
passed m k (Some (Scores t)) xs later s e = cc

-- RPOP took the last element
pub rpopped : (m n : Keys) (k : Bytes) (o : Option Stored) (xs ys : List Bytes) (l : Bytes)
    → Some xs ≡ items_at o → xs ≡ ys ++ l ∷ [] → ((v : Stored) → put n k v ≡ put m k v) → remove n k ≡ remove m k
    → out (shortened n k ys) (k ∷ []) (Bulk l) ≡ rpop m k o
rpopped m n k None xs ys l s e h g = absurd (not_empty ys l (same_some _ _ (sym s) ∙ e))
rpopped m n k (Some (Items [])) xs ys l s e h g = absurd (not_empty ys l (same_some _ _ (sym s) ∙ e))
rpopped m n k (Some (Items (z ∷ zs))) xs ys l s e h g = taken Bulk m n k z zs ys l (same_some _ _ (sym s) ∙ e) h g
rpopped m n k (Some (Text t)) xs ys l s e h g = cc
rpopped m n k (Some (Members t)) xs ys l s e h g = cc
rpopped m n k (Some (Hash t)) xs ys l s e h g = cc
rpopped m n k (Some (Scores t)) xs ys l s e h g = cc

-- RPOP finds no element
pub rpop_none : (m : Keys) (k : Bytes) (o : Option Stored) (xs : List Bytes) → Some xs ≡ items_at o → xs ≡ [] → out m [] NullBulk ≡ rpop m k o
rpop_none m k None xs s e = refl
rpop_none m k (Some (Items [])) xs s e = refl
rpop_none m k (Some (Items (z ∷ zs))) xs s e = let h = same_some _ _ s in cc
rpop_none m k (Some (Text t)) xs s e = cc
rpop_none m k (Some (Members t)) xs s e = cc
rpop_none m k (Some (Hash t)) xs s e = cc
rpop_none m k (Some (Scores t)) xs s e = cc
