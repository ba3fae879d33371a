-- What stands at the name of a member that was taken out, and at others.
use Rattle.std.proofs.Common.{◌≡◌, ℕ, List, Less, Equal, Greater, nat_cmp, Option, Some, None, option_and_then, refl, sym, ap, subst, ◌∙◌}
use Rattle.std.specs.Ordering.{match_ordering}
use Rattle.std.specs.Cmp.Lexicographic.{slice_cmp}
use Rattle.std.specs.FinMap.{IsAntisymmetric, nat_cmp-IsAntisymmetric, slice_cmp-IsAntisymmetric}
use Rattle.serde_json.specs.Data.{Data, null, boolean, number, string, array, object, Members, no_members, member}
use Rattle.serde_json.specs.Find.{get, get_member}
use Rattle.envelope_trees.specs.Marks.{on_object}
use Rattle.envelope_trees.specs.Members.{if_object, object_at}
use Rattle.envelope_trees.specs.Sorted.{After, Sorted, SortedMembers}
use Rattle.task_message.specs.Again.{without}

anti : IsAntisymmetric (slice_cmp nat_cmp)
anti = slice_cmp-IsAntisymmetric nat_cmp-IsAntisymmetric

-- a name that comes before all members is none of theirs
after_none : (k : List ℕ) (ms : Members) → After k ms → get_member k ms ≡ None
after_none k no_members a = refl
after_none k (member l e ms) a = ap (λ o. match_ordering o (get_member k ms) (Some e) (get_member k ms)) a.0 ∙ after_none k ms a.1

member_gone : (k : List ℕ) (ms : Members) → SortedMembers ms → get_member k (without k ms) ≡ None
member_gone k no_members s = refl
member_gone k (member l e ms) s =
    elim (slice_cmp nat_cmp k l) as (λ r. slice_cmp nat_cmp k l ≡ r → get_member k (match_ordering r (member l e (without k ms)) ms (member l e (without k ms))) ≡ None) [
      | Less ↦ λ i. ap (λ o. match_ordering o (get_member k (without k ms)) (Some e) (get_member k (without k ms))) i ∙ member_gone k ms s.2
      | Equal ↦ λ i. after_none k ms (subst (λ x. After x ms) (sym (anti k l i)) s.1)
      | Greater ↦ λ i. ap (λ o. match_ordering o (get_member k (without k ms)) (Some e) (get_member k (without k ms))) i ∙ member_gone k ms s.2
    ] refl

-- a member that was taken out is gone
pub get_gone : (k : List ℕ) (d : Data) → Sorted d → get k (on_object (without k) d) ≡ None
get_gone k null s = refl
get_gone k (boolean b) s = refl
get_gone k (number n) s = refl
get_gone k (string t) s = refl
get_gone k (array ds) s = refl
get_gone k (object ms) s = member_gone k ms s

member_sorted : (k : List ℕ) (ms : Members) (x : Data) → SortedMembers ms → get_member k ms ≡ Some x → Sorted x
member_sorted k no_members x s e = cc
member_sorted k (member l y ms) x s e =
    elim (slice_cmp nat_cmp k l) as (λ r. match_ordering r (get_member k ms) (Some y) (get_member k ms) ≡ Some x → Sorted x) [
      | Less ↦ λ h. member_sorted k ms x s.2 h
      | Equal ↦ λ h. let same : y ≡ x = cc in subst Sorted same s.0
      | Greater ↦ λ h. member_sorted k ms x s.2 h
    ] e

-- what stands in a sorted tree is sorted
pub get_sorted : (k : List ℕ) (d x : Data) → Sorted d → get k d ≡ Some x → Sorted x
get_sorted k null x s e = cc
get_sorted k (boolean b) x s e = cc
get_sorted k (number n) x s e = cc
get_sorted k (string t) x s e = cc
get_sorted k (array ds) x s e = cc
get_sorted k (object ms) x s e = member_sorted k ms x s e

-- an object at a name is what stands there
pub record IsObjectAt (k : List ℕ) (d x : Data) : Type 0 where
  pub is : get k d ≡ Some x
  pub members : Members
  pub whole : x ≡ object members

pub object_stands : (k : List ℕ) (d x : Data) → object_at k d ≡ Some x → IsObjectAt k d x
object_stands k d x e = go (get k d) refl e
  where
    go : (o : Option Data) → get k d ≡ o → option_and_then if_object o ≡ Some x → IsObjectAt k d x
    go None i h = cc
    go (Some null) i h = cc
    go (Some (boolean b)) i h = cc
    go (Some (number n)) i h = cc
    go (Some (string s)) i h = cc
    go (Some (array ds)) i h = cc
    go (Some (object ms)) i h = let same : object ms ≡ x = cc in record { is = i ∙ ap (λ z. Some z) same; members = ms; whole = sym same }

-- and what stands there as an object is the object there
pub object_is : (k : List ℕ) (d : Data) (ms : Members) → get k d ≡ Some (object ms) → object_at k d ≡ Some (object ms)
object_is k d ms e = ap (option_and_then if_object) e
