-- What changes in a tree that is sent again keeps it sorted.
use Rattle.std.proofs.Common.{◌^◌, ◌<◌, ◌==◌, ℕ, ℤ, suc, List, Bool, true, false, cond, codes, Less, Equal, Greater, nat_cmp}
use Rattle.std.specs.Ordering.{match_ordering}
use Rattle.std.specs.Cmp.Lexicographic.{slice_cmp}
use Rattle.serde_json.specs.Data.{Data, null, boolean, number, unsigned, string, array, object, Members, no_members, member, put}
use Rattle.delivery_tags.specs.Tags.{tag_text}
use Rattle.envelope.specs.Envelopes.{parts_in}
use Rattle.envelope_trees.specs.Marks.{change, on_object, with_member}
use Rattle.envelope_trees.specs.Sorted.{After, Sorted, SortedMembers}
use Rattle.envelope_trees.proofs.SortedTrees.{sorted-put}
use Rattle.moments.specs.MomentTexts.{moment_text}
use Rattle.task_message.specs.Again.{again_tree, body_again, headers_again, properties_again, retried, unmarked, with_body, without}

on_sorted : (f : Members → Members) → ((ms : Members) → SortedMembers ms → SortedMembers (f ms)) → (d : Data) → Sorted d → Sorted (on_object f d)
on_sorted f h null s = s
on_sorted f h (boolean b) s = s
on_sorted f h (number n) s = s
on_sorted f h (string t) s = s
on_sorted f h (array ds) s = s
on_sorted f h (object ms) s = h ms s

-- ---- a member that is taken out

after-without : (q k : List ℕ) (ms : Members) → After q ms → After q (without k ms)
after-without q k no_members a = tt
after-without q k (member l e ms) a =
    elim (slice_cmp nat_cmp k l) as (λ r. After q (match_ordering r (member l e (without k ms)) ms (member l e (without k ms)))) [
      | Less ↦ (a.0, after-without q k ms a.1)
      | Equal ↦ a.1
      | Greater ↦ (a.0, after-without q k ms a.1)
    ]

sorted-without : (k : List ℕ) (ms : Members) → SortedMembers ms → SortedMembers (without k ms)
sorted-without k no_members s = tt
sorted-without k (member l e ms) s =
    elim (slice_cmp nat_cmp k l) as (λ r. SortedMembers (match_ordering r (member l e (without k ms)) ms (member l e (without k ms)))) [
      | Less ↦ (s.0, after-without l k ms s.1, sorted-without k ms s.2)
      | Equal ↦ s.2
      | Greater ↦ (s.0, after-without l k ms s.1, sorted-without k ms s.2)
    ]

-- ---- a member that is changed

after-change : (q k : List ℕ) (f : Data → Data) (ms : Members) → After q ms → After q (change k f ms)
after-change q k f no_members a = tt
after-change q k f (member l e ms) a =
    elim (slice_cmp nat_cmp k l) as (λ r. After q (match_ordering r (member l e (change k f ms)) (member l (f e) ms) (member l e (change k f ms)))) [
      | Less ↦ (a.0, after-change q k f ms a.1)
      | Equal ↦ a
      | Greater ↦ (a.0, after-change q k f ms a.1)
    ]

sorted-change : (k : List ℕ) (f : Data → Data) → ((d : Data) → Sorted d → Sorted (f d)) → (ms : Members) → SortedMembers ms → SortedMembers (change k f ms)
sorted-change k f h no_members s = tt
sorted-change k f h (member l e ms) s =
    elim (slice_cmp nat_cmp k l) as (λ r. SortedMembers (match_ordering r (member l e (change k f ms)) (member l (f e) ms) (member l e (change k f ms)))) [
      | Less ↦ (s.0, after-change l k f ms s.1, sorted-change k f h ms s.2)
      | Equal ↦ (h e s.0, s.1, s.2)
      | Greater ↦ (s.0, after-change l k f ms s.1, sorted-change k f h ms s.2)
    ]

sorted-with : (k : List ℕ) (f : Data → Data) → ((d : Data) → Sorted d → Sorted (f d)) → (d : Data) → Sorted d → Sorted (with_member k f d)
sorted-with k f h d s = on_sorted (change k f) (sorted-change k f h) d s

-- ---- what is sent again

sorted-unmarked : (d : Data) → Sorted d → Sorted (unmarked d)
sorted-unmarked d s = on_sorted (without (codes "redelivered")) (sorted-without (codes "redelivered")) d s

sorted-text : (k s : List ℕ) (d : Data) → Sorted d → Sorted (on_object (put k (string s)) d)
sorted-text k s d h = on_sorted (put k (string s)) (λ ms m. sorted-put k (string s) ms tt m) d h

sorted-properties : (n : ℕ) (d : Data) → Sorted d → Sorted (properties_again n d)
sorted-properties n d s = sorted-text (codes "delivery_tag") (tag_text n) _ (sorted-with (codes "delivery_info") unmarked sorted-unmarked d s)

module _ (r : ℕ) (eta : ℤ) (few : suc r < 2 ^ 64) where
  pub sorted-retried : (d : Data) → Sorted d → Sorted (retried r eta d)
  sorted-retried d s =
      on_sorted _ (λ ms h. sorted-put (codes "eta") (string (moment_text eta)) (put (codes "retries") (number (unsigned (suc r))) ms) tt (sorted-put (codes "retries") (number (unsigned (suc r))) ms few h)) d s

  sorted-headers : (version : ℕ) (d : Data) → Sorted d → Sorted (headers_again version r eta d)
  sorted-headers version d s = go (version == 1)
    where
      go : (b : Bool) → Sorted (cond b (unmarked d) (retried r eta (unmarked d)))
      go true = sorted-unmarked d s
      go false = sorted-retried (unmarked d) (sorted-unmarked d s)

  sorted-body : (version : ℕ) (body : List ℕ) (d : Data) → Sorted d → Sorted (with_body version body d)
  sorted-body version body d s = go (version == 1)
    where
      go : (b : Bool) → Sorted (cond b (on_object (put (codes "body") (string body)) d) d)
      go true = sorted-text (codes "body") body d s
      go false = s

  pub sorted-again : (d : Data) (version n : ℕ) → Sorted d → Sorted (again_tree d version r n eta)
  sorted-again d version n s =
      sorted-body version (body_again r eta (parts_in d).content) _
      (sorted-with (codes "properties") (properties_again n) (sorted-properties n) _ (sorted-with (codes "headers") (headers_again version r eta) (sorted-headers version) d s))
