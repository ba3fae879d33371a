-- The returns of a pass that its end tells of are those of its block.
use Rattle.std.proofs.Common.{◌≡◌, List, [], ◌∷◌, ◌++◌, append_assoc, map, length, Bool, true, false, refl, sym, ap, ◌∙◌, subst, arith, if◌then◌else◌}
use Rattle.delivery_tags.specs.declared.tag.Tag.{Tag}
use Rattle.queue_keys.specs.Layouts.{plain}
use Rattle.queue_keys.specs.Names.{Bytes, same}
use Rattle.queue_keys.specs.QueueKeys.{Each}
use Rattle.command_blocks.specs.Calls.{Call}
use Rattle.command_blocks.specs.EnvelopeTexts.{plain_setting, texts}
use Rattle.command_blocks.specs.PassBlocks.{PassEnd, Held, Stuck, Done, IsReturns, All_returned, Returned, Returned_until, Ended_early, tags_among}
use Rattle.command_blocks.specs.ReturnBlocks.{ReturnEnd, Contended, goes_on, IsTries}
use Rattle.command_blocks.specs.Scripts.{Over, Return, rest_of, return_script}
use Rattle.command_blocks.specs.Setting.{IsLawful}
use Rattle.command_blocks.specs.declared.side.Side.TheVariants.{Right}
use Rattle.key_laws.proofs.EnvelopeFacts.{envelopes_serve}
use Rattle.key_laws.proofs.Settings.{lawful_setting}
use Rattle.block_laws.proofs.Said.{plan_said}
use Rattle.returns.specs.Returns.{TellsReturned}
use Rattle.returns.specs.declared.returned.Returned.{Returned as Told}
use Rattle.returns.specs.declared.returned.Returned.TheVariants as returned
use Rattle.return_laws.specs.Ends.{end_told}
use Rattle.return_laws.proofs.Ends.{ends as ends_so}
use Rattle.passes.specs.Counts.{returned_count, tally}
use Rattle.passes.specs.Told.{AreReturned, IsOn, IsReturned}
use Rattle.pass_laws.specs.Ends.{gone_in, moved_in, stayed_in}
use Rattle.pass_laws.proofs.Cuts.{cut}

plain_lawful : IsLawful plain_setting
unfolding same
plain_lawful = lawful_setting plain texts refl envelopes_serve

-- the tags among texts are tags
pub are_tags : (ms : List Bytes) → Each plain_setting.is_tag (tags_among plain_setting ms)
are_tags [] = tt
are_tags (m ∷ ms) = by (plain_setting.is_tag m) refl (are_tags ms) where
  by : (b : Bool) → plain_setting.is_tag m ≡ b → Each plain_setting.is_tag (tags_among plain_setting ms) → Each plain_setting.is_tag (if b then m ∷ tags_among plain_setting ms else tags_among plain_setting ms)
  by true e more = (e, more)
  by false e more = more

-- ---- one return

-- it ends as is told, and so do the calls after it
one_same : (t : Bytes) (end : ReturnEnd) (told : Told) (l a x y : List Call) → plain_setting.is_tag t ≡ true → IsTries plain_setting Right t 0 end l → IsReturned t told a → l ++ x ≡ a ++ y → (end ≡ end_told told) × (x ≡ y)
one_same t end told l a x y tag tries one e =
    let over : rest_of (return_script plain_setting Right t) l ≡ Over = (plan_said plain_setting plain_lawful 0 0 0 (Return Right t) l (end, (tag, tries))).rest in
    let c = cut (return_script plain_setting Right t) l a x y e over one.over in
    (ends_so Right t end l told tries (subst (λ k. TellsReturned t k told) (sym c.0) one.tells), c.1)

on_not : (told : Told) → IsOn told → Contended ≡ end_told told → ⊥
on_not returned.Moved on e = absurd (cc e)
on_not returned.Gone on e = absurd (cc e)
on_not returned.Stayed on e = absurd (cc e)
on_not (returned.Contended tag) on e = absurd on

contended_not : (end : ReturnEnd) → goes_on end ≡ true → end ≡ Contended → ⊥
contended_not end on e = let no : false ≡ true = sym (ap goes_on e) ∙ on in absurd (cc no)

-- ---- all of them

abbrev ends_in : PassEnd → List ReturnEnd
ends_in (Done ends) = ends
ends_in Held = []
ends_in (Stuck t) = []

-- calls of two beginnings, one after the other
parted : (a b x m n y : List Call) → (a ++ b) ++ x ≡ m ++ y → (k : List Call) → m ≡ k ++ n → a ++ (b ++ x) ≡ k ++ (n ++ y)
parted a b x m n y e k is = sym (append_assoc a b x) ∙ e ∙ ap (λ z. z ++ y) is ∙ append_assoc k n y

-- a pass of whose returns each is told went through all of them, with these ends
pub done_same : (ts : List Bytes) (end : PassEnd) (l : List Call) → IsReturns plain_setting ts end l → Each plain_setting.is_tag ts → (x m y : List Call) (ends : List Told) → AreReturned ts ends m → l ++ x ≡ m ++ y → end ≡ Done (map end_told ends)
done_same ts end l All_returned tags x m y ends are e = by ends are where
  by : (ends : List Told) → AreReturned [] ends m → Done [] ≡ Done (map end_told ends)
  by [] are = refl
  by (one ∷ more) are = absurd are
done_same ts end l (Returned t ts' first others l₁ l₂ tries on rest) tags x m y ends are e = by ends are (done_same ts' (Done others) l₂ rest tags.1) where
  by : (ends : List Told) → AreReturned (t ∷ ts') ends m → ((x m y : List Call) (ends : List Told) → AreReturned ts' ends m → l₂ ++ x ≡ m ++ y → Done others ≡ Done (map end_told ends)) → Done (first ∷ others) ≡ Done (map end_told ends)
  by [] are later = absurd are
  by (one ∷ more) (a, n, is, so, goes, are) later =
      let s = one_same t first one l₁ a (l₂ ++ x) (n ++ y) tags.0 tries so (parted l₁ l₂ x m n y e a is) in
      let r : Done others ≡ Done (map end_told more) = later x n y more are s.1 in
      ap Done (λ i. s.0 i ∷ (ap ends_in r) i)
done_same ts end l (Returned_until t ts' first stuck l₁ l₂ tries on rest) tags x m y ends are e = by ends are (done_same ts' (Stuck stuck) l₂ rest tags.1) where
  by : (ends : List Told) → AreReturned (t ∷ ts') ends m → ((x m y : List Call) (ends : List Told) → AreReturned ts' ends m → l₂ ++ x ≡ m ++ y → Stuck stuck ≡ Done (map end_told ends)) → Stuck stuck ≡ Done (map end_told ends)
  by [] are later = absurd are
  by (one ∷ more) (a, n, is, so, goes, are) later =
      let s = one_same t first one l₁ a (l₂ ++ x) (n ++ y) tags.0 tries so (parted l₁ l₂ x m n y e a is) in
      let r : Stuck stuck ≡ Done (map end_told more) = later x n y more are s.1 in
      absurd (cc r)
done_same ts end l (Ended_early t ts' l₁ tries) tags x m y ends are e = by ends are where
  by : (ends : List Told) → AreReturned (t ∷ ts') ends m → Stuck t ≡ Done (map end_told ends)
  by [] are = absurd are
  by (one ∷ more) (a, n, is, so, goes, are) =
      let s = one_same t Contended one l a x (n ++ y) tags.0 tries so (e ∙ ap (λ z. z ++ y) is ∙ append_assoc a n y) in
      absurd (on_not one goes s.0)

-- the first of some tags, or else another, and those after it
abbrev first_tag : Bytes → List Bytes → Bytes
first_tag t [] = t
first_tag t (u ∷ us) = u

abbrev other_tags : List Bytes → List Bytes
other_tags [] = []
other_tags (u ∷ us) = us

-- a pass that is told to be contended at a tag ended at it
pub stuck_same : (ts : List Bytes) (end : PassEnd) (l : List Call) → IsReturns plain_setting ts end l → Each plain_setting.is_tag ts → (x m tries y : List Call) (before after : List Bytes) (ends : List Told) (t : Bytes) (tag : Tag)
    → ts ≡ before ++ t ∷ after → AreReturned before ends m → IsReturned t (returned.Contended tag) tries → l ++ x ≡ m ++ (tries ++ y) → end ≡ Stuck t
stuck_same ts end l All_returned tags x m tries y before after ends t tag is are so e = by before is where
  by : (before : List Bytes) → [] ≡ before ++ t ∷ after → Done [] ≡ Stuck t
  by [] is = absurd (cc is)
  by (u ∷ us) is = absurd (cc is)
stuck_same ts end l (Returned u us first others l₁ l₂ its on rest) tags x m tries y before after ends t tag is are so e = by before ends is are (stuck_same us (Done others) l₂ rest tags.1) where
  by : (before : List Bytes) (ends : List Told) → u ∷ us ≡ before ++ t ∷ after → AreReturned before ends m → ((x m tries y : List Call) (before after : List Bytes) (ends : List Told) (t : Bytes) (tag : Tag) → us ≡ before ++ t ∷ after → AreReturned before ends m → IsReturned t (returned.Contended tag) tries → l₂ ++ x ≡ m ++ (tries ++ y) → Done others ≡ Stuck t) → Done (first ∷ others) ≡ Stuck t
  by [] [] is none later =
      let own : t ≡ u = sym (ap (first_tag u) is) in
      let s = one_same u first (returned.Contended tag) l₁ tries (l₂ ++ x) y tags.0 its (subst (λ z. IsReturned z (returned.Contended tag) tries) own so) (sym (append_assoc l₁ l₂ x) ∙ e ∙ ap (λ z. z ++ (tries ++ y)) none) in
      absurd (contended_not first on s.0)
  by [] (one ∷ more) is none later = absurd none
  by (b ∷ bs) [] is are later = absurd are
  by (b ∷ bs) (one ∷ more) is (a, n, cuts, did, goes, are) later =
      let own : b ≡ u = sym (ap (first_tag u) is) in
      let s = one_same u first one l₁ a (l₂ ++ x) (n ++ (tries ++ y)) tags.0 its (subst (λ z. IsReturned z one a) own did) (parted l₁ l₂ x m n (tries ++ y) e a cuts) in
      let r : Done others ≡ Stuck t = later x n tries y bs after more t tag (ap other_tags is) are so s.1 in
      absurd (cc r)
stuck_same ts end l (Returned_until u us first stuck l₁ l₂ its on rest) tags x m tries y before after ends t tag is are so e = by before ends is are (stuck_same us (Stuck stuck) l₂ rest tags.1) where
  by : (before : List Bytes) (ends : List Told) → u ∷ us ≡ before ++ t ∷ after → AreReturned before ends m → ((x m tries y : List Call) (before after : List Bytes) (ends : List Told) (t : Bytes) (tag : Tag) → us ≡ before ++ t ∷ after → AreReturned before ends m → IsReturned t (returned.Contended tag) tries → l₂ ++ x ≡ m ++ (tries ++ y) → Stuck stuck ≡ Stuck t) → Stuck stuck ≡ Stuck t
  by [] [] is none later =
      let own : t ≡ u = sym (ap (first_tag u) is) in
      let s = one_same u first (returned.Contended tag) l₁ tries (l₂ ++ x) y tags.0 its (subst (λ z. IsReturned z (returned.Contended tag) tries) own so) (sym (append_assoc l₁ l₂ x) ∙ e ∙ ap (λ z. z ++ (tries ++ y)) none) in
      absurd (contended_not first on s.0)
  by [] (one ∷ more) is none later = absurd none
  by (b ∷ bs) [] is are later = absurd are
  by (b ∷ bs) (one ∷ more) is (a, n, cuts, did, goes, are) later =
      let own : b ≡ u = sym (ap (first_tag u) is) in
      let s = one_same u first one l₁ a (l₂ ++ x) (n ++ (tries ++ y)) tags.0 its (subst (λ z. IsReturned z one a) own did) (parted l₁ l₂ x m n (tries ++ y) e a cuts) in
      later x n tries y bs after more t tag (ap other_tags is) are so s.1
stuck_same ts end l (Ended_early u us l₁ its) tags x m tries y before after ends t tag is are so e = by before ends is are where
  by : (before : List Bytes) (ends : List Told) → u ∷ us ≡ before ++ t ∷ after → AreReturned before ends m → Stuck u ≡ Stuck t
  by [] [] is none = ap Stuck (ap (first_tag u) is)
  by [] (one ∷ more) is none = absurd none
  by (b ∷ bs) [] is are = absurd are
  by (b ∷ bs) (one ∷ more) is (a, n, cuts, did, goes, are) =
      let own : b ≡ u = sym (ap (first_tag u) is) in
      let s = one_same u Contended one l a x (n ++ (tries ++ y)) tags.0 its (subst (λ z. IsReturned z one a) own did) (e ∙ ap (λ z. z ++ (tries ++ y)) cuts ∙ append_assoc a n (tries ++ y)) in
      absurd (on_not one goes s.0)

-- ---- counts

pub moved_tally : (ends : List Told) → (tally ends).moved ≡ moved_in (map end_told ends)
moved_tally [] = refl
moved_tally (returned.Moved ∷ ends) = let h = moved_tally ends in omega (arith, h)
moved_tally (returned.Gone ∷ ends) = moved_tally ends
moved_tally (returned.Stayed ∷ ends) = moved_tally ends
moved_tally (returned.Contended tag ∷ ends) = moved_tally ends

pub gone_tally : (ends : List Told) → (tally ends).gone ≡ gone_in (map end_told ends)
gone_tally [] = refl
gone_tally (returned.Moved ∷ ends) = gone_tally ends
gone_tally (returned.Gone ∷ ends) = let h = gone_tally ends in omega (arith, h)
gone_tally (returned.Stayed ∷ ends) = gone_tally ends
gone_tally (returned.Contended tag ∷ ends) = gone_tally ends

pub stayed_tally : (ends : List Told) → (tally ends).stayed ≡ stayed_in (map end_told ends)
stayed_tally [] = refl
stayed_tally (returned.Moved ∷ ends) = stayed_tally ends
stayed_tally (returned.Gone ∷ ends) = stayed_tally ends
stayed_tally (returned.Stayed ∷ ends) = let h = stayed_tally ends in omega (arith, h)
stayed_tally (returned.Contended tag ∷ ends) = stayed_tally ends

-- the counts of returns sum to their tags
pub all_counted : (ts : List Bytes) (ends : List Told) (l : List Call) → AreReturned ts ends l → returned_count (tally ends) ≡ length ts
all_counted [] [] l are = refl
all_counted [] (end ∷ ends) l are = absurd are
all_counted (t ∷ ts) [] l are = absurd are
all_counted (t ∷ ts) (returned.Moved ∷ ends) l (a, n, is, so, goes, are) = let h = all_counted ts ends n are in omega (arith, h)
all_counted (t ∷ ts) (returned.Gone ∷ ends) l (a, n, is, so, goes, are) = let h = all_counted ts ends n are in omega (arith, h)
all_counted (t ∷ ts) (returned.Stayed ∷ ends) l (a, n, is, so, goes, are) = let h = all_counted ts ends n are in omega (arith, h)
all_counted (t ∷ ts) (returned.Contended tag ∷ ends) l (a, n, is, so, goes, are) = absurd goes
