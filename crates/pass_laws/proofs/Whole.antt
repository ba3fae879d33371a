-- What is told of a whole pass is its end, and one none of whose transactions failed is done.
use Rattle.std.proofs.Common.{◌≡◌, ℕ, List, [], ◌∷◌, ◌++◌, map, Option, Some, None, true, false, refl, sym, ap, ◌∙◌, subst, codes}
use Rattle.wire_values.specs.Layer.{layer}
use Rattle.wire_values.specs.declared.value.Value.TheVariants.{NullArray, NullBulk}
use Rattle.delivery_tags.specs.Tags.{tag_text}
use Rattle.delivery_tags.specs.declared.tag.Tag.{Tag}
use Rattle.store_model.specs.Replies.{done, bulks}
use Rattle.queue_keys.specs.Names.{Bytes}
use Rattle.command_blocks.specs.Calls.{Call, call}
use Rattle.command_blocks.specs.EnvelopeTexts.{plain_setting}
use Rattle.command_blocks.specs.PassBlocks.{IsPassBlock, Is_held, Ran, IsReturns, All_returned, Returned, Returned_until, Ended_early, due_words, lock_words, tags_among}
use Rattle.command_blocks.specs.PassBlocks as block
use Rattle.command_blocks.specs.ReturnBlocks.{ReturnEnd, Contended, IsTries, Missing, Useless, Nowhere, Whole, Eighth, Again, Try, asking, queued_calls, taking, whole_try}
use Rattle.command_blocks.specs.Scripts.{null_bulk_in, texts_of}
use Rattle.command_blocks.specs.declared.side.Side.TheVariants.{Right}
use Rattle.block_laws.proofs.Values.{layer-NullBulk, layer-Status, some_is, texts_of-bulks}
use Rattle.return_laws.specs.Ends.{end_told}
use Rattle.passes.specs.Counts.{returned_count, tally}
use Rattle.passes.specs.Told.{AreReturned, HasDue, IsDone, IsFirst, IsStuck, TellsPass}
use Rattle.passes.specs.declared.counts.Counts.{Counts}
use Rattle.passes.specs.declared.ended.PassEnd.{PassEnd}
use Rattle.passes.specs.declared.ended.PassEnd.TheVariants as ended
use Rattle.pass_laws.specs.Ends.{IsDoneWith, IsToldOf, NoneFailed}
use Rattle.pass_laws.proofs.Cuts.{first_or, others_of}
use Rattle.pass_laws.proofs.Ends.{all_counted, are_tags, done_same, gone_tally, moved_tally, stayed_tally, stuck_same}

-- +OK isn't the null bulk string
done_not : done ≡ NullBulk → ⊥
done_not e = let no : false ≡ true = sym (ap null_bulk_in (layer-Status (codes "OK"))) ∙ ap (λ v. null_bulk_in (layer v)) e ∙ ap null_bulk_in layer-NullBulk in absurd (cc no)

-- what was read of the second call is what it was answered
read_same : (x y : Call) (ms members : List Bytes) (l more : List Call) → y.answer ≡ bulks ms → HasDue members more (x ∷ y ∷ l) → (ms ≡ members) × (l ≡ more)
read_same x y ms members l more e read =
    let range : y ≡ read.range = ap (λ k. first_or y (others_of k)) read.is in
    let told : Some ms ≡ Some members = sym (texts_of-bulks ms) ∙ ap texts_of (sym e) ∙ ap (λ (c : Call). texts_of c.answer) range ∙ read.read in
    (some_is ms members told, ap (λ k. others_of (others_of k)) read.is)

one_not : (x : Call) (members : List Bytes) (more : List Call) → HasDue members more (x ∷ []) → ⊥
one_not x members more read = let no = ap others_of read.is in absurd (cc no)

module _ (ms : List Bytes) (end : block.PassEnd) (l rest : List Call) (x y : Call) (e : y.answer ≡ bulks ms) (returns : IsReturns plain_setting (tags_among plain_setting ms) end l) where
  ran_done : (m g s : ℕ) → IsDone (record { moved = m; gone = g; stayed = s }) (x ∷ y ∷ l ++ rest) → IsToldOf end (ended.Done m g s)
  ran_done m g s h =
      let r = read_same x y ms h.members (l ++ rest) (h.returns ++ h.release) e h.read in
      let are : AreReturned (tags_among plain_setting ms) h.ends h.returns = subst (λ k. AreReturned (tags_among plain_setting k) h.ends h.returns) (sym r.0) h.through in
      let is : end ≡ block.Done (map end_told h.ends) = done_same (tags_among plain_setting ms) end l returns (are_tags ms) rest h.returns h.release h.ends are r.1 in
      let counts : tally h.ends ≡ record { moved = m; gone = g; stayed = s } = h.tally in
      subst (λ z. IsToldOf z (ended.Done m g s)) (sym is)
      (sym (ap (λ (c : Counts). c.moved) counts) ∙ moved_tally h.ends, sym (ap (λ (c : Counts). c.gone) counts) ∙ gone_tally h.ends, sym (ap (λ (c : Counts). c.stayed) counts) ∙ stayed_tally h.ends)

  ran_stuck : (tag : Tag) → IsStuck tag (x ∷ y ∷ l ++ rest) → end ≡ block.Stuck (tag_text tag.0)
  ran_stuck tag h =
      let r = read_same x y ms h.members (l ++ rest) (h.before ++ (h.tries ++ h.release)) e h.read in
      stuck_same (tags_among plain_setting ms) end l returns (are_tags ms) rest h.before h.tries h.release h.first h.others h.ends (tag_text tag.0) tag (ap (tags_among plain_setting) r.0 ∙ h.tags) h.through h.contended r.1

pub ends : (token : Bytes) (v : ℕ) (end : block.PassEnd) (calls : List Call) (is : PassEnd) → IsPassBlock plain_setting token v end calls → TellsPass calls is → IsToldOf end is
ends token v end calls (ended.Done m g s) (Is_held a) h = absurd (one_not (call a (lock_words plain_setting token) NullBulk) h.members (h.returns ++ h.release) h.read)
ends token v end calls ended.Held (Is_held a) h = tt
ends token v end calls (ended.Contended tag) (Is_held a) h = absurd (one_not (call a (lock_words plain_setting token) NullBulk) h.members (h.before ++ (h.tries ++ h.release)) h.read)
ends token v end calls (ended.Done m g s) (Ran a b ms e l l' returns release) h = ran_done ms e l l' (call a (lock_words plain_setting token) done) (call b (due_words plain_setting b v) (bulks ms)) refl returns m g s h
ends token v end calls ended.Held (Ran a b ms e l l' returns release) h = absurd (done_not h)
ends token v end calls (ended.Contended tag) (Ran a b ms e l l' returns release) h =
    subst (λ z. IsToldOf z (ended.Contended tag)) (sym (ran_stuck ms e l l' (call a (lock_words plain_setting token) done) (call b (due_words plain_setting b v) (bulks ms)) refl returns tag h)) refl

-- ---- a pass none of whose transactions failed

none_after : (xs ys : List Call) → NoneFailed (xs ++ ys) → NoneFailed xs × NoneFailed ys
none_after [] ys h = (tt, h)
none_after (x ∷ xs) ys h = let k = none_after xs ys h.1 in ((h.0, k.0), k.1)

after_pushes : (v : Bytes) (qs : List (ℕ × Bytes)) (l : List Call) → NoneFailed (queued_calls Right v qs l) → NoneFailed l
after_pushes v [] l h = h
after_pushes v (q ∷ qs) l h = after_pushes v qs l h.1

after_asking : (o : Option Bytes) (a : ℕ) (ms : List Bytes) (l : List Call) → NoneFailed (asking plain_setting o a ms l) → NoneFailed l
after_asking None a ms l h = h
after_asking (Some e) a ms l h = h.1

-- a try whose EXEC was answered the null array failed
try_failed : (t : Bytes) (y : Try) (l : List Call) → NoneFailed (whole_try plain_setting Right t y NullArray l) → ⊥
try_failed t y l h =
    let k = after_asking (plain_setting.exchange_in y.entry) y.c y.members (taking plain_setting Right t y.d y.e y.f y.g y.envelope (y.first ∷ y.others) NullArray l) h.1.1 in
    let m = after_pushes y.envelope (y.first ∷ y.others) (call y.g (codes "EXEC" ∷ []) NullArray ∷ l) k.1.1.1 in
    m.0 refl refl

not_contended : (t : Bytes) (n : ℕ) (end : ReturnEnd) (l : List Call) → IsTries plain_setting Right t n end l → end ≡ Contended → NoneFailed l → ⊥
not_contended t n end l (Missing k a b c) is h = absurd (cc is)
not_contended t n end l (Useless k a b c u never) is h = absurd (cc is)
not_contended t n end l (Nowhere k a b c d u v ms carries none) is h = absurd (cc is)
not_contended t n end l (Whole k y zs fits) is h = absurd (cc is)
not_contended t n end l (Eighth y fits) is h = try_failed t y [] h
not_contended t n end l (Again k y e l' few fits more) is h = try_failed t y l' h

not_stuck : (ts : List Bytes) (end : block.PassEnd) (l : List Call) (t : Bytes) → IsReturns plain_setting ts end l → end ≡ block.Stuck t → NoneFailed l → ⊥
not_stuck ts end l t All_returned is h = absurd (cc is)
not_stuck ts end l t (Returned u us e es l₁ l₂ tries on rest) is h = absurd (cc is)
not_stuck ts end l t (Returned_until u us e stuck l₁ l₂ tries on rest) is h = not_stuck us (block.Stuck stuck) l₂ stuck rest refl (none_after l₁ l₂ h).1
not_stuck ts end l t (Ended_early u us l₁ tries) is h = not_contended u 0 Contended l₁ tries refl h

pub are_done : (token : Bytes) (v : ℕ) (end : block.PassEnd) (calls : List Call) (is : PassEnd) → IsPassBlock plain_setting token v end calls → TellsPass calls is → IsFirst (λ r. r ≡ done) calls → NoneFailed calls → IsDoneWith calls is
are_done token v end calls (ended.Done m g s) whole h first none = (h.members, h.returns ++ h.release, h.read, sym (ap returned_count h.tally) ∙ all_counted (tags_among plain_setting h.members) h.ends h.returns h.through)
are_done token v end calls ended.Held (Is_held a) h first none = absurd (done_not (sym first))
are_done token v end calls ended.Held (Ran a b ms e l l' returns release) h first none = absurd (done_not h)
are_done token v end calls (ended.Contended tag) (Is_held a) h first none = absurd (done_not (sym first))
are_done token v end calls (ended.Contended tag) (Ran a b ms e l l' returns release) h first none =
    not_stuck (tags_among plain_setting ms) e l (tag_text tag.0) returns (ran_stuck ms e l l' (call a (lock_words plain_setting token) done) (call b (due_words plain_setting b v) (bulks ms)) refl returns tag h) (none_after l l' none.1.1).0
