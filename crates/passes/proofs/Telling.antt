-- What an answer brought to a pass tells of the calls up to it.
use Rattle.std.proofs.Common.{◌≡◌, ◌+◌, ◌<◌, ◌≤◌, ℕ, List, [], ◌∷◌, ◌++◌, append_assoc, length, drop, take, Some, refl, sym, ap, ◌∙◌, subst}
use Rattle.std.proofs.lemmas.List.{append-nil, drop_more, length-map, take_all, take_more, take-append-drop}
use Rattle.wire_values.specs.declared.value.Value.{Value}
use Rattle.wire_values.specs.declared.value.Value.TheVariants.{NullBulk}
use Rattle.delivery_tags.specs.Tags.{tag_text}
use Rattle.delivery_tags.specs.declared.tag.Tag.{Tag}
use Rattle.store_model.specs.Replies.{done}
use Rattle.queue_keys.specs.Names.{Bytes}
use Rattle.command_blocks.specs.Calls.{Call, call}
use Rattle.command_blocks.specs.EnvelopeTexts.{plain_setting}
use Rattle.command_blocks.specs.PassBlocks.{tags_among}
use Rattle.command_blocks.specs.Scripts.{Script, Over, Off, Say, after_call, rest_of, return_script, texts_of}
use Rattle.command_blocks.specs.declared.side.Side.TheVariants.{Right}
use Rattle.block_core.specs.Stages.{TellsOn}
use Rattle.block_core.specs.declared.stage.Progress.{Progress}
use Rattle.block_core.specs.declared.stage.Progress.TheVariants as found
use Rattle.block_laws.proofs.Fronts.{rest-append}
use Rattle.returns.specs.Returns.{TellsReturned, TryingHad, return_stage_left}
use Rattle.returns.specs.Spots.{returned_left, tried_left, trying_left}
use Rattle.returns.specs.declared.returned.Returned.{Returned}
use Rattle.returns.specs.declared.returned.Returned.TheVariants as returned
use Rattle.returns.specs.declared.trying.Trying.{Trying}
use Rattle.passes.specs.Counts.{counted, no_counts, returned_count, tag_texts}
use Rattle.passes.specs.Passes.{HasEnded, tag_now}
use Rattle.passes.specs.Told.{AreReturned, HasDue, HasReturned, IsDone, IsFirst, IsOn, IsReturned, IsReturning, IsStuck, TellsPass}
use Rattle.passes.specs.declared.counts.Counts.{Counts}
use Rattle.passes.specs.declared.ended.PassEnd.{PassEnd}
use Rattle.passes.specs.declared.ended.PassEnd.TheVariants.{Done, Held, Contended}
use Rattle.passes.specs.declared.turns.Returns.{Returns}
use Rattle.passes.proofs.Counting.{tally_more}

-- the moment and the words of a call don't matter
pub same_call : (p : Script) (x : Call) → after_call p (call 0 [] x.answer) ≡ after_call p x
same_call Over x = refl
same_call Off x = refl
same_call (Say w go) x = refl

-- ---- one more call

read_more : (members : List Bytes) (more calls : List Call) (x : Call) → HasDue members more calls → HasDue members (more ++ x ∷ []) (calls ++ x ∷ [])
read_more members more calls x h = record {
  lock = h.lock;
  range = h.range;
  is = ap (λ l. l ++ x ∷ []) h.is;
  locked = h.locked;
  read = h.read;
}

read_so : (members : List Bytes) (more other calls : List Call) → more ≡ other → HasDue members more calls → HasDue members other calls
read_so members more other calls is h = subst (λ l. HasDue members l calls) is h

first_on : (P : Value → Type 0) (calls more : List Call) → IsFirst P calls → IsFirst P (calls ++ more)
first_on P [] more t = absurd t
first_on P (x ∷ xs) more t = t

-- what the end tells holds with further calls
pub still_tells : (calls : List Call) (x : Call) (end : PassEnd) → TellsPass calls end → TellsPass (calls ++ x ∷ []) end
still_tells calls x (Done m g s) h = record {
  members = h.members;
  ends = h.ends;
  returns = h.returns;
  release = h.release ++ x ∷ [];
  read = read_so h.members _ (h.returns ++ (h.release ++ x ∷ [])) (calls ++ x ∷ []) (append_assoc h.returns h.release (x ∷ [])) (read_more h.members (h.returns ++ h.release) calls x h.read);
  through = h.through;
  tally = h.tally;
}
still_tells calls x Held h = first_on (λ r. r ≡ NullBulk) calls (x ∷ []) h
still_tells calls x (Contended tag) h = record {
  members = h.members;
  ends = h.ends;
  first = h.first;
  others = h.others;
  before = h.before;
  tries = h.tries;
  release = h.release ++ x ∷ [];
  read = read_so h.members _ (h.before ++ (h.tries ++ (h.release ++ x ∷ []))) (calls ++ x ∷ []) (append_assoc h.before (h.tries ++ h.release) (x ∷ []) ∙ ap (λ l. h.before ++ l) (append_assoc h.tries h.release (x ∷ [])))
      (read_more h.members (h.before ++ (h.tries ++ h.release)) calls x h.read);
  tags = h.tags;
  through = h.through;
  contended = h.contended;
}

pub with_call : (tags : List Tag) (counts : Counts) (tries calls : List Call) (x : Call) → HasReturned tags counts tries calls → HasReturned tags counts (tries ++ x ∷ []) (calls ++ x ∷ [])
with_call tags counts tries calls x h = record {
  members = h.members;
  ends = h.ends;
  before = h.before;
  read = read_so h.members _ (h.before ++ (tries ++ x ∷ [])) (calls ++ x ∷ []) (append_assoc h.before tries (x ∷ [])) (read_more h.members (h.before ++ tries) calls x h.read);
  found = h.found;
  through = h.through;
  tally = h.tally;
}

-- ---- SET and ZREVRANGEBYSCORE

pub held_tells : (calls : List Call) (x : Call) (r : Value) → x.answer ≡ r → calls ≡ [] → r ≡ NullBulk → IsFirst (λ r. r ≡ NullBulk) (calls ++ x ∷ [])
held_tells calls x r e none is = subst (λ l. IsFirst (λ r. r ≡ NullBulk) (l ++ x ∷ [])) (sym none) (e ∙ is)

pub locked_had : (calls : List Call) (x : Call) (r : Value) → x.answer ≡ r → calls ≡ [] → r ≡ done → (lock : Call) × (calls ++ x ∷ [] ≡ lock ∷ []) × (lock.answer ≡ done)
locked_had calls x r e none is = (x, ap (λ (l : List Call). l ++ x ∷ []) none, e ∙ is)

-- the members were read, and no tag was returned yet
pub none_returned : (members : List Bytes) (tags : List Tag) (calls : List Call) (x : Call) (r : Value) → x.answer ≡ r → (lock : Call) × (calls ≡ lock ∷ []) × (lock.answer ≡ done) → Some members ≡ texts_of r → tag_texts tags ≡ tags_among plain_setting members
    → HasReturned tags no_counts [] (calls ++ x ∷ [])
none_returned members tags calls x r e (lock, is, locked) read found = record {
  members = members;
  ends = [];
  before = [];
  read = record { lock = lock; range = x; is = ap (λ (l : List Call). l ++ x ∷ []) is; locked = locked; read = ap texts_of e ∙ sym read };
  found = sym found;
  through = refl;
  tally = refl;
}

-- ---- a return

-- it begins
pub begins : (t : Bytes) (u : Bytes) (trying : Trying) → trying_left Over Over trying ≡ return_script plain_setting Right t → TryingHad t [] trying → t ≡ u → IsReturning u trying []
begins t u trying left had is = subst (λ (v : Bytes). IsReturning v trying []) is (record { left = sym left; had = had })

module _ (t : Bytes) (trying : Trying) (tries : List Call) (x : Call) (r : Value) (e : x.answer ≡ r) (p : Progress Trying Returned) (so : IsReturning t trying tries)
    (left : tried_left Over Over p ≡ after_call (trying_left Over Over trying) (call 0 [] r)) (tells : TellsOn (TryingHad t) (TellsReturned t) (tries ++ x ∷ []) p) where
  gone_to : rest_of (return_script plain_setting Right t) (tries ++ x ∷ []) ≡ tried_left Over Over p
  gone_to =
      rest-append (return_script plain_setting Right t) tries (x ∷ [])
      ∙ ap (λ q. after_call q x) so.left
      ∙ sym (same_call (return_stage_left trying) x)
      ∙ ap (λ v. after_call (trying_left Over Over trying) (call 0 [] v)) e
      ∙ sym left

  -- it goes on
  pub goes_on : (next : Trying) → p ≡ found.Next next → IsReturning t next (tries ++ x ∷ [])
  goes_on next is = record { left = gone_to ∙ ap (tried_left Over Over) is; had = subst (TellsOn (TryingHad t) (TellsReturned t) (tries ++ x ∷ [])) is tells }

  over_so : (end : Returned) → returned_left Over Over end ≡ Over
  over_so returned.Moved = refl
  over_so returned.Gone = refl
  over_so returned.Stayed = refl
  over_so (returned.Contended tag) = refl

  -- it is over
  pub is_over : (end : Returned) → p ≡ found.Over end → IsReturned t end (tries ++ x ∷ [])
  is_over end is = record { over = gone_to ∙ ap (tried_left Over Over) is ∙ over_so end; tells = subst (TellsOn (TryingHad t) (TellsReturned t) (tries ++ x ∷ [])) is tells }

-- ---- the returns

returned_more : (ts : List Bytes) (ends : List Returned) (l : List Call) (t : Bytes) (end : Returned) (tries : List Call) → AreReturned ts ends l → IsReturned t end tries → IsOn end → AreReturned (ts ++ t ∷ []) (ends ++ end ∷ []) (l ++ tries)
returned_more [] [] l t end tries none so on = (tries, [], ap (λ (k : List Call). k ++ tries) none ∙ sym (append-nil tries), so, on, refl)
returned_more [] (e ∷ ends) l t end tries h so on = absurd h
returned_more (u ∷ ts) [] l t end tries h so on = absurd h
returned_more (u ∷ ts) (e ∷ ends) l t end tries (a, more, is, one, goes, others) so on =
    (a, more ++ tries, ap (λ (k : List Call). k ++ tries) is ∙ append_assoc a more tries, one, goes, returned_more ts ends more t end tries others so on)

-- one more tag was returned
pub one_returned : (returns : Returns) (end : Returned) (count : ℕ) (calls : List Call) → count ≡ returned_count returns.counts + 1 → returned_count (counted end returns.counts) ≡ count → IsOn end → HasEnded returns end calls → HasReturned returns.tags (counted end returns.counts) [] calls
one_returned returns end count calls is so on (tries, h, ended) =
    let texts : List Bytes = tag_texts returns.tags in
    let n : ℕ = returned_count returns.counts in
    let less : n < length texts = subst (λ k. n < k) (sym (length-map returns.tags (λ (t : Tag). tag_text t.0))) returns.within in
    record {
      members = h.members;
      ends = h.ends ++ end ∷ [];
      before = h.before ++ tries;
      read = read_so h.members _ ((h.before ++ tries) ++ []) calls (sym (append-nil (h.before ++ tries))) h.read;
      found = h.found;
      through = subst (λ ts. AreReturned ts (h.ends ++ end ∷ []) (h.before ++ tries)) (sym (take_more texts n [] less) ∙ ap (λ k. take k texts) (sym is ∙ sym so)) (returned_more (take n texts) h.ends h.before (tag_now returns) end tries h.through ended on);
      tally = tally_more h.ends end ∙ ap (counted end) h.tally;
    }

-- all of them were
pub all_returned : (tags : List Tag) (counts : Counts) (calls : List Call) → length (tag_texts tags) ≤ returned_count counts → HasReturned tags counts [] calls → IsDone counts calls
all_returned tags counts calls all h = record {
  members = h.members;
  ends = h.ends;
  returns = h.before;
  release = [];
  read = h.read;
  through = subst (λ ts. AreReturned ts h.ends h.before) (take_all (returned_count counts) (tag_texts tags) all ∙ sym h.found) h.through;
  tally = h.tally;
}

-- the present one was contended
pub one_stuck : (returns : Returns) (tag : Tag) (calls : List Call) → HasEnded returns (returned.Contended tag) calls → IsStuck tag calls
one_stuck returns tag calls (tries, h, ended) =
    let texts : List Bytes = tag_texts returns.tags in
    let n : ℕ = returned_count returns.counts in
    let less : n < length texts = subst (λ k. n < k) (sym (length-map returns.tags (λ (t : Tag). tag_text t.0))) returns.within in
    let own : tag_text tag.0 ≡ tag_now returns = ended.tells.1 in
    record {
      members = h.members;
      ends = h.ends;
      first = take n texts;
      others = drop (n + 1) texts;
      before = h.before;
      tries = tries;
      release = [];
      read = read_so h.members _ (h.before ++ (tries ++ [])) calls (ap (λ l. h.before ++ l) (sym (append-nil tries))) h.read;
      tags = h.found ∙ sym (take-append-drop n texts) ∙ ap (λ l. take n texts ++ l) (drop_more texts n [] less) ∙ ap (λ (x : Bytes). take n texts ++ x ∷ drop (n + 1) texts) (sym own);
      through = h.through;
      contended = subst (λ (t : Bytes). IsReturned t (returned.Contended tag) tries) (sym own) ended;
    }
