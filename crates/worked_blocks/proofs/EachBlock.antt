-- Each kind of block, with each of its ends, has a whole list, and a client may say all of them in a row.
use Rattle.std.proofs.Common.{◌≡◌, ℕ, [], ◌∷◌, ◌++◌, Option, Some, None, codes, pos, true, false, refl, ap, ◌∙◌, lit<, lit≤, inl, inr}
use Rattle.std.proofs.lemmas.List.{append-nil}
use Rattle.std.proofs.lemmas.Str.{is_utf8-from_IsUtf8}
use Rattle.std.specs.Str.{is_utf8}
use Rattle.wire_values.specs.Layer.{layer}
use Rattle.wire_values.specs.declared.value.Value.TheVariants.{Integer}
use Rattle.store_model.specs.Replies.{pong}
use Rattle.command_blocks.specs.Answers.{is_error}
use Rattle.queue_keys.specs.Bindings.{binding_of}
use Rattle.command_blocks.specs.Blocks.{AreBlocks, Drawing, IsBlock, IsMannered, Other, Passing, Pings}
use Rattle.command_blocks.specs.Blocks as block
use Rattle.command_blocks.specs.Calls.{concat}
use Rattle.queue_keys.specs.Names.{Bytes, same}
use Rattle.command_blocks.specs.PassBlocks.{All_returned, Done, Ended_early, Foreign, Held, IsReturns, Is_held, Own, Ran, Returned, Returned_until, Stuck}
use Rattle.queue_keys.specs.Patterns.{matches}
use Rattle.queue_keys.specs.Texts.{token}
use Rattle.command_blocks.specs.ReturnBlocks.{Again, Carries, Contended, Eighth, Gone, IsTries, IsTry, Missing, Moved, Nowhere, Stayed, Try, Useless, Whole}
use Rattle.command_blocks.specs.RouteBlocks.{Asked, Named, Plain, Told}
use Rattle.command_blocks.specs.TakeBlocks.{Acknowledged, Empty, IsPop, Popped, Unreadable}
use Rattle.command_blocks.specs.declared.side.Side.{Side}
use Rattle.command_blocks.specs.declared.side.Side.TheVariants.{Left, Right}
use Rattle.worked_blocks.specs.Lists.{all_blocks, bindings, declared, ended, later_keys, marked_envelope, named_envelope, named_marked, passed_calls, passed_held, passed_nothing, passed_stuck, pinged, plain_envelope, popped, popped_junk, popped_nothing, published, published_to_none, published_to_two, q, released, released_altered, released_foreign, released_nobody, requeued, returned, returned_by_bindings, returned_contended, returned_gone, returned_junk, returned_late, returned_nowhere, second_gone, second_tag, message_tag, ended_nothing, returned_other, returned_unnamed, unnamed_envelope}
use Rattle.worked_blocks.specs.Toy.{toy_setting}

some_is : (u v : Bytes) → ◌≡◌ {A = Option Bytes} (Some u) (Some v) → u ≡ v
some_is u v e = cc e

-- ---- declaring and publishing

adds : (n p : ℕ) → IsBlock toy_setting 7 n p Other (declared (codes "SADD"))
unfolding same
adds n p = block.Declare (codes "ex") (codes "rk") [] (codes "q") _ (Told 100 (pos 1) refl refl refl refl)

removes : (n p : ℕ) → IsBlock toy_setting 7 n p Other (declared (codes "SREM"))
unfolding same
removes n p = block.Undeclare (codes "ex") (codes "rk") [] (codes "q") _ (Told 100 (pos 1) refl refl refl refl)

publishes : (p : ℕ) → IsBlock toy_setting 7 0 p Drawing published
unfolding same
publishes p = block.Publish plain_envelope _ (Plain 100 q (pos 1) refl refl refl)

publishes_to_two : (p : ℕ) → IsBlock toy_setting 7 1 p Drawing published_to_two
unfolding same matches binding_of
publishes_to_two p = block.Publish named_envelope _ (Named 100 (codes "ex") bindings ((100, codes "a", pos 1) ∷ (100, q, pos 1) ∷ []) refl refl refl)

ex_is_text : is_utf8 (codes "ex") ≡ true
unfolding lib.Utf8.encode
ex_is_text = is_utf8-from_IsUtf8 (codes "ex") (101 ∷ 120 ∷ [], (refl, refl))

publishes_to_none : (p : ℕ) → IsBlock toy_setting 7 2 p Drawing published_to_none
publishes_to_none p = block.Publish_short _ (Asked 100 (codes "ex") [] refl ex_is_text)

-- ---- popping and acknowledging

pops : IsPop toy_setting (q ∷ []) (q ∷ later_keys)
unfolding same
pops = ((refl, tt), refl, lit≤ tt)

pops_nothing : (n p : ℕ) → IsBlock toy_setting 7 n p Other popped_nothing
pops_nothing n p = block.Pop (q ∷ []) _ (Empty 100 q later_keys pops)

pops_junk : (n p : ℕ) → IsBlock toy_setting 7 n p Other popped_junk
pops_junk n p = block.Pop (q ∷ []) _ (Unreadable 100 q later_keys q (codes "junk") pops refl)

pops_message : (n p : ℕ) → IsBlock toy_setting 7 n p Other popped
pops_message n p = block.Pop (q ∷ []) _ (Popped 100 100 100 100 100 q later_keys q plain_envelope message_tag (pos 1) (pos 1) pops refl (lit< tt))

ends : (n p : ℕ) → IsBlock toy_setting 7 n p Other ended
ends n p = block.End message_tag _ (Acknowledged 100 100 100 100 (pos 1) (pos 1) refl)

ends_nothing : (n p : ℕ) → IsBlock toy_setting 7 n p Other ended_nothing
ends_nothing n p = block.End message_tag _ (Acknowledged 100 100 100 100 (pos 0) (pos 0) refl)

-- ---- returning

-- a try that goes as far as EXEC
one_try : Try
one_try = record {
  a = 100;
  b = 100;
  c = 100;
  d = 100;
  e = 100;
  f = 100;
  g = 100;
  entry = plain_envelope;
  envelope = marked_envelope;
  members = [];
  first = (100, q);
  others = [];
}

is_try : IsTry toy_setting message_tag one_try
unfolding same one_try
is_try = ((refl, refl), refl)

moves : (side : Side) → side ≡ Right → IsTries toy_setting Right message_tag 0 Moved returned
unfolding one_try
moves side e = Whole 0 one_try (pos 1 ∷ pos 1 ∷ pos 1 ∷ []) is_try

misses : (side : Side) (k : ℕ) → IsTries toy_setting side message_tag k Gone returned_gone
misses side k = Missing k 100 100 100

nothing_is_some : (v : Bytes) → ◌≡◌ {A = Option Bytes} None (Some v) → ⊥
nothing_is_some v e = cc

returns_message : (n p : ℕ) → IsBlock toy_setting 7 n p Other returned
returns_message n p = block.Return message_tag Right Moved _ (refl, moves Right refl)

returns_gone : (n p : ℕ) → IsBlock toy_setting 7 n p Other returned_gone
returns_gone n p = block.Return message_tag Left Gone _ (refl, misses Left 0)

returns_junk : (n p : ℕ) → IsBlock toy_setting 7 n p Other returned_junk
returns_junk n p = block.Return message_tag Left Stayed _ (refl, Useless 0 100 100 100 (codes "junk") (λ v h. nothing_is_some v h.0))

-- the entry is one of the second tag
other_tag : (v : Bytes) → Carries toy_setting named_envelope message_tag v → ⊥
other_tag v h =
    let is : named_marked ≡ v = some_is named_marked v h.0 in
    let tags : ◌≡◌ {A = Option Bytes} (Some second_tag) (Some message_tag) = ap (λ w. toy_setting.tag_of w) is ∙ h.1 in
    cc tags

returns_other : (n p : ℕ) → IsBlock toy_setting 7 n p Other returned_other
returns_other n p = block.Return message_tag Left Stayed _ (refl, Useless 0 100 100 100 named_envelope other_tag)

returns_nowhere : (n p : ℕ) → IsBlock toy_setting 7 n p Other returned_nowhere
returns_nowhere n p = block.Return second_tag Left Stayed _ (refl, Nowhere 0 100 100 100 100 named_envelope (1 ∷ 7 ∷ 2 ∷ 0 ∷ 1 ∷ codes "rk") [] (refl, refl) refl)

returns_unnamed : (n p : ℕ) → IsBlock toy_setting 7 n p Other returned_unnamed
unfolding same
returns_unnamed n p = block.Return message_tag Left Stayed _ (refl, Nowhere 0 100 100 100 100 unnamed_envelope (1 ∷ 7 ∷ 1 ∷ 0 ∷ 0 ∷ codes "unacked") [] (refl, refl) refl)

returns_late : (n p : ℕ) → IsBlock toy_setting 7 n p Other returned_late
unfolding one_try
returns_late n p = block.Return message_tag Right Gone _ (refl, Again 0 one_try Gone returned_gone (lit< tt) is_try (misses Right 1))

requeues : (n p : ℕ) → IsBlock toy_setting 7 n p Other requeued
unfolding one_try
requeues n p = block.Return message_tag Left Moved _ (refl, Whole 0 one_try (pos 1 ∷ pos 1 ∷ pos 1 ∷ []) is_try)

-- a try over bindings
bound_try : Try
bound_try = record {
  a = 100;
  b = 100;
  c = 100;
  d = 100;
  e = 100;
  f = 100;
  g = 100;
  entry = named_envelope;
  envelope = named_marked;
  members = bindings;
  first = (100, codes "a");
  others = (100, q) ∷ [];
}

is_bound_try : IsTry toy_setting second_tag bound_try
unfolding same matches binding_of bound_try
is_bound_try = ((refl, refl), refl)

returns_by_bindings : (n p : ℕ) → IsBlock toy_setting 7 n p Other returned_by_bindings
unfolding bound_try
returns_by_bindings n p = block.Return second_tag Right Moved _ (refl, Whole 0 bound_try (pos 1 ∷ pos 1 ∷ pos 1 ∷ pos 1 ∷ []) is_bound_try)

-- eight tries that failed
contends : IsTries toy_setting Right message_tag 0 Contended returned_contended
unfolding one_try
contends =
    Again 0 one_try Contended _ (lit< tt) is_try
    (Again 1 one_try Contended _ (lit< tt) is_try
    (Again 2 one_try Contended _ (lit< tt) is_try
    (Again 3 one_try Contended _ (lit< tt) is_try
    (Again 4 one_try Contended _ (lit< tt) is_try
    (Again 5 one_try Contended _ (lit< tt) is_try
    (Again 6 one_try Contended _ (lit< tt) is_try
    (Eighth one_try is_try)))))))

returns_contended : (n p : ℕ) → IsBlock toy_setting 7 n p Other returned_contended
returns_contended n p = block.Return message_tag Right Contended _ (refl, contends)

-- ---- passing, and what concerns no message

passes_held : (n : ℕ) → IsBlock toy_setting 7 n 0 Passing passed_held
passes_held n = block.Pass 10 Held _ (lit< tt) (Is_held 100)

returns_of_pass : IsReturns toy_setting (message_tag ∷ []) (Done (Moved ∷ [])) (returned ++ [])
returns_of_pass = Returned message_tag [] Moved [] returned [] (moves Right refl) refl All_returned

passes : (n : ℕ) → IsBlock toy_setting 7 n 1 Passing passed_calls
passes n = block.Pass 10 (Done (Moved ∷ [])) _ (lit< tt) (Ran 100 100 (message_tag ∷ codes "junk" ∷ []) (Done (Moved ∷ [])) returned released returns_of_pass
    (Own 100 100 100 100 100 _ (inl (Integer (pos 1) ∷ [], refl))))

not_empty : (xs : Bytes) (y : ℕ) (ys : Bytes) → [] ≡ xs ++ y ∷ ys → ⊥
not_empty [] y ys e = cc e
not_empty (x ∷ xs) y ys e = cc e

other_token : [] ≡ token 7 3 → ⊥
other_token e = not_empty _ _ _ e

passes_stuck : (n : ℕ) → IsBlock toy_setting 7 n 2 Passing passed_stuck
passes_stuck n = block.Pass 10 (Stuck message_tag) _ (lit< tt) (Ran 100 100 (second_tag ∷ message_tag ∷ []) (Stuck message_tag) (second_gone ++ returned_contended) released_foreign
    (Returned_until second_tag (message_tag ∷ []) Gone message_tag second_gone returned_contended (Missing 0 100 100 100) refl (Ended_early message_tag [] returned_contended contends))
    (Foreign 100 100 100 _ (inl ([], refl, other_token))))

passes_nobody : (n : ℕ) → IsBlock toy_setting 7 n 3 Passing (passed_nothing (token 7 4) released_nobody)
passes_nobody n = block.Pass 10 (Done []) _ (lit< tt) (Ran 100 100 [] (Done []) [] released_nobody All_returned (Foreign 100 100 100 _ (inr refl)))

passes_altered : (n : ℕ) → IsBlock toy_setting 7 n 4 Passing (passed_nothing (token 7 5) released_altered)
passes_altered n = block.Pass 10 (Done []) _ (lit< tt) (Ran 100 100 [] (Done []) [] released_altered All_returned (Own 100 100 100 100 100 _ (inr refl)))

pong_is_fine : is_error pong ≡ false
unfolding layer
pong_is_fine = refl

pings : (n p : ℕ) → IsBlock toy_setting 7 n p Other pinged
pings n p = block.Neutral (codes "PING" ∷ []) _ (block.Answered 100 pong Pings pong_is_fine)

-- ---- a client

pub each : AreBlocks toy_setting 7 0 0 all_blocks
each = (Other, adds 0 0, (Other, removes 0 0, (Drawing, publishes 0, (Drawing, publishes_to_two 0, (Drawing, publishes_to_none 0, (Other, pops_nothing 3 0, (Other, pops_junk 3 0, (Other, pops_message 3 0, (Other, ends 3 0, (Other, ends_nothing 3 0, (Other, returns_message 3 0, (Other, returns_gone 3 0, (Other, returns_junk 3 0, (Other, returns_other 3 0, (Other, returns_nowhere 3 0, (Other, returns_unnamed 3 0, (Other, returns_late 3 0, (Other, requeues 3 0, (Other, returns_by_bindings 3 0, (Other, returns_contended 3 0, (Passing, passes_held 3, (Passing, passes 3, (Passing, passes_stuck 3, (Passing, passes_nobody 3, (Passing, passes_altered 3, (Other, pings 3 5, tt))))))))))))))))))))))))))

pub manner : IsMannered toy_setting 7 (concat all_blocks)
manner = inl (all_blocks, each, ([], append-nil (concat all_blocks)))
