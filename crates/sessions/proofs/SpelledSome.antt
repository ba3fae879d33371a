-- No value and no reply is written as nothing.
use Rattle.std.proofs.Common.{List, ap, arith, length, length-append, subst, sym, ℕ, ◌<◌, ◌∙◌}
use Rattle.std.specs.Prelude.{flat_map}
use Rattle.wire_values.specs.declared.value.Value.{Value, out-Value, roll-out-Value}
use Rattle.wire_values.specs.declared.value.Value.TheFolds.{fold-roll-Value}
use Rattle.wire_values.specs.declared.value.Value.TheOpen.{Value-F}
use Rattle.wire_grammar.specs.Texts.{spelling, spelling_step}
use Rattle.store_model.specs.declared.reply.Reply.{Reply}
use Rattle.sessions.specs.Talks.{reply_bytes}

step_some : (f : Value-F (List ℕ)) → 0 < length (spelling_step f)
step_some (Value-F.Status text) = omega arith
step_some (Value-F.Error text) = omega arith
step_some (Value-F.Integer z) = omega arith
step_some (Value-F.Bulk content) = omega arith
step_some Value-F.NullBulk = omega arith
step_some (Value-F.Array items) = omega arith
step_some Value-F.NullArray = omega arith

spelling_some : (v : Value) → 0 < length (spelling v)
spelling_some v = subst (λ (l : List ℕ). 0 < length l) (sym (ap spelling (sym (roll-out-Value v)) ∙ fold-roll-Value (List ℕ) spelling_step (out-Value v))) (step_some _)

pub reply_some : (r : Reply) → 0 < length (reply_bytes r)
reply_some r = let some : 0 < length (spelling r.answer) = spelling_some r.answer in omega (arith, some, length-append (flat_map spelling r.pushed) (spelling r.answer))
