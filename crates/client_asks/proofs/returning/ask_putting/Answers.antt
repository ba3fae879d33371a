use Rattle.std.proofs.Common.{Some, ap, refl, sym, ◌∙◌}
use Rattle.manner_laws.specs.Spots.{Putting, Queueing}
use Rattle.client_asks.proofs.Tests.{putting_said}
use Rattle.client_asks.proofs.returning.ask_putting.Goals as goal

pub returns-in_ok-spot-in-len1-up : goal.returns-in_ok-spot-in-len1-up
returns-in_ok-spot-in-len1-up c = λ at.
    let s = c.args.spot.now in
    let rest = c.in_ok-spot-in-len1-up.field-0 in (
      putting_said s.drawn s.passes at s.seed s.tries s.tried s.tag s.tags s.envelope s.keys c.as_slice.result.now c.key-item.result rest c.args.words.now c.side_for-side.result c.push_word.result.now c.as_slice-in-len1-up.result.now c.as_slice-in-len1-up-2.result.now c.says_three.result
          c.as_slice.ensures c.in-len1-up.len_at_least c.key-item.is c.in_ok-spot-in-len1-up.ensures (c.side_for-side.ensures s.tag s.tags) c.push_word.ensures c.as_slice-in-len1-up.ensures c.as_slice-in-len1-up-2.ensures c.says_three.ensures c.if-not-says_three.false
          ∙ ap (λ j. Some (Queueing (Putting s.drawn s.passes j s.tries s.envelope rest))) (sym (c.sided-spot.ensures s.tag s.tags)),
      refl,
    )
