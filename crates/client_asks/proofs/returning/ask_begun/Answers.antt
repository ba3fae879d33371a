use Rattle.std.proofs.Common.{◌<◌, ◌≤◌, List, codes, false, length, refl, subst, sym, true}
use Rattle.queue_keys.specs.Names.{Bytes}
use Rattle.client_spots.specs.Stands.{return_begun}
use Rattle.client_spots.specs.Stands.{job_of}
use Rattle.command_blocks.specs.EnvelopeTexts.{plain_setting}
use Rattle.client_asks.specs.Asks.{IsAskedAt}
use Rattle.client_asks.proofs.Tests.{begun_said, job_said, no_element}
use Rattle.client_asks.proofs.returning.ask_begun.Goals as goal

pub returns-in-empty : goal.returns-in-empty
returns-in-empty c = λ at.
    let s = c.args.spot.now in
    subst (λ (ks : List Bytes). IsAskedAt (return_begun s.drawn s.passes (job_of s) s.tries s.envelope ks) s at c.args.words.now c.ask_leaving.new.spot c.ask_leaving.result)
    (sym (no_element s.keys (subst (λ (l : List Bytes). length l < 1) c.as_slice.ensures c.in-empty.len_below))) (c.ask_leaving.ensures at)

pub returns-then-not-says_three : goal.returns-then-not-says_three
returns-then-not-says_three c = λ at.
    let s = c.args.spot.now in (
      begun_said s.drawn s.passes at s.seed (job_of s) s.tries s.envelope c.args.words.now false s.keys (subst (λ (l : List Bytes). 1 ≤ length l) c.as_slice.ensures c.in-len1-up.len_at_least)
          (job_said (codes "ZREM") plain_setting.index s.tag s.tried s.tags c.args.words.now c.as_slice-in-len1-up.result.now c.says_three.result false c.says_three.ensures c.as_slice-in-len1-up.ensures c.if-not-says_three.true),
      refl,
    )

pub returns-else-not-says_three : goal.returns-else-not-says_three
returns-else-not-says_three c = λ at.
    let s = c.args.spot.now in (
      begun_said s.drawn s.passes at s.seed (job_of s) s.tries s.envelope c.args.words.now true s.keys (subst (λ (l : List Bytes). 1 ≤ length l) c.as_slice.ensures c.in-len1-up.len_at_least)
          (job_said (codes "ZREM") plain_setting.index s.tag s.tried s.tags c.args.words.now c.as_slice-in-len1-up.result.now c.says_three.result true c.says_three.ensures c.as_slice-in-len1-up.ensures c.if-not-says_three.false),
      refl,
    )
