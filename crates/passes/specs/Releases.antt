-- The words of a range, and what is left of a release at each of its commands. Serves the proofs of code.
use Rattle.std.specs.Prelude.{[], ◌∷◌, codes}
use Rattle.store_model.specs.Words.{Words}
use Rattle.queue_keys.specs.Names.{Bytes}
use Rattle.command_blocks.specs.EnvelopeTexts.{plain_setting}
use Rattle.command_blocks.specs.Scripts.{Script, Over, plainly, on_done, on_queued, on_released, on_token, leave_script, release_script}
use Rattle.passes.specs.declared.release.Release.{Release}
use Rattle.passes.specs.declared.release.Release.TheVariants.{Watch, Read, Begin, Remove, Run, Leave}

-- EXEC is next
abbrev pub run_left : Script
run_left = plainly (codes "EXEC" ∷ []) on_released

-- DEL of the mutex is next
abbrev pub remove_left : Script
remove_left = plainly (codes "DEL" ∷ plain_setting.mutex ∷ []) (on_queued run_left)

-- MULTI is next
abbrev pub begin_left : Script
begin_left = plainly (codes "MULTI" ∷ []) (on_done remove_left)

-- GET of the mutex is next
abbrev pub read_left : Bytes → Script
read_left token = plainly (codes "GET" ∷ plain_setting.mutex ∷ []) (on_token plain_setting token)

-- the release under this token, from a command on
abbrev pub release_left : Bytes → Release → Script
release_left token Watch = release_script plain_setting token
release_left token Read = read_left token
release_left token Begin = begin_left
release_left token Remove = remove_left
release_left token Run = run_left
release_left token Leave = leave_script Over

-- ZREVRANGEBYSCORE of the index up to this score, ten members at most
abbrev pub range_of : Bytes → Words
range_of bound = codes "ZREVRANGEBYSCORE" ∷ plain_setting.index ∷ bound ∷ codes "0" ∷ codes "LIMIT" ∷ codes "0" ∷ codes "10" ∷ []
