-- What a transaction that ran did to messages, by what its commands do and by the answers of its EXEC.
use Rattle.std.specs.Prelude.{ℕ, not, nat_le, if◌then◌else◌, List, [], ◌∷◌, ◌++◌, filter, Option, None, Some}
use Rattle.wire_values.specs.declared.value.Value.{Value}
use Rattle.command_blocks.specs.Answers.{is_one, items_of, number_of}
use Rattle.message_acts.specs.Numbers.{has, times}
use Rattle.message_acts.specs.declared.act.Act.{Act}
use Rattle.message_acts.specs.declared.act.Act.TheVariants.{Push, Take, Nothing}
use Rattle.message_acts.specs.declared.act.CallKind.{CallKind}
use Rattle.message_acts.specs.declared.act.CallKind.TheVariants.{Runs}

-- the messages that are pushed
abbrev pub pushed : List Act → List ℕ
pushed [] = []
pushed (Push n ∷ acts) = n ∷ pushed acts
pushed (Take n ∷ acts) = pushed acts
pushed (Nothing ∷ acts) = pushed acts

-- a message that is taken, where the answer is the integer 1
abbrev pub taken_by : Act → Value → List ℕ
taken_by (Take n) r = if is_one (number_of r) then n ∷ [] else []
taken_by other r = []

-- the messages that are taken, by the answers
abbrev pub taken : List Act → List Value → List ℕ
taken [] rs = []
taken (a ∷ acts) [] = []
taken (a ∷ acts) (r ∷ rs) = taken_by a r ++ taken acts rs

-- those that are taken and pushed nowhere
abbrev pub ended_in : List Act → List Value → List ℕ
ended_in acts rs = filter (λ n. not (has n (pushed acts))) (taken acts rs)

-- those that are pushed more than once
abbrev pub copied_in : List Act → List ℕ
copied_in acts = filter (λ n. nat_le 2 (times n (pushed acts))) (pushed acts)

-- what a transaction ended, where it ran
abbrev pub ended_with : List Act → Option (List Value) → List ℕ
ended_with acts None = []
ended_with acts (Some rs) = ended_in acts rs

-- what a transaction copied, where it ran
abbrev pub copied_with : List Act → Option (List Value) → List ℕ
copied_with acts None = []
copied_with acts (Some rs) = copied_in acts

-- what a call ended: nothing but by EXEC
abbrev pub ended_by : List Act → CallKind → Value → List ℕ
ended_by acts Runs r = ended_with acts (items_of r)
ended_by acts _ r = []

-- what a call copied: nothing but by EXEC
abbrev pub copied_by : List Act → CallKind → Value → List ℕ
copied_by acts Runs r = copied_with acts (items_of r)
copied_by acts _ r = []
