-- What the words of a command tell of messages.
use Rattle.std.specs.Prelude.{ℕ, ℤ, if◌then◌else◌, List, [], ◌∷◌, Option, None, Some}
use Rattle.wire_values.specs.declared.value.Value.{Value}
use Rattle.store_model.specs.declared.command.Command.{Command}
use Rattle.store_model.specs.declared.command.Command.TheVariants.{Lpush, Rpush, Brpop, Multi, Exec, Hdel}
use Rattle.delivery_tags.specs.Tags.{tag_of_text}
use Rattle.command_blocks.specs.Answers.{number_of}
use Rattle.command_blocks.specs.Setting.{Setting, is_queue}
use Rattle.queue_keys.specs.Names.{Bytes, same}
use Rattle.message_acts.specs.Numbers.{number_told}
use Rattle.message_acts.specs.declared.act.Act.{Act}
use Rattle.message_acts.specs.declared.act.Act.TheVariants.{Push, Take, Nothing}
use Rattle.message_acts.specs.declared.act.CallKind.{CallKind}
use Rattle.message_acts.specs.declared.act.CallKind.TheVariants.{Pushes, Pops, Begins, Runs, Others}

-- the push of a message, where the number of one is told
abbrev pub push_act : Option ℕ → Act
push_act None = Nothing
push_act (Some n) = Push n

-- the taking of a message, where the number of one is told
abbrev pub take_act : Option ℕ → Act
take_act None = Nothing
take_act (Some n) = Take n

-- a push of these bytes to this key
abbrev pub push_at : Setting → Bytes → Bytes → Act
push_at σ k v = if is_queue σ k then push_act (number_told (σ.tag_of v)) else Nothing

-- the taking of a field out of this hash
abbrev pub take_at : Setting → Bytes → Bytes → Act
take_at σ k f = if same k σ.unacked then take_act (tag_of_text f) else Nothing

-- the text of a list that has just one
abbrev pub only : List Bytes → Option Bytes
only [] = None
only (v ∷ []) = Some v
only (v ∷ w ∷ vs) = None

-- a push, where there is just one element
abbrev pub push_one : Setting → Bytes → Option Bytes → Act
push_one σ k None = Nothing
push_one σ k (Some v) = push_at σ k v

-- a taking, where there is just one field
abbrev pub take_one : Setting → Bytes → Option Bytes → Act
take_one σ k None = Nothing
take_one σ k (Some f) = take_at σ k f

-- what a command of a transaction does to a message: LPUSH and RPUSH of one envelope to a queue push it, HDEL of one tag from the table takes it
abbrev pub act_of : Setting → Command → Act
act_of σ (Lpush k vs) = push_one σ k (only vs)
act_of σ (Rpush k vs) = push_one σ k (only vs)
act_of σ (Hdel k fs) = take_one σ k (only fs)
act_of σ other = Nothing

-- what else of a command matters
abbrev pub kind_of : Command → CallKind
kind_of (Lpush k vs) = Pushes
kind_of (Brpop ks) = Pops
kind_of Multi = Begins
kind_of Exec = Runs
kind_of other = Others

-- the message of a push that was answered by an integer
abbrev pub push_told : Act → Option ℤ → Option ℕ
push_told act None = None
push_told (Push n) (Some z) = Some n
push_told (Take n) (Some z) = None
push_told Nothing (Some z) = None

-- the message that a call pushes directly, by LPUSH and at once
abbrev pub push_of : CallKind → Act → Value → Option ℕ
push_of Pushes act r = push_told act (number_of r)
push_of Pops act r = None
push_of Begins act r = None
push_of Runs act r = None
push_of Others act r = None
