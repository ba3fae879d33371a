-- Lines and blocks that a number or a tag alone spells. Serves the proofs of code.
use Rattle.std.specs.Prelude.{if◌then◌else◌, bytes_eq, List, codes, Option, None}
use Rattle.queue_keys.specs.Names.{Bytes}
use Rattle.schedule_model.specs.Lines.{of_client, pass_in, tagged_in}
use Rattle.schedule_model.specs.declared.line.Asked.{Asked}
use Rattle.schedule_model.specs.declared.line.Asked.TheVariants.{Ack, Requeue, Restore}
use Rattle.schedule_model.specs.declared.line.Line.{Line}
use Rattle.schedule_model.specs.declared.line.Line.TheVariants.{Run, Step, Stop}

-- the block of a tag or of a visibility timeout that these words begin
abbrev pub simple_block : Bytes → List Bytes → Option Asked
simple_block w ws =
    if bytes_eq w (codes "ack") then tagged_in Ack ws
    else if bytes_eq w (codes "restore") then tagged_in Restore ws
    else if bytes_eq w (codes "requeue") then tagged_in Requeue ws
    else if bytes_eq w (codes "pass") then pass_in ws
    else None

-- the line of a client alone that these words spell
abbrev pub simple_line : Bytes → List Bytes → Option Line
simple_line w ws =
    if bytes_eq w (codes "step") then of_client Step ws
    else if bytes_eq w (codes "run") then of_client Run ws
    else if bytes_eq w (codes "stop") then of_client Stop ws
    else None
