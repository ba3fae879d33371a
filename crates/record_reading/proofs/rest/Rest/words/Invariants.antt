use Rattle.std.proofs.Common.{◌≡◌, ◌++◌, true, length}
use Rattle.std.specs.List.{list_all}
use Rattle.line_text.specs.Forms.{quoted, words_text}
use Rattle.history_records.specs.Recordable.{are_bytes}
use Rattle.record_reading.proofs.rest.Rest.words.Given as goal

-- the words so far stand before what is left
abbrev pub invariant-words : goal.invariant-words
invariant-words l = record {
  read : l.fn.self.bytes.now ≡ words_text quoted l.words ++ l.self.bytes.now;
  typed : list_all are_bytes l.words ≡ true;
}

abbrev pub decreases-words : goal.decreases-words
decreases-words l = length l.self.bytes.now
