-- A cell sent over a queue. Assumes nothing.
use Rattle.std.specs.Prelude.{ℕ, ◌/◌, ◌%◌, ◌^◌, replicate, Ok, Err, Result}
use Rattle.cells.specs.declared.fault.Fault.{Fault}
use Rattle.cells.specs.declared.reading.ReadingRow.{ReadingRow}
use Rattle.cells.specs.Readings.{reading_bytes}
use Rattle.frames.specs.Format.{entries_of}
use Rattle.frames.specs.Frames.{places}
use Rattle.frames.specs.Meaning.{FrameMeaning, encoded}
use Rattle.links.specs.Calls.{send_answer, send_meaning}
use Rattle.links.specs.Meaning.{LinkMeaning}

-- the entries frame of one cell, in cycle 1
abbrev pub frame_of : ℕ → ReadingRow → Result FrameMeaning Fault
frame_of a row = entries_of 1 (a / 8) (2 ^ (a % 8)) (places reading_bytes (2 ^ (a % 8)) (replicate 8 row))

-- what sending a frame answers, and leaves of the queue
abbrev pub sent_answer : Result FrameMeaning Fault → Result Unit Fault
sent_answer (Ok f) = send_answer (encoded f)
sent_answer (Err e) = Err e

abbrev pub sent_meaning : Result FrameMeaning Fault → LinkMeaning → LinkMeaning
sent_meaning (Ok f) m = send_meaning (encoded f) m
sent_meaning (Err e) m = m
