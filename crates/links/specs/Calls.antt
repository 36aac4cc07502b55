-- What a link's calls answer and leave. Assumes nothing.
use Rattle.std.specs.Prelude.{ℕ, cond, List, ◌++◌, length, drop, Some, None, Ok, Err, Option, Result, nat_le}
use Rattle.cells.specs.declared.fault.Refusal.TheVariants.{ShortMemory}
use Rattle.cells.specs.declared.fault.Layer.TheVariants.{Link}
use Rattle.cells.specs.declared.fault.Fault.{Fault}
use Rattle.cells.specs.Faults.{fault, not_a_frame}
use Rattle.links.specs.Meaning.{Datagram, LinkMeaning, send, take, after, sendable}

-- the datagram that some bytes are, if there are 1 to 136 of them
abbrev pub datagram_answer : Datagram → Result Datagram Fault
datagram_answer d = cond (sendable d) (Ok d) (Err not_a_frame)

-- a send is refused exactly for bytes that are no datagram, and then alters nothing
abbrev pub send_answer : Datagram → Result (Unit {0}) Fault
send_answer d = cond (sendable d) (Ok tt) (Err not_a_frame)

abbrev pub send_meaning : Datagram → LinkMeaning → LinkMeaning
send_meaning d m = cond (sendable d) (after (send d) m) m

-- the refusal of a buffer that is too short
abbrev pub short_buffer : Fault
short_buffer = fault ShortMemory Link

-- the length of a datagram, if there is one
abbrev pub length_of : Option Datagram → Option ℕ
length_of None = None
length_of (Some d) = Some (length d)

-- a datagram, if there is one, at the buffer's front; the rest of the buffer as it was
abbrev pub laid : Option Datagram → List ℕ → List ℕ
laid None b = b
laid (Some d) b = d ++ drop (length d) b

-- a take is refused exactly for a buffer of less than 136 bytes, and then alters nothing
abbrev pub take_answer : List ℕ → Option Datagram → Result (Option ℕ) Fault
take_answer b a = cond (nat_le 136 (length b)) (Ok (length_of a)) (Err short_buffer)

abbrev pub take_buffer : List ℕ → Option Datagram → List ℕ
take_buffer b a = cond (nat_le 136 (length b)) (laid a b) b

abbrev pub take_meaning : List ℕ → LinkMeaning → LinkMeaning
take_meaning b m = cond (nat_le 136 (length b)) (after take m) m
