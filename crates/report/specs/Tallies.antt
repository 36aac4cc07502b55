-- Counting what the lines of a capture were. Assumes nothing.
use Rattle.std.specs.Prelude.{ℕ, ◌+◌, min, List, ◌++◌, codes, decimal}
use Rattle.report.specs.declared.tally.Outcome.{Outcome}
use Rattle.report.specs.declared.tally.Outcome.TheVariants as outcome
use Rattle.report.specs.declared.tally.Tally.{Tally}

abbrev pub none : Tally
none = record { datagrams = 0; entries = 0; markers = 0; held = 0; whole = 0; refused = 0; unreadable = 0 }

-- one more, unless the number has reached the highest of 64 bits
abbrev pub more : ℕ → ℕ
more n = min (n + 1) 18446744073709551615

-- one more line, of this outcome
abbrev pub counted : Outcome → Tally → Tally
counted outcome.Entries t = record { datagrams = more t.datagrams; entries = more t.entries; markers = t.markers; held = t.held; whole = t.whole; refused = t.refused; unreadable = t.unreadable }
counted outcome.Marker t = record { datagrams = more t.datagrams; entries = t.entries; markers = more t.markers; held = t.held; whole = t.whole; refused = t.refused; unreadable = t.unreadable }
counted outcome.Held t = record { datagrams = more t.datagrams; entries = t.entries; markers = t.markers; held = more t.held; whole = t.whole; refused = t.refused; unreadable = t.unreadable }
counted outcome.Whole t = record { datagrams = more t.datagrams; entries = t.entries; markers = t.markers; held = t.held; whole = more t.whole; refused = t.refused; unreadable = t.unreadable }
counted outcome.Refused t = record { datagrams = more t.datagrams; entries = t.entries; markers = t.markers; held = t.held; whole = t.whole; refused = more t.refused; unreadable = t.unreadable }
counted outcome.Unreadable t = record { datagrams = more t.datagrams; entries = t.entries; markers = t.markers; held = t.held; whole = t.whole; refused = t.refused; unreadable = more t.unreadable }

-- the summary
abbrev pub frames_text : Tally → List ℕ
frames_text t = decimal t.datagrams ++ (codes " datagrams: " ++ (decimal t.entries ++ (codes " entries, " ++ (decimal t.markers ++ (codes " markers, " ++ (decimal t.held ++ codes " held, "))))))

abbrev pub rest_text : Tally → List ℕ
rest_text t = decimal t.whole ++ (codes " whole, " ++ (decimal t.refused ++ (codes " refused, " ++ (decimal t.unreadable ++ codes " unreadable"))))

abbrev pub tally_text : Tally → List ℕ
tally_text t = frames_text t ++ rest_text t
