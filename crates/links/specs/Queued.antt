-- What a queue foretells. Assumes nothing.
use Rattle.std.specs.Prelude.{ℕ, cond, List, [], ◌∷◌, ◌++◌, map, length, take as front, Some, None, Option, nat_lt}
use Rattle.std.specs.Slice.Iter.{iter_rest}
use Rattle.links.specs.declared.fate.Fate.{Fate}
use Rattle.links.specs.declared.fate.Fate.TheVariants.{Delivered, Lost, Twice, Hurried}
use Rattle.links.specs.declared.place.Place.{Place}
use Rattle.links.specs.declared.queue.Queue.{Queue}
use Rattle.links.specs.declared.waiting.Waiting.{Waiting}
use Rattle.links.specs.Fates.{later_fates, next_fate}
use Rattle.links.specs.Meaning.{Datagram, LinkCall, LinkMeaning, send, take, sendable}
use Rattle.links.specs.Placed.{datagram_of}
use Rattle.links.specs.Steps.{foretold}

-- what waits, the first in front, and the letters of the sends to come
pub record QueueState : Type 0 where
  pub waits : List Datagram
  pub fates : List ℕ

-- d behind all others, where one of n places is free
abbrev pub appended : ℕ → Datagram → List Datagram → List Datagram
appended n d ws = cond (nat_lt (length ws) n) (ws ++ (d ∷ [])) ws

-- d ahead of the last one that waits, or alone
abbrev pub ahead_of_last : Datagram → List Datagram → List Datagram
ahead_of_last d [] = d ∷ []
ahead_of_last d (w ∷ []) = d ∷ w ∷ []
ahead_of_last d (w ∷ (v ∷ ws)) = w ∷ ahead_of_last d (v ∷ ws)

-- the same, where one of n places is free
abbrev pub hurried : ℕ → Datagram → List Datagram → List Datagram
hurried n d ws = cond (nat_lt (length ws) n) (ahead_of_last d ws) ws

-- by the fate: behind all others, nowhere, behind all others twice, or ahead of the last one
abbrev pub arrived : ℕ → Fate → Datagram → List Datagram → List Datagram
arrived n Delivered d ws = appended n d ws
arrived n Lost d ws = ws
arrived n Twice d ws = appended n d (appended n d ws)
arrived n Hurried d ws = hurried n d ws

-- what a take answers, and what it leaves
abbrev pub first : List Datagram → Option Datagram
first [] = None
first (w ∷ ws) = Some w

abbrev pub rest : List Datagram → List Datagram
rest [] = []
rest (w ∷ ws) = ws

-- a call to a queue of n places; a refused send uses up no letter
abbrev pub queue_step : ℕ → LinkCall → QueueState → QueueState
queue_step n (send d) s = cond (sendable d) (record { waits = arrived n (next_fate s.fates) d s.waits; fates = later_fates s.fates }) s
queue_step n take s = record { waits = rest s.waits; fates = s.fates }

-- a queue of n places
abbrev pub queued : ℕ → QueueState → LinkMeaning
queued n = foretold (queue_step n) (λ (s : QueueState). s.waits) (λ (s : QueueState). first s.waits)

-- what waits in the first n places
abbrev pub held : List Place → ℕ → List Datagram
held ps n = map datagram_of (front n ps)

-- what waits in lent places, and how many of them there are
abbrev pub waits : Waiting → List Datagram
waits w = held w.places.now w.used

abbrev pub room : Waiting → ℕ
room w = length w.places.now

-- a queue in which w waits, with the letters fs
abbrev pub queue_with : Waiting → List ℕ → LinkMeaning
queue_with w fs = queued (room w) (record { waits = waits w; fates = fs })

-- what a queue means
abbrev pub queue_of : Queue → LinkMeaning
queue_of q = queue_with q.waiting (iter_rest q.fates)

-- a queue of n places in which nothing waits
abbrev pub empty_queue : ℕ → List ℕ → LinkMeaning
empty_queue n fs = queued n (record { waits = []; fates = fs })
