-- What a link means: the datagrams that wait in it, and what it foretells of further calls. Assumes nothing.
use Rattle.std.specs.Prelude.{◌≡◌, ℕ, ◌≤◌, Bool, ◌&&◌, ◌⊎◌, List, [], ◌∷◌, ◌++◌, length, Some, Option, nat_le}
use mathlib.Core.List.{Memᴰ}

-- the bytes of a datagram
abbrev pub Datagram : Type 0
Datagram = List ℕ

-- a call of a link; a send of bytes that are no datagram alters nothing
pub data LinkCall : Type 0 where
  send : Datagram → LinkCall
  take : LinkCall

-- whether a link carries d: it has 1 to 136 bytes
abbrev pub sendable : Datagram → Bool
sendable d = nat_le 1 (length d) && nat_le (length d) 136

-- what waits, and what the next take answers, after any further calls, the next of them in front
pub record LinkMeaning : Type 0 where
  pub waiting : List LinkCall → List Datagram
  pub answer : List LinkCall → Option Datagram

-- the meaning once a call was made
abbrev pub after : LinkCall → LinkMeaning → LinkMeaning
after c m = record { waiting = λ h. m.waiting (c ∷ h); answer = λ h. m.answer (c ∷ h) }

-- 1 to 136 bytes
abbrev pub Sized : Datagram → Type 0
Sized x = (1 ≤ length x) × (length x ≤ 136)

-- what holds of every link, after any calls h: what waits after a send is what was sent or waited before,
-- what is answered waits, what waits after a take waited before, and all that waits has 1 to 136 bytes
pub record LinkLaws (m : LinkMeaning) : Type 0 where
  pub sent : (h : List LinkCall) (d x : Datagram) → Memᴰ x (m.waiting (h ++ (send d ∷ []))) → (x ≡ d) ⊎ Memᴰ x (m.waiting h)
  pub answered : (h : List LinkCall) (x : Datagram) → m.answer h ≡ Some x → Memᴰ x (m.waiting h)
  pub taken : (h : List LinkCall) (x : Datagram) → Memᴰ x (m.waiting (h ++ (take ∷ []))) → Memᴰ x (m.waiting h)
  pub sized : (h : List LinkCall) (x : Datagram) → Memᴰ x (m.waiting h) → Sized x
