-- What an exchange answers and leaves, and what comes of it where nothing waited. Assumes nothing.
use Rattle.std.specs.Prelude.{◌≡◌, ℕ, cond, ◌⊎◌, List, [], ◌∷◌, ◌++◌, length, drop, replicate, Some, None, Ok, Err, Option, Result}
use mathlib.Core.List.{Memᴰ}
use Rattle.cells.specs.declared.fault.Fault.{Fault}
use Rattle.cells.specs.Faults.{not_a_frame}
use Rattle.links.specs.Calls.{take_answer, take_buffer, take_meaning}
use Rattle.links.specs.Meaning.{Datagram, LinkMeaning, send, take, after, sendable}

-- a send, and then a take where the send was no refusal
abbrev pub exchange_answer : Datagram → List ℕ → LinkMeaning → Result (Option ℕ) Fault
exchange_answer d b m = cond (sendable d) (take_answer b (m.answer (send d ∷ []))) (Err not_a_frame)

abbrev pub exchange_buffer : Datagram → List ℕ → LinkMeaning → List ℕ
exchange_buffer d b m = cond (sendable d) (take_buffer b (m.answer (send d ∷ []))) b

abbrev pub exchange_meaning : Datagram → List ℕ → LinkMeaning → LinkMeaning
exchange_meaning d b m = cond (sendable d) (take_meaning b (after (send d) m)) m

-- where nothing waited in m, an accepted exchange of d answers nothing and leaves the buffer b as it was,
-- or it answers the length of d, with d at the buffer's front
abbrev pub Own : Datagram → List ℕ → LinkMeaning → List ℕ → Result (Option ℕ) Fault → Type 0
Own d b m b' r = m.waiting [] ≡ [] → (a : Option ℕ) → r ≡ Ok a → ((a ≡ None) × (b' ≡ b)) ⊎ ((a ≡ Some (length d)) × (b' ≡ d ++ drop (length d) b))

-- where nothing waited in m, nothing but d waits or is answered in m', after any number of further takes
abbrev pub Ever : Datagram → LinkMeaning → LinkMeaning → Type 0
Ever d m m' = m.waiting [] ≡ [] → (n : ℕ) (x : Datagram) → (Memᴰ x (m'.waiting (replicate n take)) → x ≡ d) × (m'.answer (replicate n take) ≡ Some x → x ≡ d)
