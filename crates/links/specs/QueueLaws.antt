-- The laws of a link hold of a queue. Assumes nothing.
use Rattle.std.specs.Prelude.{◌≡◌, ℕ, zero, suc, Bool, true, false, cond, ◌⊎◌, List, [], ◌∷◌, ◌++◌, length, Some, nat_lt}
use mathlib.Core.List.Memᴰ
use mathlib.Core.List.{Memᴰ}
use Rattle.std.proofs.Common.{inl, inr, ⊎_elim, sym, subst}
use Rattle.std.specs.Slice.Iter.{iter_rest}
use Rattle.links.specs.declared.fate.Fate.{Fate}
use Rattle.links.specs.declared.fate.Fate.TheVariants.{Delivered, Lost, Twice, Hurried}
use Rattle.links.specs.declared.place.Place.{Place}
use Rattle.links.specs.declared.queue.Queue.{Queue}
use Rattle.links.specs.Fates.{later_fates, next_fate}
use Rattle.links.specs.Meaning.{Datagram, LinkLaws, Sized, sendable}
use Rattle.links.specs.Placed.{datagram_of, sized_place}
use Rattle.links.specs.Queued.{QueueState, appended, ahead_of_last, arrived, first, held, queue_of, queue_step, queued, rest}
use Rattle.links.specs.Steps.{StepLaws, laws_from, sent_if}

-- x is d, or one of ws
abbrev From : Datagram → List Datagram → Datagram → Type 0
From d ws x = (x ≡ d) ⊎ Memᴰ x ws

from_cond : (b : Bool) (d x : Datagram) (us vs ws : List Datagram) → (Memᴰ x us → From d ws x) → (Memᴰ x vs → From d ws x) → Memᴰ x (cond b us vs) → From d ws x
from_cond true d x us vs ws f g m = f m
from_cond false d x us vs ws f g m = g m

from_appended : (n : ℕ) (d x : Datagram) (ws : List Datagram) → Memᴰ x (appended n d ws) → From d ws x
from_appended n d x ws =
    from_cond (nat_lt (length ws) n) d x (ws ++ (d ∷ [])) ws ws
    (λ k. ⊎_elim (λ (u : Memᴰ x ws). inr u) (λ (v : Memᴰ x (d ∷ [])). inl (Memᴰ.eq_of_singleton v)) (Memᴰ.append_cases ws k))
    (λ k. inr k)

from_ahead : (d x : Datagram) (ws : List Datagram) → Memᴰ x (ahead_of_last d ws) → From d ws x
from_ahead d x [] m = inl (Memᴰ.eq_of_singleton m)
from_ahead d x (w ∷ []) m = Memᴰ.cases_cons m
from_ahead d x (w ∷ (v ∷ ws)) m =
    ⊎_elim (λ (e : x ≡ w). inr (Memᴰ.head e))
    (λ (k : Memᴰ x (ahead_of_last d (v ∷ ws))). ⊎_elim (λ (e : x ≡ d). inl e) (λ (u : Memᴰ x (v ∷ ws)). inr (Memᴰ.tail u)) (from_ahead d x (v ∷ ws) k))
    (Memᴰ.cases_cons m)

from_arrived : (n : ℕ) (f : Fate) (d x : Datagram) (ws : List Datagram) → Memᴰ x (arrived n f d ws) → From d ws x
from_arrived n Delivered d x ws m = from_appended n d x ws m
from_arrived n Lost d x ws m = inr m
from_arrived n Twice d x ws m = ⊎_elim (λ (e : x ≡ d). inl e) (from_appended n d x ws) (from_appended n d x (appended n d ws) m)
from_arrived n Hurried d x ws m = from_cond (nat_lt (length ws) n) d x (ahead_of_last d ws) ws ws (from_ahead d x ws) (λ k. inr k) m

in_rest : (x : Datagram) (ws : List Datagram) → Memᴰ x (rest ws) → Memᴰ x ws
in_rest x [] m = m
in_rest x (w ∷ ws) m = Memᴰ.tail m

in_first : (x : Datagram) (ws : List Datagram) → first ws ≡ Some x → Memᴰ x ws
in_first x [] e = cc
in_first x (w ∷ ws) e = let s : x ≡ w = cc in Memᴰ.head s

sized_held : (ps : List Place) (n : ℕ) (x : Datagram) → Memᴰ x (held ps n) → Sized x
sized_held ps zero x m = absurd (Memᴰ.not-nil m)
sized_held [] (suc n) x m = absurd (Memᴰ.not-nil m)
sized_held (p ∷ ps) (suc n) x m = ⊎_elim (λ (e : x ≡ datagram_of p). subst Sized (sym e) (sized_place p)) (sized_held ps n x) (Memᴰ.cases_cons m)

step_laws : (n : ℕ) → StepLaws (queue_step n) (λ (s : QueueState). s.waits) (λ (s : QueueState). first s.waits)
step_laws n =
    record {
      sent = λ s d x. sent_if (λ (t : QueueState). t.waits) (sendable d) d x (record { waits = arrived n (next_fate s.fates) d s.waits; fates = later_fates s.fates }) s (from_arrived n (next_fate s.fates) d x s.waits);
      answered = λ s x. in_first x s.waits;
      taken = λ s x. in_rest x s.waits;
    }

-- of any places, however many of them are said to be in use, and any letters
pub places_laws : (ps : List Place) (n : ℕ) (fs : List ℕ) → LinkLaws (queued (length ps) (record { waits = held ps n; fates = fs }))
places_laws ps n fs = laws_from (queue_step (length ps)) (λ (s : QueueState). s.waits) (λ (s : QueueState). first s.waits) (step_laws (length ps)) (record { waits = held ps n; fates = fs }) (sized_held ps n)

pub queue_laws : (q : Queue) → LinkLaws (queue_of q)
queue_laws q = places_laws q.waiting.places.now q.waiting.used (iter_rest q.fates)
