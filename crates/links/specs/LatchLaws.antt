-- The laws of a link hold of a latch. Assumes nothing.
use Rattle.std.specs.Prelude.{◌≡◌, Some, None, Option}
use mathlib.Core.List.Memᴰ
use mathlib.Core.List.{Memᴰ}
use Rattle.std.proofs.Common.{inl, sym, subst}
use Rattle.links.specs.declared.latch.Latch.{Latch}
use Rattle.links.specs.declared.place.Place.{Place}
use Rattle.links.specs.Meaning.{Datagram, LinkLaws, Sized, sendable}
use Rattle.links.specs.Placed.{kept_in, sized_place}
use Rattle.links.specs.Latched.{latch_of, latch_step, listed}
use Rattle.links.specs.Steps.{StepLaws, laws_from, sent_if}

in_listed : (kept : Option Datagram) (x : Datagram) → kept ≡ Some x → Memᴰ x (listed kept)
in_listed None x e = cc
in_listed (Some d) x e = let s : x ≡ d = cc in Memᴰ.head s

sized_kept : (p : Option Place) (x : Datagram) → Memᴰ x (listed (kept_in p)) → Sized x
sized_kept None x m = absurd (Memᴰ.not-nil m)
sized_kept (Some p) x m = subst Sized (sym (Memᴰ.eq_of_singleton m)) (sized_place p)

step_laws : StepLaws latch_step listed (λ (kept : Option Datagram). kept)
step_laws = record { sent = λ s d x. sent_if listed (sendable d) d x (Some d) s (λ m. inl (Memᴰ.eq_of_singleton m)); answered = in_listed; taken = λ s x m. m }

pub latch_laws : (l : Latch) → LinkLaws (latch_of l)
latch_laws l = laws_from latch_step listed (λ (kept : Option Datagram). kept) step_laws (kept_in l.kept) (sized_kept l.kept)
