-- Links told by a state and its step: what they foretell, and the laws from those of one step. Assumes nothing.
use Rattle.std.specs.Prelude.{◌≡◌, Bool, true, false, cond, ◌⊎◌, List, [], ◌∷◌, ◌++◌, length, Some, Option, nat_le, refl}
use mathlib.Core.List.{Memᴰ}
use Rattle.std.proofs.Common.{inl, inr, ⊎_elim, subst, sym}
use Rattle.std.proofs.lemmas.Bool.{and_parts, leb-true}
use Rattle.links.specs.Meaning.{Datagram, LinkCall, LinkMeaning, LinkLaws, Sized, send, sendable, take}

-- what is sent has 1 to 136 bytes
pub sized_sendable : (d : Datagram) → sendable d ≡ true → Sized d
sized_sendable d h =
    let p = and_parts (nat_le 1 (length d)) (nat_le (length d) 136) h in
    (leb-true 1 (length d) p.0, leb-true (length d) 136 p.1)

-- a send that alters nothing where it is refused: what waits after it, by what waits where it is accepted
pub sent_if : {S : Type 0} (waits : S → List Datagram) (accepted : Bool) (d x : Datagram) (t s : S) → (Memᴰ x (waits t) → (x ≡ d) ⊎ Memᴰ x (waits s)) → Memᴰ x (waits (cond accepted t s)) → ((accepted ≡ true) × (x ≡ d)) ⊎ Memᴰ x (waits s)
sent_if waits true d x t s f m = ⊎_elim (λ (e : x ≡ d). inl (refl, e)) (λ (u : Memᴰ x (waits s)). inr u) (f m)
sent_if waits false d x t s f m = inr m

module _ {S : Type 0} (step : LinkCall → S → S) where
  -- the state after some calls
  abbrev pub ran : List LinkCall → S → S
  ran [] s = s
  ran (c ∷ h) s = ran h (step c s)

  -- one call more, behind the others
  pub ran_push : (h : List LinkCall) (c : LinkCall) (s : S) → ran (h ++ (c ∷ [])) s ≡ step c (ran h s)
  ran_push [] c s = refl
  ran_push (b ∷ h) c s = ran_push h c (step b s)

  module _ (waits : S → List Datagram) (next : S → Option Datagram) where
    -- what is foretold in a state, by what waits in each state and what it would answer
    abbrev pub foretold : S → LinkMeaning
    foretold s = record { waiting = λ h. waits (ran h s); answer = λ h. next (ran h s) }

    -- the laws, for a single step
    pub record StepLaws : Type 0 where
      pub sent : (s : S) (d x : Datagram) → Memᴰ x (waits (step (send d) s)) → ((sendable d ≡ true) × (x ≡ d)) ⊎ Memᴰ x (waits s)
      pub answered : (s : S) (x : Datagram) → next s ≡ Some x → Memᴰ x (waits s)
      pub taken : (s : S) (x : Datagram) → Memᴰ x (waits (step take s)) → Memᴰ x (waits s)

    -- all that waits has 1 to 136 bytes
    abbrev AllSized : S → Type 0
    AllSized s = (x : Datagram) → Memᴰ x (waits s) → Sized x

    sized_step : StepLaws → (c : LinkCall) (s : S) → AllSized s → AllSized (step c s)
    sized_step laws (send d) s f x m = ⊎_elim (λ (p : (sendable d ≡ true) × (x ≡ d)). subst Sized (sym p.1) (sized_sendable d p.0)) (f x) (laws.sent s d x m)
    sized_step laws take s f x m = f x (laws.taken s x m)

    sized_ran : StepLaws → (h : List LinkCall) (s : S) → AllSized s → AllSized (ran h s)
    sized_ran laws [] s f = f
    sized_ran laws (c ∷ h) s f = sized_ran laws h (step c s) (sized_step laws c s f)

    -- a step's laws hold of all that follows, from a state in which all that waits has 1 to 136 bytes
    pub laws_from : StepLaws → (s : S) → AllSized s → LinkLaws (foretold s)
    laws_from laws s f =
        record {
          sent = λ h d x m. ⊎_elim (λ (p : (sendable d ≡ true) × (x ≡ d)). inl p.1) (λ (u : Memᴰ x (waits (ran h s))). inr u) (laws.sent (ran h s) d x (subst (λ (t : S). Memᴰ x (waits t)) (ran_push h (send d) s) m));
          answered = λ h x e. laws.answered (ran h s) x e;
          taken = λ h x m. laws.taken (ran h s) x (subst (λ (t : S). Memᴰ x (waits t)) (ran_push h take s) m);
          sized = λ h. sized_ran laws h s f;
        }
