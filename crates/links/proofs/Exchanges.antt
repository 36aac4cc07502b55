-- A send and a take on a link where nothing waited, by the link's laws alone. Assumes nothing.
use Rattle.std.proofs.Common.{◌≡◌, ℕ, zero, suc, ◌+◌, Bool, true, false, cond, leb, ◌⊎◌, List, [], ◌∷◌, ◌++◌, length, drop, replicate, Some, None, Ok, Err, Option, Result, sym, refl, ap, ◌∙◌, subst, inl, inr, ⊎_elim, arith}
use mathlib.Core.List.Memᴰ
use mathlib.Core.List.{Memᴰ}
use Rattle.std.proofs.lemmas.List.{replicate_more}
use Rattle.cells.specs.declared.fault.Fault.{Fault}
use Rattle.cells.specs.Faults.{not_a_frame}
use Rattle.links.specs.Calls.{laid, length_of, short_buffer}
use Rattle.links.specs.Exchanged.{Ever, Own, exchange_answer, exchange_buffer, exchange_meaning}
use Rattle.links.specs.Meaning.{Datagram, LinkCall, LinkLaws, LinkMeaning, after, send, sendable, take}

own_by_cases : (s w : Bool) (a : Option Datagram) (d : Datagram) (b : List ℕ) → ((x : Datagram) → a ≡ Some x → x ≡ d) → (o : Option ℕ) → ◌≡◌ {A = Result (Option ℕ) Fault} (cond s (cond w (Ok (length_of a)) (Err short_buffer)) (Err not_a_frame)) (Ok o) → ((o ≡ None) × (cond s (cond w (laid a b) b) b ≡ b)) ⊎ ((o ≡ Some (length d)) × (cond s (cond w (laid a b) b) b ≡ d ++ drop (length d) b))
own_by_cases true true None d b f o e = inl (cc, refl)
own_by_cases true true (Some x) d b f o e = let g = f x refl in let k : o ≡ Some (length x) = cc in inr (k ∙ ap (λ (y : Datagram). Some (length y)) g, ap (λ (y : Datagram). y ++ drop (length y) b) g)
own_by_cases true false a d b f o e = cc
own_by_cases false w a d b f o e = cc

module _ (d : Datagram) (b : List ℕ) (m : LinkMeaning) (laws : LinkLaws m) where
  -- where nothing waited, only d waits after the send
  only : m.waiting [] ≡ [] → (x : Datagram) → Memᴰ x (m.waiting (send d ∷ [])) → x ≡ d
  only none x u = ⊎_elim (λ (e : x ≡ d). e) (λ (v : Memᴰ x (m.waiting [])). absurd (Memᴰ.not-nil (subst (λ (ws : List Datagram). Memᴰ x ws) none v))) (laws.sent [] d x u)

  pub own : (b' : List ℕ) (r : Result (Option ℕ) Fault) → r ≡ exchange_answer d b m → b' ≡ exchange_buffer d b m → Own d b m b' r
  own b' r er eb none o e =
      subst (λ (v : List ℕ). ((o ≡ None) × (v ≡ b)) ⊎ ((o ≡ Some (length d)) × (v ≡ d ++ drop (length d) b))) (sym eb)
      (own_by_cases (sendable d) (leb 136 (length b)) (m.answer (send d ∷ [])) d b (λ x f. only none x (laws.answered (send d ∷ []) x f)) o (sym er ∙ e))

  only_left : (s w : Bool) → m.waiting [] ≡ [] → (x : Datagram) → Memᴰ x ((cond s (cond w (after take (after (send d) m)) (after (send d) m)) m).waiting []) → x ≡ d
  only_left true true none x u = only none x (laws.taken (send d ∷ []) x u)
  only_left true false none x u = only none x u
  only_left false w none x u = absurd (Memᴰ.not-nil (subst (λ (ws : List Datagram). Memᴰ x ws) none u))

  module _ (m' : LinkMeaning) (laws' : LinkLaws m') (e : m' ≡ exchange_meaning d b m) (none : m.waiting [] ≡ []) where
    only_ever : (n : ℕ) (x : Datagram) → Memᴰ x (m'.waiting (replicate n take)) → x ≡ d
    only_ever zero x u = only_left (sendable d) (leb 136 (length b)) none x (subst (λ (v : LinkMeaning). Memᴰ x (v.waiting [])) e u)
    only_ever (suc n) x u =
        let k : suc n ≡ n + 1 = omega arith in
        let one_more : replicate (suc n) take ≡ replicate n take ++ (take ∷ []) = ap (λ (i : ℕ). replicate i take) k ∙ sym (replicate_more n take) in
        only_ever n x (laws'.taken (replicate n take) x (subst (λ (h : List LinkCall). Memᴰ x (m'.waiting h)) one_more u))

  pub ever : (m' : LinkMeaning) → LinkLaws m' → m' ≡ exchange_meaning d b m → Ever d m m'
  ever m' laws' e none n x = (only_ever m' laws' e none n x, λ f. only_ever m' laws' e none n x (laws'.answered (replicate n take) x f))
