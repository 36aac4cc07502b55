-- Frames told one address after the other. Assumes nothing.
use Rattle.std.proofs.Common.{◌≡◌, ℕ, zero, suc, ◌+◌, ◌*◌, ◌/◌, ◌%◌, ◌==◌, true, false, cond, List, [], ◌∷◌, ◌++◌, length, codes, decimal, sym, refl, ap, ◌∙◌}
use Rattle.std.proofs.Output.{has_written_append, has_written_of_eq}
use Rattle.frames.specs.Addressed.{addresses}
use Rattle.frames.specs.Texts.{entries_text, entry_text, held_text}
use Rattle.frames.specs.Frames.{places}
use Rattle.frames.proofs.Walking.{cell_at, over_page}
use Rattle.std.specs.declared.fmt.Formatter.{Formatter}
use Rattle.std.specs.Fmt.{HasWritten, IsPlainFormatter}
use Rattle.std.specs.List.{flat_map}
use Rattle.std.proofs.lemmas.List.{append_assoc, append-nil, flat_map_more}

-- what is told of the addresses so far, and that those and the ones still to come are all
pub record Told {W : Type 0} (took : W → List ℕ → W → Type 0) (tell : ℕ → List ℕ) (all : List ℕ) (first now : Formatter W) (so_far left : List ℕ) : Type 0 where
  pub wrote : IsPlainFormatter first → HasWritten took first (flat_map tell so_far) now
  pub order : so_far ++ left ≡ all

pub told_more : {W : Type 0} (took : W → List ℕ → W → Type 0) (tell : ℕ → List ℕ) (all : List ℕ) (first now next : Formatter W) (so_far from left : List ℕ) (x : ℕ) → from ≡ x ∷ left → (IsPlainFormatter now → HasWritten took now (tell x) next) → Told took tell all first now so_far from → Told took tell all first next (so_far ++ (x ∷ [])) left
told_more took tell all first now next so_far from left x e h v =
    record {
      wrote = λ plain. let w = v.wrote plain in has_written_of_eq took _ _ _ _ (flat_map_more tell [] so_far x) (has_written_append took _ _ _ _ _ w (h w.plain));
      order = append_assoc so_far (x ∷ []) left ∙ ap (λ (l : List ℕ). so_far ++ l) (sym e) ∙ v.order;
    }

pub told_all : {W : Type 0} (took : W → List ℕ → W → Type 0) (tell : ℕ → List ℕ) (all : List ℕ) (first now : Formatter W) (so_far left : List ℕ) → left ≡ [] → Told took tell all first now so_far left → flat_map tell so_far ≡ flat_map tell all
told_all took tell all first now so_far left e v = ap (flat_map tell) (sym (append-nil so_far) ∙ ap (λ (l : List ℕ). so_far ++ l) (sym e) ∙ v.order)

-- a head, and what is told of the addresses behind it
pub told_behind : {W : Type 0} (took : W → List ℕ → W → Type 0) (tell : ℕ → List ℕ) (all head body : List ℕ) (start first now : Formatter W) (so_far left : List ℕ) → HasWritten took start head first → left ≡ [] → Told took tell all first now so_far left → body ≡ flat_map tell all → HasWritten took start (head ++ body) now
told_behind took tell all head body start first now so_far left h e v b =
    has_written_of_eq took _ _ _ _ (ap (λ (l : List ℕ). head ++ l) (told_all took tell all first now so_far left e v ∙ sym b))
    (has_written_append took _ _ _ _ _ h (v.wrote h.plain))

pub held-addresses : (n a m : ℕ) → held_text n a m ≡ flat_map (λ (x : ℕ). codes " " ++ decimal x) (addresses n a m)
unfolding addresses
held-addresses zero a m = refl
held-addresses (suc n) a m =
    let tell : ℕ → List ℕ = λ x. codes " " ++ decimal x in
    ap (λ (l : List ℕ). cond (m % 2 == 1) (tell a) [] ++ l) (held-addresses n (a + 1) (m / 2))
    ∙ (elim (m % 2 == 1) as (λ t. cond t (tell a) [] ++ flat_map tell (addresses n (a + 1) (m / 2)) ≡ flat_map tell (cond t (a ∷ []) [] ++ addresses n (a + 1) (m / 2))) [ true ↦ refl | false ↦ refl ])

pub entries-addresses : {R : Type 0} (bytes : R → List ℕ) (text : List ℕ → List ℕ) (p m : ℕ) (rs : List R) → length rs ≡ 8 → entries_text text (8 * p) (places bytes m rs) ≡ flat_map (λ (x : ℕ). entry_text text x (cell_at bytes rs x)) (addresses 8 (8 * p) m)
entries-addresses bytes text p m rs l = over_page bytes (entries_text text) (entry_text text) (λ a. refl) (λ a ps. refl) (λ a c ps. refl) p m rs l
