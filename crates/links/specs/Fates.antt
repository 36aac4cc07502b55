-- The fates by their letters. Assumes nothing.
use Rattle.std.specs.Prelude.{ℕ, cond, List, [], ◌∷◌, ◌==◌}
use Rattle.links.specs.declared.fate.Fate.{Fate}
use Rattle.links.specs.declared.fate.Fate.TheVariants.{Delivered, Lost, Twice, Hurried}

-- l lost, t twice, h hurried, any other letter delivered
abbrev pub fate_of : ℕ → Fate
fate_of letter = cond (letter == 108) Lost (cond (letter == 116) Twice (cond (letter == 104) Hurried Delivered))

-- the fate of the next send, delivered where no letter is left, and the letters of the sends after it
abbrev pub next_fate : List ℕ → Fate
next_fate [] = Delivered
next_fate (f ∷ fs) = fate_of f

abbrev pub later_fates : List ℕ → List ℕ
later_fates [] = []
later_fates (f ∷ fs) = fs
