-- The addresses that a map stands for. Assumes nothing.
use Rattle.std.specs.Prelude.{ℕ, zero, suc, ◌+◌, ◌*◌, ◌/◌, ◌%◌, cond, List, [], ◌∷◌, ◌++◌, ◌==◌}
use Rattle.frames.specs.declared.addresses.Addresses.{Addresses}

-- the addresses whose bit stands in a map of n bits, from an address on
unfoldable pub addresses : ℕ → ℕ → ℕ → List ℕ
addresses zero a m = []
addresses (suc n) a m = cond (m % 2 == 1) (a ∷ []) [] ++ addresses n (a + 1) (m / 2)

-- those that are still to come
abbrev pub addresses_left : Addresses → List ℕ
addresses_left s = addresses 8 (8 * s.number) s.map
