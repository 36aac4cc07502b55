-- Small facts that the proofs of groups share. Assumes nothing.
use Rattle.std.proofs.Common.{◌≡◌, ℕ, ◌*◌, ◌<◌, ◌≤◌, Bool, true, false, cond, ltb, refl, mul-le-mul, arith}
use Rattle.std.proofs.lemmas.Nat.{mul-add-lt}
use Rattle.std.proofs.lemmas.Bool.{and_parts, ltb-true}
use Rattle.groups.specs.Meaning.{Shaped, address_in, inside_of}

-- a function of a choice is a choice of its values
pub over_cond : {X Y : Type 0} (f : X → Y) (b : Bool) (x y : X) → f (cond b x y) ≡ cond b (f x) (f y)
over_cond f true x y = refl
over_cond f false x y = refl

-- a place within the shape, by its volume and block, and its address
module _ (volumes blocks v b : ℕ) (h : inside_of volumes blocks v b ≡ true) where
  pub within : (v < volumes) × (b < blocks)
  within = let p = and_parts (ltb v volumes) (ltb b blocks) h in (ltb-true v volumes p.0, ltb-true b blocks p.1)

  pub address_below : address_in blocks v b < volumes * blocks
  address_below = omega (arith, mul-add-lt v blocks b volumes within.0 within.1)

-- a group has few addresses
pub few : (volumes blocks : ℕ) → Shaped volumes blocks → volumes * blocks ≤ 4096
few volumes blocks h = omega (arith, mul-le-mul h.1 h.3)
