-- The datagram that a line of hexadecimal pairs spells. Assumes nothing.
use Rattle.std.specs.Prelude.{ℕ, ◌+◌, ◌-◌, ◌*◌, cond, ◌&&◌, List, [], ◌∷◌, length, Some, None, Option, ◌==◌, nat_le}
use Rattle.std.specs.Option.{option_map}

-- the value of a hexadecimal digit, 0 to 9, A to F or a to f
abbrev pub digit_of : ℕ → Option ℕ
digit_of c =
    cond (nat_le 48 c && nat_le c 57) (Some (c - 48))
    (cond (nat_le 65 c && nat_le c 70) (Some (c - 55))
    (cond (nat_le 97 c && nat_le c 102) (Some (c - 87)) None))

-- what the rest of a line may begin with: a pair; the second digit of a pair, with the first one's value;
-- or a space and a pair, a pair, or nothing
pub data Due : Type 0 where
  pair : Due
  second : ℕ → Due
  any : Due

abbrev pub before : ℕ → Option (List ℕ) → Option (List ℕ)
before b o = option_map (λ (bs : List ℕ). b ∷ bs) o

-- a pair's first digit, and its second, with what the rest spells
abbrev pub first : Option ℕ → (Due → Option (List ℕ)) → Option (List ℕ)
first None rest = None
first (Some d) rest = rest (second d)

abbrev pub paired : ℕ → Option ℕ → (Due → Option (List ℕ)) → Option (List ℕ)
paired h None rest = None
paired h (Some d) rest = before (16 * h + d) (rest any)

-- the bytes that text spells
abbrev pub spelled : List ℕ → Due → Option (List ℕ)
spelled [] pair = None
spelled [] (second h) = None
spelled [] any = Some []
spelled (c ∷ cs) pair = first (digit_of c) (spelled cs)
spelled (c ∷ cs) (second h) = paired h (digit_of c) (spelled cs)
spelled (c ∷ cs) any = cond (c == 32) (spelled cs pair) (first (digit_of c) (spelled cs))

-- a datagram has at most 136 bytes
abbrev pub fitting : Option (List ℕ) → Option (List ℕ)
fitting None = None
fitting (Some bs) = cond (nat_le (length bs) 136) (Some bs) None

-- the datagram of a line: pairs of digits, with or without single spaces between them
abbrev pub datagram_of : List ℕ → Option (List ℕ)
datagram_of text = fitting (spelled text pair)
