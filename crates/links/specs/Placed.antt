-- The datagram of a place. Assumes nothing.
use Rattle.std.specs.Prelude.{◌≡◌, length, take, Some, None, Option}
use Rattle.std.proofs.Common.{arith}
use Rattle.std.proofs.lemmas.List.{length-take-le}
use Rattle.links.specs.declared.place.Place.{Place}
use Rattle.links.specs.Meaning.{Datagram, Sized}

-- the first len bytes of a place
abbrev pub datagram_of : Place → Datagram
datagram_of p = take p.len p.bytes

-- the datagram of a place, if there is one
abbrev pub kept_in : Option Place → Option Datagram
kept_in None = None
kept_in (Some p) = Some (datagram_of p)

pub length-datagram : (p : Place) → length (datagram_of p) ≡ p.len
length-datagram p = length-take-le p.len p.bytes (omega (arith, p.within.1, p.wide))

-- a place holds 1 to 136 bytes
pub sized_place : (p : Place) → Sized (datagram_of p)
sized_place p =
    let i = p.within in
    let l = length-datagram p in
    (omega arith, omega arith)
