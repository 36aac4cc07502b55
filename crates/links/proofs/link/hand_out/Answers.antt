use Rattle.std.proofs.Common.{Some, None}
use Rattle.links.specs.Placed.{datagram_of}
use Rattle.links.proofs.Takes.{answered_wide, laid_at_front}
use Rattle.links.proofs.link.hand_out.Goals as goal

pub returns-in-Some : goal.returns-in-Some
returns-in-Some c =
    let chunk = rw c.in_ok-front.ensures.ok_part at c.first_chunk_mut.ensures.cases in
    rw (c.in-Some.is, c.copy_to.ensures.size, c.copy_to.ensures.laid)
    record { answer = answered_wide _ _ chunk (Some (datagram_of c.in-Some.place)); buffer = laid_at_front _ _ chunk (Some c.in-Some.place) }

pub returns-in-None : goal.returns-in-None
returns-in-None c =
    let chunk = rw c.in_ok-front.ensures.ok_part at c.first_chunk_mut.ensures.cases in
    rw c.in-None.is record { answer = answered_wide _ _ chunk None; buffer = laid_at_front _ _ chunk None }
