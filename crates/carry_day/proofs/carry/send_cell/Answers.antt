use Rattle.std.proofs.Common.{◌≡◌, ℕ, ◌-◌, List, length, take, drop, replicate, Ok, Err, Result, sym, ap, ◌∙◌, arith}
use Rattle.std.proofs.lemmas.Result.{err_from_is_err_and}
use Rattle.cells.specs.declared.fault.Fault.{Fault}
use Rattle.cells.specs.Readings.{reading_bytes}
use Rattle.frames.specs.Frames.{of_entries}
use Rattle.frames.specs.Meaning.{FrameMeaning, encoded}
use Rattle.links.specs.Calls.{send_answer, send_meaning}
use Rattle.links.specs.Queued.{queue_of}
use Rattle.carry_day.specs.Carried.{frame_of, sent_answer, sent_meaning}
use Rattle.carry_day.proofs.Sending.{front, made, one_bit, unmade}
use Rattle.carry_day.proofs.carry.send_cell.Goals as goal

pub returns-in_err-entries : goal.returns-in_err-entries
returns-in_err-entries c =
    let f = frame_of c.args.address c.args.cell in
    let x = c.in_err-entries.field-0.0 in
    let p = err_from_is_err_and c.from_residual.result c.from_residual.ensures.1 in
    let e : f ≡ Err x = unmade (of_entries reading_bytes) c.new.result f x (c.new.ensures ∙ one_bit c.args.address c.args.cell) c.in_err-entries.was in
    rw (p.1, p.2) record { answer = ap sent_answer (sym e); after = ap (λ (r : Result FrameMeaning Fault). sent_meaning r (queue_of c.args.queue.now)) (sym e) }

pub returns : goal.returns
returns c =
    let f = frame_of c.args.address c.args.cell in
    let q = queue_of c.args.queue.now in
    let x = of_entries reading_bytes c.in_ok-entries.entries in
    let n = c.write-n.result in
    let e : f ≡ Ok x = made (of_entries reading_bytes) c.new.result f c.in_ok-entries.entries (c.new.ensures ∙ one_bit c.args.address c.args.cell) c.in_ok-entries.was in
    let k : n - 0 ≡ length (encoded x) = (omega arith) ∙ c.write-n.ensures.size in
    let sent : take (n - 0) c.write-n.new.out ≡ encoded x = front x (drop n (replicate 136 0)) c.write-n.new.out (n - 0) k c.write-n.ensures.laid in
    record {
      answer = c.send.ensures.answer ∙ ap send_answer sent ∙ ap sent_answer (sym e);
      after = c.send.ensures.after ∙ ap (λ (d : List ℕ). send_meaning d q) sent ∙ ap (λ (r : Result FrameMeaning Fault). sent_meaning r q) (sym e);
    }
