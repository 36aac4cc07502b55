use Rattle.std.proofs.Common.{ℕ, ◌+◌, ◌*◌, ◌<◌, ap, ◌∙◌, arith, rules}
use Rattle.std.specs.Option.{unwrap_or}
use Rattle.groups.proofs.Basics.{few}
use Rattle.groups.proofs.RecordCounts.{used_below, used_in}
use Rattle.groups.proofs.RecordPlaces.{place_fits, place_or}
use Rattle.groups.proofs.sparse.Sparse.place.Goals as goal

pub overflow_add-result : goal.overflow_add-result
overflow_add-result g c =
    let s = c.args.self.now in
    let found = c.unwrap_or.ensures ∙ ap (λ o. unwrap_or o s.used) c.find.ensures in
    let within = place_fits s.records.now s.used c.args.address (used_in s) in
    let small : s.used < 4097 = used_below (s.table.shape.volumes * s.table.shape.blocks) _ s.used 4097 s.single (omega (arith, few s.table.shape.volumes s.table.shape.blocks s.ready.0)) in
    search rules

pub returns : goal.returns
returns g c =
    let s = c.args.self.now in
    ap (λ (i : ℕ). 1 + i) (c.unwrap_or.ensures ∙ ap (λ o. unwrap_or o s.used) c.find.ensures) ∙ place_or s.records.now s.used c.args.address (used_in s)
