use Rattle.std.proofs.Common.{refl, ◌∙◌, ap₂, rules}
use Rattle.stores.specs.Fits.{fits}
use Rattle.compiler.specs.Sinks.{cells_in}
use Rattle.compiler.proofs.Packing.{spelled_by}
use Rattle.compiler.proofs.start.Start.row.Goals as goal

pub returns : goal.returns
returns c =
    let p = c.args.self.now in
    ap₂ (λ v m. fits (record { state = p.state; value = v; mask = m }))
    (c.from_be_bytes.ensures ∙ spelled_by (λ c. c.value) refl (cells_in p) c.from_fn.ensures.items (λ i y q k. search rules))
    (c.from_be_bytes-2.ensures ∙ spelled_by (λ c. c.mask) refl (cells_in p) c.from_fn-2.ensures.items (λ i y q k. search rules))
