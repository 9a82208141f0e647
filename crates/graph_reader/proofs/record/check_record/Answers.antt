use Rattle.std.specs.Option.{option_map}
use Rattle.std.proofs.Common.{◌≡◌, ℕ, ◌%◌, ◌^◌, ◌<◌, ◌≤◌, length, Some, None, Option, IfSome, refl, ap, ◌∙◌, arith, rules}
use Rattle.refusals.specs.Searching.{fault_of}
use Rattle.graph_reader.specs.declared.fault.FileFault.{FileFault}
use Rattle.graph_reader.specs.declared.fault.FileFault.TheVariants.{Byte}
use Rattle.graph_reader.proofs.record.check_record.Goals as goal

-- a place of a record that is not too long is told as it is
told_whole : (say : ℕ → FileFault) (n : ℕ) (o : Option ℕ) → n ≤ 2 ^ 16 → IfSome o (λ i. i < n) → option_map (λ i. say (i % 2 ^ 16)) o ≡ option_map say o
told_whole say n None l h = refl
told_whole say n (Some i) l h = let e : i % 2 ^ 16 ≡ i = omega arith in ap (λ i. Some (say i)) e

pub returns : goal.returns
returns c =
    let say : ℕ → FileFault = Byte c.args.node in
    let told : fault_of c.map_or.result ≡ option_map (λ i. say (i % 2 ^ 16)) c.first_wrong.result = search rules in
    let is = c.first_wrong.ensures.is in
    record {
      is = told ∙ ap (option_map (λ i. say (i % 2 ^ 16))) is;
      brief = λ l. told ∙ told_whole say (length c.args.bytes.now) c.first_wrong.result l c.first_wrong.ensures.within ∙ ap (option_map say) is;
    }
