use Rattle.std.specs.Option.{option_map}
use Rattle.std.proofs.Common.{◌≡◌, ℕ, take, replicate, Some, None, Ok, Err, Option, OnOk, Result, refl, ap, ◌∙◌, rules}
use Rattle.graphs.specs.View.{node_view}
use Rattle.graph_reader.specs.declared.fault.FileFault.{FileFault}
use Rattle.graph_reader.specs.declared.fault.FileFault.TheVariants.{Byte}
use Rattle.graph_reader.specs.Encoding.{record_of}
use Rattle.graph_reader.specs.Files.{first_wrong}
use Rattle.refusals.specs.Searching.{fault_of}
use Rattle.graph_writer.specs.Writing.{record_for}
use Rattle.graph_writer.proofs.Rowing.{front_is, counts_right}
use Rattle.graph_writer.proofs.write.check_node.Goals as goal

-- what follows where nothing is wrong, follows where no fault is told
where_ok : (r : Result (Unit {0}) FileFault) (o : Option ℕ) (n : ℕ) (P : Type 0) → fault_of r ≡ option_map (Byte n) o → (o ≡ None → P) → OnOk r P
where_ok (Ok x) None n P e h = h refl
where_ok (Ok x) (Some b) n P e h = absurd (cc)
where_ok (Err f) o n P e h = tt

pub returns : goal.returns
returns c =
    let node = c.args.node.now in
    let put = c.put_record-size in
    let front : take put.result put.new.area ≡ record_for node = front_is put.new.area (replicate 176 0) (record_for node) put.result put.ensures.area put.ensures.is in
    let told : fault_of c.check_record.result ≡ option_map (Byte c.args.n) (first_wrong (record_for node)) =
    c.check_record.ensures.brief (search rules) ∙ ap (λ r. option_map (Byte c.args.n) (first_wrong r)) front in
    record {
      is = told;
      stands =
          where_ok c.check_record.result (first_wrong (record_for node)) c.args.n (record_for node ≡ record_of (node_view node)) told
          (λ e. counts_right node put.result put.ensures.rows e);
    }
