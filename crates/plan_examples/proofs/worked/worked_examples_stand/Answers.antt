use Rattle.std.proofs.Common.{refl}
use Rattle.patterns.specs.Splitting.{top_block}
use Rattle.graph_reader.specs.Decoding.{node_in}
use Rattle.walks.specs.Rows.{cells_of}
use Rattle.plan_examples.proofs.Examples.{sample_read, sample_is, sample_accepted, shorter_read, bare, tagged, sample_lawful, all_stand, unfit_there}
use Rattle.plan_examples.proofs.Refused.{serves, refuses}
use Rattle.plan_examples.proofs.worked.worked_examples_stand.Goals as goal

pub returns : goal.returns
unfolding top_block cells_of node_in
returns c = record {
  file = refl;
  read = sample_read;
  graph = sample_is;
  accepted = sample_accepted;
  read_without_row = shorter_read;
  bare = bare;
  tagged = tagged;
  lawful = sample_lawful;
  window = refl;
  packets = all_stand;
  unfit = unfit_there;
  rows = refl;
  rows_with_tag = refl;
  count = refl;
  count_with_tag = refl;
  served = serves;
  refused = refuses;
  told = refl;
  below = refl;
  widest = refl;
}
