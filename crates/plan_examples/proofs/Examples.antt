-- The worked examples, computed.
use Rattle.std.proofs.Common.{◌≡◌, ℕ, zero, suc, ◌<◌, Bool, true, ◌&&◌, ltb, List, [], ◌∷◌, Ok, length, get_or, take, refl, sym, subst, arith}
use Rattle.std.specs.List.{AllByRecursion}
use Rattle.std.proofs.lemmas.Bool.{and_parts, ltb-true}
use mathlib.Core.Path.{fun_ext}
use Rattle.headers.specs.Table.{minimum}
use Rattle.graph_reader.specs.Records.{right}
use Rattle.graph_reader.specs.Files.{pair_right}
use Rattle.graph_reader.specs.Decoding.{nodes_in, node_in}
use Rattle.graph_reader.specs.Reading.{reading}
use Rattle.walks.specs.declared.outcome.Ending.TheVariants.{Unfit}
use Rattle.walks.specs.Outcomes.{outcome}
use Rattle.walks.specs.Walk.{PlainWalk, unfit}
use Rattle.walks.specs.Rows.{Plan, cells_of}
use Rattle.walks.specs.Plans.{Lawful}
use Rattle.walks.specs.Turning.{Trace, read_by}
use Rattle.walks.specs.Theorems.{Accepted}
use Rattle.walks.specs.Samples.{four_nodes}
use Rattle.walks.specs.Turns.{Reads}
use Rattle.walks.proofs.Sound.{Sound}
use Rattle.walks.proofs.Accepted.{accepted_sound}
use Rattle.walks.proofs.Whole.{reads_plainly}
use Rattle.plans.proofs.Chaining.{chain_past}
use Rattle.plan_examples.specs.SampleBytes.{sample_file, file_without_last_row, plan_without_chains, plan_with_tag}
use Rattle.plan_examples.specs.Worked.{sample, without_chains, with_tag, no_chains, tag_in_one_look, no_catch_all, ipv6, four_marks, Example, example, examples, ReadWith, Stands}

-- The file

pub sample_read : reading minimum sample_file ≡ Ok four_nodes
unfolding right pair_right node_in
sample_read = refl

pub sample_is : sample ≡ four_nodes
unfolding node_in
sample_is = refl

pub shorter_read : reading minimum file_without_last_row ≡ Ok no_catch_all
unfolding right pair_right node_in
shorter_read = refl

abbrev all_bytes : List ℕ → Bool
all_bytes [] = true
all_bytes (b ∷ bs) = ltb b 256 && all_bytes bs

bytes_from : (bs : List ℕ) → all_bytes bs ≡ true → (i : ℕ) → get_or bs i 0 < 256
bytes_from [] e zero = omega arith
bytes_from [] e (suc i) = omega arith
bytes_from (b ∷ bs) e zero = ltb-true b 256 (and_parts _ _ e).0
bytes_from (b ∷ bs) e (suc i) = bytes_from bs (and_parts _ _ e).1 i

pub sample_accepted : Accepted minimum sample
unfolding right pair_right node_in
sample_accepted = record { file = sample_file; bytes = bytes_from sample_file refl; read = refl }

sample_sound : Sound minimum sample
sample_sound = accepted_sound minimum sample sample_accepted

-- The plans

pub bare : without_chains ≡ no_chains
bare = fun_ext at
  where
    at : (n : ℕ) → without_chains n ≡ no_chains n
    at zero = refl
    at (suc zero) = refl
    at (suc (suc zero)) = refl
    at (suc (suc (suc zero))) = refl
    at (suc (suc (suc (suc n)))) = chain_past plan_without_chains 4 (suc (suc (suc (suc n)))) refl (omega arith)

pub tagged : with_tag ≡ tag_in_one_look
tagged = fun_ext at
  where
    at : (n : ℕ) → with_tag n ≡ tag_in_one_look n
    at zero = refl
    at (suc zero) = refl
    at (suc (suc zero)) = refl
    at (suc (suc (suc zero))) = refl
    at (suc (suc (suc (suc n)))) = chain_past plan_with_tag 4 (suc (suc (suc (suc n)))) refl (omega arith)

-- the rules are kept by the chains that the plans say
bare_lawful : Lawful sample without_chains
bare_lawful = subst (λ chain. Lawful sample chain) (sym bare) (λ n l. tt)

-- node 0 is the only one with a chain
tag_lawful : Lawful sample tag_in_one_look
unfolding node_in
tag_lawful zero l = record { fixed = ((14, refl), (4, refl)); linked = ((0, omega arith, refl), tt); narrow = omega arith }
tag_lawful (suc n) l = tt

pub sample_lawful : Lawful sample with_tag
sample_lawful = subst (λ chain. Lawful sample chain) (sym tagged) tag_lawful

-- The packets

-- what the function says under a plan, as turns
read_with : (chain : Plan) → Lawful sample chain → (e : Example) (n : ℕ) → (read_by minimum sample chain e.packet).marks ≡ e.marks
    → (read_by minimum sample chain e.packet).outcome ≡ e.ending → length (read_by minimum sample chain e.packet).questions ≡ n → ReadWith chain e n
read_with chain law e n ms o qs =
    let t = read_by minimum sample chain e.packet in
    let there = (reads_plainly minimum sample e.packet sample_sound chain law).there in (
      t.questions,
      subst (λ x. Reads minimum sample chain e.packet x e.ending t.questions) ms (subst (λ x. Reads minimum sample chain e.packet t.marks x t.questions) o there),
      qs,
    )

abbrev plain : Example → Trace
plain e = read_by minimum sample without_chains e.packet

abbrev planned : Example → Trace
planned e = read_by minimum sample with_tag e.packet

-- an example stands if both plans compute to it
stands : (e : Example) → (plain e).marks ≡ e.marks → (plain e).outcome ≡ e.ending → length (plain e).questions ≡ e.singly
    → (planned e).marks ≡ e.marks → (planned e).outcome ≡ e.ending → length (planned e).questions ≡ e.planned → Stands e
stands e a b c d f g =
    let one = read_with without_chains bare_lawful e e.singly a b c in
    record {
      walks = (reads_plainly minimum sample e.packet sample_sound without_chains bare_lawful).walks e.marks e.ending one.0 one.1;
      one_by_one = one;
      in_one_look = read_with with_tag sample_lawful e e.planned d f g;
    }

abbrev row : ℕ → Example
row k = get_or examples k (example [] [] (outcome Unfit 0 0) 0 0)

pub all_stand : AllByRecursion Stands examples
unfolding read_by cells_of node_in
all_stand = (
  stands (row 0) refl refl refl refl refl refl,
  (
    stands (row 1) refl refl refl refl refl refl,
    (
      stands (row 2) refl refl refl refl refl refl,
      (
        stands (row 3) refl refl refl refl refl refl,
        (
          stands (row 4) refl refl refl refl refl refl,
          (
            stands (row 5) refl refl refl refl refl refl,
            (
              stands (row 6) refl refl refl refl refl refl,
              (
                stands (row 7) refl refl refl refl refl refl,
                (
                  stands (row 8) refl refl refl refl refl refl,
                  tt,
                ),
              ),
            ),
          ),
        ),
      ),
    ),
  ),
)

-- the file without the last row of node 0: no row fits
pub unfit_there : PlainWalk minimum (nodes_in file_without_last_row) ipv6 (take 1 four_marks) (outcome Unfit 0 0)
unfolding node_in
unfit_there = unfit (record { held = (omega arith, (omega arith, tt)); long = omega arith; within = omega arith }) refl
