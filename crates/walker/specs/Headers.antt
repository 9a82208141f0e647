-- A header at an offset of a packet, by what its node says of it. The checks are tests: `Refused` of `walks/specs/Walk` says them in
-- words, and is the one to be believed
use Rattle.std.specs.Prelude.{ℕ, ◌+◌, true, List, map, Option}
use Rattle.graphs.specs.declared.graph.Length.{Length}
use Rattle.walks.specs.declared.outcome.Ending.{Ending}
use Rattle.walks.specs.Bytes.{byte_at, spelled_in}
use Rattle.walks.specs.Walk.{lookup_width}
use Rattle.walks.specs.Turning.{refusal_where}

-- how it is refused, if it is, by its length alone
abbrev pub size_refusal : (p : List ℕ) (at minimum : ℕ) → Length → Option Ending
size_refusal p at minimum len = refusal_where true p at minimum len

-- its lookup bytes as a number of four bytes, the first place topmost
abbrev pub key_of : (p : List ℕ) (at : ℕ) → List ℕ → ℕ
key_of p at places = spelled_in lookup_width (map (λ place. byte_at p (at + place)) places)
