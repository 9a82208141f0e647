-- A load follows the plain tap's.
use Rattle.std.proofs.Common.{◌≡◌, ℕ, ◌<◌, List, Some, Ok, Err, sym, refl, ap, subst, slice_index}
use Rattle.refusals.specs.Least.{Least}
use Rattle.headers.specs.Table.{minimum}
use Rattle.stores.specs.Meaning.{Meaning}
use Rattle.plans.specs.Chains.{chain_in}
use Rattle.compiler.specs.declared.fault.LoadFault.{LoadFault}
use Rattle.compiler.specs.declared.program.Program.{Program}
use Rattle.compiler.specs.Faults.{of_load}
use Rattle.compiler.specs.Loading.{LoadApplies, Loaded}
use Rattle.compiler.proofs.Refused.{read_is}
use Rattle.readers.specs.Reading.{Programmed}
use Rattle.walks.specs.Theorems.{Accepted}
use Rattle.taps.specs.declared.tap.Tap.{Tap}
use Rattle.taps.specs.Plain.{PlainTap, loading, said_by}
use Rattle.taps.specs.Plain.LoadLeaves.{refused, accepted}
use Rattle.taps.specs.Following.{LoadedAs, Follows, LoadFollows}

-- a tap with another store, and with another program
abbrev pub over : {S : Type 0} → Tap S → S → Tap S
over t s = record { inner = record t.inner { store = s } }

abbrev pub holding : {S : Type 0} → Tap S → S → Program → Tap S
holding t s program = record { inner = record t.inner { store = s; program = Some program } }

module _ {S : Type 0} (meaning : S → Meaning) (t : Tap S) (s : S) (file plan : List ℕ) (p : PlainTap) (f : Follows meaning t p) where
  pub load_refused : (e : LoadFault) → Least of_load (LoadApplies minimum file plan (meaning t.inner.store).capacity) e → meaning s ≡ meaning t.inner.store
      → LoadFollows p file plan (meaning t.inner.store).capacity (Err e) (Follows meaning (over t s))
  load_refused e least same = record {
    next = p;
    plain = record { answers = least; leaves = refused };
    follows = record {
      loaded = subst (λ (m : Meaning). LoadedAs p.loaded t.inner.program m.rows) (sym same) f.loaded;
      counts = f.counts;
    };
  }

  pub load_accepted : (program : Program) → ((i : ℕ) → slice_index file i < 256) → ((e : LoadFault) → LoadApplies minimum file plan (meaning t.inner.store).capacity e → ⊥)
      → Loaded minimum file plan (meaning t.inner.store) (meaning s) program
      → LoadFollows p file plan (meaning t.inner.store).capacity (Ok tt) (Follows meaning (holding t s program))
  load_accepted program bytes none l =
      let its = said_by file plan in
      let read : Accepted minimum l.graph = record { file = file; bytes = bytes; read = l.read } in
      let programmed : Programmed minimum l.graph its.chain program (meaning s).rows =
      record { accepted = read; lawful = l.lawful; stands = l.stands; holds = l.holds } in
      record {
        next = loading its p;
        plain = record { answers = (none, tt); leaves = accepted };
        follows = record {
          loaded = subst (λ g. Programmed minimum g its.chain program (meaning s).rows) (read_is minimum file l.graph (sym l.read)) programmed;
          counts = f.counts;
        };
      }
