use Rattle.std.proofs.Common.{◌≡◌, ◌≤◌, length, Ok}
use Rattle.stores.specs.Meaning.{appended_each}
use Rattle.stores.specs.Filled.{all_taken}
use Rattle.stores.proofs.Fills.{put}
use Rattle.stores.proofs.fill.fill.Given as goal

-- the rows so far are appended; once they are all, that is the whole
abbrev pub invariant-loop-row : goal.invariant-loop-row
invariant-loop-row g l =
    let m = g.S.Store.meaning in
    (l.row-index ≤ (m l.initial.store).takes) × (m l.store ≡ put (m l.initial.store) l.row-index l.rows)
    × (length l.rows ≤ l.row-index → Ok tt ≡ all_taken (m l.initial.store) l.rows)
    × (length l.rows ≤ l.row-index → m l.store ≡ appended_each (m l.initial.store) l.rows)
