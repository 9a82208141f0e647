use Rattle.console.proofs.store_table.fill_up.Given as goal

-- how many more rows the store takes
abbrev pub decreases-loop-row : goal.decreases-loop-row
decreases-loop-row g l = (g.S.Store.meaning l.store).takes
