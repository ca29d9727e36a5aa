-- What is saved for the open trials of a table, over a store of n cells.
use Rattle.std.specs.Prelude.{ℕ, List, map, length, take}
use Rattle.std.specs.List.{AllByRecursion}
use Rattle.stores.specs.Stores.{Savable}
use Rattle.stores.specs.declared.store.Store.{Ghosts}
use Rattle.trials.specs.Saved.{Trial}
use Rattle.trials.specs.Trials.{trials_of}
use Rattle.trials.specs.declared.table.TrialTable.{TrialTable}

-- a trial of n cells
abbrev pub of_cells : ℕ → Trial → Trial
of_cells n x = record { number = x.number; note = x.note; masks = take n x.masks }

abbrev pub trials_over : ℕ → TrialTable → List Trial
trials_over n t = map (of_cells n) (trials_of t)

-- a trial with a number, of these cells; a store with trials notes nothing else
abbrev pub opened : ℕ → List ℕ → Trial
opened number cells = record { number = number; note = 0; masks = cells }

-- what is saved for each open trial can be written back to the store below
abbrev pub Sound : {S : Type 0} → Ghosts S → S → TrialTable → Type 0
Sound m below table = AllByRecursion (λ x. Savable m.holds (m.width below) (length (m.cells below)) x.masks) (trials_of table)
