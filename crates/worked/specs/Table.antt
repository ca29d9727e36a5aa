-- The table: plain lists of ranks, of masks and of cells.
use Rattle.std.specs.Prelude.{List, [], ◌∷◌, Some, None, true, false}
use Rattle.loads.specs.declared.weighing.Weight.TheVariants.{Lighter as lighter, Equal as equal, Heavier as heavier}
use Rattle.worked.specs.Rows.{Row, weighing, marked, filtered, unmet}

abbrev pub table : List Row
table =
    weighing [] [] equal
    ∷ weighing [] (0 ∷ []) lighter
    ∷ weighing (2 ∷ []) (1 ∷ 1 ∷ 1 ∷ []) heavier
    ∷ weighing (1 ∷ []) (1 ∷ 0 ∷ []) lighter
    -- rules, each first with its marks and then filtered by
    ∷ marked (5 ∷ 2 ∷ 6 ∷ 1 ∷ []) (0 ∷ 1 ∷ []) (2 ∷ 3 ∷ []) (record { alpha = Some 2; beta = Some 1; gamma = true; sigma = false })
    ∷ filtered (5 ∷ 2 ∷ 6 ∷ 1 ∷ []) (0 ∷ 1 ∷ []) (2 ∷ 3 ∷ []) (1 ∷ 2 ∷ 6 ∷ 1 ∷ []) 1
    ∷ marked (12 ∷ 2 ∷ 12 ∷ 1 ∷ []) (0 ∷ 1 ∷ []) (2 ∷ 3 ∷ []) (record { alpha = Some 3; beta = Some 2; gamma = true; sigma = true })
    ∷ filtered (12 ∷ 2 ∷ 12 ∷ 1 ∷ []) (0 ∷ 1 ∷ []) (2 ∷ 3 ∷ []) (4 ∷ 2 ∷ 8 ∷ 1 ∷ []) 2
    ∷ marked (12 ∷ 2 ∷ 12 ∷ 2 ∷ []) (0 ∷ 1 ∷ []) (2 ∷ 3 ∷ []) (record { alpha = Some 3; beta = Some 2; gamma = true; sigma = false })
    ∷ filtered (12 ∷ 2 ∷ 12 ∷ 2 ∷ []) (0 ∷ 1 ∷ []) (2 ∷ 3 ∷ []) (12 ∷ 2 ∷ 12 ∷ 2 ∷ []) 0
    ∷ marked (6 ∷ 3 ∷ []) (0 ∷ []) (1 ∷ []) (record { alpha = None; beta = None; gamma = false; sigma = false })
    ∷ filtered (6 ∷ 3 ∷ []) (0 ∷ []) (1 ∷ []) (2 ∷ 2 ∷ []) 2
    -- and one that no choice meets
    ∷ unmet (4 ∷ 3 ∷ []) (0 ∷ []) (1 ∷ [])
    ∷ []
