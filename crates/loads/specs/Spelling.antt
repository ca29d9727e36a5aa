-- How each kind of grade is written.
use Rattle.std.specs.Prelude.{ℕ, List, ◌++◌, codes, decimal}
use Rattle.std.specs.Fmt.{signed_decimal}
use Rattle.loads.specs.declared.kinds.Hand.{Hand}
use Rattle.loads.specs.declared.kinds.Points.{Points}

-- a signed decimal number
abbrev pub spell_points : Points → List ℕ
spell_points p = signed_decimal p.score

-- class/year
abbrev pub spell_hand : Hand → List ℕ
spell_hand h = decimal h.class ++ (codes "/" ++ decimal h.year)
