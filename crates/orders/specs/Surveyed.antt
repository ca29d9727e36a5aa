-- What a survey of a file says, in the words of the format.
use Rattle.std.specs.Prelude.{◌≡◌, ℕ, ◌≤◌, List, length, take, drop, Ok, Err, Result}
use Rattle.std.specs.List.{AllByRecursion}
use Rattle.orders.specs.declared.kinds.OrderFault.{OrderFault}
use Rattle.orders.specs.declared.surveys.Survey.{Survey}
use Rattle.orders.specs.Said.{Said}
use Rattle.orders.specs.Parse.{number_of, place_of}
use Rattle.orders.specs.Format.{encodings, Fits, Faulty}

-- the records of the orders ss are all of the file, and it ends at p; or they end at a fault's place, and what stands there is at fault
abbrev pub Stops : List ℕ → List Said → Result ℕ OrderFault → Type 0
Stops fs ss (Ok p) = (fs ≡ encodings ss) × (p ≡ length fs)
Stops fs ss (Err f) = (take (place_of f) fs ≡ encodings ss) × (place_of f ≤ length fs) × Faulty (number_of f) (drop (place_of f) fs)

abbrev pub Surveyed : List ℕ → Survey → Type 0
Surveyed fs r = (ss : List Said) × (length ss ≡ r.orders) × AllByRecursion Fits ss × Stops fs ss r.stop
