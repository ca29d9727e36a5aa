-- What it is to filter the cells of a store by one rule.
use Rattle.std.specs.Prelude.{◌≡◌, ℕ, ◌+◌, ◌↔◌, List, length}
use Rattle.domains.specs.Sets.{In}
use Rattle.rules.specs.Families.{family, total}
use Rattle.rules.specs.Rows.{Fit, Unfit}
use Rattle.rules.specs.Rules.{Rule, Names, Supported, Meetable}
use Rattle.rules.specs.declared.faults.FilterFault.{FilterFault}
use Rattle.rules.specs.declared.faults.FilterFault.TheVariants.{Rows, NothingLeft, Store}

-- the rule of two rows
abbrev pub rule : List ℕ → List ℕ → Rule
rule left right = record { left = left; right = right }

-- The cells cs were filtered by the rule q, cs' are left, and `went` ranks went: each cell of the rule keeps exactly the
-- ranks that were supported, and every other cell its set.
pub record Filtered (cs cs' : List ℕ) (q : Rule) (went : ℕ) : Type 0 where
  pub fit : Fit (length cs) q.left q.right
  pub choice : Meetable (family cs) q
  pub count : length cs' ≡ length cs
  pub named : (c r : ℕ) → Names q c → (In (family cs' c) r ↔ Supported (family cs) q c r)
  pub other : (c : ℕ) → (Names q c → ⊥) → family cs' c ≡ family cs c
  pub fewer : went + total cs' ≡ total cs

-- why the cells are not filtered: the first that applies. The store refuses nothing that filtering leaves.
abbrev pub Unfiltered : List ℕ → Rule → FilterFault → Type 0
Unfiltered cs q (Rows f) = Unfit (length cs) q.left q.right f
Unfiltered cs q NothingLeft = Fit (length cs) q.left q.right × (Meetable (family cs) q → ⊥)
Unfiltered cs q (Store f) = ⊥
