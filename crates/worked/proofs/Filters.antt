-- Tests of a rule over cells: whether a choice meets it, and what filtering leaves.
use Rattle.std.proofs.Common.{◌≡◌, ℕ, ◌+◌, ◌^◌, ◌<◌, ◌++◌, ◌⊎◌, Bool, true, not, List, length, map, sym, ◌∙◌, subst, inl, inr, arith}
use Rattle.std.specs.Prelude.{◌==◌, ◌&&◌, ◌||◌, ◌↔◌, nat_eq, nat_lt, slice_index, Decides}
use Rattle.std.specs.List.{Contains}
use Rattle.std.specs.Set.{is_member}
use Rattle.std.proofs.lemmas.Bool.{and_parts, cases_lt}
use Rattle.std.proofs.lemmas.Bool.Decides.{Decides-eqb, Decides-ltb, Decides-and, Decides-or, Decides-not, Decides-like}
use Rattle.std.proofs.lemmas.List.{get_or_past}
use Rattle.std.proofs.lemmas.List.Elements.{Contains-append_cases}
use Rattle.std.proofs.lemmas.Map.Made.{is_member-Decides}
use Rattle.domains.specs.Sets.{In}
use Rattle.domains.proofs.Ranks.{none_above}
use Rattle.filtering.specs.Sides.{lowest, highest}
use Rattle.filtering.proofs.Best.{ends_of}
use Rattle.filtering.proofs.Joined.{at_place}
use Rattle.filtering.proofs.Verdicts.{named_below}
use Rattle.loads.specs.Kinds.{by_rank}
use Rattle.loads.specs.Loads.{NotHeavier}
use Rattle.rules.specs.Ends.{Ends, but}
use Rattle.rules.specs.Families.{family, total}
use Rattle.rules.specs.Filtered.{rule, Filtered, Unfiltered}
use Rattle.rules.specs.Rows.{Fit}
use Rattle.rules.specs.Rules.{Names, Supported, Meetable}
use Rattle.rules.specs.Support.{Supports}
use Rattle.rules.specs.declared.faults.FilterFault.TheVariants.{NothingLeft}
use Rattle.rules.proofs.Laws.{best_decides}
use Rattle.worked.proofs.Tests.{every, every_decides, alike, alike_decides, has, has_decides, light, light_decides, fits, fits_only}

-- every cell has a rank, and all its ranks are below 48
abbrev pub small : List ℕ → Bool
small cs = every (λ c. nat_lt 0 (family cs c) && nat_lt (family cs c) (2 ^ 48)) (length cs)

pub small_only : (cs : List ℕ) → small cs ≡ true → (c : ℕ) → c < length cs → (0 < family cs c) × (family cs c < 2 ^ 48)
small_only cs e =
    (every_decides (λ c. nat_lt 0 (family cs c) && nat_lt (family cs c) (2 ^ 48)) (λ c. (0 < family cs c) × (family cs c < 2 ^ 48))
    (λ c. Decides-and (nat_lt 0 (family cs c)) (nat_lt (family cs c) (2 ^ 48)) (Decides-ltb 0 (family cs c)) (Decides-ltb (family cs c) (2 ^ 48)))
    (length cs)).0 e

-- the lowest rank of a cell, and the highest
abbrev pub lo : List ℕ → ℕ → ℕ
lo cs c = lowest (family cs c)

abbrev pub hi : List ℕ → ℕ → ℕ
hi cs c = highest (family cs c)

-- the rows are fit for the cells, and each cell has a rank
abbrev pub ready : List ℕ → List ℕ → List ℕ → Bool
ready cs left right = fits (length cs) left right && small cs

-- the best choice meets the rule
abbrev pub meets : List ℕ → List ℕ → List ℕ → Bool
meets cs left right = light (map (lo cs) left) (map (hi cs) right)

-- a set m that became m' has the rank r exactly where it had it and the left load xs is not heavier than ys
abbrev Keeps : ℕ → ℕ → ℕ → List ℕ → List ℕ → Type 0
Keeps m' m r xs ys = In m' r ↔ (In m r × NotHeavier by_rank xs ys)

abbrev keeps : ℕ → ℕ → ℕ → List ℕ → List ℕ → Bool
keeps m' m r xs ys = alike (has m' r) (has m r && light xs ys)

keeps_decides : (m' m r : ℕ) (xs ys : List ℕ) → Decides (keeps m' m r xs ys) (Keeps m' m r xs ys)
keeps_decides m' m r xs ys = alike_decides (has m' r) (has m r && light xs ys) (has_decides m' r) (Decides-and (has m r) (light xs ys) (has_decides m r) (light_decides xs ys))

-- the same of each cell of a row and each rank below 48, with the loads that there are with the rank at the cell
module _ (cs cs' row : List ℕ) (xs ys : ℕ → ℕ → List ℕ) where
  abbrev cell_keeps : ℕ → Bool
  cell_keeps c = every (λ r. keeps (family cs' c) (family cs c) r (xs c r) (ys c r)) 48

  abbrev row_keeps : Bool
  row_keeps = every (λ i. cell_keeps (slice_index row i)) (length row)

  abbrev Kept : ℕ → ℕ → Type 0
  Kept c r = Keeps (family cs' c) (family cs c) r (xs c r) (ys c r)

  cell_decides : (c : ℕ) → Decides (cell_keeps c) ((r : ℕ) → r < 48 → Kept c r)
  cell_decides c = every_decides (λ r. keeps (family cs' c) (family cs c) r (xs c r) (ys c r)) (Kept c) (λ r. keeps_decides (family cs' c) (family cs c) r (xs c r) (ys c r)) 48

  row_decides : Decides row_keeps ((i : ℕ) → i < length row → (r : ℕ) → r < 48 → Kept (slice_index row i) r)
  row_decides = every_decides (λ i. cell_keeps (slice_index row i)) (λ i. (r : ℕ) → r < 48 → Kept (slice_index row i) r) (λ i. cell_decides (slice_index row i)) (length row)

  row_kept : row_keeps ≡ true → (c r : ℕ) → Contains row c → family cs c < 2 ^ 48 → family cs' c < 2 ^ 48 → Kept c r
  row_kept e c r m h h' = elim (cases_lt r 48) [
    | inl l ↦ subst (λ (x : ℕ). Kept x r) (at_place row c m) (row_decides.0 e m.0 m.1 r l)
    | inr l ↦ (λ i. absurd (none_above 48 (family cs' c) r h' l i), λ p. absurd (none_above 48 (family cs c) r h l p.0))
  ]

-- a cell that the rule does not name keeps its set
abbrev rest : List ℕ → List ℕ → List ℕ → Bool
rest cs cs' row = every (λ c. is_member nat_eq row c || family cs' c == family cs c) (length cs)

rest_only : (cs cs' row : List ℕ) → length cs' ≡ length cs → rest cs cs' row ≡ true → (c : ℕ) → (Contains row c → ⊥) → family cs' c ≡ family cs c
rest_only cs cs' row n e c out = elim (cases_lt c (length cs)) [
  | inl l ↦ elim (named_or_same.0 e c l) [ inl m ↦ absurd (out m) | inr same ↦ same ]
  | inr l ↦ get_or_past cs' c 0 (omega arith) ∙ sym (get_or_past cs c 0 l)
]
  where
    named_or_same : Decides (rest cs cs' row) ((c : ℕ) → c < length cs → Contains row c ⊎ (family cs' c ≡ family cs c))
    named_or_same =
        every_decides (λ c. is_member nat_eq row c || family cs' c == family cs c) (λ c. Contains row c ⊎ (family cs' c ≡ family cs c))
        (λ c. Decides-or (is_member nat_eq row c) (family cs' c == family cs c) (is_member-Decides Decides-eqb row c) (Decides-eqb (family cs' c) (family cs c)))
        (length cs)

-- the loads with another rank at one cell of the left row, and of the right row
abbrev left_row : List ℕ → List ℕ → List ℕ → List ℕ → Bool
left_row cs cs' left right = row_keeps cs cs' left (λ c r. map (but (lo cs) c r) left) (λ c r. map (hi cs) right)

abbrev right_row : List ℕ → List ℕ → List ℕ → List ℕ → Bool
right_row cs cs' left right = row_keeps cs cs' right (λ c r. map (lo cs) left) (λ c r. map (but (hi cs) c r) right)

-- what filtering leaves
abbrev sets_fit : List ℕ → List ℕ → ℕ → Bool
sets_fit cs cs' went = small cs' && (length cs' == length cs && went + total cs' == total cs)

abbrev cells_fit : List ℕ → List ℕ → List ℕ → List ℕ → Bool
cells_fit cs cs' left right = rest cs cs' (left ++ right) && (left_row cs cs' left right && right_row cs cs' left right)

abbrev pub filters : List ℕ → List ℕ → List ℕ → List ℕ → ℕ → Bool
filters cs cs' left right went = meets cs left right && (sets_fit cs cs' went && cells_fit cs cs' left right)

both_ways : {A B C : Type 0} → (A ↔ B) → (C ↔ B) → (A ↔ C)
both_ways f g = (λ a. g.1 (f.0 a), λ c. f.1 (g.0 c))

module _ (cs left right : List ℕ) (is_ready : ready cs left right ≡ true) where
  both : (fits (length cs) left right ≡ true) × (small cs ≡ true)
  both = and_parts _ _ is_ready

  pub fit : Fit (length cs) left right
  fit = fits_only (length cs) left right both.0

  named_small : (c : ℕ) → Names (rule left right) c → (0 < family cs c) × (family cs c < 2 ^ 48)
  named_small c m = small_only cs both.1 c (named_below (length cs) (left ++ right) c fit.below m)

  pub ends : Ends (family cs) (rule left right) (lo cs) (hi cs)
  ends = ends_of (family cs) (rule left right) named_small

  supports : Supports (family cs) (rule left right) (lo cs) (hi cs)
  supports = best_decides (family cs) (rule left right) (lo cs) (hi cs) ends fit.apart

  pub meets_decides : Decides (meets cs left right) (Meetable (family cs) (rule left right))
  meets_decides = Decides-like (meets cs left right) supports.meets.1 supports.meets.0 (light_decides (map (lo cs) left) (map (hi cs) right))

  pub unmet_only : not (meets cs left right) ≡ true → Unfiltered cs (rule left right) NothingLeft
  unmet_only e = (fit, (Decides-not (meets cs left right) meets_decides).0 e)

  module _ (cs' : List ℕ) (went : ℕ) (is_filtered : filters cs cs' left right went ≡ true) where
    tested : (meets cs left right ≡ true) × ((sets_fit cs cs' went && cells_fit cs cs' left right) ≡ true)
    tested = and_parts _ _ is_filtered

    halves : (sets_fit cs cs' went ≡ true) × (cells_fit cs cs' left right ≡ true)
    halves = and_parts _ _ tested.1

    sets : (small cs' ≡ true) × ((length cs' == length cs && went + total cs' == total cs) ≡ true)
    sets = and_parts _ _ halves.0

    sums : (length cs' ≡ length cs) × (went + total cs' ≡ total cs)
    sums = (Decides-and (length cs' == length cs) (went + total cs' == total cs) (Decides-eqb (length cs') (length cs)) (Decides-eqb (went + total cs') (total cs))).0 sets.1

    cells : (rest cs cs' (left ++ right) ≡ true) × ((left_row cs cs' left right && right_row cs cs' left right) ≡ true)
    cells = and_parts _ _ halves.1

    rows : (left_row cs cs' left right ≡ true) × (right_row cs cs' left right ≡ true)
    rows = and_parts _ _ cells.1

    after_small : (c : ℕ) → Names (rule left right) c → family cs' c < 2 ^ 48
    after_small c m = (small_only cs' sets.0 c (omega (arith, sums.0, named_below (length cs) (left ++ right) c fit.below m))).1

    named : (c r : ℕ) → Names (rule left right) c → Contains left c ⊎ Contains right c → (In (family cs' c) r ↔ Supported (family cs) (rule left right) c r)
    named c r n (inl m) =
        both_ways (row_kept cs cs' left (λ c r. map (but (lo cs) c r) left) (λ c r. map (hi cs) right) rows.0 c r m (named_small c n).1 (after_small c n)) (supports.left c r m)
    named c r n (inr m) =
        both_ways (row_kept cs cs' right (λ c r. map (lo cs) left) (λ c r. map (but (hi cs) c r) right) rows.1 c r m (named_small c n).1 (after_small c n)) (supports.right c r m)

    pub filtered_only : Filtered cs cs' (rule left right) went
    filtered_only = record {
      fit = fit;
      choice = meets_decides.0 tested.0;
      count = sums.0;
      named = λ c r n. named c r n (Contains-append_cases left right c n);
      other = rest_only cs cs' (left ++ right) sums.0 cells.0;
      fewer = sums.1;
    }
